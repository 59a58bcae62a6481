pub mod Ticks
pub mod CarriedOuts
