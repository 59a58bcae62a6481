-- A station that only listens: its address and the burst under way.
use Rattle.std.specs.Prelude.{ℕ, ◌<◌}
use Rattle.line.specs.Burst.{Burst, Fits}

pub record Listening : Type 0 where
  pub address : ℕ
  pub burst : Burst

abbrev pub listening : ℕ → Burst → Listening
listening address burst = record { address = address; burst = burst }

-- what every listener keeps to: an address of eight bits, and no more of a burst than a receiver keeps
pub record Within (h : Listening) : Type 0 where
  pub address : h.address < 256
  pub burst : Fits h.burst
