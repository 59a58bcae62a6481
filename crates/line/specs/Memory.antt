-- The receiver's memory as it is, what lies behind the burst included.
use Rattle.std.specs.Prelude.{ℕ, ◌+◌, ◌≡◌, ◌≤◌, Bool, true, false, cond, List, length, replicate, take, fold, nat_lt, slice_set}
use Rattle.line.specs.declared.characters.Parity.{Parity}
use Rattle.line.specs.declared.characters.Character.{Character}
use Rattle.line.specs.Burst.{Burst}

pub record Memory : Type 0 where
  pub octets : List ℕ
  pub marks : List Parity
  pub length : ℕ
  pub overlong : Bool

abbrev pub memory : List ℕ → List Parity → ℕ → Bool → Memory
memory os ms n over = record { octets = os; marks = ms; length = n; overlong = over }

-- what every receiver keeps to: room for 256 octets and their marks, and no burst is longer
pub record Bounded (m : Memory) : Type 0 where
  pub octets : length m.octets ≡ 256
  pub marks : length m.marks ≡ 256
  pub within : m.length ≤ 256

-- the burst that a memory holds
abbrev pub burst_of : Memory → Burst
burst_of m = record { octets = take m.length m.octets; marks = take m.length m.marks; overlong = m.overlong }

-- 256 zero octets and length 0
abbrev pub fresh : Memory
fresh = memory (replicate 256 0) (replicate 256 Parity.Good) 0 false

-- an octet is written behind the burst while there is room
abbrev pub remembered : Memory → Character → Memory
remembered m c =
    cond (nat_lt m.length 256)
    (memory (slice_set m.octets m.length c.value) (slice_set m.marks m.length c.parity) (m.length + 1) m.overlong)
    (memory m.octets m.marks m.length true)

abbrev pub all_remembered : Memory → List Character → Memory
all_remembered m cs = fold remembered m cs

-- the burst is forgotten, and nothing is written
abbrev pub emptied : Memory → Memory
emptied m = memory m.octets m.marks 0 false
