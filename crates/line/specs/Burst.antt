-- The burst under way: the octets since the last silence.
use Rattle.std.specs.Prelude.{ℕ, ◌≡◌, ◌≤◌, Bool, true, false, cond, List, [], ◌∷◌, ◌++◌, map, length, take, fold, nat_lt}
use Rattle.line.specs.declared.characters.Parity.{Parity}
use Rattle.line.specs.declared.characters.Character.{Character}

-- the octets kept, the parity mark of each, and whether more came than are kept
pub record Burst : Type 0 where
  pub octets : List ℕ
  pub marks : List Parity
  pub overlong : Bool

abbrev pub no_burst : Burst
no_burst = record { octets = []; marks = []; overlong = false }

-- the first 256 octets are kept with their marks, later ones only make the burst overlong
abbrev pub one_more : Burst → Character → Burst
one_more b c =
    cond (nat_lt (length b.octets) 256)
    (record { octets = b.octets ++ (c.value ∷ []); marks = b.marks ++ (c.parity ∷ []); overlong = b.overlong })
    (record { octets = b.octets; marks = b.marks; overlong = true })

-- a burst after further characters
abbrev pub more : Burst → List Character → Burst
more b cs = fold one_more b cs

-- the burst of these characters from its beginning on
abbrev pub whole_burst : List Character → Burst
whole_burst cs = record {
  octets = take 256 (map (λ c. c.value) cs);
  marks = take 256 (map (λ c. c.parity) cs);
  overlong = nat_lt 256 (length cs);
}

-- what is kept of every burst: no more than 256 octets, and a mark for each
pub record Fits (b : Burst) : Type 0 where
  pub octets : length b.octets ≤ 256
  pub marks : length b.marks ≡ length b.octets

-- an octet that came with the parity that it should have
abbrev pub good : ℕ → Character
good o = record { value = o; parity = Parity.Good }
