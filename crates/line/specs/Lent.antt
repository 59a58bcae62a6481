-- A frame as the receiver lends it: its octets.
use Rattle.std.specs.Prelude.{ℕ, List, Ok, Err, Option, Result}
use Rattle.std.specs.Option.{option_map}
use Rattle.line.specs.declared.received.Frame.{Frame}

abbrev pub octets_of : Frame → List ℕ
octets_of f = f.octets.now

abbrev pub octets_and_crc : Frame × ℕ → List ℕ × ℕ
octets_and_crc (f, crc) = (octets_of f, crc)

-- what is told, with the frame by its octets
abbrev pub told : {A B E : Type 0} → (A → B) → Result A E → Result B E
told f (Ok a) = Ok (f a)
told f (Err e) = Err e

abbrev pub lent : {E : Type 0} → Result (Option Frame) E → Result (Option (List ℕ)) E
lent r = told (option_map octets_of) r
