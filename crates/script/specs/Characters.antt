-- Words that are characters off the wire.
use Rattle.std.specs.Prelude.{ℕ, cond, ◌&&◌, List, length, Some, None, Option, ◌==◌, slice_index}
use Rattle.tokens.specs.Gathered.{and_then}
use Rattle.tokens.specs.Numbers.{hex_octet}
use Rattle.line.specs.declared.characters.Parity.{Parity}
use Rattle.line.specs.declared.characters.Character.{Character}

abbrev pub marked_in : List ℕ → Parity → Option Character
marked_in w p = and_then (hex_octet w 0) (λ o. Some (record { value = o; parity = p }))

-- an octet is two hexadecimal digits; '!' behind them marks bad parity
abbrev pub character_in : List ℕ → Option Character
character_in w =
    cond (length w == 2) (marked_in w Parity.Good)
    (cond (length w == 3 && slice_index w 2 == 33) (marked_in w Parity.Bad) None)
