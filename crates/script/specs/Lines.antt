-- What a line of a script says.
use Rattle.std.specs.Prelude.{ℕ, cond, List, [], ◌∷◌, ◌++◌, map, Some, None, vec_items, codes, fold, Option}
use Rattle.std.specs.Str.{bytes_eq}
use Rattle.crc.specs.Crc.{crc_of, low_first}
use Rattle.line.specs.declared.characters.Character.{Character}
use Rattle.line.specs.Burst.{good}
use Rattle.script.specs.declared.lines.Line.{Line}
use Rattle.tokens.specs.Words.{uncommented, words_of}
use Rattle.tokens.specs.Numbers.{number_in}
use Rattle.script.specs.Characters.{character_in}

pub data Said : Type 0 where
  blank : Said
  station : ℕ → Said
  octets : List Character → Said
  silence : ℕ → Said
  unknown : Said

abbrev pub said : Line → Said
said Line.Blank = blank
said (Line.Station n) = station n
said (Line.Octets cs) = octets (vec_items cs)
said (Line.Silence n) = silence n
said Line.Unknown = unknown

-- the CRC of the octets before it, as two more
abbrev pub crc_behind : List Character → List Character
crc_behind cs = cs ++ map good (low_first (crc_of (map (λ c. c.value) cs)))

abbrev pub one_behind : List Character → Option Character → Option (List Character)
one_behind cs None = None
one_behind cs (Some c) = Some (cs ++ (c ∷ []))

-- characters and one word more
abbrev pub with_word : Option (List Character) → List ℕ → Option (List Character)
with_word None w = None
with_word (Some cs) w = cond (bytes_eq w (codes "+crc")) (Some (crc_behind cs)) (one_behind cs (character_in w))

abbrev pub octets_said : Option (List Character) → Said
octets_said None = unknown
octets_said (Some cs) = octets cs

abbrev pub number_said : (ℕ → Said) → Option ℕ → Said
number_said f None = unknown
number_said f (Some n) = f n

-- the number where it stands alone
abbrev pub lone_number : List (List ℕ) → Option ℕ
lone_number [] = None
lone_number (w ∷ []) = number_in w
lone_number (w ∷ v ∷ ws) = None

-- the first word says which call it is
abbrev pub call_named : List ℕ → List (List ℕ) → Said
call_named w ws =
    cond (bytes_eq w (codes "station")) (number_said station (lone_number ws))
    (cond (bytes_eq w (codes "octets")) (octets_said (fold with_word (Some []) ws))
    (cond (bytes_eq w (codes "silence")) (number_said silence (lone_number ws)) unknown))

abbrev pub call_said : List (List ℕ) → Said
call_said [] = blank
call_said (w ∷ ws) = call_named w ws

abbrev pub line_said : List ℕ → Said
line_said text = call_said (words_of (uncommented text))
