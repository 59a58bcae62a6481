-- The account of a script, a line for each call.
use Rattle.std.specs.Prelude.{ℕ, ◌+◌, ◌/◌, ◌%◌, cond, List, [], ◌∷◌, ◌++◌, length, Some, None, Ok, Err, codes, decimal, Option, nat_lt}
use Rattle.std.specs.List.{flat_map}
use Rattle.outcome.specs.Causes.{number_of}
use Rattle.outcome.specs.Texts.{fault_text}
use Rattle.script.specs.Lines.{Said, blank, station, octets, silence, unknown}
use Rattle.account.specs.declared.heard.Unheard.{Unheard}
use Rattle.account.specs.State.{Listening}
use Rattle.account.specs.Listening.{address_in, Told, silence_tells}

-- 0 to 9 and A to F
abbrev pub hex_digit : ℕ → ℕ
hex_digit d = cond (nat_lt d 10) (48 + d) (55 + d)

-- a space and two digits
abbrev pub hex_octet : ℕ → List ℕ
hex_octet o = 32 ∷ hex_digit (o / 16) ∷ hex_digit (o % 16) ∷ []

abbrev pub hex_octets : List ℕ → List ℕ
hex_octets os = flat_map hex_octet os

abbrev pub unheard_text : Unheard → List ℕ
unheard_text (Unheard.Refused c) = codes "refused " ++ decimal (number_of c)
unheard_text (Unheard.Fault f) = fault_text f ++ codes ", nothing sent"

abbrev pub frame_text : List ℕ → List ℕ
frame_text os = codes "silence: frame, " ++ (decimal (length os) ++ (codes " octets:" ++ hex_octets os))

abbrev pub silence_text : Told → List ℕ
silence_text (Ok None) = codes "silence: idle"
silence_text (Ok (Some os)) = frame_text os
silence_text (Err e) = codes "silence: " ++ unheard_text e

-- what is told of a line of a script, by its number and its text; nothing of a blank one
abbrev pub account_of : ℕ → List ℕ → Listening → Said → Option (List ℕ)
account_of n text h blank = None
account_of n text h (station a) = Some (codes "station: " ++ decimal (address_in a))
account_of n text h (octets cs) = Some (codes "octets: " ++ decimal (length cs))
account_of n text h (silence room) = Some (silence_text (silence_tells h room))
account_of n text h unknown = Some ((codes "line " ++ (decimal n ++ codes ": not understood: ")) ++ text)
