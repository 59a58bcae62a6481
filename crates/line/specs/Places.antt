-- Where the parts of a frame stand in the receiver.
use Rattle.std.specs.Prelude.{ℕ, List, length}
use Rattle.line.specs.declared.received.Places.{Places}
use Rattle.line.specs.Frames.{address_of, is_broadcast}

-- address, whether it is a broadcast, the function at 1, the data from 2 on, and the CRC behind it
abbrev pub places_of : List ℕ → Places
places_of os = record { address = address_of os; broadcast = is_broadcast os; function = 1; «data» = 2; end = length os }
