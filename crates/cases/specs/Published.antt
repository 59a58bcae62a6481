-- When a published frame agrees with the definitions.
use Rattle.std.specs.Prelude.{ℕ, Bool, not, ◌&&◌, List, length, nat_lt}
use Rattle.line.specs.Line.{crc_fits}

-- it has a CRC, which is that of the octets before it
abbrev pub crc_agrees : List ℕ → Bool
crc_agrees os = not (nat_lt (length os) 2) && crc_fits os
