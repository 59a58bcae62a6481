-- A frame put together.
use Rattle.std.specs.Prelude.{ℕ, ◌+◌, cond, List, ◌++◌, map, length, drop, Some, None, Option, nat_lt}
use Rattle.line.specs.Burst.{Burst, good, whole_burst}
use Rattle.crc.specs.Crc.{crc_of, low_first}

-- octets with their CRC behind them
abbrev pub with_crc : List ℕ → List ℕ
with_crc os = os ++ low_first (crc_of os)

-- octets at the start of a buffer, its rest untouched
abbrev pub laid_over : List ℕ → List ℕ → List ℕ
laid_over os buffer = os ++ drop (length os) buffer

-- the length told and the buffer afterwards: a buffer that the frame does not fit into stays as it was
abbrev pub composed : List ℕ → List ℕ → Option ℕ × List ℕ
composed os buffer =
    cond (nat_lt (length buffer) (length os + 2)) (None, buffer)
    (Some (length os + 2), laid_over (with_crc os) buffer)

-- the burst of octets that come undamaged
abbrev pub undamaged : List ℕ → Burst
undamaged os = whole_burst (map good os)
