-- The CRC of a Modbus RTU frame, bit by bit. Numbers here do not wrap; a remainder of 16 bits stays one.
use Rattle.std.specs.Prelude.{ℕ, zero, suc, ◌/◌, ◌%◌, cond, List, [], ◌∷◌, fold, ◌==◌, bit_xor}

-- one bit: shift right, and xor A001h if the bit shifted out was 1
unfoldable pub bit_step : ℕ → ℕ
bit_step r = cond (r % 2 == 1) (bit_xor (r / 2) 0xA001) (r / 2)

-- so many single-bit steps
unfoldable pub bit_steps : ℕ → ℕ → ℕ
bit_steps zero r = r
bit_steps (suc k) r = bit_steps k (bit_step r)

-- one octet: xor into the low octet, then eight single-bit steps
unfoldable pub octet_step : ℕ → ℕ → ℕ
octet_step r o = bit_steps 8 (bit_xor r o)

-- the remainder after further octets
abbrev pub crc_from : ℕ → List ℕ → ℕ
crc_from r os = fold octet_step r os

-- the CRC of octets: their remainder from FFFFh on
abbrev pub crc_of : List ℕ → ℕ
crc_of os = crc_from 0xFFFF os

-- a word as it is sent behind a frame: low octet first
abbrev pub low_first : ℕ → List ℕ
low_first w = w % 256 ∷ w / 256 ∷ []
