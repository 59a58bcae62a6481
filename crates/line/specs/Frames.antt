-- What stands where in a frame.
use Rattle.std.specs.Prelude.{ℕ, Bool, List, ◌==◌, slice_index}

abbrev pub address_of : List ℕ → ℕ
address_of os = slice_index os 0

abbrev pub function_of : List ℕ → ℕ
function_of os = slice_index os 1

-- 0 is the address of all stations
abbrev pub is_broadcast : List ℕ → Bool
is_broadcast os = address_of os == 0
