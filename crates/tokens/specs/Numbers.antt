-- Words that are numbers.
use Rattle.std.specs.Prelude.{ℕ, ◌+◌, ◌-◌, ◌*◌, Bool, cond, ◌&&◌, List, [], ◌∷◌, length, Some, None, Option, ◌==◌, nat_le, nat_lt, slice_index, slice_index_or}
use Rattle.tokens.specs.Gathered.{and_then, gathered}

abbrev pub lies : ℕ → ℕ → ℕ → Bool
lies low high c = nat_le low c && nat_le c high

-- decimal digits go on from a number; 99,999 is the largest that is read
abbrev pub read_on : ℕ → List ℕ → Option ℕ
read_on n [] = Some n
read_on n (c ∷ cs) = cond (lies 48 57 c && nat_lt n 10000) (read_on (10 * n + (c - 48)) cs) None

-- a number is one decimal digit or more
abbrev pub number_in : List ℕ → Option ℕ
number_in w = cond (length w == 0) None (read_on 0 w)

-- 0 to 9, A to F and a to f
abbrev pub hex_digit : ℕ → Option ℕ
hex_digit c =
    cond (lies 48 57 c) (Some (c - 48))
    (cond (lies 65 70 c) (Some (c - 55))
    (cond (lies 97 102 c) (Some (c - 87)) None))

abbrev pub two_digits : Option ℕ → Option ℕ → Option ℕ
two_digits None low = None
two_digits (Some high) None = None
two_digits (Some high) (Some low) = Some (16 * high + low)

-- the octet whose two digits stand at this place and the next
abbrev pub hex_octet : List ℕ → ℕ → Option ℕ
hex_octet cs i = two_digits (hex_digit (slice_index cs i)) (hex_digit (slice_index cs (i + 1)))

-- so many octets, two digits each
abbrev pub hex_octets : ℕ → List ℕ → Option (List ℕ)
hex_octets n w = cond (length w == 2 * n) (gathered (λ i. hex_octet w (2 * i)) 0 n) None

-- a number that fits in a register
abbrev pub word_value : List ℕ → Option ℕ
word_value w = and_then (number_in w) (λ n. cond (nat_lt n 65536) (Some n) None)

-- so many values of registers, a word for each
abbrev pub word_values : ℕ → List (List ℕ) → Option (List ℕ)
word_values n ws = cond (length ws == n) (gathered (λ i. word_value (slice_index_or ws i [])) 0 n) None
