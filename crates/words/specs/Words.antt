-- Words of 16 bits as octets, high octet first.
use Rattle.std.specs.Prelude.{ℕ, ◌+◌, ◌*◌, ◌/◌, ◌%◌, cond, List, map, length, ◌==◌, slice_index}
use Rattle.std.specs.List.{range_with_len}

-- the word whose high octet has this place
abbrev pub word_at : List ℕ → ℕ → ℕ
word_at os i = 256 * slice_index os i + slice_index os (i + 1)

-- the octet at a place of words that stand behind one another
abbrev pub octet_at : List ℕ → ℕ → ℕ
octet_at ws i = cond (i % 2 == 0) (slice_index ws (i / 2) / 256) (slice_index ws (i / 2) % 256)

abbrev pub high_first : List ℕ → List ℕ
high_first ws = map (octet_at ws) (range_with_len 0 (2 * length ws))

-- so many words from the first octet on
abbrev pub words_in : List ℕ → ℕ → List ℕ
words_in os n = map (λ i. word_at os (2 * i)) (range_with_len 0 n)
