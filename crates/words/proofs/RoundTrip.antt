-- Words that were stored high octet first are read back.
use Rattle.std.proofs.Common.{◌≡◌, ℕ, ◌+◌, ◌*◌, ◌/◌, ◌%◌, ◌<◌, List, ◌++◌, length, get_or, sym, ◌∙◌, arith}
use Rattle.std.proofs.lemmas.List.FromFn.{get_or-map-range_with_len, length-map-range_with_len}
use Rattle.std.proofs.lemmas.List.{same_lists, get_or_append_left, get_or_default}
use Rattle.words.specs.Words.{word_at, octet_at, high_first, words_in}

even : (ws : List ℕ) (j : ℕ) → octet_at ws (2 * j) ≡ get_or ws j 0 / 256
even ws j =
    let r : 2 * j % 2 ≡ 0 = omega arith in
    let q : 2 * j / 2 ≡ j = omega arith in
    rw (r, q)

odd : (ws : List ℕ) (j : ℕ) → octet_at ws (2 * j + 1) ≡ get_or ws j 0 % 256
odd ws j =
    let r : (2 * j + 1) % 2 ≡ 1 = omega arith in
    let q : (2 * j + 1) / 2 ≡ j = omega arith in
    rw (r, q)

pub length-high_first : (ws : List ℕ) → length (high_first ws) ≡ 2 * length ws
length-high_first ws = length-map-range_with_len (octet_at ws) 0 (2 * length ws)

pub octet_stored : (ws rest : List ℕ) (i : ℕ) → i < 2 * length ws → get_or (high_first ws ++ rest) i 0 ≡ octet_at ws i
octet_stored ws rest i h =
    get_or_append_left (high_first ws) rest 0 i (omega (arith, h, length-high_first ws))
    ∙ get_or-map-range_with_len (octet_at ws) 0 (2 * length ws) i i 0 h (omega arith)

pub word_back : (ws rest : List ℕ) (j : ℕ) → j < length ws → word_at (high_first ws ++ rest) (2 * j) ≡ get_or ws j 0
word_back ws rest j h =
    rw (octet_stored ws rest (2 * j) (omega arith), even ws j, octet_stored ws rest (2 * j + 1) (omega arith), odd ws j) (omega arith)

pub words_back : (ws rest : List ℕ) (n : ℕ) → length ws ≡ n → words_in (high_first ws ++ rest) n ≡ ws
words_back ws rest n h =
    let same = length-map-range_with_len (λ i. word_at (high_first ws ++ rest) (2 * i)) 0 n in
    same_lists _ _ (same ∙ sym h) (λ k d l.
    get_or-map-range_with_len (λ i. word_at (high_first ws ++ rest) (2 * i)) 0 n k k d (omega (arith, l, same)) (omega arith)
    ∙ word_back ws rest k (omega (arith, l, same, h))
    ∙ get_or_default ws k 0 d (omega (arith, l, same, h)))

-- of a word that is read
pub read_back : {os : List ℕ} {i r : ℕ} → r ≡ word_at os i → (ws rest : List ℕ) (j : ℕ) → os ≡ high_first ws ++ rest → i ≡ 2 * j → j < length ws → r ≡ get_or ws j 0
read_back e ws rest j p q h = e ∙ rw (p, q) (word_back ws rest j h)
