-- The octets of an EEPROM store on the three ticks after a put.
use Rattle.std.proofs.Common.{◌≡◌, ℕ, zero, suc, ◌+◌, ◌-◌, ◌*◌, ◌<◌, ◌≤◌, true, cond, eqb, ltb, List, [], ◌∷◌, ◌++◌, length, get_or, take, drop, sym, refl, ap, ◌∙◌, ⊎_elim, arith}
use Rattle.std.specs.List.{between}
use Rattle.std.proofs.lemmas.List.{append_assoc, append-nil, length-append, length-take-le, length-take, take_all, take_at, take-take, take-append-drop, drop_all, drop_at, drop-drop, get_or_append_left, get_or-append_right, get_or_at, get_or-take, get_or-drop}
use Rattle.std.proofs.lemmas.Slice.{between_is}
use Rattle.std.proofs.lemmas.Bool.{cases_lt, lt-ltb, le-ltb, eq-eqb}
use Rattle.words.specs.Words.{high_first}
use Rattle.words.proofs.RoundTrip.{length-high_first, words_back}
use Rattle.store.specs.Store.{kept}
use Rattle.store.specs.Stores.{image, congruency, opened, eight_at}
use Rattle.store.specs.Laws.{octets_after, new_or_old}

-- over octets that are new up to a place, the next eight make them new up to eight places further
grown : (a : ℕ) (new old : List ℕ) → a ≤ length new → eight_at a new (take a new ++ drop a old) ≡ take (a + 8) new ++ drop (a + 8) old
grown a new old h =
    let p = length-take-le a new h in
    let before : take a (take a new ++ drop a old) ≡ take a new = take_at (take a new) (drop a old) a p in
    let behind : drop (a + 8) (take a new ++ drop a old) ≡ drop (a + 8) old =
    sym (drop-drop 8 a (take a new ++ drop a old)) ∙ ap (drop 8) (drop_at (take a new) (drop a old) a p) ∙ drop-drop 8 a old in
    let front : take a new ++ between a (a + 8) new ≡ take (a + 8) new =
    rw (between_is new a (a + 8), sym (take-take a (a + 8) new (omega arith))) (take-append-drop a (take (a + 8) new)) in
    rw (before, behind) (sym (append_assoc (take a new) (between a (a + 8) new) (drop (a + 8) old)) ∙ ap (λ xs. xs ++ drop (a + 8) old) front)

pub length-image : (ws : List ℕ) → length ws ≡ 11 → length (image ws) ≡ 23
length-image ws h = length-append (high_first ws) (congruency (high_first ws) ∷ []) ∙ omega (arith, h, length-high_first ws)

written : (n : ℕ) (ws old : List ℕ) → n ≤ 3 → length ws ≡ 11 → octets_after n ws old ≡ take (8 * n) (image ws) ++ drop (8 * n) old
written zero ws old l h = refl
written (suc zero) ws old l h = grown 0 (image ws) old (omega arith)
written (suc (suc zero)) ws old l h = ap (eight_at 8 (image ws)) (written (suc zero) ws old (omega arith) h) ∙ grown 8 (image ws) old (omega (arith, length-image ws h))
written (suc (suc (suc zero))) ws old l h = ap (eight_at 16 (image ws)) (written (suc (suc zero)) ws old (omega arith) h) ∙ grown 16 (image ws) old (omega (arith, length-image ws h))
written (suc (suc (suc (suc n)))) ws old l h = absurd (omega (arith, l))

-- one list up to a place, another from there on
taken_over : (m i : ℕ) (new old : List ℕ) → length new ≡ length old → i < length new → get_or (take m new ++ drop m old) i 0 ≡ cond (ltb i m) (get_or new i 0) (get_or old i 0)
taken_over m i new old same h = ⊎_elim
    (λ l. get_or_append_left (take m new) (drop m old) 0 i (omega (arith, l, h, length-take m new)) ∙ get_or-take m new i 0 l ∙ rw (lt-ltb i m l))
    (λ l. get_or-append_right (take m new) (drop m old) m i 0 (length-take-le m new (omega (arith, l, h))) l ∙ get_or-drop m old (i - m) 0 ∙ rw (le-ltb i m l) (ap (λ k. get_or old k 0) (omega (arith, l))))
    (cases_lt i m)

pub octet_behind : (n : ℕ) (ws old : List ℕ) → n ≤ 3 → length ws ≡ 11 → length old ≡ 23 → (i : ℕ) → i < 23 → get_or (octets_after n ws old) i 0 ≡ new_or_old n ws old i
octet_behind n ws old l h k i j =
    let whole = length-image ws h in
    rw (written n ws old l h) (taken_over (8 * n) i (image ws) old (whole ∙ sym k) (omega (arith, j, whole)))

image_opened : (ws : List ℕ) → length ws ≡ 11 → opened (image ws) ≡ kept ws true 0
image_opened ws h =
    let size = length-high_first ws in
    let last = get_or_at (high_first ws) (congruency (high_first ws)) [] 0 22 (omega (arith, h, size)) in
    let front = take_at (high_first ws) (congruency (high_first ws) ∷ []) 22 (omega (arith, h, size)) in
    let fits : eqb (get_or (image ws) 22 0) (congruency (take 22 (image ws))) ≡ true = eq-eqb _ _ (last ∙ sym (ap congruency front)) in
    rw (words_back ws (congruency (high_first ws) ∷ []) 11 h, fits)

pub recalled : (ws old : List ℕ) → length ws ≡ 11 → length old ≡ 23 → opened (octets_after 3 ws old) ≡ kept ws true 0
recalled ws old h k =
    let all : octets_after 3 ws old ≡ image ws =
    written 3 ws old (omega arith) h ∙ rw (take_all 24 (image ws) (omega (arith, length-image ws h)), drop_all 24 old (omega (arith, k))) (append-nil (image ws)) in
    ap opened all ∙ image_opened ws h
