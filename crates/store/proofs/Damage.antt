-- One octet changed is always seen.
use Rattle.std.proofs.Common.{◌≡◌, ℕ, ◌+◌, ◌<◌, false, List, length, get_or, take, set, sum, sym, ap, ◌∙◌, ⊎_elim, arith, ne_eqb}
use Rattle.std.proofs.lemmas.List.{take-set-le, drop-set-lt, get_or-set_same, get_or-set_other}
use Rattle.std.proofs.lemmas.List.Sums.{sum_by-set, sum_by-take-drop}
use Rattle.std.proofs.lemmas.Bool.{cases_lt}
use Rattle.store.specs.Stores.{congruency, opened}

module _ (os : List ℕ) (i v : ℕ) (size : length os ≡ 23) (fits : get_or os 22 0 ≡ congruency (take 22 os)) (old : get_or os i 0 < 256) (new : v < 256) (other : v ≡ get_or os i 0 → ⊥) where
  -- the sum of the first 22 octets moves by as much as the octet
  moved : i < 22 → sum (take 22 (set os i v)) + get_or os i 0 ≡ sum (take 22 os) + v
  moved h = omega (arith, sum_by-set (λ x. x) os i v 0 (omega (arith, h, size)), sum_by-take-drop (λ x. x) (set os i v) 22, sum_by-take-drop (λ x. x) os 22, ap sum (drop-set-lt 22 os i v h))

  pub seen : i < 23 → (opened (set os i v)).sound ≡ false
  seen h = ⊎_elim
      (λ front. ne_eqb _ _ (λ e. other (omega (arith, moved front, fits, old, new, e, get_or-set_other os i 22 v 0))))
      (λ last. ne_eqb _ _ (λ e.
      let here : i ≡ 22 = omega (arith, last, h) in
      other (sym (get_or-set_same os i v 0 (omega (arith, h, size)))
      ∙ ap (λ k. get_or (set os i v) k 0) here ∙ e ∙ ap congruency (take-set-le 22 os i v last) ∙ sym fits ∙ sym (ap (λ k. get_or os k 0) here))))
      (cases_lt i 22)
