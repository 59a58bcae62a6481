-- An array that is made place by place.
use Rattle.std.proofs.Common.{◌≡◌, ℕ, zero, suc, ◌+◌, ◌<◌, List, map, get_or, refl, subst, ◌∙◌, arith}
use Rattle.std.specs.List.{range_with_len}
use Rattle.std.specs.Array.{IsFromFnResult, IsFromFnResultFrom}
use Rattle.std.specs.Fn.{Called}
use Rattle.std.proofs.lemmas.List.FromFn.{fill_by_all}
use denote.Param.Members.{Mut}

module _ {F : Type 0} {g : Mut F (ℕ × Unit {0}) ℕ} (h : ℕ → ℕ) {f : F} (calls : (i y : ℕ) (q : F) → Called g f (i, tt) y q → (q ≡ f) × (y ≡ h i)) where
  -- each place holds what a call at it gave
  placed : (ys : List ℕ) (i n : ℕ) (p : F) → p ≡ f → IsFromFnResultFrom g p ys i n → (k : ℕ) → k < n → get_or ys (i + k) 0 ≡ h (i + k)
  placed ys i zero p same r k l = absurd (omega (arith, l))
  placed ys i (suc n) p same r zero l =
      let one = calls i r.1 r.0 (let P : F → Type 0 = λ s. Called g s (i, tt) r.1 r.0 in subst P same r.3) in
      let here : i + 0 ≡ i = omega arith in
      rw here (r.2.1 0 ∙ one.1)
  placed ys i (suc n) p same r (suc k) l =
      let one = calls i r.1 r.0 (let P : F → Type 0 = λ s. Called g s (i, tt) r.1 r.0 in subst P same r.3) in
      let there : i + suc k ≡ i + 1 + k = omega arith in
      rw there (placed ys (i + 1) n r.0 one.0 r.4 k (omega (arith, l)))

  pub all_placed : {ys : List ℕ} {n : ℕ} → IsFromFnResult g f ys n → ys ≡ map h (range_with_len 0 n)
  all_placed {ys} {n} r = fill_by_all h ys n 0 r.long (λ k l.
      let here : 0 + k ≡ k = omega arith in
      let P : ℕ → Type 0 = λ j. get_or ys j 0 ≡ h j in subst P here (placed ys 0 n f refl r.each k l))
