-- Values that are found one by one, in an array.
use Rattle.std.proofs.Common.{◌≡◌, ℕ, zero, suc, ◌+◌, ◌-◌, ◌<◌, ◌≤◌, List, [], ◌∷◌, ◌++◌, length, take, set, Some, None, Option, sym, refl, ap, ◌∙◌, arith}
use Rattle.std.proofs.lemmas.List.{append_assoc, append-nil, length-set, take_all, take_more_set}
use Rattle.tokens.specs.Gathered.{and_then, gathered}

-- values that stand before those that are still to come
abbrev before : {A : Type 0} → List A → Option (List A) → Option (List A)
before xs o = and_then o (λ vs. Some (xs ++ vs))

-- the first `k` of `n` values are in the array, and the others are still to be found
pub record Gathering {A : Type 0} (f : ℕ → Option A) (n k : ℕ) (xs : List A) : Type 0 where
  pub size : length xs ≡ n
  pub whole : before (take k xs) (gathered f k (n - k)) ≡ gathered f 0 n

nothing_before : {A : Type 0} (o : Option (List A)) → before [] o ≡ o
nothing_before None = refl
nothing_before (Some vs) = refl

one_before : {A : Type 0} (xs : List A) (v : A) (o : Option (List A)) → before xs (and_then o (λ vs. Some (v ∷ vs))) ≡ before (xs ++ (v ∷ [])) o
one_before xs v None = refl
one_before xs v (Some vs) = ap Some (sym (append_assoc xs (v ∷ []) vs))

next : {A : Type 0} (f : ℕ → Option A) (n k : ℕ) → k < n → gathered f k (n - k) ≡ and_then (f k) (λ v. and_then (gathered f (k + 1) (n - (k + 1))) (λ vs. Some (v ∷ vs)))
unfolding gathered
next f n k h =
    let more : n - k ≡ suc (n - (k + 1)) = omega (arith, h) in
    rw more

no_more : {A : Type 0} (f : ℕ → Option A) (n k : ℕ) → n ≤ k → gathered f k (n - k) ≡ Some []
unfolding gathered
no_more f n k h =
    let none : n - k ≡ zero = omega (arith, h) in
    rw none

module _ {A : Type 0} (f : ℕ → Option A) (n : ℕ) where
  pub none_yet : (xs : List A) → length xs ≡ n → Gathering f n 0 xs
  none_yet xs size = record {
    size = size;
    whole =
        let all : n - 0 ≡ n = omega arith in
        nothing_before (gathered f 0 (n - 0)) ∙ rw all;
  }

  module _ (k : ℕ) (xs : List A) (sofar : Gathering f n k xs) where
    pub one_more : (v : A) → k < n → f k ≡ Some v → Gathering f n (k + 1) (set xs k v)
    one_more v h e = record {
      size = length-set xs k v ∙ sofar.size;
      whole =
          ap (λ ys. before ys (gathered f (k + 1) (n - (k + 1)))) (take_more_set xs k v (omega (arith, h, sofar.size)))
          ∙ sym (one_before (take k xs) v (gathered f (k + 1) (n - (k + 1))))
          ∙ sym (ap (before (take k xs)) (next f n k h ∙ rw e))
          ∙ sofar.whole;
    }

    pub one_wanting : k < n → f k ≡ None → None ≡ gathered f 0 n
    one_wanting h e =
        let none : gathered f k (n - k) ≡ None = rw (next f n k h, e) in
        sym (ap (before (take k xs)) none) ∙ sofar.whole

    pub all_gathered : n ≤ k → Some xs ≡ gathered f 0 n
    all_gathered h =
        ap Some (sym (append-nil xs) ∙ ap (λ ys. ys ++ []) (sym (take_all k xs (omega (arith, h, sofar.size)))))
        ∙ sym (ap (before (take k xs)) (no_more f n k h))
        ∙ sofar.whole
