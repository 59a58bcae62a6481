-- One turn of a loop that folds what it goes over into a state.
use Rattle.std.proofs.Common.{◌≡◌, ℕ, ◌+◌, ◌<◌, List, length, get_or, take, fold, sym, ap, ◌∙◌}
use Rattle.std.proofs.lemmas.List.Sums.{fold_more}

pub one_turn : {A S : Type 0} (f : S → A → S) (start now next : S) (xs : List A) (i : ℕ) (d : A) → i < length xs
    → now ≡ fold f start (take i xs) → next ≡ f now (get_or xs i d) → next ≡ fold f start (take (i + 1) xs)
one_turn f start now next xs i d h before here = here ∙ ap (λ s. f s (get_or xs i d)) before ∙ sym (fold_more f start xs i d h)
