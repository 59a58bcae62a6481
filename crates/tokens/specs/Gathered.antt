-- Values that are found one by one.
use Rattle.std.specs.Prelude.{ℕ, zero, suc, ◌+◌, List, [], ◌∷◌, Some, None, Option}

abbrev pub and_then : {A B : Type 0} → Option A → (A → Option B) → Option B
and_then None f = None
and_then (Some a) f = f a

-- so many values from a place on, or nothing where one is wanting
unfoldable pub gathered : {A : Type 0} → (ℕ → Option A) → ℕ → ℕ → Option (List A)
gathered f i zero = Some []
gathered f i (suc n) = and_then (f i) (λ v. and_then (gathered f (i + 1) n) (λ vs. Some (v ∷ vs)))
