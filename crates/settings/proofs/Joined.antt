-- Checks that are tried before others.
use Rattle.std.proofs.Common.{◌≡◌, Bool, true, false, cond, List, [], ◌∷◌, ◌++◌, Some, Option, refl}
use Rattle.std.specs.Option.{option_or}
use Rattle.outcome.specs.Checks.{Check, first_failing}

decided : {A : Type 0} (b : Bool) (a : A) (o p : Option A) → cond b (Some a) (option_or o p) ≡ option_or (cond b (Some a) o) p
decided true a o p = refl
decided false a o p = refl

pub joined : {A : Type 0} (cs ds : List (Check A)) → first_failing (cs ++ ds) ≡ option_or (first_failing cs) (first_failing ds)
joined [] ds = refl
joined (c ∷ cs) ds = rw (joined cs ds) (decided c.fails c.tells (first_failing cs) (first_failing ds))
