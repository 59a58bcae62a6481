-- Checks that are tried one after the other: the first that fails tells what is wrong.
use Rattle.std.specs.Prelude.{Bool, cond, List, [], ◌∷◌, Some, None, Option}

pub record Check (A : Type 0) : Type 0 where
  pub fails : Bool
  pub tells : A

abbrev pub check : {A : Type 0} → Bool → A → Check A
check fails tells = record { fails = fails; tells = tells }

abbrev pub first_failing : {A : Type 0} → List (Check A) → Option A
first_failing [] = None
first_failing (c ∷ cs) = cond c.fails (Some c.tells) (first_failing cs)
