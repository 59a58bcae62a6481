-- The first setting whose word is outside its range.
use Rattle.std.proofs.Common.{◌≡◌, ℕ, Bool, true, false, cond, List, [], ◌∷◌, length, Some, None, Option, refl, ap, ◌∙◌, arith}
use Rattle.std.specs.List.{find, zip}
use Rattle.std.specs.Option.{option_map}
use Rattle.outcome.specs.Checks.{first_failing}
use Rattle.settings.specs.declared.table.Setting.{Setting}
use Rattle.settings.specs.Checks.{range_checks, is_outside}

abbrev code_of : Setting × ℕ → ℕ
code_of p = p.0.code

mapped_cond : {A B : Type 0} (f : A → B) (b : Bool) (x : A) (o : Option A) → option_map f (cond b (Some x) o) ≡ cond b (Some (f x)) (option_map f o)
mapped_cond f true x o = refl
mapped_cond f false x o = refl

first_outside : (ss : List Setting) (ws : List ℕ) → length ws ≡ length ss → option_map code_of (find (λ p. is_outside p.0 p.1) (zip ss ws)) ≡ first_failing (range_checks ss ws)
first_outside [] ws e = refl
first_outside (s ∷ ss) [] e = absurd (omega (arith, e))
first_outside (s ∷ ss) (w ∷ ws) e =
    mapped_cond code_of (is_outside s w) (s, w) (find (λ p. is_outside p.0 p.1) (zip ss ws))
    ∙ ap (cond (is_outside s w) (Some s.code)) (first_outside ss ws (omega (arith, e)))

-- what is found, by a view of the items, and its code
pub first_code : (ss : List Setting) (ws : List ℕ) → length ws ≡ length ss → {A : Type 0} (view : A → Setting × ℕ) (o : Option A) {code : Option ℕ} → code ≡ option_map (λ a. code_of (view a)) o → option_map view o ≡ find (λ p. is_outside p.0 p.1) (zip ss ws) → code ≡ first_failing (range_checks ss ws)
first_code ss ws size view None told found = told ∙ ap (option_map code_of) found ∙ first_outside ss ws size
first_code ss ws size view (Some a) told found = told ∙ ap (option_map code_of) found ∙ first_outside ss ws size
