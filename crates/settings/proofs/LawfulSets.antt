-- Passing every check, and being lawful in the words of the law, are the same.
use Rattle.std.proofs.Common.{◌≡◌, ℕ, zero, suc, ◌<◌, Bool, true, false, cond, not, List, [], ◌∷◌, length, get_or, is_some, Some, None, Option, sym, refl, ◌∙◌, arith}
use mathlib.Core.Bool.{false≢true}
use Rattle.std.proofs.lemmas.Bool.Decides.{nat_tests}
use Rattle.std.proofs.lemmas.Option.{none-some}
use Rattle.std.specs.Option.{option_or}
use Rattle.outcome.specs.Checks.{first_failing}
use Rattle.settings.specs.declared.table.Setting.{Setting}
use Rattle.settings.specs.Table.{settings, setting}
use Rattle.settings.specs.Checks.{is_outside, range_checks, order_checks, fail_code, is_lawful}
use Rattle.settings.specs.Laws.{Lawful}
use Rattle.settings.proofs.Joined.{joined}

none : {A : Type 0} (o : Option A) → not (is_some o) ≡ true → o ≡ None
none None e = refl
none (Some a) e = absurd (false≢true e)

both_none : {A : Type 0} (o p : Option A) → option_or o p ≡ None → (o ≡ None) × (p ≡ None)
both_none None p e = (refl, e)
both_none (Some a) p e = absurd (none-some _ (sym e))

passed : {A : Type 0} (b : Bool) (a : A) (o : Option A) → cond b (Some a) o ≡ None → (b ≡ false) × (o ≡ None)
passed true a o e = absurd (none-some _ (sym e))
passed false a o e = (refl, e)

all_within : (ss : List Setting) (ws : List ℕ) (i : ℕ) (d : Setting) → length ws ≡ length ss → first_failing (range_checks ss ws) ≡ None → i < length ss → is_outside (get_or ss i d) (get_or ws i 0) ≡ false
all_within [] ws i d l e h = absurd (omega arith)
all_within (s ∷ ss) [] i d l e h = absurd (none-some _ (sym e))
all_within (s ∷ ss) (w ∷ ws) zero d l e h = (passed _ _ _ e).0
all_within (s ∷ ss) (w ∷ ws) (suc i) d l e h = all_within ss ws i d (omega arith) (passed (is_outside s w) s.code _ e).1 (omega arith)

pub lawful : (ws : List ℕ) → length ws ≡ 11 → is_lawful ws ≡ true → Lawful ws
lawful ws l e =
    let parts = both_none (first_failing (range_checks settings ws)) (first_failing (order_checks ws)) (sym (joined (range_checks settings ws) (order_checks ws)) ∙ none (fail_code ws) e) in
    record {
      not_below = λ i h. let w = all_within settings ws i (setting 0 0 0 0) l parts.0 h in grind (arith, nat_tests);
      not_above = λ i h. let w = all_within settings ws i (setting 0 0 0 0) l parts.0 h in grind (arith, nat_tests);
      s_above_l = λ on. let p = parts.1 in grind (arith, nat_tests);
      i_above_s = λ s_on i_on. let p = parts.1 in grind (arith, nat_tests);
    }

within_all : (ss : List Setting) (ws : List ℕ) (d : Setting) → length ws ≡ length ss → ((i : ℕ) → i < length ss → is_outside (get_or ss i d) (get_or ws i 0) ≡ false) → first_failing (range_checks ss ws) ≡ None
within_all [] ws d l h = refl
within_all (s ∷ ss) [] d l h = absurd (omega arith)
within_all (s ∷ ss) (w ∷ ws) d l h = rw (h 0 (omega arith)) (within_all ss ws d (omega arith) (λ i k. h (suc i) (omega arith)))

pub passes : (ws : List ℕ) → length ws ≡ 11 → Lawful ws → fail_code ws ≡ None
passes ws l law =
    let ranges = within_all settings ws (setting 0 0 0 0) l (λ i h. let low = law.not_below i h in let high = law.not_above i h in grind (arith, nat_tests)) in
    let s = law.s_above_l in let i = law.i_above_s in
    joined (range_checks settings ws) (order_checks ws) ∙ rw ranges (grind (arith, nat_tests))
