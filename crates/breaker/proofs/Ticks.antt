-- One tick more, of those that are made while the hand is not empty.
use Rattle.std.proofs.Common.{◌≡◌, ℕ, ◌+◌, ◌<◌, ◌≤◌, List, length, get_or, drop, is_some, true, false, sym, ◌∙◌, arith}
use Rattle.std.proofs.lemmas.List.{at_drop_more, drop_all}
use Rattle.breaker.specs.Terms.{BreakerTerms}
use Rattle.breaker.specs.Carried.{ticks, ticked}

-- `i` ticks have led to the figure `f`, and the rest will lead to `n` ticks and the figure `e`
pub record Rest {F : Type 0} (t : BreakerTerms F) (ws : List ℕ) (i : ℕ) (f : F) (n : ℕ) (e : F) : Type 0 where
  pub count : i + ticks t f (drop i ws) ≡ n
  pub ends : ticked t f (drop i ws) ≡ e

module _ {F : Type 0} {t : BreakerTerms F} {ws : List ℕ} {i : ℕ} {f : F} {n : ℕ} {e : F} where
  pub one_more : {g : F} → i < length ws → is_some (t.hand f) ≡ true → g ≡ t.tick f (get_or ws i 0) → Rest t ws i f n e → Rest t ws (i + 1) g n e
  one_more {g} h held went r =
      let count : ticks t f (drop i ws) ≡ 1 + ticks t g (drop (i + 1) ws) = rw (at_drop_more (ticks t f) ws i 0 h, held, went) in
      let ends : ticked t f (drop i ws) ≡ ticked t g (drop (i + 1) ws) = rw (at_drop_more (ticked t f) ws i 0 h, held, went) in
      record { count = omega (arith, r.count, count); ends = sym ends ∙ r.ends }

  pub no_more : i < length ws → is_some (t.hand f) ≡ false → Rest t ws i f n e → (i ≡ n) × (f ≡ e)
  no_more h empty r =
      let count : ticks t f (drop i ws) ≡ 0 = rw (at_drop_more (ticks t f) ws i 0 h, empty) in
      let ends : ticked t f (drop i ws) ≡ f = rw (at_drop_more (ticked t f) ws i 0 h, empty) in
      (omega (arith, r.count, count), sym ends ∙ r.ends)

  pub all_made : length ws ≤ i → Rest t ws i f n e → (i ≡ n) × (f ≡ e)
  all_made h r =
      let gone = drop_all i ws h in
      let count : ticks t f (drop i ws) ≡ 0 = rw gone in
      let ends : ticked t f (drop i ws) ≡ f = rw gone in
      (omega (arith, r.count, count), sym ends ∙ r.ends)
