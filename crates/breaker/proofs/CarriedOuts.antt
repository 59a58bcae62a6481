-- What any breaker that keeps the terms does with an order.
use Rattle.std.proofs.Common.{◌≡◌, ℕ, Bool, true, false, cond, ◌⊎◌, List, [], ◌∷◌, is_some, Some, None, is_ok, Ok, Err, sym, refl, ap, ◌∙◌, inl, inr, arith}
use mathlib.Core.Bool.{false≢true}
use Rattle.breaker.specs.declared.words.Order.{Order}
use Rattle.breaker.specs.declared.words.NotTaken.{NotTaken}
use Rattle.breaker.specs.Terms.{BreakerTerms, BreakerLaws, refuses, take_tells}
use Rattle.breaker.specs.Carried.{ticks, ticked, CarriedOut}

-- an order that was not refused
told_ok : (b : Bool) {u : Unit {0}} {e : NotTaken} → Ok u ≡ cond b (Err e) (Ok tt) → b ≡ false
told_ok true e = absurd (false≢true (sym (ap is_ok e)))
told_ok false e = refl

module _ {F : Type 0} (t : BreakerTerms F) (laws : BreakerLaws t) (o : Order) where
  -- an order in hand stays there or leaves it empty
  still : (f : F) (w : ℕ) → t.hand f ≡ Some o → (t.hand (t.tick f w) ≡ t.hand f) ⊎ (t.hand (t.tick f w) ≡ None) → (t.hand (t.tick f w) ≡ Some o) ⊎ (t.hand (t.tick f w) ≡ None)
  still f w held (inl same) = inl (same ∙ held)
  still f w held (inr empty) = inr empty

  from_hand : (f : F) (ws : List ℕ) → (t.hand f ≡ Some o) ⊎ (t.hand f ≡ None) → CarriedOut t (ticked t f ws) o ws (ticks t f ws)
  from_hand f [] h = record { hand = h; bound = omega arith; early = λ n. absurd (omega (arith, n)) }
  from_hand f (w ∷ ws) (inr empty) = rw (ap is_some empty) (record { hand = inr empty; bound = omega arith; early = λ n. empty })
  from_hand f (w ∷ ws) (inl held) =
      let rest = from_hand (t.tick f w) ws (still f w held (laws.tick_hand f w)) in
      rw (ap is_some held) (record { hand = rest.hand; bound = omega (arith, rest.bound); early = λ n. rest.early (omega (arith, n)) })

  pub carried_out : (f g h : F) (ws : List ℕ) (n : ℕ) {u : Unit {0}} → Ok u ≡ take_tells t f o → g ≡ t.take f o → n ≡ ticks t g ws → h ≡ ticked t g ws → CarriedOut t h o ws n
  carried_out f g h ws n ok took count went = rw (count, went, took) (from_hand (t.take f o) ws (inl (laws.taken_hand f o (told_ok (refuses t f o) ok))))
