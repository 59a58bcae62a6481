-- An order handed to any breaker, and ticks until it is out of the hand.
use Rattle.std.specs.Prelude.{◌≡◌, ℕ, ◌+◌, ◌<◌, ◌≤◌, if◌then◌else◌, ◌⊎◌, List, [], ◌∷◌, length, Ok, Err, Result, Some, None, is_some}
use Rattle.breaker.specs.declared.words.Order.{Order}
use Rattle.breaker.specs.declared.words.NotTaken.{NotTaken}
use Rattle.breaker.specs.Terms.{BreakerTerms, refuses}

-- a tick for each contact word, as long as the hand is not empty
abbrev pub ticked : {F : Type 0} → BreakerTerms F → F → List ℕ → F
ticked t f [] = f
ticked t f (w ∷ ws) = if is_some (t.hand f) then ticked t (t.tick f w) ws else f

-- how many ticks that are
abbrev pub ticks : {F : Type 0} → BreakerTerms F → F → List ℕ → ℕ
ticks t f [] = 0
ticks t f (w ∷ ws) = if is_some (t.hand f) then 1 + ticks t (t.tick f w) ws else 0

abbrev pub carried : {F : Type 0} → BreakerTerms F → F → Order → List ℕ → F
carried t f o ws = if refuses t f o then f else ticked t (t.take f o) ws

abbrev pub carried_tells : {F : Type 0} → BreakerTerms F → F → Order → List ℕ → Result ℕ NotTaken
carried_tells t f o ws = if refuses t f o then Err (record {}) else Ok (ticks t (t.take f o) ws)

-- what follows from the terms alone: no other order gets into the hand, and if ticks are left over the hand is empty
pub record CarriedOut {F : Type 0} (t : BreakerTerms F) (f : F) (o : Order) (ws : List ℕ) (n : ℕ) : Type 0 where
  pub hand : (t.hand f ≡ Some o) ⊎ (t.hand f ≡ None)
  pub bound : n ≤ length ws
  pub early : n < length ws → t.hand f ≡ None
