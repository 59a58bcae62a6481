-- What any breaker means: four faces and three steps over a figure of its own kind, and the terms that it keeps.
use Rattle.std.specs.Prelude.{◌≡◌, ℕ, Bool, true, false, if◌then◌else◌, ◌||◌, ◌⊎◌, Ok, Err, Result, Some, None, Option, is_some}
use Rattle.breaker.specs.declared.words.Order.{Order}
use Rattle.breaker.specs.declared.words.Position.{Position}
use Rattle.breaker.specs.declared.words.NotTaken.{NotTaken}

-- a figure is all that a breaker is at a moment; a tick brings a contact word
pub record BreakerTerms (F : Type 0) : Type 0 where
  pub position : F → Position
  -- a trip command failed
  pub fail : F → Bool
  -- the order that the breaker is carrying out
  pub hand : F → Option Order
  -- the orders that are not taken at present
  pub bars : F → Order → Bool
  pub take : F → Order → F
  pub let_go : F → F
  pub tick : F → ℕ → F

-- an order is refused exactly if the hand is not empty or the order is barred
abbrev pub is_refused : Option Order → Bool → Bool
is_refused hand barred = is_some hand || barred

abbrev pub refuses : {F : Type 0} → BreakerTerms F → F → Order → Bool
refuses t f o = is_refused (t.hand f) (t.bars f o)

abbrev pub told_if : Bool → Result (Unit {0}) NotTaken
told_if refused = if refused then Err (record {}) else Ok tt

abbrev pub take_tells : {F : Type 0} → BreakerTerms F → F → Order → Result (Unit {0}) NotTaken
take_tells t f o = told_if (refuses t f o)

-- what every breaker keeps, and all that may be used of it
pub record BreakerLaws {F : Type 0} (t : BreakerTerms F) : Type 0 where
  -- a refused order leaves the figure as it was
  pub not_taken : (f : F) (o : Order) → refuses t f o ≡ true → t.take f o ≡ f
  -- any other is in the hand then; position and fail are as before
  pub taken_hand : (f : F) (o : Order) → refuses t f o ≡ false → t.hand (t.take f o) ≡ Some o
  pub taken_position : (f : F) (o : Order) → t.position (t.take f o) ≡ t.position f
  pub taken_fail : (f : F) (o : Order) → t.fail (t.take f o) ≡ t.fail f
  -- letting go empties the hand; position, fail and bars are as before
  pub let_go_hand : (f : F) → t.hand (t.let_go f) ≡ None
  pub let_go_position : (f : F) → t.position (t.let_go f) ≡ t.position f
  pub let_go_fail : (f : F) → t.fail (t.let_go f) ≡ t.fail f
  pub let_go_bars : (f : F) (o : Order) → t.bars (t.let_go f) o ≡ t.bars f o
  -- at a tick the hand keeps what it has or becomes empty
  pub tick_hand : (f : F) (w : ℕ) → (t.hand (t.tick f w) ≡ t.hand f) ⊎ (t.hand (t.tick f w) ≡ None)
