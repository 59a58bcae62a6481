-- The single-bit step is linear over xor, so eight of them split into those on the low octet and a shift of the rest.
use Rattle.std.proofs.Common.{◌≡◌, ℕ, zero, suc, ◌*◌, ◌/◌, ◌%◌, ◌^◌, ◌<◌, Bool, true, false, cond, eqb, sym, refl, ap, ◌∙◌, ap₂, mul-one, arith}
use lib.Bits.{bit_xor, xor_shr, xor_mod, xor_zero_r, xor_assoc, xor_comm, xor_shifted, shifted_half, shifted_even}
use Rattle.std.proofs.lemmas.Nat.{mod_below, shr_split}
use Rattle.crc.specs.Crc.{bit_step, bit_steps}

-- what the bit shifted out adds
abbrev added : ℕ → ℕ
added b = cond (eqb b 1) 0xA001 0

added_xor : (a b : ℕ) → a < 2 → b < 2 → added (bit_xor a b) ≡ bit_xor (added a) (added b)
added_xor zero zero h k = refl
added_xor zero (suc zero) h k = refl
added_xor (suc zero) zero h k = refl
added_xor (suc zero) (suc zero) h k = refl
added_xor zero (suc (suc b)) h k = absurd (omega arith)
added_xor (suc zero) (suc (suc b)) h k = absurd (omega arith)
added_xor (suc (suc a)) b h k = absurd (omega arith)

choice_xor : (b : Bool) (q p : ℕ) → cond b (bit_xor q p) q ≡ bit_xor q (cond b p 0)
choice_xor true q p = refl
choice_xor false q p = sym (xor_zero_r q)

step_is : (r : ℕ) → bit_step r ≡ bit_xor (r / 2) (added (r % 2))
unfolding bit_step
step_is r = choice_xor (eqb (r % 2) 1) (r / 2) 0xA001

swap_middle : (a b c d : ℕ) → bit_xor (bit_xor a b) (bit_xor c d) ≡ bit_xor (bit_xor a c) (bit_xor b d)
swap_middle a b c d =
    xor_assoc a b (bit_xor c d)
    ∙ ap (bit_xor a) (sym (xor_assoc b c d) ∙ ap (λ x. bit_xor x d) (xor_comm b c) ∙ xor_assoc c b d)
    ∙ sym (xor_assoc a c (bit_xor b d))

step_xor : (a b : ℕ) → bit_step (bit_xor a b) ≡ bit_xor (bit_step a) (bit_step b)
step_xor a b =
    step_is (bit_xor a b)
    ∙ ap₂ bit_xor (xor_shr a b 1) (ap added (xor_mod a b 1) ∙ added_xor (a % 2) (b % 2) (mod_below a 2 (omega arith)) (mod_below b 2 (omega arith)))
    ∙ swap_middle (a / 2) (b / 2) (added (a % 2)) (added (b % 2))
    ∙ sym (ap₂ bit_xor (step_is a) (step_is b))

steps_xor : (k a b : ℕ) → bit_steps k (bit_xor a b) ≡ bit_xor (bit_steps k a) (bit_steps k b)
unfolding bit_steps
steps_xor zero a b = refl
steps_xor (suc k) a b = ap (bit_steps k) (step_xor a b) ∙ steps_xor k (bit_step a) (bit_step b)

step_even : (k h : ℕ) → bit_step (h * 2 ^ suc k) ≡ h * 2 ^ k
step_even k h = step_is (h * 2 ^ suc k) ∙ ap₂ bit_xor (shifted_half h k) (ap added (shifted_even h k)) ∙ xor_zero_r (h * 2 ^ k)

-- zeros below are shifted out
pub steps_high : (k h : ℕ) → bit_steps k (h * 2 ^ k) ≡ h
unfolding bit_steps
steps_high zero h = mul-one h
steps_high (suc k) h = ap (bit_steps k) (step_even k h) ∙ steps_high k h

-- a remainder is its high octet, moved up, xor its low octet
pub parts_xor : (r : ℕ) → r ≡ bit_xor (r / 256 * 256) (r % 256)
parts_xor r = sym (shr_split r 8) ∙ sym (xor_shifted (r / 256) 8 (r % 256) (mod_below r 256 (omega arith)))

pub steps_split : (r : ℕ) → bit_steps 8 r ≡ bit_xor (bit_steps 8 (r % 256)) (r / 256)
steps_split r =
    ap (bit_steps 8) (parts_xor r)
    ∙ steps_xor 8 (r / 256 * 256) (r % 256)
    ∙ ap (λ x. bit_xor x (bit_steps 8 (r % 256))) (steps_high 8 (r / 256))
    ∙ xor_comm (r / 256) (bit_steps 8 (r % 256))
