-- Going on over a second part is going over both joined, and a remainder's own two octets close it.
use Rattle.std.proofs.Common.{◌≡◌, ℕ, ◌*◌, ◌/◌, ◌%◌, List, [], ◌∷◌, ◌++◌, sym, refl, ap, ◌∙◌}
use lib.Bits.{bit_xor, xor_zero_r, xor_self, xor_assoc}
use Rattle.crc.specs.Crc.{bit_step, bit_steps, octet_step, crc_from, low_first}
use Rattle.crc.proofs.Linear.{parts_xor, steps_high}

pub goes_on : (before after : List ℕ) (start : ℕ) → crc_from (crc_from start before) after ≡ crc_from start (before ++ after)
goes_on [] after start = refl
goes_on (o ∷ before) after start = goes_on before after (octet_step start o)

-- its low octet leaves the high one
low_leaves_high : (w : ℕ) → octet_step w (w % 256) ≡ w / 256
unfolding octet_step
low_leaves_high w =
    ap (bit_steps 8) (ap (λ x. bit_xor x (w % 256)) (parts_xor w) ∙ xor_assoc (w / 256 * 256) (w % 256) (w % 256) ∙ ap (bit_xor (w / 256 * 256)) (xor_self (w % 256)) ∙ xor_zero_r (w / 256 * 256))
    ∙ steps_high 8 (w / 256)

same_leaves_none : (h : ℕ) → octet_step h h ≡ 0
unfolding octet_step bit_steps bit_step
same_leaves_none h = ap (bit_steps 8) (xor_self h)

pub closed : (os : List ℕ) (start : ℕ) → crc_from start (os ++ low_first (crc_from start os)) ≡ 0
closed os start =
    sym (goes_on os (low_first (crc_from start os)) start)
    ∙ ap (λ x. octet_step x (crc_from start os / 256)) (low_leaves_high (crc_from start os))
    ∙ same_leaves_none (crc_from start os / 256)
