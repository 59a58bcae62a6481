-- The table's rule, computed once over the whole table and carried to every entry.
use Rattle.std.proofs.Common.{◌≡◌, ℕ, zero, suc, ◌+◌, ◌/◌, ◌%◌, ◌<◌, List, [], ◌∷◌, get_or, sym, ap, ◌∙◌, add-zero, add-suc, suc-add, zero-add, arith}
use lib.Bits.{bit_and, bit_xor, and_mask}
use Rattle.std.proofs.lemmas.Nat.{mod_below}
use Rattle.crc.specs.Crc.{bit_steps, octet_step}
use Rattle.crc.proofs.Linear.{steps_split}

-- n entries from index i on: eight single-bit steps of each index
unfoldable pub table : ℕ → ℕ → List ℕ
table i zero = []
table i (suc n) = bit_steps 8 i ∷ table (suc i) n

entry_is : (n i k : ℕ) → k < n → get_or (table i n) k 0 ≡ bit_steps 8 (i + k)
unfolding table
entry_is zero i k h = absurd (omega arith)
entry_is (suc n) i zero h = ap (bit_steps 8) (sym (add-zero i))
entry_is (suc n) i (suc k) h = entry_is n (suc i) k (omega arith) ∙ ap (bit_steps 8) (suc-add i k ∙ sym (add-suc i k))

-- an entry and a shift make the step of an octet
pub by_table : (r o i : ℕ) → i ≡ bit_and (bit_xor r o) 255 → bit_xor (get_or (table 0 256) i 0) (bit_xor r o / 256) ≡ octet_step r o
unfolding octet_step
by_table r o i e =
    let low : i ≡ bit_xor r o % 256 = e ∙ and_mask (bit_xor r o) 8 in
    let within : i < 256 = omega (arith, mod_below (bit_xor r o) 256 (omega arith)) in
    ap (λ x. bit_xor x (bit_xor r o / 256)) (entry_is 256 0 i within ∙ ap (bit_steps 8) (zero-add i ∙ low))
    ∙ sym (steps_split (bit_xor r o))
