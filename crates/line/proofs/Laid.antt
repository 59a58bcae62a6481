-- A frame laid over a buffer, as it is written: the octets first, then the CRC's two, one after the other.
use Rattle.std.proofs.Common.{◌≡◌, ℕ, suc, ◌+◌, ◌/◌, ◌%◌, ◌≤◌, List, [], ◌∷◌, ◌++◌, length, drop, set, refl, ap, append_assoc, add-one, arith, length-append, length-drop}
use Rattle.std.proofs.lemmas.List.{drop-drop}
use Rattle.crc.specs.Crc.{low_first}
use Rattle.line.specs.Compose.{laid_over}

two_set : (os rest : List ℕ) (a b : ℕ) → 2 ≤ length rest → set (set (os ++ rest) (length os) a) (suc (length os)) b ≡ os ++ (a ∷ b ∷ drop 2 rest)
two_set [] [] a b h = absurd (omega arith)
two_set [] (x ∷ []) a b h = absurd (omega arith)
two_set [] (x ∷ y ∷ rest) a b h = refl
two_set (o ∷ os) rest a b h = ap (λ xs. o ∷ xs) (two_set os rest a b h)

pub laid : (os buffer : List ℕ) (w low high : ℕ) → length os + 2 ≤ length buffer → low ≡ w % 256 → high ≡ w / 256
    → set (set (os ++ drop (length os) buffer) (length os) low) (length os + 1) high ≡ laid_over (os ++ low_first w) buffer
laid os buffer w low high room is_low is_high =
    let two : 2 ≤ length (drop (length os) buffer) = simp length-drop (omega arith) in
    rw (add-one, two_set os (drop (length os) buffer) low high two, is_low, is_high, append_assoc, length-append, drop-drop)
