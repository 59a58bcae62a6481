-- A frame with its CRC behind it is sound where it comes undamaged.
use Rattle.std.proofs.Common.{◌≡◌, ℕ, zero, suc, ◌+◌, ◌-◌, ◌*◌, ◌/◌, ◌%◌, ◌≤◌, true, false, eqb, ltb, List, [], ◌∷◌, map, length, get_or, take, replicate, None, sym, refl, ap, ◌∙◌, one-add, arith, length-append, le-ltb, eq-eqb}
use Rattle.std.proofs.lemmas.List.{length-replicate, length-map, take_all, take_at, get_or_at, get_or-append-add}
use Rattle.crc.specs.Crc.{crc_of, low_first}
use Rattle.outcome.specs.Checks.{first_failing}
use Rattle.line.specs.declared.characters.Parity.{Parity}
use Rattle.line.specs.Line.{good_marks, crc_fits, damage_checks}
use Rattle.line.specs.Burst.{Burst, good}
use Rattle.line.specs.Compose.{with_crc, undamaged}

all_good : (n : ℕ) → good_marks (replicate n Parity.Good) ≡ n
all_good zero = refl
all_good (suc n) = ap (λ k. 1 + k) (all_good n) ∙ one-add n

long : (os : List ℕ) → length (with_crc os) ≡ length os + 2
long os = length-append os (low_first (crc_of os))

fits_at : (os : List ℕ) (n : ℕ) → length os ≡ n → eqb (crc_of (take n (with_crc os))) (get_or (with_crc os) n 0 + 256 * get_or (with_crc os) (n + 1) 0) ≡ true
fits_at os n e =
    let low : get_or (with_crc os) n 0 ≡ crc_of os % 256 = get_or_at os _ _ 0 n e in
    let high : get_or (with_crc os) (n + 1) 0 ≡ crc_of os / 256 = ap (λ k. get_or (with_crc os) (k + 1) 0) (sym e) ∙ get_or-append-add os (low_first (crc_of os)) 1 0 in
    eq-eqb _ _ (ap crc_of (take_at os _ n e) ∙ omega (arith, low, high))

crc_behind : (os : List ℕ) → crc_fits (with_crc os) ≡ true
crc_behind os = fits_at os (length (with_crc os) - 2) (omega (arith, long os))

values_back : (os : List ℕ) → map (λ c. c.value) (map good os) ≡ os
values_back [] = refl
values_back (o ∷ os) = ap (λ xs. o ∷ xs) (values_back os)

marks_good : (os : List ℕ) → map (λ c. c.parity) (map good os) ≡ replicate (length os) Parity.Good
marks_good [] = refl
marks_good (o ∷ os) = ap (λ ps. Parity.Good ∷ ps) (marks_good os)

abbrev intact : List ℕ → Burst
intact os = record { octets = os; marks = replicate (length os) Parity.Good; overlong = false }

-- a receiver keeps all of a burst that is not too long
all_kept : (os : List ℕ) → length os ≤ 256 → undamaged os ≡ intact os
all_kept os h =
    let octets : take 256 (map (λ c. c.value) (map good os)) ≡ os = ap (take 256) (values_back os) ∙ take_all 256 os h in
    let count : length (replicate (length os) Parity.Good) ≤ 256 = simp length-replicate h in
    let marks : take 256 (map (λ c. c.parity) (map good os)) ≡ replicate (length os) Parity.Good = ap (take 256) (marks_good os) ∙ take_all 256 (replicate (length os) Parity.Good) count in
    let room : ltb 256 (length (map good os)) ≡ false = le-ltb _ _ (simp length-map h) in
    rw (octets, marks, room)

intact_sound : (os : List ℕ) → 2 ≤ length os → first_failing (damage_checks (intact (with_crc os))) ≡ None
intact_sound os h =
    let count : length (replicate (length (with_crc os)) Parity.Good) ≡ length (with_crc os) = length-replicate (length (with_crc os)) Parity.Good in
    let marks : ltb (good_marks (intact (with_crc os)).marks) (length (intact (with_crc os)).marks) ≡ false = le-ltb _ _ (omega (arith, all_good (length (with_crc os)), count)) in
    let short : ltb (length (with_crc os)) 4 ≡ false = le-ltb _ _ (omega (arith, long os)) in
    rw (marks, short, crc_behind os)

pub frame_sound : (os : List ℕ) → 2 ≤ length os → length os ≤ 254 → first_failing (damage_checks (undamaged (with_crc os))) ≡ None
frame_sound os h k = ap (λ b. first_failing (damage_checks b)) (all_kept (with_crc os) (omega (arith, long os))) ∙ intact_sound os h
