-- A burst heard from its beginning on is the first 256 of its characters.
use Rattle.std.proofs.Common.{◌≡◌, ◌+◌, ◌<◌, ◌≤◌, min, true, false, ltb, List, [], ◌∷◌, ◌++◌, map, length, take, sym, ap, ◌∙◌, ⊎_elim, append_assoc, append-nil, arith, length-append, le-ltb, lt-ltb}
use Rattle.std.proofs.lemmas.List.{map-append, length-map, take_all, take-append-le, length-take}
use Rattle.std.proofs.lemmas.Bool.{cases_lt}
use Rattle.line.specs.declared.characters.Character.{Character}
use Rattle.line.specs.Burst.{one_more, more, whole_burst}

-- the first 256 of a list and one more
first_more : {A : Type 0} (f : Character → A) (cs : List Character) (c : Character) → length cs < 256
    → take 256 (map f (cs ++ (c ∷ []))) ≡ take 256 (map f cs) ++ (f c ∷ [])
first_more f cs c h =
    let fits : length (map f cs ++ (f c ∷ [])) ≤ 256 = simp (length-append, length-map) (omega arith) in
    let short : length (map f cs) ≤ 256 = simp length-map (omega arith) in
    ap (take 256) (map-append f cs (c ∷ [])) ∙ take_all 256 (map f cs ++ (f c ∷ [])) fits ∙ ap (λ xs. xs ++ (f c ∷ [])) (sym (take_all 256 (map f cs) short))

first_full : {A : Type 0} (f : Character → A) (cs : List Character) (c : Character) → 256 ≤ length cs
    → take 256 (map f (cs ++ (c ∷ []))) ≡ take 256 (map f cs)
first_full f cs c h =
    let full : 256 ≤ length (map f cs) = simp length-map (omega arith) in
    ap (take 256) (map-append f cs (c ∷ [])) ∙ take-append-le 256 (map f cs) (f c ∷ []) full

kept_length : (cs : List Character) → length (take 256 (map (λ c. c.value) cs)) ≡ min 256 (length cs)
kept_length cs = length-take 256 (map (λ c. c.value) cs) ∙ ap (min 256) (length-map cs (λ c. c.value))

one_longer : (cs : List Character) (c : Character) → length (cs ++ (c ∷ [])) ≡ length cs + 1
one_longer cs c = length-append cs (c ∷ [])

stays_kept : (cs : List Character) (c : Character) → length cs < 256 → one_more (whole_burst cs) c ≡ whole_burst (cs ++ (c ∷ []))
stays_kept cs c h =
    let room : ltb (length (take 256 (map (λ x. x.value) cs))) 256 ≡ true = lt-ltb _ _ (omega (arith, kept_length cs)) in
    let before : ltb 256 (length cs) ≡ false = le-ltb _ _ (omega arith) in
    let after : ltb 256 (length (cs ++ (c ∷ []))) ≡ false = le-ltb _ _ (omega (arith, one_longer cs c)) in
    rw (room, before, after, first_more (λ x. x.value) cs c h, first_more (λ x. x.parity) cs c h)

stays_full : (cs : List Character) (c : Character) → 256 ≤ length cs → one_more (whole_burst cs) c ≡ whole_burst (cs ++ (c ∷ []))
stays_full cs c h =
    let full : ltb (length (take 256 (map (λ x. x.value) cs))) 256 ≡ false = le-ltb _ _ (omega (arith, kept_length cs)) in
    let after : ltb 256 (length (cs ++ (c ∷ []))) ≡ true = lt-ltb _ _ (omega (arith, one_longer cs c)) in
    rw (full, after, first_full (λ x. x.value) cs c h, first_full (λ x. x.parity) cs c h)

one_whole : (done : List Character) (c : Character) → one_more (whole_burst done) c ≡ whole_burst (done ++ (c ∷ []))
one_whole done c = ⊎_elim (stays_kept done c) (stays_full done c) (cases_lt (length done) 256)

pub whole : (done rest : List Character) → more (whole_burst done) rest ≡ whole_burst (done ++ rest)
whole done [] = ap whole_burst (sym (append-nil done))
whole done (c ∷ rest) =
    ap (λ b. more b rest) (one_whole done c)
    ∙ whole (done ++ (c ∷ [])) rest
    ∙ ap whole_burst (append_assoc done (c ∷ []) rest)
