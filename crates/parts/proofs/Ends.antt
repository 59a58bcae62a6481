-- The words of an opening by their places.
use Rattle.std.proofs.Common.{◌≡◌, ℕ, suc, ◌-◌, ◌≤◌, List, [], ◌∷◌, length, get_or, ap₂, arith, Bor}
use Rattle.std.proofs.lemmas.List.{length-map, take-map, get_or-map}
use Rattle.std.specs.List.{between}
use Rattle.tokens.specs.Words.{spelt}
use Rattle.parts.specs.Reading.{opening_of, opening_in}

pub opened : (ws : List (Bor (List ℕ))) (d : Bor (List ℕ)) → 3 ≤ length ws
    → opening_in (spelt ws) ≡ opening_of (get_or ws 0 d).now (get_or ws 1 d).now (spelt (between 2 (length ws - 1) ws)) (get_or ws (length ws - 1) d).now
opened [] d h = absurd (omega arith)
opened (b ∷ []) d h = absurd (omega arith)
opened (b ∷ w ∷ []) d h = absurd (omega arith)
opened (b ∷ w ∷ v ∷ vs) d h =
    let now = λ (x : Bor (List ℕ)). x.now in
    let count : length (spelt vs) ≡ length vs = length-map vs now in
    let last : get_or (spelt (v ∷ vs)) (length vs) [] ≡ (get_or (v ∷ vs) (length vs) d).now = get_or-map now (v ∷ vs) (length vs) d [] (omega arith) in
    let place : length (b ∷ w ∷ v ∷ vs) - 1 ≡ suc (suc (length vs)) = omega arith in
    let span : suc (suc (length vs)) - 2 ≡ length vs = omega arith in
    rw (count, place, span) (ap₂ (opening_of b.now w.now) (take-map now (length vs) (v ∷ vs)) last)
