-- What an array's `map` gives.
use Rattle.std.proofs.Common.{◌≡◌, ℕ, List, map, length, sym, ◌∙◌, arith, ◌<◌}
use Rattle.std.proofs.lemmas.List.{same_lists, length-map, get_or-map}
use Rattle.std.specs.Array.{IsMapOf}
use Rattle.std.specs.Fn.{Called}
use denote.Param.Members.{Mut}

pub mapped : {F A B : Type 0} {g : Mut F (A × Unit {0}) B} (h : A → B) (a : A) {f : F} {xs : List A} {ys : List B} {n : ℕ} → length xs ≡ n → IsMapOf g f xs ys n → ((x : A) (y : B) (p q : F) → Called g p (x, tt) y q → y ≡ h x) → ys ≡ map h xs
mapped h a {f} {xs} {ys} {n} size r calls =
    same_lists ys (map h xs) (r.long ∙ sym size ∙ sym (length-map xs h)) (λ k d l.
    let e : k < n = omega (arith, l, r.long) in
    let one = r.at k a d e in
    calls _ _ one.0 one.1 one.2 ∙ sym (get_or-map h xs k a d (omega (arith, e, size))))
