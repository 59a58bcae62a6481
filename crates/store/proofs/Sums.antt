-- A sum of octets that wraps at each step.
use Rattle.std.proofs.Common.{◌≡◌, ℕ, ◌+◌, ◌/◌, ◌%◌, ◌<◌, List, [], ◌∷◌, sum, fold, sym, ap, ◌∙◌, arith}
use Rattle.std.proofs.lemmas.List.Sums.{sum_by-cons}
use Rattle.std.proofs.Math.Nat.{add-mul-mod_self_left, mod-add-div}

wraps_later : (s x : ℕ) → (s + x % 256) % 256 ≡ (s + x) % 256
wraps_later s x = sym (add-mul-mod_self_left (s + x % 256) 256 (x / 256)) ∙ ap (λ n. n % 256) (omega (arith, mod-add-div x 256))

pub wrapped : (os : List ℕ) (a : ℕ) → a < 256 → fold (λ s o. (s + o) % 256) a os ≡ (sum os + a) % 256
wrapped [] a h = omega (arith, h)
wrapped (o ∷ os) a h =
    let more : sum os + (a + o) ≡ o + sum os + a = omega arith in
    wrapped os ((a + o) % 256) (omega arith) ∙ wraps_later (sum os) (a + o) ∙ ap (λ n. n % 256) (more ∙ ap (λ n. n + a) (sym (sum_by-cons (λ x. x) o os)))
