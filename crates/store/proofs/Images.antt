-- The octets of a set.
use Rattle.std.proofs.Common.{◌≡◌, ℕ, List, map, length, take, set, refl}
use Rattle.std.specs.List.{range_with_len}
use Rattle.words.specs.Words.{octet_at}
use Rattle.store.specs.Stores.{congruency, image}

-- 22 octets of words, then the congruency octet at the last place
pub image_made : (ws : List ℕ) {xs : List ℕ} {c : ℕ} → length ws ≡ 11 → xs ≡ map (octet_at ws) (range_with_len 0 23) → c ≡ congruency (take 22 xs) → set xs 22 c ≡ image ws
image_made ws eleven made e = rw (e, made, eleven) refl
