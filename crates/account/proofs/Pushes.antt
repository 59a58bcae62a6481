-- Text written piece by piece.
use Rattle.std.proofs.Common.{◌≡◌, ℕ, ◌+◌, ◌<◌, List, [], ◌∷◌, ◌++◌, length, get_or, take, sym, ap, ◌∙◌, append_assoc}
use Rattle.std.proofs.lemmas.List.{take_more, flat_map_more}
use Rattle.account.specs.Texts.{hex_octet, hex_octets}

-- three characters, each of one octet
pub three : (a b c d e f g : List ℕ) (x y z : ℕ) → b ≡ a ++ e → e ≡ x ∷ [] → c ≡ b ++ f → f ≡ y ∷ [] → d ≡ c ++ g → g ≡ z ∷ [] → d ≡ a ++ (x ∷ y ∷ z ∷ [])
three a b c d e f g x y z first is_x second is_y third is_z =
    third ∙ ap (λ s. c ++ s) is_z
    ∙ ap (λ s. s ++ (z ∷ [])) (second ∙ ap (λ s. b ++ s) is_y ∙ ap (λ s. s ++ (y ∷ [])) (first ∙ ap (λ s. a ++ s) is_x) ∙ append_assoc a (x ∷ []) (y ∷ []))
    ∙ append_assoc a (x ∷ y ∷ []) (z ∷ [])

pub octet_more : (os : List ℕ) (i : ℕ) (was next : List ℕ) → i < length os → was ≡ hex_octets (take i os) → next ≡ was ++ hex_octet (get_or os i 0) → next ≡ hex_octets (take (i + 1) os)
octet_more os i was next h before here =
    here
    ∙ ap (λ s. s ++ hex_octet (get_or os i 0)) before
    ∙ flat_map_more hex_octet [] (take i os) (get_or os i 0)
    ∙ ap hex_octets (sym (take_more os i 0 h))
