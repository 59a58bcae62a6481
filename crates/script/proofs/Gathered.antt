-- Characters gathered word by word.
use Rattle.std.proofs.Common.{◌≡◌, ℕ, ◌+◌, ◌<◌, ◌≤◌, List, [], ◌∷◌, length, get_or, drop, None, fold, Option, sym, refl, ap, ◌∙◌, Bor}
use Rattle.std.proofs.lemmas.List.{at_drop_more, at_drop_all}
use Rattle.line.specs.declared.characters.Character.{Character}
use Rattle.tokens.specs.Words.{spelt}
use Rattle.script.specs.Lines.{with_word}

-- what is gathered from the words from the i-th on, if that much is gathered before
abbrev pub gathered : Option (List Character) → List (Bor (List ℕ)) → ℕ → Option (List Character)
gathered o ws i = fold with_word o (spelt (drop i ws))

pub word_more : (o next : Option (List Character)) (ws : List (Bor (List ℕ))) (i : ℕ) (d : Bor (List ℕ)) → i < length ws
    → next ≡ with_word o (get_or ws i d).now → gathered next ws (i + 1) ≡ gathered o ws i
word_more o next ws i d h e = ap (λ x. gathered x ws (i + 1)) e ∙ sym (at_drop_more (λ xs. fold with_word o (spelt xs)) ws i d h)

pub none_stays : (ws : List (List ℕ)) → fold with_word None ws ≡ None
none_stays [] = refl
none_stays (w ∷ ws) = none_stays ws

pub all_gathered : (o : Option (List Character)) (ws : List (Bor (List ℕ))) (i : ℕ) → length ws ≤ i → gathered o ws i ≡ o
all_gathered o ws i h = at_drop_all (λ xs. fold with_word o (spelt xs)) ws i h
