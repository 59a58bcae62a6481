-- A line of text as its words.
use Rattle.std.specs.Prelude.{ℕ, Bool, cond, not, ◌||◌, List, [], ◌∷◌, ◌++◌, map, take, ◌==◌}
use Rattle.std.specs.Borrow.{Bor}
use Rattle.std.specs.List.{prefix_len}

-- space, tab and carriage return stand between words
abbrev pub is_blank : ℕ → Bool
is_blank c = c == 32 || c == 9 || c == 13

abbrev pub is_plain : ℕ → Bool
is_plain c = not (c == 35)

-- what stands before a comment, which '#' begins
abbrev pub uncommented : List ℕ → List ℕ
uncommented text = take (prefix_len is_plain text) text

-- a word that has ended, if it has any characters
abbrev pub ended : List ℕ → List (List ℕ) → List (List ℕ)
ended [] ws = ws
ended (c ∷ w) ws = (c ∷ w) ∷ ws

-- the word under way, and the words of what is left
abbrev pub words_from : List ℕ → List ℕ → List (List ℕ)
words_from w [] = ended w []
words_from w (c ∷ cs) = cond (is_blank c) (ended w (words_from [] cs)) (words_from (w ++ (c ∷ [])) cs)

abbrev pub words_of : List ℕ → List (List ℕ)
words_of text = words_from [] text

-- what words that are lent say
abbrev pub spelt : List (Bor (List ℕ)) → List (List ℕ)
spelt ws = map (λ w. w.now) ws
