-- A text is cut into words from its front on.
use Rattle.std.proofs.Common.{◌≡◌, ℕ, ◌+◌, ◌<◌, ◌≤◌, true, false, cond, List, [], ◌∷◌, ◌++◌, length, get_or, drop, sym, refl, ap, ◌∙◌, append_assoc, arith, Bor}
use Rattle.std.proofs.lemmas.List.{at_drop_more, drop_all, map-append}
use Rattle.std.proofs.lemmas.List.Edits.{between_none, between_more}
use Rattle.std.specs.List.{between}
use Rattle.tokens.specs.Words.{is_blank, ended, words_from, words_of, spelt}

-- the words found so far, the word under way and what is left make the words of the text
pub record Sofar (text : List ℕ) (found : List (List ℕ)) (start i : ℕ) : Type 0 where
  pub begun : start ≤ i
  pub whole : found ++ words_from (between start i text) (drop i text) ≡ words_of text

ended_more : (w : List ℕ) (ws : List (List ℕ)) → ended w ws ≡ ended w [] ++ ws
ended_more [] ws = refl
ended_more (c ∷ w) ws = refl

pub none_yet : (text : List ℕ) → Sofar text [] 0 0
none_yet text = record { begun = omega arith; whole = refl }

module _ (text : List ℕ) (found : List (List ℕ)) (start i : ℕ) (sofar : Sofar text found start i) where
  -- the words from here on, by the character that stands here
  here : i < length text → words_from (between start i text) (drop i text)
      ≡ cond (is_blank (get_or text i 0)) (ended (between start i text) (words_from [] (drop (i + 1) text))) (words_from (between start i text ++ (get_or text i 0 ∷ [])) (drop (i + 1) text))
  here h = at_drop_more (words_from (between start i text)) text i 0 h

  pub word_goes_on : i < length text → is_blank (get_or text i 0) ≡ false → Sofar text found start (i + 1)
  word_goes_on h plain = record {
    begun = omega (arith, sofar.begun);
    whole =
        ap (λ w. found ++ words_from w (drop (i + 1) text)) (between_more text start i 0 sofar.begun h)
        ∙ ap (λ ws. found ++ ws) (sym (here h ∙ rw plain))
        ∙ sofar.whole;
  }

  pub word_ends : i < length text → is_blank (get_or text i 0) ≡ true → (more : List (List ℕ)) → more ≡ found ++ ended (between start i text) [] → Sofar text more (i + 1) (i + 1)
  word_ends h blank more e = record {
    begun = omega arith;
    whole =
        ap (λ w. more ++ words_from w (drop (i + 1) text)) (between_none text (i + 1))
        ∙ ap (λ ws. ws ++ words_from [] (drop (i + 1) text)) e
        ∙ append_assoc found (ended (between start i text) []) (words_from [] (drop (i + 1) text))
        ∙ ap (λ ws. found ++ ws) (sym (here h ∙ rw blank (ended_more (between start i text) (words_from [] (drop (i + 1) text)))))
        ∙ sofar.whole;
  }

  pub all_found : i ≡ length text → (more : List (List ℕ)) → more ≡ found ++ ended (between start (length text) text) [] → more ≡ words_of text
  all_found done more e =
      e
      ∙ ap (λ n. found ++ ended (between start n text) []) (sym done)
      ∙ ap (λ cs. found ++ words_from (between start i text) cs) (sym (drop_all i text (omega arith)))
      ∙ sofar.whole

-- a word that has any characters ends as one more
ended_some : (w : List ℕ) → (length w ≡ 0 → ⊥) → w ∷ [] ≡ ended w []
ended_some [] some = absurd (some refl)
ended_some (c ∷ w) some = refl

pub word_joins : (ws : List (Bor (List ℕ))) (w : Bor (List ℕ)) → (length w.now ≡ 0 → ⊥) → spelt (ws ++ (w ∷ [])) ≡ spelt ws ++ ended w.now []
word_joins ws w some = map-append (λ r. r.now) ws (w ∷ []) ∙ ap (λ xs. spelt ws ++ xs) (ended_some w.now some)
