-- Octets as they are told can be played again: an `octets` line of them brings those octets.
use Rattle.std.proofs.Common.{◌≡◌, ℕ, ◌+◌, ◌/◌, ◌%◌, ◌<◌, ◌≤◌, true, false, eqb, List, [], ◌∷◌, ◌++◌, map, length, Some, codes, fold, sym, refl, ap, ◌∙◌, append_assoc, append-nil, arith, ne_eqb}
use Rattle.std.proofs.lemmas.List.{take_all}
use Rattle.std.proofs.lemmas.Bool.Decides.{nat_tests}
use Rattle.std.specs.List.{prefix_len, AllByRecursion as All}
use Rattle.std.specs.Str.{bytes_eq}
use Rattle.line.specs.declared.characters.Character.{Character}
use Rattle.line.specs.Burst.{good}
use Rattle.tokens.specs.Words.{is_blank, is_plain, uncommented, ended, words_from}
use Rattle.script.specs.Characters.{character_in}
use Rattle.tokens.specs.Numbers as read
use Rattle.script.specs.Lines.{with_word, octets, octets_said, call_said, line_said}
use Rattle.account.specs.Texts.{hex_digit, hex_octet, hex_octets}

-- a written digit is above every mark that a script knows, and is read as what it was written for
record Digit (d : ℕ) : Type 0 where
  high : 48 ≤ hex_digit d
  back : read.hex_digit (hex_digit d) ≡ Some d

digit : (d : ℕ) → d < 16 → Digit d
digit d h = record { high = grind (arith, nat_tests); back = grind (arith, nat_tests) }

plain : (c : ℕ) → 48 ≤ c → (is_blank c ≡ false) × (is_plain c ≡ true)
plain c h = (grind (arith, nat_tests), grind (arith, nat_tests))

-- the two digits of an octet
abbrev digits : ℕ → List ℕ
digits o = hex_digit (o / 16) ∷ hex_digit (o % 16) ∷ []

module _ (o : ℕ) (small : o < 256) where
  high : Digit (o / 16)
  high = digit (o / 16) (omega arith)

  low : Digit (o % 16)
  low = digit (o % 16) (omega arith)

  octet_back : character_in (digits o) ≡ Some (good o)
  octet_back = rw (high.back, low.back) (ap (λ v. Some (good v)) (omega arith))

  no_crc : bytes_eq (digits o) (codes "+crc") ≡ false
  no_crc = let ne : eqb (hex_digit (o / 16)) 43 ≡ false = ne_eqb _ _ (λ e. omega (arith, high.high)) in rw ne

  joins : (cs : List Character) → with_word (Some cs) (digits o) ≡ Some (cs ++ (good o ∷ []))
  joins cs = rw (no_crc, octet_back)

  word_ends : (w rest : List ℕ) → words_from w (hex_octet o ++ rest) ≡ ended w (words_from (digits o) rest)
  word_ends w rest = rw ((plain _ high.high).0, (plain _ low.high).0)

  unmarked : (rest : List ℕ) → prefix_len is_plain (hex_octet o ++ rest) ≡ 3 + prefix_len is_plain rest
  unmarked rest = rw ((plain _ high.high).1, (plain _ low.high).1) (omega arith)

abbrev Octets : List ℕ → Type 0
Octets os = All (λ o. o < 256) os

words_are : (w os : List ℕ) → Octets os → words_from w (hex_octets os) ≡ ended w (map digits os)
words_are w [] small = refl
words_are w (o ∷ os) (first, small) = word_ends o first w (hex_octets os) ∙ ap (ended w) (words_are (digits o) os small)

no_comment : (os : List ℕ) → Octets os → prefix_len is_plain (hex_octets os) ≡ length (hex_octets os)
no_comment [] small = refl
no_comment (o ∷ os) (first, small) = unmarked o first (hex_octets os) ∙ omega (arith, no_comment os small)

all_join : (cs : List Character) (os : List ℕ) → Octets os → fold with_word (Some cs) (map digits os) ≡ Some (cs ++ map good os)
all_join cs [] small = ap Some (sym (append-nil cs))
all_join cs (o ∷ os) (first, small) =
    ap (λ x. fold with_word x (map digits os)) (joins o first cs)
    ∙ all_join (cs ++ (good o ∷ [])) os small
    ∙ ap Some (append_assoc cs (good o ∷ []) (map good os))

pub again : (os : List ℕ) → Octets os → line_said (codes "octets" ++ hex_octets os) ≡ octets (map good os)
again os small =
    let text = codes "octets" ++ hex_octets os in
    let whole : uncommented text ≡ text = take_all (prefix_len is_plain text) text (omega (arith, no_comment os small)) in
    ap (λ t. call_said (words_from [] t)) whole
    ∙ ap call_said (words_are (codes "octets") os small)
    ∙ ap octets_said (all_join [] os small)
