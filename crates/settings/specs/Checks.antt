-- The thirteen checks of a set: the first that fails gives the fail code.
use Rattle.std.specs.Prelude.{ℕ, Bool, true, not, ◌&&◌, ◌||◌, List, [], ◌∷◌, ◌++◌, is_some, Option, ◌==◌, nat_le, nat_lt, slice_index}
use Rattle.outcome.specs.Checks.{Check, check, first_failing}
use Rattle.settings.specs.declared.table.Setting.{Setting}
use Rattle.settings.specs.Table.{settings}

abbrev pub is_outside : Setting → ℕ → Bool
is_outside s w = nat_lt w s.low || nat_lt s.high w

-- each word lies in its range; one that is wanting lies in none
abbrev pub range_checks : List Setting → List ℕ → List (Check ℕ)
range_checks [] ws = []
range_checks (s ∷ ss) [] = check true s.code ∷ range_checks ss []
range_checks (s ∷ ss) (w ∷ ws) = check (is_outside s w) s.code ∷ range_checks ss ws

abbrev pub l_threshold : List ℕ → ℕ
l_threshold ws = slice_index ws 0

abbrev pub s_threshold : List ℕ → ℕ
s_threshold ws = slice_index ws 4

abbrev pub i_threshold : List ℕ → ℕ
i_threshold ws = slice_index ws 7

-- not disabled
abbrev pub s_works : List ℕ → Bool
s_works ws = slice_index ws 2 == 0

abbrev pub i_works : List ℕ → Bool
i_works ws = slice_index ws 6 == 0

-- a faster protection has a higher threshold, as far as it is not disabled
abbrev pub order_checks : List ℕ → List (Check ℕ)
order_checks ws =
    check (s_works ws && nat_le (s_threshold ws) (l_threshold ws)) 31
    ∷ check (s_works ws && (i_works ws && nat_le (i_threshold ws) (s_threshold ws))) 32
    ∷ []

-- the code of the first failing check; none for a lawful set
abbrev pub fail_code : List ℕ → Option ℕ
fail_code ws = first_failing (range_checks settings ws ++ order_checks ws)

abbrev pub is_lawful : List ℕ → Bool
is_lawful ws = not (is_some (fail_code ws))
