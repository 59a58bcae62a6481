-- What a lawful set is, without any order of checks.
use Rattle.std.specs.Prelude.{◌≡◌, ℕ, ◌<◌, ◌≤◌, true, List, slice_index, slice_index_or}
use Rattle.settings.specs.Table.{settings, setting}
use Rattle.settings.specs.Checks.{l_threshold, s_threshold, i_threshold, s_works, i_works}

pub record Lawful (ws : List ℕ) : Type 0 where
  pub not_below : (i : ℕ) → i < 11 → (slice_index_or settings i (setting 0 0 0 0)).low ≤ slice_index ws i
  pub not_above : (i : ℕ) → i < 11 → slice_index ws i ≤ (slice_index_or settings i (setting 0 0 0 0)).high
  pub s_above_l : s_works ws ≡ true → l_threshold ws < s_threshold ws
  pub i_above_s : s_works ws ≡ true → i_works ws ≡ true → s_threshold ws < i_threshold ws
