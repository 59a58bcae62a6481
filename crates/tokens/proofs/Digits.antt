-- One digit more of a number.
use Rattle.std.proofs.Common.{◌≡◌, ℕ, ◌+◌, ◌-◌, ◌*◌, ◌<◌, cond, ◌&&◌, ltb, List, length, get_or, drop, None}
use Rattle.std.proofs.lemmas.List.{at_drop_more}
use Rattle.tokens.specs.Numbers.{lies, read_on}

pub digit_more : (n : ℕ) (w : List ℕ) (i : ℕ) → i < length w
    → read_on n (drop i w) ≡ cond (lies 48 57 (get_or w i 0) && ltb n 10000) (read_on (10 * n + (get_or w i 0 - 48)) (drop (i + 1) w)) None
digit_more n w i h = at_drop_more (read_on n) w i 0 h
