use Rattle.std.proofs.Common.{◌≡◌, ℕ, ◌<◌, Option}
use Rattle.tokens.proofs.Gathering.{Gathering}
use Rattle.tokens.proofs.gather.gather.Given as goal

abbrev pub invariant-loop-i : goal.invariant-loop-i
invariant-loop-i g l =
    (f : ℕ → Option g.row.T.Denot) → ((i : ℕ) (found : Option g.row.T.Denot) → i < l.i-end → goal.F-post g l.fn.find i found → found ≡ f i) → Gathering f l.i-end l.i l.values
