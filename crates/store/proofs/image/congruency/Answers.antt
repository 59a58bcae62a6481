use Rattle.std.proofs.Common.{◌≡◌, ◌+◌, ◌%◌, fold, rules, ◌∙◌, arith}
use Rattle.std.proofs.iter.runs.Made.{chains}
use Rattle.store.proofs.Sums.{wrapped}
use Rattle.store.proofs.image.congruency.Goals as goal

pub returns : goal.returns
returns c =
    let e : c.fold.result ≡ fold (λ s o. (s + o) % 256) 0x55 c.args.octets.now = search (rules, chains) in
    e ∙ wrapped c.args.octets.now 0x55 (omega arith)
