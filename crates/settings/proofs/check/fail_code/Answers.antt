use Rattle.std.proofs.Common.{◌≡◌, rules, sym, ◌∙◌}
use Rattle.std.specs.Option.{option_or}
use Rattle.outcome.specs.Checks.{first_failing}
use Rattle.settings.specs.Table.{settings}
use Rattle.settings.specs.Checks.{range_checks, order_checks}
use Rattle.settings.proofs.Joined.{joined}
use Rattle.settings.proofs.check.fail_code.Goals as goal

pub returns : goal.returns
returns c =
    let e : c.or_else.result ≡ option_or (first_failing (range_checks settings c.args.words.now)) (first_failing (order_checks c.args.words.now)) = search rules in
    e ∙ sym (joined (range_checks settings c.args.words.now) (order_checks c.args.words.now))
