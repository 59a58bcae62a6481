use Rattle.std.proofs.Common.{sym, ◌∙◌}
use Rattle.tokens.proofs.Gathering.{one_more, one_wanting, all_gathered}
use Rattle.tokens.proofs.gather.gather.Goals as goal

pub returns-in_err-values : goal.returns-in_err-values
returns-in_err-values g c f finds =
    c.from_residual.ensures ∙ one_wanting f g.row.N c.loop-i.i c.loop-i.values (c.loop-i.invariant f finds) c.loop-i-test.true
    (sym (finds c.loop-i.i c.find.result c.loop-i-test.true c.find.ensures) ∙ c.in_err-values.was)

pub loop-i-preserved : goal.loop-i-preserved
loop-i-preserved g c f finds =
    one_more f g.row.N c.loop-i.i c.loop-i.values (c.loop-i.invariant f finds) c.in_ok-values.field-0 c.loop-i-test.true
    (sym (finds c.loop-i.i c.find.result c.loop-i-test.true c.find.ensures) ∙ c.in_ok-values.was)

pub returns : goal.returns
returns g c f finds = all_gathered f g.row.N c.loop-i.i c.loop-i.values (c.loop-i.invariant f finds) c.loop-i-test.false
