use Rattle.std.proofs.Common.{arith, rules}
use Rattle.breaker.proofs.Ticks.{one_more, no_more, all_made}
use Rattle.breaker.proofs.carry.tick_out.Goals as goal

pub returns-then-is_none : goal.returns-then-is_none
returns-then-is_none g c =
    let p = no_more c.loop-made-test.true (search rules) c.loop-made.invariant in
    record { told = p.0; after = p.1 }

pub loop-made-preserved : goal.loop-made-preserved
loop-made-preserved g c = one_more c.loop-made-test.true (search rules) c.tick.ensures c.loop-made.invariant

pub returns : goal.returns
returns g c =
    let p = all_made c.loop-made-test.false c.loop-made.invariant in
    record { told = omega (arith, p.0); after = p.1 }
