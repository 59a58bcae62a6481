use Rattle.std.proofs.Common.{rules}
use Rattle.breaker.proofs.CarriedOuts.{carried_out}
use Rattle.breaker.proofs.carry.carry_out.Goals as goal

pub returns : goal.returns
returns g c = record {
  told = search rules;
  after = search rules;
  hand = carried_out _ g.met.B.Breaker.laws _ _ _ _ _ _ c.in_ok-take.ensures.told c.take.ensures.after c.tick_out.ensures.told c.tick_out.ensures.after;
}
