use Rattle.breaker.specs.Carried.{ticks, ticked}
use Rattle.breaker.proofs.Ticks.{Rest}
use Rattle.breaker.proofs.carry.tick_out.Given as goal

abbrev pub invariant-loop-made : goal.invariant-loop-made
invariant-loop-made g l =
    let t = g.B.Breaker.terms in let figure = g.B.Breaker.figure in let begun = figure l.initial.breaker in
    Rest t l.words l.made (figure l.breaker) (ticks t begun l.words) (ticked t begun l.words)
