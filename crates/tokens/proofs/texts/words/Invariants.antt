use Rattle.std.proofs.Common.{vec_items}
use Rattle.tokens.specs.Words.{spelt}
use Rattle.tokens.proofs.Cut.{Sofar}
use Rattle.tokens.proofs.texts.words.Given as goal

abbrev pub invariant-loop-i : goal.invariant-loop-i
invariant-loop-i l = Sofar l.text (spelt (vec_items l.words)) l.start l.i
