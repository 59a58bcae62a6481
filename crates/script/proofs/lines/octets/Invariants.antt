use Rattle.std.proofs.Common.{◌≡◌, [], drop, Some, vec_items, fold}
use Rattle.tokens.specs.Words.{spelt}
use Rattle.script.specs.Lines.{with_word}
use Rattle.script.proofs.lines.octets.Given as goal

abbrev pub invariant-loop-word : goal.invariant-loop-word
invariant-loop-word l = fold with_word (Some (vec_items l.characters)) (spelt (drop l.word-index l.words)) ≡ fold with_word (Some []) (spelt l.words)
