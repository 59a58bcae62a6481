use Rattle.std.proofs.Common.{vec_items, ap, ◌∙◌, false-eqb}
use Rattle.tokens.specs.Words.{spelt}
use Rattle.tokens.proofs.Cut.{word_joins}
use Rattle.tokens.proofs.texts.end_word.Goals as goal

pub returns : goal.returns
returns c =
    ap spelt c.in_ok-push.ensures.items
    ∙ word_joins (vec_items c.args.words.now) c.args.word (false-eqb _ 0 c.if-is_empty.ensures)
