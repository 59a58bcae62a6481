use Rattle.std.proofs.Common.{sym, arith}
use Rattle.tokens.proofs.Cut.{none_yet, word_goes_on, word_ends, all_found}
use Rattle.tokens.proofs.texts.words.Goals as goal
use Rattle.tokens.proofs.texts.words.Goals.{then-is_blank+in_ok-end_word, else-is_blank}

pub loop-i-init : goal.loop-i-init
loop-i-init c = rw c.new-words.ensures.items (none_yet c.args.text.now)

pub loop-i-preserved : goal.loop-i-preserved
loop-i-preserved c =
    elim c.if-is_blank.branch [
      | then-is_blank+in_ok-end_word w ↦
          rw (w.words-is, w.start-is) (word_ends _ _ _ _ c.loop-i.invariant c.loop-i-test.true (sym w.if-is_blank.ensures) _ w.in_ok-end_word.ensures)
      | else-is_blank w ↦
          rw (w.words-is, w.start-is) (word_goes_on _ _ _ _ c.loop-i.invariant c.loop-i-test.true (sym w.if-is_blank.ensures))
    ]

pub returns : goal.returns
returns c = all_found _ _ _ _ c.loop-i.invariant (omega arith) _ c.in_ok-end_word-2.ensures
