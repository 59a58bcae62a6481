use Rattle.std.proofs.Common.{arith, rules}
use Rattle.std.proofs.lemmas.List.{drop_all}
use Rattle.std.proofs.lemmas.Bool.Decides.{nat_tests}
use Rattle.tokens.proofs.Digits.{digit_more}
use Rattle.tokens.proofs.numbers.number.Goals as goal

pub returns-then-not-is_ascii_digit : goal.returns-then-not-is_ascii_digit
returns-then-not-is_ascii_digit c = grind (arith, nat_tests, digit_more c.loop-c.n c.args.word.now c.loop-c.c-index (omega arith))

pub loop-c-preserved : goal.loop-c-preserved
loop-c-preserved c = grind (arith, nat_tests, digit_more c.loop-c.n c.args.word.now c.loop-c.c-index (omega arith))

pub returns : goal.returns
returns c = search (rules, drop_all)
