use Rattle.std.proofs.Common.{◌*◌, rules}
use Rattle.words.specs.Words.{word_at}
use Rattle.store.proofs.Filling.{all_placed}
use Rattle.store.proofs.image.words_in.Goals as goal

pub returns : goal.returns
returns c = all_placed (λ i. word_at c.args.octets.now (2 * i)) (λ i y q k. search rules) c.from_fn.ensures.items
