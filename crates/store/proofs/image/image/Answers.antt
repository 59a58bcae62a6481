use Rattle.std.proofs.Common.{rules}
use Rattle.words.specs.Words.{octet_at}
use Rattle.store.proofs.Filling.{all_placed}
use Rattle.store.proofs.Images.{image_made}
use Rattle.store.proofs.image.image.Goals as goal

pub returns : goal.returns
returns c =
    image_made c.args.words.now (search rules)
    (all_placed (octet_at c.args.words.now) (λ i y q k. search rules) c.from_fn-octets.ensures.items)
    (search rules)
