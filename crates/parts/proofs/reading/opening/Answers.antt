use Rattle.std.proofs.Common.{rules}
use Rattle.std.proofs.lemmas.List.{take_all}
use Rattle.parts.proofs.Ends.{opened}
use Rattle.parts.proofs.reading.opening.Goals as goal

-- by search, and with the law on a part that is the whole, so that only another opening is refused and no other way to write it
pub returns-in-len3-up : goal.returns-in-len3-up
returns-in-len3-up c = search (rules, take_all, opened)
