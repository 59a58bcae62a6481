use Rattle.std.proofs.Common.{rules}
use Rattle.std.proofs.lemmas.List.{get_or_past}
use Rattle.words.proofs.RoundTrip.{read_back}
use Rattle.words.proofs.word_at.Goals as goal

pub returns-clause-back : goal.returns-clause-back
returns-clause-back c = read_back (search (rules, get_or_past))
