use Rattle.std.proofs.Common.{rules}
use Rattle.settings.proofs.LawfulSets.{passes}
use Rattle.settings.proofs.words.Settings.check.Goals as goal

pub returns-in-Some : goal.returns-in-Some
returns-in-Some c = search (rules, passes)
