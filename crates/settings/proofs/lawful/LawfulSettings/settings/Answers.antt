use Rattle.settings.proofs.LawfulSets.{lawful}
use Rattle.settings.proofs.lawful.LawfulSettings.settings.Goals as goal

pub returns-clause-lawful : goal.returns-clause-lawful
returns-clause-lawful c = lawful c.self.inside.settings.words c.self.invariant.0 c.self.invariant.1
