use Rattle.std.proofs.Common.{refl, rules}
use Rattle.settings.specs.Table.{setting}
use Rattle.settings.proofs.Mapped.{mapped}
use Rattle.settings.proofs.lawful.LawfulSettings.factory.Goals as goal

pub returns : goal.returns
returns c = mapped (λ s. s.factory) (setting 0 0 0 0) refl c.map-words.ensures.items (λ x y p q e. search rules)
