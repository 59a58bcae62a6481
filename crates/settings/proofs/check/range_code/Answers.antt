use Rattle.std.proofs.Common.{rules, tests}
use Rattle.std.proofs.lemmas.Iterator.{YieldsList-from_slice, YieldsList-from_zip}
use Rattle.std.proofs.lemmas.Iterator.Search.{find_from_yields_List}
use Rattle.settings.specs.Table.{settings}
use Rattle.settings.specs.Checks.{is_outside}
use Rattle.settings.proofs.Ranges.{first_code}
use Rattle.settings.proofs.check.range_code.Goals as goal

pub returns : goal.returns
returns c =
    first_code settings c.args.words.now (search rules) (λ p. (p.0.now, p.1.now)) c.find.result
    (search (rules, tests))
    (find_from_yields_List (λ p. is_outside p.0 p.1) c.find.new.self _ _ c.find.ensures.ran (YieldsList-from_zip (YieldsList-from_slice settings cc) (YieldsList-from_slice c.args.words.now cc)) (λ x b q k. search (rules, tests)))
