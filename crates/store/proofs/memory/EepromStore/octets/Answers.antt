use Rattle.std.proofs.Common.{get_or, refl, ap, ◌∙◌}
use Rattle.store.proofs.Behind.{octet_behind}
use Rattle.store.proofs.memory.EepromStore.octets.Goals as goal

pub returns : goal.returns
returns c = record {
  value = refl;
  behind = λ n ws old l h k e i j. ap (λ os. get_or os i 0) e ∙ octet_behind n ws old l h k i j;
}
