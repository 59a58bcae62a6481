use Rattle.std.proofs.Common.{◌≡◌, refl, ap, ◌∙◌}
use Rattle.std.proofs.lemmas.Bool.{eqb-true}
use Rattle.store.specs.Stores.{opened}
use Rattle.store.proofs.Behind.{recalled}
use Rattle.store.proofs.Damage.{seen}
use Rattle.store.proofs.memory.EepromStore.open.Goals as goal

pub returns : goal.returns
returns c =
    let after : _ ≡ opened c.args.octets = rw (c.words_in-words.ensures, c.congruency.ensures) in
    record {
      after = after;
      held = refl;
      recalled = λ ws old h k e. after ∙ ap opened e ∙ recalled ws old h k;
      damage = λ os i v size sound h old new other e. ap (λ k. k.sound) (after ∙ ap opened e) ∙ seen os i v size (eqb-true _ _ sound) old new other h;
    }
