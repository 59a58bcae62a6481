use Rattle.std.proofs.Common.{◌≡◌, [], ap, ◌∙◌, rules}
use Rattle.std.proofs.lemmas.List.{take_all}
use Rattle.line.specs.declared.characters.Character.{Character}
use Rattle.line.specs.declared.characters.Parity.{Parity}
use Rattle.line.specs.Burst.{one_more, more}
use Rattle.line.specs.Memory.{burst_of, remembered}
use Rattle.line.proofs.Folds.{one_turn}
use Rattle.line.proofs.Whole.{whole}
use Rattle.line.proofs.kept.Receiver.characters.Goals as goal

pub loop-character-preserved : goal.loop-character-preserved
loop-character-preserved c =
    let cs = c.args.characters.now in
    let i = c.loop-character.character-index in
    let d : Character = record { value = 0; parity = Parity.Good } in
    let within = c.loop-character-test.true in (
      one_turn one_more _ _ _ cs i d within c.loop-character.invariant.0 c.octet.ensures.burst,
      one_turn remembered _ _ _ cs i d within c.loop-character.invariant.1 c.octet.ensures.memory,
      c.octet.ensures.bounded.1,
    )

pub returns : goal.returns
returns c =
    let told : burst_of c.loop-character.self ≡ more (burst_of c.args.self.now) c.args.characters.now = search (rules, take_all) in
    record {
      burst = told;
      memory = search (rules, take_all);
      bounded = (search rules, c.loop-character.invariant.2);
      whole = λ empty. told ∙ ap (λ b. more b c.args.characters.now) empty ∙ whole [] c.args.characters.now;
    }
