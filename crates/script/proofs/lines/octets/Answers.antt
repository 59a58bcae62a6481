use Rattle.std.proofs.Common.{◌+◌, drop, Some, None, vec_items, fold, sym, ap, ◌∙◌}
use Rattle.std.specs.Option.{option_map}
use Rattle.tokens.specs.Words.{spelt}
use Rattle.script.specs.Lines.{with_word, octets_said}
use Rattle.script.proofs.Gathered.{word_more, none_stays, all_gathered}
use Rattle.script.proofs.lines.octets.Goals as goal

pub returns-in_default : goal.returns-in_default
returns-in_default c =
    let none = ap (option_map (λ v. vec_items v)) (sym c.in_default.is) ∙ c.in_ok-more.ensures in
    ap octets_said (sym (none_stays (spelt (drop (c.loop-word.word-index + 1) c.args.words.now))) ∙ word_more (Some (vec_items c.loop-word.characters)) None c.args.words.now c.loop-word.word-index _ c.loop-word-test.true none ∙ c.loop-word.invariant)

pub loop-word-init : goal.loop-word-init
loop-word-init c = ap (λ cs. fold with_word (Some cs) (spelt c.args.words.now)) c.new-characters.ensures.items

pub loop-word-preserved : goal.loop-word-preserved
loop-word-preserved c =
    let some = ap (option_map (λ v. vec_items v)) (sym c.in-Some.is) ∙ c.in_ok-more.ensures in
    word_more (Some (vec_items c.loop-word.characters)) _ c.args.words.now c.loop-word.word-index _ c.loop-word-test.true some ∙ c.loop-word.invariant

pub returns : goal.returns
returns c = ap octets_said (sym (all_gathered _ c.args.words.now c.loop-word.word-index c.loop-word-test.false) ∙ c.loop-word.invariant)
