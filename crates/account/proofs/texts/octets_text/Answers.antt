use Rattle.std.proofs.Common.{◌≡◌, ◌<◌, ◌++◌, get_or, string_bytes, codes, ap, ◌∙◌, lit<, rules}
use Rattle.std.proofs.ByRecursion.{All-from_get_or}
use Rattle.std.proofs.lemmas.List.{take_all}
use Rattle.script.specs.Lines.{line_said}
use Rattle.account.specs.Texts.{hex_octet, hex_octets}
use Rattle.account.proofs.Again.{again}
use Rattle.account.proofs.Pushes.{three, octet_more}
use Rattle.account.proofs.texts.octets_text.Goals as goal

pub loop-octet-preserved : goal.loop-octet-preserved
loop-octet-preserved c =
    let i = c.loop-octet.octet-index in
    let small = (c.type_inv.octets i).fits in
    let one = c.in_ok-push.ensures in
    let two = c.in_ok-push-2.ensures in
    let last = c.in_ok-push-3.ensures in
    let high = two.ascii c.hex_digit.ensures.ascii in
    let low = last.ascii c.hex_digit-in-loop-octet.ensures.ascii in
    let written : _ ≡ string_bytes c.loop-octet.text ++ hex_octet (get_or c.args.octets.now i 0) = rw (← c.hex_digit.ensures.value, ← c.hex_digit-in-loop-octet.ensures.value) (three (string_bytes c.loop-octet.text) _ _ _ _ _ _ _ _ _ one.bytes (one.ascii (lit< tt)) two.bytes high last.bytes low) in
    octet_more c.args.octets.now i _ _ c.loop-octet-test.true c.loop-octet.invariant written

pub returns : goal.returns
returns c =
    let value : string_bytes c.loop-octet.text ≡ hex_octets c.args.octets.now = search (rules, take_all) in
    let small = All-from_get_or (λ o. o < 256) c.args.octets.now 0 (λ i h. (c.type_inv.octets i).fits) in
    record { value = value; again = ap (λ text. line_said (codes "octets" ++ text)) value ∙ again c.args.octets.now small }
