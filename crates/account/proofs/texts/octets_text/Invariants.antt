use Rattle.std.proofs.Common.{◌≡◌, take, string_bytes}
use Rattle.account.specs.Texts.{hex_octets}
use Rattle.account.proofs.texts.octets_text.Given as goal

abbrev pub invariant-loop-octet : goal.invariant-loop-octet
invariant-loop-octet l = string_bytes l.text ≡ hex_octets (take l.octet-index l.octets)
