use Rattle.std.proofs.Common.{◌≡◌, ◌++◌, ap, ◌∙◌, rules}
use Rattle.crc.specs.Crc.{crc_from, low_first}
use Rattle.crc.proofs.Joined.{goes_on, closed}
use Rattle.crc.proofs.crc_from.Goals as goal

pub returns : goal.returns
returns c =
    let os = c.args.octets.now in
    let value : c.fold.result ≡ crc_from c.args.remainder os = search rules in
    record {
      value = value;
      joined = λ start before e. value ∙ ap (λ r. crc_from r os) e ∙ goes_on before os start;
      closes = ap (λ r. crc_from c.args.remainder (os ++ low_first r)) value ∙ closed os c.args.remainder;
    }
