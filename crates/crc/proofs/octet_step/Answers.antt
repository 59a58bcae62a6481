use Rattle.std.proofs.Common.{ap, ◌∙◌}
use Rattle.crc.specs.Crc.{bit_step, bit_steps, octet_step}
use Rattle.crc.proofs.Table.{table, by_table}
use Rattle.crc.proofs.octet_step.Goals as goal

-- here the whole table is computed from its rule
pub returns : goal.returns
unfolding bit_steps bit_step table
returns c =
    by_table c.args.remainder c.from.result c.from-2.result c.from-2.ensures
    ∙ ap (octet_step c.args.remainder) c.from.ensures
