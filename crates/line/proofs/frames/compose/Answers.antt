use Rattle.std.proofs.Common.{◌≡◌, ◌/◌, ◌%◌, get_or, ap, arith, rules}
use Rattle.line.proofs.Laid.{laid}
use Rattle.line.proofs.Sound.{frame_sound}
use Rattle.line.proofs.frames.compose.Goals as goal

pub returns-then-buffer-lt2 : goal.returns-then-buffer-lt2
returns-then-buffer-lt2 c = record { value = search rules; sound = frame_sound c.args.octets.now }

pub returns : goal.returns
returns c =
    let low : get_or c.to_le_bytes.result 0 0 ≡ c.crc_of.result % 256 = ap (λ xs. get_or xs 0 0) c.to_le_bytes.ensures in
    let high : get_or c.to_le_bytes.result 1 0 ≡ c.crc_of.result / 256 = omega (arith, ap (λ xs. get_or xs 1 0) c.to_le_bytes.ensures) in
    record { value = search (rules, laid); sound = frame_sound c.args.octets.now }
