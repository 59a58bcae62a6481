use Rattle.std.proofs.Common.{rules}
use Rattle.line.specs.Memory.{burst_of}
use Rattle.line.proofs.kept.Receiver.frame.Goals as goal

pub returns-in_err-addressed : goal.returns-in_err-addressed
returns-in_err-addressed c = let here = c.addressed.ensures (burst_of c.args.self.now) in search rules

pub returns : goal.returns
returns c = let here = c.addressed.ensures (burst_of c.args.self.now) in search rules
