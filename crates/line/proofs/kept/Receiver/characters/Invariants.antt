use Rattle.std.proofs.Common.{◌≡◌, take}
use Rattle.line.specs.Burst.{more}
use Rattle.line.specs.Memory.{Bounded, burst_of, all_remembered}
use Rattle.line.proofs.kept.Receiver.characters.Given as goal

abbrev pub invariant-loop-character : goal.invariant-loop-character
invariant-loop-character l =
    (burst_of l.self ≡ more (burst_of l.initial.self) (take l.character-index l.characters))
    × (l.self ≡ all_remembered l.initial.self (take l.character-index l.characters))
    × Bounded l.self
