-- The calls of a station that only listens.
use Rattle.std.specs.Prelude.{ℕ, Bool, cond, ◌||◌, List, Ok, Err, Option, Result, ◌==◌, nat_lt}
use Rattle.outcome.specs.declared.causes.Cause.{Cause}
use Rattle.outcome.specs.declared.faults.Fault.{Fault}
use Rattle.outcome.specs.Causes.{fault_at}
use Rattle.line.specs.declared.faults.LineFault.{LineFault}
use Rattle.line.specs.Burst.{no_burst, more}
use Rattle.line.specs.Line.{reception}
use Rattle.script.specs.Lines.{Said, blank, station, octets, silence, unknown}
use Rattle.account.specs.declared.heard.Unheard.{Unheard}
use Rattle.account.specs.State.{Listening, listening}

-- an address outside 1 to 247 becomes 247
abbrev pub address_in : ℕ → ℕ
address_in a = cond (a == 0 || nat_lt 247 a) 247 a

abbrev pub opened : ℕ → Listening
opened a = listening (address_in a) no_burst

-- a fault of the line goes up with nothing lost
abbrev pub passed : {A : Type 0} → Result A LineFault → Result A Fault
passed (Ok a) = Ok a
passed (Err e) = Err (fault_at e.cause e.place)

-- what a silence tells: nothing was heard, a frame for this station, by its octets without the CRC, or why there is none
abbrev pub Told : Type 0
Told = Result (Option (List ℕ)) Unheard

abbrev pub received : Result (Option (List ℕ)) Fault → Told
received (Ok frame) = Ok frame
received (Err f) = Err (Unheard.Fault f)

-- an answer buffer under 32 octets is refused
abbrev pub is_short : ℕ → Bool
is_short room = nat_lt room 32

abbrev pub silence_tells : Listening → ℕ → Told
silence_tells h room = cond (is_short room) (Err (Unheard.Refused Cause.ShortBuffer)) (received (passed (reception h.address h.burst)))

-- a refused silence changes nothing, any other ends the burst
abbrev pub silence_leaves : Listening → ℕ → Listening
silence_leaves h room = cond (is_short room) h (listening h.address no_burst)

-- after a line of a script
abbrev pub next : Listening → Said → Listening
next h blank = h
next h (station a) = opened a
next h (octets cs) = listening h.address (more h.burst cs)
next h (silence room) = silence_leaves h room
next h unknown = h
