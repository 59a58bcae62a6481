-- The checks of a burst, and what the line makes of it.
use Rattle.std.specs.Prelude.{ℕ, ◌+◌, ◌-◌, ◌*◌, Bool, true, false, cond, not, ◌&&◌, ◌||◌, List, [], ◌∷◌, ◌++◌, length, take, Some, None, Ok, Err, Option, Result, ◌==◌, nat_lt, slice_index}
use Rattle.std.specs.List.{prefix_len}
use Rattle.crc.specs.Crc.{crc_of}
use Rattle.outcome.specs.declared.causes.Cause.{Cause}
use Rattle.outcome.specs.Causes.{Points, place_of}
use Rattle.outcome.specs.Checks.{Check, check, first_failing}
use Rattle.line.specs.declared.characters.Parity.{Parity}
use Rattle.line.specs.declared.faults.LineFault.{LineFault}
use Rattle.line.specs.Frames.{address_of, function_of, is_broadcast}
use Rattle.words.specs.Words.{word_at}
use Rattle.line.specs.Burst.{Burst}

abbrev pub is_good : Parity → Bool
is_good Parity.Good = true
is_good Parity.Bad = false

-- how many octets come before the first whose parity is bad
abbrev pub good_marks : List Parity → ℕ
good_marks ps = prefix_len is_good ps

-- 06h and 10h write, and only they are broadcast
abbrev pub is_write : ℕ → Bool
is_write f = f == 0x06 || f == 0x10

-- a frame is what stands before the CRC: address, function and data
abbrev pub frame_of : List ℕ → List ℕ
frame_of os = take (length os - 2) os

-- the last two octets, low octet first
abbrev pub crc_carried : List ℕ → ℕ
crc_carried os =
    let n = length os - 2 in
    slice_index os n + 256 * slice_index os (n + 1)

-- they are the CRC of those before
abbrev pub crc_fits : List ℕ → Bool
crc_fits os = crc_of (frame_of os) == crc_carried os

-- address, function and CRC are four
abbrev pub is_too_short : List ℕ → Bool
is_too_short os = nat_lt (length os) 4

-- octets as a frame and the CRC that it carries, unless they are too short
abbrev pub parted : List ℕ → Option (List ℕ × ℕ)
parted os = cond (is_too_short os) None (Some (frame_of os, crc_carried os))

-- a burst is sound if it passes these
abbrev pub damage_checks : Burst → List (Check Cause)
damage_checks b =
    let os = b.octets in
    check (nat_lt (good_marks b.marks) (length b.marks)) Cause.BadParity
    ∷ check b.overlong Cause.Overlong
    ∷ check (is_too_short os) Cause.TooShort
    ∷ check (not (crc_fits os)) Cause.WrongCrc
    ∷ []

-- a frame is for the station with this address if it passes these
abbrev pub address_checks : ℕ → List ℕ → List (Check Cause)
address_checks address os =
    check (not (address_of os == address) && not (is_broadcast os)) Cause.OtherAddress
    ∷ check (is_broadcast os && not (is_write (function_of os))) Cause.BroadcastFunction
    ∷ []

abbrev pub line_check : ℕ → Burst → Option Cause
line_check address b = first_failing (damage_checks b ++ address_checks address (frame_of b.octets))

-- what the places of a fault are read from: 10h has its values behind a byte count
abbrev pub points_of : Burst → Points
points_of b = record {
  first_bad = good_marks b.marks;
  length = length b.octets;
  value = cond (function_of b.octets == 0x10) 7 4;
  start = word_at b.octets 2;
}

abbrev pub line_fault : Burst → Cause → LineFault
line_fault b c = record { cause = c; place = place_of (points_of b) c }

abbrev pub judged : {A : Type 0} → Burst → A → Option Cause → Result A LineFault
judged b a None = Ok a
judged b a (Some c) = Err (line_fault b c)

-- a burst without octets is idle: there is no frame, and nothing is wrong
abbrev pub reception : ℕ → Burst → Result (Option (List ℕ)) LineFault
reception address b =
    cond (length b.octets == 0) (Ok None)
    (judged b (Some (frame_of b.octets)) (line_check address b))
