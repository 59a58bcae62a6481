-- The table of causes: each with its number, its layer, the exception code that is sent for it and the place that it tells.
use Rattle.std.specs.Prelude.{ℕ, ◌-◌, Some, None, Option}
use Rattle.outcome.specs.declared.causes.Layer.{Layer}
use Rattle.outcome.specs.declared.causes.Cause.{Cause}
use Rattle.outcome.specs.declared.faults.Fault.{Fault}

-- what a cause points at
pub data Place : Type 0 where
  -- nothing: the call was refused before any burst was looked at
  nowhere : Place
  -- the octet of this index
  octet : ℕ → Place
  -- the first octet whose parity is bad
  first_bad : Place
  -- the index behind the last octet
  end : Place
  -- the first of the two CRC octets
  crc_octets : Place
  -- the first octet of the first value written
  value : Place
  -- the address that the request starts at
  start : Place

pub record Entry : Type 0 where
  pub number : ℕ
  pub layer : Layer
  pub code : Option ℕ
  pub place : Place

abbrev pub is : ℕ → Layer → Option ℕ → Place → Entry
is number layer code place = record { number = number; layer = layer; code = code; place = place }

abbrev pub entry : Cause → Entry
entry Cause.ShortBuffer = is 1 Layer.Entry None nowhere
entry Cause.BadInputs = is 2 Layer.Entry None nowhere
entry Cause.ShortTransmit = is 3 Layer.Entry None nowhere
entry Cause.BadParity = is 12 Layer.Line None first_bad
entry Cause.Overlong = is 13 Layer.Line None (octet 256)
entry Cause.TooShort = is 14 Layer.Line None end
entry Cause.WrongCrc = is 15 Layer.Line None crc_octets
entry Cause.OtherAddress = is 16 Layer.Line None (octet 0)
entry Cause.BroadcastFunction = is 17 Layer.Line None (octet 1)
entry Cause.UnknownFunction = is 21 Layer.Request (Some 1) (octet 1)
entry Cause.WrongLength = is 22 Layer.Request (Some 3) end
entry Cause.WrongSubFunction = is 23 Layer.Request (Some 3) (octet 2)
entry Cause.WrongCount = is 24 Layer.Request (Some 3) (octet 4)
entry Cause.WrongByteCount = is 25 Layer.Request (Some 3) (octet 6)
entry Cause.NoBuffer = is 26 Layer.Request (Some 2) (octet 2)
entry Cause.LeavesBuffer = is 27 Layer.Request (Some 3) (octet 4)
entry Cause.WrongValue = is 28 Layer.Request (Some 3) value
entry Cause.ConditionNotMet = is 31 Layer.Device (Some 6) start
entry Cause.HandNotEmpty = is 32 Layer.Device (Some 6) start
entry Cause.OrderBarred = is 33 Layer.Device (Some 6) start
entry Cause.LocalMode = is 34 Layer.Device (Some 6) start
entry Cause.StoreBusy = is 35 Layer.Device (Some 6) start
entry Cause.NothingToShow = is 36 Layer.Device (Some 4) start
entry Cause.UnlawfulCopy = is 37 Layer.Device (Some 4) start

abbrev pub number_of : Cause → ℕ
number_of c = (entry c).number

abbrev pub layer_of : Cause → Layer
layer_of c = (entry c).layer

abbrev pub code_of : Cause → Option ℕ
code_of c = (entry c).code

-- what the places of a burst are read from
pub record Points : Type 0 where
  pub first_bad : ℕ
  pub length : ℕ
  pub value : ℕ
  pub start : ℕ

abbrev pub place_in : Points → Place → ℕ
place_in p nowhere = 0
place_in p (octet i) = i
place_in p first_bad = p.first_bad
place_in p end = p.length
place_in p crc_octets = p.length - 2
place_in p value = p.value
place_in p start = p.start

-- the place that a cause tells of a burst
abbrev pub place_of : Points → Cause → ℕ
place_of p c = place_in p (entry c).place

-- a fault is told in the layer of its cause
abbrev pub fault_at : Cause → ℕ → Fault
fault_at c place = record { layer = layer_of c; cause = c; place = place }
