-- What holds of the table of causes as a whole.
use Rattle.std.specs.Prelude.{ℕ, Bool, true, false, cond, nat_lt}
use Rattle.outcome.specs.declared.causes.Layer.{Layer}

-- the layers have their numbers one after the other: to 11, to 20, to 30, and from 31 on
abbrev pub layer_numbered : ℕ → Layer
layer_numbered n = cond (nat_lt n 12) Layer.Entry (cond (nat_lt n 21) Layer.Line (cond (nat_lt n 31) Layer.Request Layer.Device))

-- a burst that fails on the line is not answered, one that fails behind it is
abbrev pub is_answered : Layer → Bool
is_answered Layer.Entry = false
is_answered Layer.Line = false
is_answered Layer.Request = true
is_answered Layer.Device = true
