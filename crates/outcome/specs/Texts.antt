-- Layers and faults as they are printed.
use Rattle.std.specs.Prelude.{ℕ, List, ◌++◌, codes, decimal}
use Rattle.outcome.specs.declared.causes.Layer.{Layer}
use Rattle.outcome.specs.declared.faults.Fault.{Fault}
use Rattle.outcome.specs.Causes.{number_of}

abbrev pub layer_name : Layer → List ℕ
layer_name Layer.Entry = codes "entry"
layer_name Layer.Line = codes "line"
layer_name Layer.Request = codes "request"
layer_name Layer.Device = codes "device"

abbrev pub fault_text : Fault → List ℕ
fault_text f = codes "fault " ++ (layer_name f.layer ++ (codes " " ++ (decimal (number_of f.cause) ++ (codes " at " ++ decimal f.place))))
