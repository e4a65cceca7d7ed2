-- The numbers that users know causes and layers by. Given once, here.
use Rattle.std.specs.Prelude.{ℕ, List, ◌∷◌, ◌++◌, decimal}
use Rattle.faults.specs.declared.Cause.{Cause}
use Rattle.faults.specs.declared.Cause.TheVariants.{TextTooLong, UnexpectedByte, TextTooShort, TooManyOperators, FileTooShort, BadMark, BadRecord, TrailingBytes, NoSuchArgument, BadLeadIn, DrawingFull, AlreadyJoined, NotJoined, TooManyNodes, ListTooShort, NoStart}
use Rattle.faults.specs.declared.Layer.{Layer}
use Rattle.faults.specs.declared.Layer.TheVariants.{Rule, File, Drawing, Check}
use Rattle.faults.specs.declared.Fault.{Fault}

abbrev pub cause_number : Cause → ℕ
cause_number TextTooLong = 11
cause_number UnexpectedByte = 12
cause_number TextTooShort = 13
cause_number TooManyOperators = 14
cause_number FileTooShort = 15
cause_number BadMark = 16
cause_number BadRecord = 17
cause_number TrailingBytes = 18
cause_number NoSuchArgument = 19
cause_number BadLeadIn = 20
cause_number DrawingFull = 31
cause_number AlreadyJoined = 32
cause_number NotJoined = 33
cause_number TooManyNodes = 34
cause_number ListTooShort = 35
cause_number NoStart = 36

abbrev pub layer_number : Layer → ℕ
layer_number Rule = 1
layer_number File = 2
layer_number Drawing = 3
layer_number Check = 4

-- how a refusal is shown: cause, place and layer, as decimal numbers with a blank (byte 32) between
abbrev pub fault_text : Fault → List ℕ
fault_text f = decimal (cause_number f.cause) ++ (32 ∷ (decimal f.place ++ (32 ∷ decimal (layer_number f.layer))))
