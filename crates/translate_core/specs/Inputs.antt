-- Inputs as the definitions have them.
use Rattle.std.specs.Prelude.{Bool, true, false, Option, Some, None}
use Rattle.carrier_model.specs.Meanings.{Meaning}
use Rattle.msg_tree.specs.Whole.{meaning_in}
use Rattle.translate_core.specs.declared.accepting.Input.{Input}
use Rattle.translate_core.specs.declared.accepting.Input.TheVariants as inputs
use Rattle.translate_core.specs.declared.carriers.Carrier.{Carrier}
use Rattle.translate_core.specs.declared.carriers.Carrier.TheVariants.{Msg, Tnef}

-- by whether bytes begin as a compound file, and as a TNEF stream
abbrev pub front_of : Bool → Bool → Option Carrier
front_of true signed = Some Msg
front_of false true = Some Tnef
front_of false false = None

-- it was accepted as a .msg file
abbrev pub is_msg : Input → Bool
is_msg (inputs.Msg accepted) = true
is_msg (inputs.Tnef accepted) = false

-- what was accepted
abbrev pub meaning_of : Input → Meaning
meaning_of (inputs.Msg accepted) = meaning_in accepted
meaning_of (inputs.Tnef accepted) = meaning_in accepted
