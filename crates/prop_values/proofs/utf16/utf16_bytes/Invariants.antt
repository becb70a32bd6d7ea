use Rattle.std.proofs.Common.{◌≡◌}
use Rattle.std.specs.List.{flat_map}
use Rattle.std.specs.Char.Escape.{encode_utf16}
use Rattle.carrier_model.specs.Bytes.{unit_bytes}
use Rattle.prop_values.proofs.utf16.utf16_bytes.Given as goal

abbrev pub invariant-loop-character : goal.invariant-loop-character
invariant-loop-character l = l.bytes.items ≡ unit_bytes (flat_map encode_utf16 l.yielded)
