use Rattle.std.specs.List.{flat_map}
use Rattle.std.specs.Char.Escape.{encode_utf16}
use Rattle.carrier_model.specs.Files.{folded}
use Rattle.cfb_directory.specs.Wanted.{Keeps}
use Rattle.cfb_directory.proofs.wanted.wanted_name.Given as goal

abbrev pub invariant-loop-ch : goal.invariant-loop-ch
invariant-loop-ch l = Keeps l.kept (folded (flat_map encode_utf16 l.yielded))
