use Rattle.std.proofs.Common.{◌≡◌, length, take}
use Rattle.std.specs.List.{flat_map}
use Rattle.carrier_model.specs.Totals.{capped}
use Rattle.tnef_props.specs.Written.{text_field}
use Rattle.tnef_props.proofs.sizes.texts_size.Given as goal

abbrev pub invariant-loop-k : goal.invariant-loop-k
invariant-loop-k g l = l.size ≡ capped (length (flat_map (text_field l.null) (take l.k l.list)))
