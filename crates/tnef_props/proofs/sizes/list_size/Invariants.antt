use Rattle.std.proofs.Common.{◌≡◌, ℕ, ◌+◌, List, Option, length, take}
use Rattle.std.specs.Option.{option_map}
use Rattle.carrier_model.specs.Keys.{Name}
use Rattle.carrier_model.specs.Totals.{capped}
use Rattle.tnef_model.specs.TnefCanonical.{props_bytes}
use Rattle.tnef_props.specs.Written.{object_length}
use Rattle.tnef_props.proofs.sizes.list_size.Given as goal

abbrev pub invariant-loop-k : goal.invariant-loop-k
invariant-loop-k g l = (names : List Name) (content : Option (List ℕ)) → option_map (λ (x : List ℕ). capped (length x)) content ≡ l.fn.object → l.size ≡ capped (4 + (object_length content + length (props_bytes names (take l.k l.props))))
