-- What the items of a list mean.
use Rattle.std.specs.Prelude.{ℕ, List}
use Rattle.std.specs.Borrow.{Bor}
use Rattle.tnef_model.specs.TnefLists as lists
use Rattle.carrier_model.specs.Values as plain
use Rattle.prop_values.specs.Meaning.{value_of}
use Rattle.prop_values.specs.declared.values.Value.{Value}
use Rattle.tnef_props.specs.declared.object.Object.{Object}
use Rattle.tnef_props.specs.declared.items.Item.{Item}
use Rattle.tnef_props.specs.declared.items.Item.TheVariants.{Kept, Passed, Carried}

abbrev pub item_of : Item → lists.Item
item_of (Kept p) = lists.kept p
item_of (Passed tag offset) = lists.passed tag offset
item_of (Carried o) = lists.carried o.offset o.bytes.now

abbrev pub object_of : Object → ℕ × List ℕ
object_of o = (o.offset, o.bytes.now)

-- the plain value of a value over slices
abbrev pub seen : Value (Bor (List ℕ)) → plain.Value
seen = value_of (λ s. s.now)
