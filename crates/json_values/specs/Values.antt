-- The JSON that a value stands for.
use Rattle.std.specs.Prelude.{ℕ, List, [], map, Option, Some, None, Box, Vec}
use Rattle.std.specs.Global.{Global}
use Rattle.std.specs.Borrow.{Bor}
use Rattle.json.specs.Json.{Json, null, boolean, number, string, array, object, Items, Members}
use Rattle.json.specs.Value.{items_of, members_of}
use Rattle.json_values.specs.declared.value.Value.{Value, fold-Value}
use Rattle.json_values.specs.declared.value.Value.TheOpen.{Value-F}

-- what a list in a box holds; without a box it holds nothing
abbrev pub in_box : {X : Type 0} → Option (Box (Vec X Global) Global) → List X
in_box None = []
in_box (Some b) = b.value.items

-- one level, where all that is inside is seen already
abbrev pub view_step : Value-F Json → Json
view_step Value-F.Null = null
view_step (Value-F.Bool b) = boolean b
view_step (Value-F.Number s) = number s.now
view_step (Value-F.String s) = string s.now
view_step (Value-F.Array b) = array (items_of (in_box b))
view_step (Value-F.Object b) = object (members_of (in_box b))

abbrev pub value_view : Value → Json
value_view = fold-Value Json view_step

abbrev pub json_items : List Value → Items
json_items vs = items_of (map value_view vs)

abbrev pub json_members : List (Bor (List ℕ) × Value) → Members
json_members ms = members_of (map (λ m. (m.0, value_view m.1)) ms)
