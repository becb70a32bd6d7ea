-- The data that a value stands for.
use Rattle.std.specs.Prelude.{negsuc, List, map, Option, Some, None}
use Rattle.json.specs.Json as json
use Rattle.json_values.specs.Values.{value_view}
use Rattle.json_values.specs.declared.value.Value.{Value}
use Rattle.serde_json.specs.Data.{Num, negative, Data, null, boolean, number, string, array, object, Items, no_items, item, Members, no_members, put}
use Rattle.serde_json.specs.Read.{number_of}
use Rattle.serde_json.specs.View.{items_of}

-- A number out of range has no value, and no text has a value with one in it. Here it stands for -1.
abbrev pub in_place : Option Num → Num
in_place (Some n) = n
in_place None = negative (negsuc 0)

-- The members go in one after another, so the last value of a key stays.
abbrev mutual
  pub data_of : json.Json → Data
  data_of json.null = null
  data_of (json.boolean b) = boolean b
  data_of (json.number s) = number (in_place (number_of s))
  data_of (json.string s) = string s
  data_of (json.array js) = array (items_data js)
  data_of (json.object ms) = object (with_members ms no_members)

  pub items_data : json.Items → Items
  items_data json.no_items = no_items
  items_data (json.item j js) = item (data_of j) (items_data js)

  pub with_members : json.Members → Members → Members
  with_members json.no_members found = found
  with_members (json.member k j ms) found = with_members ms (put k (data_of j) found)

abbrev pub view : Value → Data
view v = data_of (value_view v)

abbrev pub items_view : List Value → Items
items_view vs = items_of (map view vs)
