-- Values whose numbers are all in range.
use Rattle.std.specs.Prelude.{ℕ, Bool, true, ◌&&◌, cond, is_some, List, Option, Some, None}
use Rattle.json.specs.Json.{Json, null, boolean, number, string, array, object, Items, no_items, item, Members, no_members, member, Parse, value}
use Rattle.json.specs.Token.{Token}
use Rattle.serde_json.specs.Read.{number_of}

abbrev mutual
  pub in_range : Json → Bool
  in_range null = true
  in_range (boolean b) = true
  in_range (number s) = is_some (number_of s)
  in_range (string s) = true
  in_range (array js) = items_in_range js
  in_range (object ms) = members_in_range ms

  pub items_in_range : Items → Bool
  items_in_range no_items = true
  items_in_range (item j js) = in_range j && items_in_range js

  pub members_in_range : Members → Bool
  members_in_range no_members = true
  members_in_range (member k j ms) = in_range j && members_in_range ms

-- what is read, if it passes a test
abbrev pub only : {A : Type 0} → (A → Bool) → Option (A × List Token) → Option (A × List Token)
only test None = None
only test (Some p) = cond (test p.0) (Some p) None

-- a value with numbers in range alone, whose arrays and objects nest at most so deep
abbrev pub ranged_value : ℕ → Parse Json
ranged_value levels ts = only in_range (value levels ts)
