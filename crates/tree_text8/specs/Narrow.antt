-- Trees in which a text of 8-bit characters is converted.
use Rattle.std.specs.Prelude.{Bool, false, ◌||◌, List}
use Rattle.std.specs.List.{list_any}
use Rattle.carrier_model.specs.Tree.{Attached, Message, message, Attachments, no_more, attached, Body, nothing, embedded, stored}
use Rattle.carrier_model.specs.Values.{Prop}
use Rattle.text8_model.specs.Unicode.{is_to_convert}

-- some property of a list is converted
abbrev pub are_narrow : List Prop → Bool
are_narrow props = list_any (is_to_convert props) props

abbrev mutual
  pub is_narrow : Message → Bool
  is_narrow (message props recipients attachments) = are_narrow props || (list_any are_narrow recipients || any_narrow attachments)

  pub any_narrow : Attachments → Bool
  any_narrow no_more = false
  any_narrow (attached props body others) = (are_narrow props || body_narrow body) || any_narrow others

  pub body_narrow : Body → Bool
  body_narrow nothing = false
  body_narrow (embedded inner) = is_narrow inner
  body_narrow (stored store) = false

abbrev pub attached_narrow : Attached → Bool
attached_narrow one = are_narrow one.0 || body_narrow one.1
