-- What a target has no room for. [MS-OXMSG 2.2.1, 2.2.2 and 2.2.3]
use Rattle.std.specs.Prelude.{ℕ, Bool, true, false, List, [], ◌∷◌, ◌++◌, length, Option, flat_map, nat_lt}
use Rattle.carrier_model.specs.Lists.{first_of_list}
use Rattle.carrier_model.specs.Tree.{Message, messages_in, names_of}
use Rattle.carrier_model.specs.Totals.{recipient_count, attachment_count}

-- a limit that is passed, with the counted number
pub data Limit : Type 0 where
  too_many_names : (counted : ℕ) → Limit
  too_many_recipients : (counted : ℕ) → Limit
  too_many_attachments : (counted : ℕ) → Limit
  too_large : (counted : ℕ) → Limit

-- a limit in a list where it is passed, and an empty list where it isn't
abbrev pub where_passed : Bool → Limit → List Limit
where_passed true limit = limit ∷ []
where_passed false limit = []

-- in a whole tree: more than 32,000 distinct names
abbrev pub passed_names : Message → List Limit
passed_names t = where_passed (nat_lt 32000 (length (names_of t))) (too_many_names (length (names_of t)))

-- in one message: more than 2,048 recipients, more than 2,048 attachments
abbrev pub passed_recipients : Message → List Limit
passed_recipients m = where_passed (nat_lt 2048 (recipient_count m)) (too_many_recipients (recipient_count m))

abbrev pub passed_attachments : Message → List Limit
passed_attachments m = where_passed (nat_lt 2048 (attachment_count m)) (too_many_attachments (attachment_count m))

abbrev pub passed_by : Message → List Limit
passed_by m = passed_recipients m ++ passed_attachments m

-- The limits that a tree passes, in the order in which they count: as a .msg file the names and then message by
-- message, as a TNEF stream the names alone.
abbrev pub msg_limits : Message → List Limit
msg_limits t = passed_names t ++ flat_map passed_by (messages_in t)

abbrev pub tnef_limits : Message → List Limit
tnef_limits t = passed_names t

-- the first of them, if any
abbrev pub first_limit : List Limit → Option Limit
first_limit = first_of_list
