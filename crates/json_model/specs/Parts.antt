-- Parts of JSON values: members by name, arrays, strings and numbers. [RFC 8259]
use Rattle.std.specs.Prelude.{ℕ, ◌==◌, ◌&&◌, nat_lt, Bool, if◌then◌else◌, List, [], ◌∷◌, ◌++◌, length, Option, Some, None, is_some, Result, Ok, Err}
use Rattle.std.specs.List.{list_all}
use Rattle.serde_json.specs.Data.{Data, null, boolean, number, string, array, object, Items, no_items, item, Num, unsigned, negative, float}
use Rattle.serde_json.specs.Events.{members_len}
use Rattle.serde_json.specs.Find.{get}
use Rattle.json_model.specs.Faults.{JsonFault, form, range, ◌>>=◌, under, fault_here}

-- how many members an object has
abbrev pub member_count : Data → ℕ
member_count null = 0
member_count (boolean b) = 0
member_count (number n) = 0
member_count (string s) = 0
member_count (array ds) = 0
member_count (object ms) = members_len ms

-- an object of these members and no others; each key of an object is there once
abbrev pub has_members : List (List ℕ) → Data → Bool
has_members names v = (member_count v == length names) && list_all (λ name. is_some (get name v)) names

-- what is there, or a fault of form
abbrev pub formed : {A : Type 0} → Option A → Result A JsonFault
formed None = Err (fault_here form)
formed (Some x) = Ok x

-- the member of an object
abbrev pub member_at : List ℕ → Data → Result Data JsonFault
member_at name v = formed (get name v)

abbrev pub string_at : Data → Result (List ℕ) JsonFault
string_at null = Err (fault_here form)
string_at (boolean b) = Err (fault_here form)
string_at (number n) = Err (fault_here form)
string_at (string s) = Ok s
string_at (array ds) = Err (fault_here form)
string_at (object ms) = Err (fault_here form)

abbrev pub items_at : Data → Result Items JsonFault
items_at null = Err (fault_here form)
items_at (boolean b) = Err (fault_here form)
items_at (number n) = Err (fault_here form)
items_at (string s) = Err (fault_here form)
items_at (array ds) = Ok ds
items_at (object ms) = Err (fault_here form)

-- a whole number below a limit
abbrev pub below : ℕ → Num → Result ℕ JsonFault
below limit (unsigned n) = if nat_lt n limit then Ok n else Err (fault_here range)
below limit (negative z) = Err (fault_here range)
below limit (float x) = Err (fault_here range)

abbrev pub number_below : ℕ → Data → Result ℕ JsonFault
number_below limit null = Err (fault_here form)
number_below limit (boolean b) = Err (fault_here form)
number_below limit (number n) = below limit n
number_below limit (string s) = Err (fault_here form)
number_below limit (array ds) = Err (fault_here form)
number_below limit (object ms) = Err (fault_here form)

-- What items give, in order, behind what those before them gave. What an item gives can rest on that.
abbrev pub in_turn : {A : Type 0} → (List A → Data → Result A JsonFault) → List A → Items → Result (List A) JsonFault
in_turn read before no_items = Ok before
in_turn read before (item d more) = do
  x ← under (length before) (read before d)
  in_turn read (before ++ x ∷ []) more

-- what the elements of an array give
abbrev pub read_array : {A : Type 0} → (List A → Data → Result A JsonFault) → Data → Result (List A) JsonFault
read_array read v = do
  items ← items_at v
  in_turn read [] items

-- the same where each is read by itself
abbrev pub read_each : {A : Type 0} → (Data → Result A JsonFault) → Data → Result (List A) JsonFault
read_each read = read_array (λ before. read)
