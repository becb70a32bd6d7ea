-- The stores of a message, and what is written for them.
use Rattle.std.specs.Prelude.{ℕ, ◌≤◌, List, [], ◌∷◌, ◌++◌, length, map}
use Rattle.carrier_model.specs.Bytes.{MOST_BYTES}
use Rattle.carrier_model.specs.FileTrees.{Store}
use Rattle.carrier_model.specs.Stores.{store_bytes}
use Rattle.carrier_model.specs.Totals.{capped}
use Rattle.carrier_model.specs.Tree.{Message, message, Attachments, no_more, attached, Attached, Body, nothing, embedded, stored}

-- The stores of a message and of all below it: those of a message that an attachment embeds stand in the attachment's
-- place.
abbrev mutual
  pub stores_in : Message → List Store
  stores_in (message props recipients attachments) = stores_below attachments

  pub stores_below : Attachments → List Store
  stores_below no_more = []
  stores_below (attached props body others) = stores_in_body body ++ stores_below others

  pub stores_in_body : Body → List Store
  stores_in_body nothing = []
  stores_in_body (embedded inner) = stores_in inner
  stores_in_body (stored store) = store ∷ []

-- those of one attachment
abbrev pub stores_at : Attached → List Store
stores_at one = stores_in_body one.1

-- their files
abbrev pub files_of : List Store → List (List ℕ)
files_of = map store_bytes

-- how long one is
abbrev pub size_of : Store → ℕ
size_of s = capped (length (store_bytes s))

-- each of the files may be an output
abbrev pub AllFit : List Store → Type 0
AllFit [] = Unit {0}
AllFit (s ∷ others) = (length (store_bytes s) ≤ MOST_BYTES) × AllFit others
