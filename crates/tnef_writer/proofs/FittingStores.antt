-- No store is longer than the stream that it stands in.
use Rattle.std.proofs.Common.{ℕ, ◌+◌, ◌≤◌, List, [], ◌∷◌, ◌++◌, Some, None, length, length-append, arith}
use Rattle.carrier_model.specs.Bytes.{MOST_BYTES}
use Rattle.carrier_model.specs.FileTrees.{Store}
use Rattle.carrier_model.specs.Keys.{Name}
use Rattle.tnef_model.specs.LegacyAttributes.{ATTACHMENT}
use Rattle.carrier_model.specs.Stores.{store_bytes}
use Rattle.tnef_model.specs.TnefCanonical.{attribute, attachments_bytes, front, list_bytes, page_attribute, props_attribute, recipients_attribute, rendering_attribute, stream_of}
use Rattle.tnef_model.specs.TnefMessage.{IID_MESSAGE, IID_STORAGE}
use Rattle.carrier_model.specs.Tree.{Message, message, Attachments, no_more, attached, nothing, embedded, stored}
use Rattle.carrier_model.specs.Values.{Prop}
use Rattle.tnef_writer.specs.TreeStores.{stores_in, stores_below, AllFit}
use Rattle.tnef_writer.proofs.StreamParts.{attribute_length}
use Rattle.tnef_props.proofs.Lengths.{list_length, object_long}

all_fit_both : (a b : List Store) → AllFit a → AllFit b → AllFit (a ++ b)
all_fit_both [] b g h = h
all_fit_both (s ∷ a) b g h = (g.0, all_fit_both a b g.1 h)

le_trans : {a b c : ℕ} → a ≤ b → b ≤ c → a ≤ c
le_trans p q = omega (arith, p, q)

first_fits : (a b : ℕ) → a + b ≤ MOST_BYTES → a ≤ MOST_BYTES
first_fits a b le = omega (arith, le)

second_fits : (a b : ℕ) → a + b ≤ MOST_BYTES → b ≤ MOST_BYTES
second_fits a b le = omega (arith, le)

-- the attachments stand behind what is a message's own
below_short : (names : List Name) (props : List Prop) (recipients : List (List Prop)) (attachments : Attachments) → length (attachments_bytes names attachments) ≤ length (stream_of names (message props recipients attachments))
below_short names props recipients attachments =
    let rest = attachments_bytes names attachments in
    let list = props_attribute names props ++ rest in
    let table = recipients_attribute names recipients ++ list in
    let page = page_attribute props ++ table in
    omega (arith, length-append front page, length-append (page_attribute props) table, length-append (recipients_attribute names recipients) list, length-append (props_attribute names props) rest)

-- later attachments stand in what is written for an attachment and them, whatever its list
rest_short : (props : List Prop) (list rest : List ℕ) → length list + length rest ≤ length (rendering_attribute props ++ (attribute 2 ATTACHMENT list ++ rest))
rest_short props list rest = omega (arith, length-append (rendering_attribute props) (attribute 2 ATTACHMENT list ++ rest), length-append (attribute 2 ATTACHMENT list) rest, attribute_length 2 ATTACHMENT list)

-- and so does what its Object holds
held_short : (names : List Name) (props : List Prop) (interface held rest : List ℕ) → length held + length rest ≤ length (rendering_attribute props ++ (attribute 2 ATTACHMENT (list_bytes names props (Some (interface ++ held))) ++ rest))
held_short names props interface held rest =
    omega (arith, rest_short props (list_bytes names props (Some (interface ++ held))) rest, list_length names props (Some (interface ++ held)), object_long (interface ++ held), length-append interface held)

mutual
  pub stores_fit : (names : List Name) (t : Message) → length (stream_of names t) ≤ MOST_BYTES → AllFit (stores_in t)
  stores_fit names (message props recipients attachments) le = stores_fit_below names attachments (le_trans (below_short names props recipients attachments) le)

  stores_fit_below : (names : List Name) (attachments : Attachments) → length (attachments_bytes names attachments) ≤ MOST_BYTES → AllFit (stores_below attachments)
  stores_fit_below names no_more le = tt
  stores_fit_below names (attached props nothing others) le =
      let rest = attachments_bytes names others in
      stores_fit_below names others (second_fits (length (list_bytes names props None)) (length rest) (le_trans (rest_short props (list_bytes names props None) rest) le))
  stores_fit_below names (attached props (embedded inner) others) le =
      let rest = attachments_bytes names others in
      let held = stream_of names inner in
      let both = le_trans (held_short names props IID_MESSAGE held rest) le in
      all_fit_both (stores_in inner) (stores_below others) (stores_fit names inner (first_fits (length held) (length rest) both)) (stores_fit_below names others (second_fits (length held) (length rest) both))
  stores_fit_below names (attached props (stored store) others) le =
      let rest = attachments_bytes names others in
      let held = store_bytes store in
      let both = le_trans (held_short names props IID_STORAGE held rest) le in
      (first_fits (length held) (length rest) both, stores_fit_below names others (second_fits (length held) (length rest) both))
