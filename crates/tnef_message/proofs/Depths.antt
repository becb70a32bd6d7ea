-- A message that a stream carries is a tree: no deeper than it may be, and its stores are stores.
use Rattle.std.proofs.Common.{◌≡◌, ℕ, ◌≤◌, List, length, Err, sym, subst}
use Rattle.carrier_io.specs.Reads.{MeansOnly, OnFault, Reads}
use Rattle.carrier_io.specs.Reasons.{fault_of}
use Rattle.carrier_io.specs.declared.reasons.Stop.{Stop}
use Rattle.carrier_io.specs.declared.reasons.Stop.TheVariants as stops
use Rattle.carrier_io.proofs.Sides.{reads_fault, reads_ok}
use Rattle.carrier_model.specs.Bytes.{AllBytes}
use Rattle.carrier_model.specs.Meanings.{Meaning, Passed}
use Rattle.tnef_model.specs.TnefMessage.{message_within, TnefCarrier}
use Rattle.carrier_model.specs.Tree.{Message, message, Attachments, no_more, attached, Body, nothing, embedded, stored, depth}
use Rattle.carrier_model.specs.Trees.{HasPropLists, HavePropLists, BodyHasPropLists}
use Rattle.tnef_model.proofs.ReadTnef.{carrier_is_tree}
use Rattle.tnef_model.proofs.TnefMessage.{message_exact}
use Rattle.msg_tree.specs.Keeping.{HasStores, HaveStores, BodyHasStores}

mutual
  has_stores : (t : Message) → HasPropLists t → HasStores t
  has_stores (message props recipients attachments) h = have_stores attachments h.1.1

  have_stores : (a : Attachments) → HavePropLists a → HaveStores a
  have_stores no_more h = tt
  have_stores (attached props body others) h = (body_has_stores body h.1.0, have_stores others h.1.1)

  body_has_stores : (b : Body) → BodyHasPropLists b → BodyHasStores b
  body_has_stores nothing h = tt
  body_has_stores (embedded inner) h = has_stores inner h
  body_has_stores (stored store) h = h

-- so it keeps to what a tree keeps to
pub is_shallow : (bytes : List ℕ) (t : Message) (passed : List Passed) → AllBytes bytes → length bytes ≤ 268435456 → TnefCarrier bytes t passed → depth t ≤ 32
is_shallow bytes t passed all short means = (carrier_is_tree bytes t passed all short means).levels

pub stores_are : (bytes : List ℕ) (t : Message) (passed : List Passed) → AllBytes bytes → length bytes ≤ 268435456 → TnefCarrier bytes t passed → HasStores t
stores_are bytes t passed all short means = has_stores t (carrier_is_tree bytes t passed all short means).lists

-- ---- both sides of the reader of a whole stream

pub stream_stop : {Y : Type 0} (view : Y → Meaning) (levels at : ℕ) (bytes : List ℕ) (e : Stop) → OnFault ((message_within levels).fails at bytes) e → Reads view (Err e) ((message_within levels).means at bytes) ((message_within levels).fails at bytes)
stream_stop view levels at bytes (stops.Fault g) f =
    let x = message_exact levels at bytes in
    reads_fault ((message_within levels).means at bytes) ((message_within levels).fails at bytes) (fault_of g) x.single x.apart f
stream_stop view levels at bytes stops.NoMemory f = tt

stream_found : (levels at : ℕ) (bytes : List ℕ) (m : Meaning) → (message_within levels).means at bytes m → MeansOnly ((message_within levels).means at bytes) ((message_within levels).fails at bytes) m
stream_found levels at bytes m s =
    let x = message_exact levels at bytes in
    reads_ok ((message_within levels).means at bytes) ((message_within levels).fails at bytes) m x.one x.apart s

pub stream_given : (levels at : ℕ) (bytes : List ℕ) (t u : Message) (more now : List Passed) → (message_within levels).means at bytes (record { message = t; passed = more }) → u ≡ t → now ≡ more
    → MeansOnly ((message_within levels).means at bytes) ((message_within levels).fails at bytes) (record { message = u; passed = now })
stream_given levels at bytes t u more now s e p =
    let same : record { message = t; passed = more } ≡ record { message = u; passed = now } = λ i. record { message = sym e i; passed = sym p i } in
    stream_found levels at bytes (record { message = u; passed = now }) (subst ((message_within levels).means at bytes) same s)
