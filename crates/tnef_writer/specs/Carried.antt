-- What the Object of an attachment holds.
use Rattle.std.specs.Prelude.{◌≡◌, ℕ, ◌+◌, ◌++◌, List, length}
use Rattle.carrier_model.specs.Bytes.{le32}
use Rattle.carrier_model.specs.Keys.{Name}
use Rattle.tnef_model.specs.TnefCanonical.{stream_of, tag_bytes}
use Rattle.carrier_model.specs.Kinds.{OBJECT}
use Rattle.tnef_model.specs.TnefMessage.{IID_MESSAGE, IID_STORAGE}
use Rattle.carrier_model.specs.Totals.{capped}
use Rattle.carrier_model.specs.Tree.{Message, depth, messages_in, names_in}
use Rattle.msg_tree.specs.Meaning.{tree_of}
use Rattle.tnef_writer.specs.MessagePlans.{AreOf}
use Rattle.tnef_writer.specs.TreeStores.{stores_in}
use Rattle.tnef_writer.specs.Written.{Includes}
use Rattle.tnef_writer.specs.declared.planned.Planned.{Planned}
use Rattle.tnef_writer.specs.declared.write_objects.Carried.{Carried}
use Rattle.tnef_writer.specs.declared.write_objects.Carried.TheVariants as is

-- the id of its interface
abbrev pub interface_of : {B : Type 0} → Carried B → List ℕ
interface_of (is.Message message size planned) = IID_MESSAGE
interface_of (is.Store plan) = IID_STORAGE

-- what stands behind that
abbrev pub held_bytes : {B : Type 0} → (B → List ℕ) → List Name → Carried B → List ℕ
held_bytes bytes_of names (is.Message message size planned) = stream_of names (tree_of bytes_of message.now)
held_bytes bytes_of names (is.Store plan) = plan.now

abbrev pub object_value : {B : Type 0} → (B → List ℕ) → List Name → Carried B → List ℕ
object_value bytes_of names carried = interface_of carried ++ held_bytes bytes_of names carried

-- what stands before the value of an Object that has so many bytes, and the interface's id
abbrev pub object_head : ℕ → List ℕ → List ℕ
object_head size interface = tag_bytes 0x3701 OBJECT ++ (le32 1 ++ (le32 size ++ interface))

-- the bytes, the plans and the names of a message
pub record IsPlannedAs {B : Type 0} (names : List Name) (t : Message) (size : ℕ) (planned : Planned B) : Type 0 where
  pub size_is : size ≡ capped (length (stream_of names t))
  pub plans_are : AreOf names (messages_in t) (stores_in t) planned
  pub known : Includes names (names_in t)

abbrev pub IsCarried : {B : Type 0} → (B → List ℕ) → List Name → Carried B → Type 0
IsCarried bytes_of names (is.Message message size planned) = IsPlannedAs names (tree_of bytes_of message.now) size planned.now
IsCarried bytes_of names (is.Store plan) = Unit {0}

-- how many levels it adds below a message
abbrev pub levels_of : {B : Type 0} → (B → List ℕ) → Carried B → ℕ
levels_of bytes_of (is.Message message size planned) = depth (tree_of bytes_of message.now) + 1
levels_of bytes_of (is.Store plan) = 0
