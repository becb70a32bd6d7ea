-- What a JSON value means, as a relation: the value has the form of the tree, and the tree keeps to what trees keep to.
use Rattle.std.specs.Prelude.{◌≡◌, ◌⊎◌, ℕ, ◌-◌, ◌%◌, ◌<◌, IsTrue, List, [], ◌∷◌, length, Some, Err, IsUtf8, codes}
use Rattle.std.specs.List.{AllByRecursion}
use Rattle.serde_json.specs.Data.{Data, string, array, Items, no_items, item}
use Rattle.serde_json.specs.Find.{get}
use Rattle.serde_json.specs.Read.{read}
use Rattle.carrier_model.specs.Bytes.{units_of}
use Rattle.carrier_model.specs.FileTrees.{Store}
use Rattle.carrier_model.specs.Keys.{Key, id, named, numbered, texted}
use Rattle.carrier_model.specs.KeyTexts.{hex_digits, upper}
use Rattle.carrier_model.specs.KindNames.{kind_name}
use Rattle.carrier_model.specs.Tree.{Message, message, Attachments, no_more, attached, Body, nothing, embedded, stored}
use Rattle.carrier_model.specs.Trees.{IsTree}
use Rattle.carrier_model.specs.Values.{Value, number, guid, bytes, numbers, guids, parts, Prop, kind_of}
use Rattle.json_model.specs.Faults.{JsonFault, not_json, fault_here}
use Rattle.json_model.specs.MessageForms.{MESSAGE, PLAIN, EMBEDDING, STORING, read_json}
use Rattle.json_model.specs.Parts.{has_members}
use Rattle.json_model.specs.Properties.{NUMBERED, TEXTED, PROPERTY, number_json, hex_json}
use Rattle.json_model.specs.StoreForms.{Entry, storage_entry, stream_entry, entries_below, STORAGE, STREAM, STORE}
use Rattle.json_model.specs.Texts.{UNITS, utf16_of}

-- ---- parts

-- an object has these members and no others
abbrev pub HasMembers : List (List ℕ) → Data → Type 0
HasMembers names v = IsTrue (has_members names v)

-- what holds of the member of an object
abbrev pub OfMember : List ℕ → Data → (Data → Type 0) → Type 0
OfMember name v means = (d : Data) × (get name v ≡ Some d) × means d

-- each item means an element
abbrev pub ItemsMean : {A : Type 0} → (Data → A → Type 0) → Items → List A → Type 0
ItemsMean means no_items [] = Unit {0}
ItemsMean means no_items (x ∷ xs) = ⊥
ItemsMean means (item d ds) [] = ⊥
ItemsMean means (item d ds) (x ∷ xs) = means d x × ItemsMean means ds xs

abbrev pub ArrayMeans : {A : Type 0} → (Data → A → Type 0) → Data → List A → Type 0
ArrayMeans means v xs = (ds : Items) × (v ≡ array ds) × ItemsMean means ds xs

abbrev pub NumberMeans : Data → ℕ → Type 0
NumberMeans v n = v ≡ number_json n

-- digits of bytes
abbrev pub HexMeans : Data → List ℕ → Type 0
HexMeans v x = (v ≡ hex_json x) × AllByRecursion (λ b. b < 256) x

-- a string of the text, or its units; by bytes
abbrev pub TextMeans : Data → List ℕ → Type 0
TextMeans v x =
    ((s : List ℕ) × (v ≡ string s) × (x ≡ utf16_of s))
    ⊎ (HasMembers UNITS v × OfMember (codes "units") v (λ d. HexMeans d x) × (length x % 2 ≡ 0))

-- the same, by units
abbrev pub NameMeans : Data → List ℕ → Type 0
NameMeans v units = (x : List ℕ) × TextMeans v x × (units ≡ units_of x)

-- ---- properties

abbrev pub KeyMeans : Data → Key → Type 0
KeyMeans v (id n) = v ≡ string (hex_digits upper 4 n)
KeyMeans v (named (numbered set n)) =
    HasMembers NUMBERED v × OfMember (codes "number") v (λ d. NumberMeans d n) × OfMember (codes "set") v (λ d. HexMeans d set)
KeyMeans v (named (texted set units)) =
    HasMembers TEXTED v × OfMember (codes "set") v (λ d. HexMeans d set) × OfMember (codes "text") v (λ d. NameMeans d units)

abbrev pub KindMeans : Data → ℕ → Type 0
KindMeans v n = (name : List ℕ) × (v ≡ string name) × (kind_name n ≡ Some name)

-- bytes of a kind: a String is a text, others are digits
abbrev pub BytesMean : ℕ → Data → List ℕ → Type 0
BytesMean n v x = ((n ≡ 0x001F) × TextMeans v x) ⊎ ((n ≡ 0x001F → ⊥) × HexMeans v x)

abbrev pub ValueMeans : Data → Value → Type 0
ValueMeans v (number n bits) = NumberMeans v bits
ValueMeans v (guid set) = HexMeans v set
ValueMeans v (bytes n x) = BytesMean n v x
ValueMeans v (numbers n list) = ArrayMeans NumberMeans v list
ValueMeans v (guids list) = ArrayMeans HexMeans v list
ValueMeans v (parts n list) = ArrayMeans (BytesMean (n - 0x1000)) v list

pub record PropMeans (v : Data) (p : Prop) : Type 0 where
  pub members : HasMembers PROPERTY v
  pub key : OfMember (codes "key") v (λ d. KeyMeans d p.key)
  pub kind : OfMember (codes "kind") v (λ d. KindMeans d (kind_of p.value))
  pub value : OfMember (codes "value") v (λ d. ValueMeans d p.value)

abbrev pub PropsMean : Data → List Prop → Type 0
PropsMean = ArrayMeans PropMeans

-- ---- stores

abbrev pub PathMeans : Data → List (List ℕ) → Type 0
PathMeans = ArrayMeans NameMeans

abbrev pub EntryMeans : Data → Entry → Type 0
EntryMeans v (storage_entry path class) =
    HasMembers STORAGE v × OfMember (codes "class") v (λ d. HexMeans d class) × OfMember (codes "path") v (λ d. PathMeans d path)
EntryMeans v (stream_entry path x) =
    HasMembers STREAM v × OfMember (codes "data") v (λ d. HexMeans d x) × OfMember (codes "path") v (λ d. PathMeans d path)

-- the members in their order, a storage before what is in it
pub record StoreMeans (v : Data) (s : Store) : Type 0 where
  pub members : HasMembers STORE v
  pub class : OfMember (codes "class") v (λ d. HexMeans d s.class)
  pub list : OfMember (codes "members") v (λ d. ArrayMeans EntryMeans d (entries_below [] s.members))

-- ---- messages

abbrev mutual
  pub MessageMeans : Data → Message → Type 0
  MessageMeans v (message props recipients attachments) =
      HasMembers MESSAGE v
      × OfMember (codes "attachments") v (λ d. (ds : Items) × (d ≡ array ds) × AttachmentsMean ds attachments)
      × OfMember (codes "properties") v (λ d. PropsMean d props)
      × OfMember (codes "recipients") v (λ d. ArrayMeans PropsMean d recipients)

  pub AttachmentsMean : Items → Attachments → Type 0
  AttachmentsMean no_items no_more = Unit {0}
  AttachmentsMean no_items (attached props body others) = ⊥
  AttachmentsMean (item d ds) no_more = ⊥
  AttachmentsMean (item d ds) (attached props body others) =
      OfMember (codes "properties") d (λ e. PropsMean e props) × BodyMeans d body × AttachmentsMean ds others

  pub BodyMeans : Data → Body → Type 0
  BodyMeans v nothing = HasMembers PLAIN v
  BodyMeans v (embedded inner) = HasMembers EMBEDDING v × OfMember (codes "message") v (λ d. MessageMeans d inner)
  BodyMeans v (stored store) = HasMembers STORING v × OfMember (codes "store") v (λ d. StoreMeans d store)

pub record JsonMeans (v : Data) (t : Message) : Type 0 where
  pub form : MessageMeans v t
  pub tree : IsTree t

-- ---- texts

-- the most bytes of a JSON text that is read or written
abbrev pub MOST_JSON : ℕ
MOST_JSON = 33554432

-- bytes are a JSON text of this value
abbrev pub IsTextOf : List ℕ → Data → Type 0
IsTextOf b v = IsUtf8 b × (read b ≡ Some v)

-- what a text means
abbrev pub TextMeansTree : List ℕ → Message → Type 0
TextMeansTree b t = (v : Data) × IsTextOf b v × JsonMeans v t

-- the first failing test of a text: it is no JSON, or its value has a first fault
abbrev pub FirstJsonFault : List ℕ → JsonFault → Type 0
FirstJsonFault b g =
    (((v : Data) → IsTextOf b v → ⊥) × (g ≡ fault_here not_json))
    ⊎ ((v : Data) × IsTextOf b v × (read_json v ≡ Err g))
