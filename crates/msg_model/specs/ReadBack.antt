-- What is written for names and property lists in a .msg file, wherever its streams lie. [MS-OXMSG 2.2.3, 2.4]
use Rattle.std.specs.Prelude.{◌≡◌, ℕ, ◌≤◌, true, List, [], ◌++◌, length, Contains, Option, Some, is_some, Result, Ok}
use Rattle.std.specs.List.{flat_map, AllByRecursion}
use Rattle.carrier_model.specs.Keys.{Name, named, IsName}
use Rattle.carrier_model.specs.Tree.{Message, message, Attachments, no_more, attached, Body, nothing, embedded, stored, listed}
use Rattle.carrier_model.specs.Trees.{HasUnits}
use Rattle.carrier_model.specs.Lookups.{Found}
use Rattle.carrier_model.specs.Trail.{Fault}
use Rattle.carrier_model.specs.Values.{Prop}
use Rattle.msg_model.specs.MsgProps.{Part, head_size, is_attachment, Section}
use Rattle.msg_model.specs.WrittenMsg.{entries_bytes, props_streams}
use Rattle.carrier_model.specs.Stores.{PROPERTIES}
use Rattle.msg_model.specs.MsgValues.{Streams}
use Rattle.msg_model.specs.NameMap.{NameStreams}
use Rattle.msg_model.specs.WrittenNames.{sets_of, entries_from, text_stream}

-- a stream of this name with these bytes is there
pub record HasStream (streams : Streams) (one : List ℕ × List ℕ) : Type 0 where
  pub f : Found
  pub there : streams one.0 ≡ Some f
  pub bytes : f.stream.bytes ≡ one.1

-- so many names as fit, each of the form of a name
pub record AreNames (names : List Name) : Type 0 where
  pub few : length names ≤ 32000
  pub forms : (name : Name) → Contains names name → IsName name
  pub units : (name : Name) → Contains names name → HasUnits name

-- the three streams of the name map have the bytes that are written for these names
pub record HasNameMap (s : NameStreams) (names : List Name) : Type 0 where
  pub guids : s.guids.bytes ≡ flat_map (λ set. set) (sets_of names)
  pub entries : s.entries.bytes ≡ entries_from (sets_of names) 0 0 names
  pub texts : s.texts.bytes ≡ text_stream names

-- a storage has the list that is written for properties, with the entry of an object of this word or without
pub record HasList (part : Part) (names : List Name) (streams : Streams) (props : List Prop) (object : Option ℕ) : Type 0 where
  pub head : List ℕ
  pub long : length head ≡ head_size part
  pub list : HasStream streams (PROPERTIES, head ++ entries_bytes names props object)
  pub values : AllByRecursion (HasStream streams) (props_streams names props)
  pub inside : is_some object ≡ true → is_attachment part ≡ true

-- the names of these properties are among others
abbrev pub NamesAmong : List Name → List Prop → Type 0
NamesAmong names props = (p : Prop) (name : Name) → Contains props p → p.key ≡ named name → Contains names name

-- the list is read: these properties, the entry of an object or none, and nothing passed over
pub record IsReadAs (r : Result Section Fault) (props : List Prop) (object : Option ℕ) : Type 0 where
  pub section : Section
  pub read : r ≡ Ok section
  pub props_are : section.props ≡ props
  pub embedded : is_some section.embedded ≡ is_some object
  pub passed : section.passed ≡ []

-- each message has at most as many recipients and attachments as a .msg file has room for
abbrev mutual
  pub HasFewParts : Message → Type 0
  HasFewParts (message props recipients attachments) = (length recipients ≤ 2048) × (length (listed attachments) ≤ 2048) × HaveFewParts attachments

  pub HaveFewParts : Attachments → Type 0
  HaveFewParts no_more = Unit {0}
  HaveFewParts (attached props body others) = BodyHasFewParts body × HaveFewParts others

  pub BodyHasFewParts : Body → Type 0
  BodyHasFewParts nothing = Unit {0}
  BodyHasFewParts (embedded inner) = HasFewParts inner
  BodyHasFewParts (stored store) = Unit {0}
