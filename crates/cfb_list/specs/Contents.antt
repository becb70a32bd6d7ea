-- What streams and storages stand for.
use Rattle.std.specs.Prelude.{ℕ, ◌+◌, List, [], ◌∷◌, ◌++◌, flat_map, map, replicate, take}
use Rattle.carrier_model.specs.KeyTexts.{hex_digits, upper}
use Rattle.cfb_list.specs.Listed.{Child, stream, storage}
use Rattle.cfb_list.specs.declared.content.Content.{Content}
use Rattle.cfb_list.specs.declared.content.Content.TheVariants.{Own, Value}
use Rattle.cfb_list.specs.declared.content.Kept.{Kept}
use Rattle.cfb_list.specs.declared.content.Kept.TheVariants.{Few, Own as OwnKept, Value as ValueKept}
use Rattle.cfb_list.specs.declared.few_bytes.FewBytes.{FewBytes}
use Rattle.cfb_list.specs.declared.content.File.{File}
use Rattle.cfb_list.specs.declared.content.File.TheVariants.{Stream, Row, Storage as StorageFile}
use Rattle.cfb_list.specs.declared.content.Name.{Name}
use Rattle.cfb_list.specs.declared.content.Name.TheVariants.{Own as OwnName, Numbered as NumberedName}
use Rattle.cfb_list.specs.declared.content.Storage.{Storage}
use Rattle.cfb_list.specs.declared.views.ContentView.{ContentView}
use Rattle.cfb_list.specs.declared.views.ContentView.TheVariants.{Own as OwnSeen, Value as ValueSeen}
use Rattle.cfb_list.specs.declared.views.KindView.{KindView}
use Rattle.cfb_list.specs.declared.views.KindView.TheVariants.{Stream as StreamSeen, Storage as StorageSeen}
use Rattle.cfb_list.specs.declared.views.NameView.{NameView}
use Rattle.cfb_list.specs.declared.views.NameView.TheVariants.{Whole, Numbered}
use Rattle.cfb_list.specs.declared.views.FileView.{FileView}

-- ---- what was added

abbrev pub content_bytes : {B : Type 0} → (B → List ℕ) → Content B → List ℕ
content_bytes of (Own bytes) = bytes.items
content_bytes of (Value bytes zeros) = of bytes.now ++ replicate zeros 0

abbrev pub few_items : FewBytes → List ℕ
few_items few = take few.len few.bytes

abbrev pub kept_bytes : {B : Type 0} → (B → List ℕ) → Kept B → List ℕ
kept_bytes of (Few few) = few_items few
kept_bytes of (OwnKept bytes) = bytes.value.items
kept_bytes of (ValueKept zeros bytes) = of bytes.now ++ replicate zeros 0

-- the streams of values from one number on, each named by a front and its number in eight digits, with so many zeros
-- behind its bytes
abbrev pub row_streams : List ℕ → ℕ → ℕ → List (List ℕ) → List (List ℕ × List ℕ)
row_streams front nulls number [] = []
row_streams front nulls number (x ∷ others) = (front ++ hex_digits upper 8 number, x ++ replicate nulls 0) ∷ row_streams front nulls (number + 1) others

abbrev pub stream_of : List ℕ × List ℕ → Child
stream_of s = stream s.0 s.1

abbrev pub name_units : Name → List ℕ
name_units (OwnName units) = units.value.items
name_units (NumberedName number front) = front.now ++ hex_digits upper 8 number

abbrev pub file_children : {B : Type 0} → (B → List ℕ) → File B → List Child
file_children of (Stream name content) = stream (name_units name) (kept_bytes of content) ∷ []
file_children of (Row zeros front list) = map stream_of (row_streams front.items zeros 0 (map of list.now))
file_children of (StorageFile number name class) = storage (name_units name) class number ∷ []

abbrev pub children_of : {B : Type 0} → (B → List ℕ) → Storage B → List Child
children_of of s = flat_map (file_children of) s.files.items

abbrev pub storages_of : {B : Type 0} → (B → List ℕ) → List (Storage B) → List (List Child)
storages_of of = map (children_of of)

-- ---- what is looked at

abbrev pub bytes_seen : {B : Type 0} → (B → List ℕ) → ContentView B → List ℕ
bytes_seen of (OwnSeen bytes) = bytes.now
bytes_seen of (ValueSeen bytes zeros) = of bytes.now ++ replicate zeros 0

abbrev pub name_seen : NameView → List ℕ
name_seen (Whole name) = name.now
name_seen (Numbered front number) = front.now ++ hex_digits upper 8 number

abbrev pub child_seen : {B : Type 0} → (B → List ℕ) → List ℕ → KindView B → Child
child_seen of name (StreamSeen content) = stream name (bytes_seen of content)
child_seen of name (StorageSeen class number) = storage name class number

abbrev pub file_seen : {B : Type 0} → (B → List ℕ) → FileView B → Child
file_seen of file = child_seen of (name_seen file.name) file.kind
