-- What a list in order keeps: the files as they were added, and the places of what they stand for.
use Rattle.std.specs.Prelude.{ℕ, zero, suc, ◌+◌, ◌<◌, List, [], ◌∷◌, All, get_or, length, map}
use Rattle.std.specs.List.{AllByRecursion}
use Rattle.cfb_list.specs.Contents.{file_children}
use Rattle.cfb_list.specs.Listed.{Child, nothing}
use Rattle.cfb_list.specs.declared.content.File.{File}
use Rattle.cfb_list.specs.declared.content.Place.{Place}
use Rattle.cfb_list.specs.declared.content.SortedStorage.{SortedStorage}

-- what the file at a place stands for
abbrev pub children_from : {B : Type 0} → (B → List ℕ) → List (File B) → ℕ → List Child
children_from of files k = get_or (map (file_children of) files) k []

abbrev pub child_at : {B : Type 0} → (B → List ℕ) → List (File B) → Place → Child
child_at of files place = get_or (children_from of files place.file) place.number nothing

abbrev pub IsThere : {B : Type 0} → (B → List ℕ) → List (File B) → Place → Type 0
IsThere of files place = place.number < length (children_from of files place.file)

-- places of a file, by so many numbers from one on
abbrev pub places_of : (file from count : ℕ) → List Place
places_of file from zero = []
places_of file from (suc count) = record { file = file; number = from } ∷ places_of file (from + 1) count

abbrev pub sorted_children : {B : Type 0} → (B → List ℕ) → SortedStorage B → List Child
sorted_children of s = map (child_at of s.files.items) s.places.items

abbrev pub sorted_storages : {B : Type 0} → (B → List ℕ) → List (SortedStorage B) → List (List Child)
sorted_storages of = map (sorted_children of)

-- each place is one of a file
abbrev pub AreThere : {B : Type 0} → (B → List ℕ) → List (SortedStorage B) → Type 0
AreThere of = AllByRecursion (λ s. All (IsThere of s.files.items) s.places.items)
