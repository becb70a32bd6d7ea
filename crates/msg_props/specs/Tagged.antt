-- Properties with their tags, as they are written.
use Rattle.std.specs.Prelude.{◌≡◌, ◌⊎◌, ℕ, ◌-◌, List, ◌++◌, drop, take, Contains}
use Rattle.std.specs.List.{zip}
use Rattle.carrier_model.specs.Bytes.{le32}
use Rattle.carrier_model.specs.FileTrees.{streams_from}
use Rattle.carrier_model.specs.Keys.{Name, Key, id, named}
use Rattle.carrier_model.specs.Values.{Prop}
use Rattle.cfb_list.specs.Grown.{grown}
use Rattle.cfb_list.specs.Listed.{Listed}
use Rattle.msg_model.specs.WrittenMsg.{FLAGS, value_field, value_streams}

-- a name is among these
abbrev pub IsAmong : List Name → Key → Type 0
IsAmong names (id n) = Unit {0}
IsAmong names (named name) = Contains names name

-- the width of each of several numbers, or none
abbrev pub IsSize : ℕ → Type 0
IsSize n = (n ≡ 0) ⊎ ((n ≡ 2) ⊎ ((n ≡ 4) ⊎ (n ≡ 8)))

-- an entry, by the tag of its property
abbrev pub tagged_entry : ℕ × Prop → List ℕ
tagged_entry p = le32 p.0 ++ (le32 FLAGS ++ value_field p.1.value)

-- the properties from one place up to another, each with its tag
abbrev pub tagged_range : ℕ → ℕ → List ℕ → List Prop → List (ℕ × Prop)
tagged_range from to tags props = take (to - from) (drop from (zip tags props))

-- the streams of a value, by the tag of its property
abbrev pub tagged_streams : ℕ × Prop → List (List ℕ × List ℕ)
tagged_streams p = value_streams p.0 p.1.value

-- a list of storages with streams behind what is in one
abbrev pub with_streams : Listed → ℕ → List (List ℕ × List ℕ) → Listed
with_streams files at streams = record files { storages = grown files.storages at (streams_from streams) }
