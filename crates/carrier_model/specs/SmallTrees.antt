-- Small properties, stores and messages, of which computed rows speak.
use Rattle.std.specs.Prelude.{ℕ, replicate, List, [], ◌∷◌, ◌++◌, codes, zero, suc}
use Rattle.carrier_model.specs.Keys.{id}
use Rattle.carrier_model.specs.Values.{Prop, number, bytes}
use Rattle.std.specs.List.{flat_map}
use Rattle.carrier_model.specs.Bytes.{le32}
use Rattle.carrier_model.specs.KeyTexts.{label_family}
use Rattle.carrier_model.specs.FileTrees.{no_file, NO_CLASS, Store, stream, storage, FileTree}
use Rattle.carrier_model.specs.Tree.{Message, message, attached, no_more, stored}

-- ---- properties

abbrev pub integer32 : ℕ → ℕ → Prop
integer32 n bits = record { key = id n; value = number 0x0003 bits }

-- a Binary of so many zeros
abbrev pub zeros_prop : ℕ → ℕ → Prop
zeros_prop n count = record { key = id n; value = bytes 0x0102 (replicate count 0) }

-- the UTF-16 units of ASCII characters, the low byte first
abbrev pub wide : List ℕ → List ℕ
wide text = flat_map (λ c. c ∷ 0 ∷ []) text

abbrev pub string_prop : ℕ → List ℕ → Prop
string_prop n text = record { key = id n; value = bytes 0x001F (wide text) }

-- PSETID_Appointment
abbrev pub APPOINTMENT : List ℕ
APPOINTMENT = le32 0x00062002 ++ label_family

-- ---- stores

-- one without members and without a class
abbrev pub empty_store : Store
empty_store = record { class = NO_CLASS; members = no_file }

-- one with two streams, and with a storage that has a class and a stream
abbrev pub small_store : Store
small_store = record {
  class = APPOINTMENT;
  members = stream (codes "b") (1 ∷ 2 ∷ 3 ∷ []) (storage (codes "C") APPOINTMENT (stream [] (4 ∷ 5 ∷ []) no_file) (stream (codes "aa") [] no_file));
}

-- so many storages, one below another
abbrev pub nested_storages : ℕ → FileTree
nested_storages zero = no_file
nested_storages (suc n) = storage (codes "a") NO_CLASS (nested_storages n) no_file

abbrev pub nested_store : ℕ → Store
nested_store n = record { class = NO_CLASS; members = nested_storages n }

-- a message with an attachment that holds a store
abbrev pub holding : Store → Message
holding store = message [] [] (attached [] (stored store) no_more)
