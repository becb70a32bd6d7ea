-- Small files, of which computed rows speak.
use Rattle.std.specs.Prelude.{ℕ, ◌+◌, List, [], ◌∷◌, ◌++◌, length, take, drop, codes}
use Rattle.std.specs.List.{range_with_len}
use Rattle.carrier_model.specs.Bytes.{le32}
use Rattle.carrier_model.specs.Streams.{Stream}
use Rattle.msg_model.specs.NameMap.{NameStreams}
use Rattle.carrier_model.specs.Keys.{id, named, numbered, texted}
use Rattle.msg_model.specs.WrittenMsg.{msg_of, msg4_of}
use Rattle.carrier_model.specs.SmallTrees.{wide, APPOINTMENT}
use Rattle.carrier_model.specs.Tree.{Message, message, attached, no_more, nothing, embedded}
use Rattle.carrier_model.specs.Values.{Value, number, guid, bytes, numbers, guids, parts, Prop}
use Rattle.msg_model.specs.WrittenNames.{PS_MAPI}

-- bytes that lie in the file from a place on, one behind the other
abbrev pub run_at : ℕ → List ℕ → Stream
run_at place x = record { bytes = x; places = range_with_len place (length x) }

-- the name map that has one name of the set of appointments
abbrev pub one_name : List ℕ → NameStreams
one_name entry = record { guids = run_at 0 APPOINTMENT; entries = run_at 2560 entry; texts = run_at 0 [] }

-- bytes with others in their place from an offset on
abbrev pub changed : List ℕ → ℕ → List ℕ → List ℕ
changed b at new = take at b ++ (new ++ drop (at + length new) b)

-- the file of a message without properties
abbrev pub empty_file : List ℕ
empty_file = msg_of (message [] [] no_more)

-- that of version 4
abbrev pub empty_file4 : List ℕ
empty_file4 = msg4_of (message [] [] no_more)

-- the same with a list of so many bytes, in which these stand behind the head
abbrev pub one_entry : ℕ → List ℕ → List ℕ
one_entry size entry = changed (changed empty_file 1784 (le32 size)) 2592 entry

-- the entry of an absent String of 0037, with this size
abbrev pub empty_text : ℕ → List ℕ
empty_text size = le32 0x0037001F ++ (le32 6 ++ (le32 size ++ le32 0))

abbrev pub two_names : Message
two_names = message (record { key = named (numbered APPOINTMENT 0x820D); value = number 0x0003 1 } ∷ record { key = named (numbered APPOINTMENT 0x820E); value = number 0x0003 2 } ∷ []) [] no_more

-- ---- messages of several sorts

abbrev pub prop : ℕ → Value → Prop
prop n value = record { key = id n; value = value }

-- messages with values of several forms
abbrev pub texts_message : Message
texts_message = message (
    prop 0x0037 (bytes 0x001F (wide (codes "text")))
    ∷ prop 0x1000 (bytes 0x001E (codes "body"))
    ∷ prop 0x1013 (bytes 0x0102 (1 ∷ 2 ∷ 3 ∷ []))
    ∷ prop 0x3FFA (guid APPOINTMENT)
    ∷ []) [] no_more

abbrev pub numbers_message : Message
numbers_message = message (
    prop 0x0029 (number 0x000B 1)
    ∷ prop 0x0E08 (number 0x0014 4294967296)
    ∷ prop 0x6801 (numbers 0x1002 (1 ∷ 65535 ∷ []))
    ∷ prop 0x6802 (guids (APPOINTMENT ∷ []))
    ∷ []) [] no_more

abbrev pub parts_message : Message
parts_message = message (
    prop 0x6804 (parts 0x101F (wide (codes "bc") ∷ [] ∷ []))
    ∷ prop 0x6805 (parts 0x1102 ((0 ∷ []) ∷ []))
    ∷ []) [] no_more

-- one with names
abbrev pub names_message : Message
names_message = message (
    record { key = named (texted APPOINTMENT (codes "Key")); value = bytes 0x001F [] }
    ∷ record { key = named (numbered PS_MAPI 1); value = number 0x0003 1 }
    ∷ []) [] no_more

-- one with a recipient, and an attachment that embeds a message with an attachment
abbrev pub nested_message : Message
nested_message = message [] ((prop 0x3001 (number 0x0003 1) ∷ []) ∷ [])
    (attached (prop 0x3705 (number 0x0003 5) ∷ []) (embedded (message (prop 0x0017 (number 0x0003 2) ∷ []) [] (attached [] nothing no_more))) no_more)
