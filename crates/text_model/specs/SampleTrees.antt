-- A tree made from a number, with something of each sort: properties with ids and with names, recipients, attachments
-- with data, and messages in messages.
use Rattle.std.specs.Prelude.{ℕ, zero, suc, ◌+◌, ◌*◌, ◌%◌, List, [], ◌∷◌, ◌++◌, map, codes, decimal}
use Rattle.std.specs.List.{range_with_len}
use Rattle.carrier_model.specs.Bytes.{le32}
use Rattle.carrier_model.specs.KeyTexts.{label_family}
use Rattle.carrier_model.specs.Keys.{id, named, numbered}
use Rattle.carrier_model.specs.Tree.{Message, message, no_more, attached, nothing, embedded, Attached, attachments_from}
use Rattle.text_model.specs.TreeTexts.{counted}
use Rattle.carrier_model.specs.Values.{Prop, number, bytes}
use Rattle.carrier_model.specs.SmallTrees.{integer32, string_prop}

abbrev pub GREATEST_SAMPLE : ℕ
GREATEST_SAMPLE = 5000

-- ---- properties

-- PSETID_Common
abbrev pub COMMON : List ℕ
COMMON = le32 0x00062008 ++ label_family

abbrev pub named_prop : ℕ → Prop
named_prop i = record { key = named (numbered COMMON (0x8500 + i)); value = number 0x0003 i }

abbrev pub sample_props : ℕ → List Prop
sample_props n =
    integer32 0x0017 (n % 3)
    ∷ string_prop 0x001A (codes "IPM.Note")
    ∷ string_prop 0x0037 (counted (codes "sample") n)
    ∷ map named_prop (range_with_len 0 n)

-- ---- recipients and attachments

abbrev pub sample_recipient : ℕ → List Prop
sample_recipient i = string_prop 0x3001 (codes "r" ++ decimal i) ∷ []

abbrev pub sample_data : ℕ → List ℕ
sample_data i = map (λ j. (i + j) % 251) (range_with_len 0 (128 * i))

abbrev pub plain_attachment : ℕ → Attached
plain_attachment i = (record { key = id 0x3701; value = bytes 0x0102 (sample_data i) } ∷ integer32 0x3705 1 ∷ [], nothing)

abbrev pub level_props : ℕ → List Prop
level_props k = string_prop 0x0037 (counted (codes "level") k) ∷ []

-- the message of level k, with so many levels of messages below it
abbrev pub level_message : ℕ → ℕ → Message
level_message zero k = message (level_props k) [] no_more
level_message (suc below) k = message (level_props k) [] (attached [] (embedded (level_message below (k + 1))) no_more)

-- the attachment with all levels, where there are any
abbrev pub level_attachment : ℕ → List Attached
level_attachment zero = []
level_attachment (suc below) = ([], embedded (level_message below 1)) ∷ []

abbrev pub sample_attachments : ℕ → List Attached
sample_attachments levels = map plain_attachment (range_with_len 0 levels) ++ level_attachment levels

abbrev pub sample_tree : ℕ → Message
sample_tree n = message (sample_props n) (map sample_recipient (range_with_len 0 (n % 2049))) (attachments_from (sample_attachments (n % 33)))
