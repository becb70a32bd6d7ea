-- A property list is read one way.
use Rattle.std.proofs.Common.{ℕ, Bool, false, List, []}
use Rattle.carrier_model.specs.Grammar.{Form, gives, and_then, such}
use Rattle.carrier_model.specs.Reasons.{LIST_TRUNCATED, UNKNOWN_LIST_TYPE, BAD_NAME_KIND, BAD_NAME_SIZE, BAD_COUNT, BAD_SIZE, DUPLICATE_LIST_PROPERTY}
use Rattle.carrier_model.specs.Bytes.{le_number, pad4}
use Rattle.tnef_model.specs.TnefLists.{raw, word, padded, name_size, name_units, name_text, name_number, name, key, size, sized, text, one, many, numbers_of, value, tag, object, property, described, any_item, item, items, list_of, prop_list, recipient_lists, Item}
use Rattle.carrier_model.proofs.Grammar.{Lawful, gives_lawful, field_lawful, then_lawful, such_lawful, placed_lawful, choice_lawful, repeat_lawful}

-- a form, and a meaning from what it means
pub seen_lawful : {X Y : Type 0} (f : Form X) (view : X → Y) → Lawful f → Lawful (and_then f (λ x. gives (view x)))
seen_lawful f view law = then_lawful f (λ x. gives (view x)) law (λ x. gives_lawful (view x))

pub raw_lawful : (n : ℕ) → Lawful (raw n)
raw_lawful n = field_lawful n LIST_TRUNCATED

pub word_lawful : Lawful word
word_lawful = seen_lawful (raw 4) le_number (raw_lawful 4)

-- so many bytes that are not looked at, and then a meaning
skipped_lawful : {X : Type 0} (n : ℕ) (x : X) → Lawful (and_then (raw n) (λ padding. gives x))
skipped_lawful n x = seen_lawful (raw n) (λ padding. x) (raw_lawful n)

pub padded_lawful : (n : ℕ) → Lawful (padded n)
padded_lawful n = then_lawful (raw n) (λ x. and_then (raw (pad4 n)) (λ padding. gives x)) (raw_lawful n) (λ x. skipped_lawful (pad4 n) x)

such_word : (ok : ℕ → Bool) (reason : ℕ) → Lawful (such word ok reason)
such_word ok reason = such_lawful word ok reason word_lawful

name_size_lawful : Lawful name_size
unfolding name_size
name_size_lawful = such_word _ BAD_NAME_SIZE

name_units_lawful : Lawful name_units
unfolding name_units
name_units_lawful = then_lawful name_size _ name_size_lawful (λ n. seen_lawful (raw n) _ (raw_lawful n))

name_text_lawful : (set : List ℕ) → Lawful (name_text set)
unfolding name_text
name_text_lawful set = then_lawful _ _ (such_lawful name_units _ BAD_NAME_SIZE name_units_lawful) (λ t. skipped_lawful (pad4 t.0) _)

name_number_lawful : (set : List ℕ) → Lawful (name_number set)
unfolding name_number
name_number_lawful set = seen_lawful word _ word_lawful

pub name_lawful : Lawful name
unfolding name
name_lawful = then_lawful (raw 16) _ (raw_lawful 16) (λ set. then_lawful _ _ (such_word _ BAD_NAME_KIND) (λ kind. choice_lawful _ (name_number set) (name_text set) (name_number_lawful set) (name_text_lawful set)))

pub key_lawful : (n : ℕ) → Lawful (key n)
unfolding key
key_lawful n = choice_lawful _ _ _ (gives_lawful _) (seen_lawful name _ name_lawful)

pub size_lawful : (even : Bool) (least : ℕ) → Lawful (size even least)
unfolding size
size_lawful even least = such_word _ BAD_SIZE

pub sized_lawful : (even : Bool) (least : ℕ) → Lawful (sized even least)
unfolding sized
sized_lawful even least = then_lawful _ _ (size_lawful even least) (λ n. placed_lawful (padded n) (padded_lawful n))

pub text_lawful : (kind : ℕ) → Lawful (text kind)
unfolding text
text_lawful kind = seen_lawful (sized _ 0) _ (sized_lawful _ 0)

one_lawful : Lawful one
unfolding one
one_lawful = such_word _ BAD_COUNT

pub many_lawful : {X : Type 0} (f : Form X) → Lawful f → Lawful (many f)
unfolding many
many_lawful f law = then_lawful word _ word_lawful (λ n. repeat_lawful n (λ before. f) [] (λ l. law))

numbers_of_lawful : (width : ℕ) → Lawful (numbers_of width)
unfolding numbers_of
numbers_of_lawful width = seen_lawful _ _ (many_lawful _ (padded_lawful width))

pub value_lawful : (kind : ℕ) → Lawful (value kind)
unfolding value
value_lawful kind =
    choice_lawful _ _ _ (seen_lawful _ _ (padded_lawful _))
    (choice_lawful _ _ _ (seen_lawful _ _ (padded_lawful 16))
    (choice_lawful _ _ _ (then_lawful one _ one_lawful (λ n. seen_lawful _ _ (text_lawful kind)))
    (choice_lawful _ _ _ (seen_lawful _ _ (numbers_of_lawful _))
    (choice_lawful _ _ _ (seen_lawful _ _ (many_lawful _ (padded_lawful 16)))
    (seen_lawful _ _ (many_lawful _ (text_lawful _)))))))

object_lawful : (in_attachment : Bool) (place t : ℕ) → Lawful (object in_attachment place t)
unfolding object
object_lawful in_attachment place t = then_lawful one _ one_lawful (λ n. choice_lawful _ _ _ (seen_lawful _ _ (sized_lawful _ 16)) (seen_lawful _ _ (sized_lawful _ 0)))

property_lawful : (n kind : ℕ) → Lawful (property n kind)
unfolding property
property_lawful n kind = then_lawful _ _ (key_lawful n) (λ k. seen_lawful _ _ (value_lawful kind))

described_lawful : (in_attachment : Bool) (place t : ℕ) → Lawful (described in_attachment place t)
unfolding described
described_lawful in_attachment place t = choice_lawful _ _ _ (then_lawful _ _ (key_lawful _) (λ k. object_lawful in_attachment place t)) (seen_lawful _ _ (property_lawful _ _))

tag_lawful : Lawful tag
unfolding tag
tag_lawful = such_word _ UNKNOWN_LIST_TYPE

any_item_lawful : (in_attachment : Bool) → Lawful (any_item in_attachment)
unfolding any_item
any_item_lawful in_attachment = then_lawful _ _ (placed_lawful tag tag_lawful) (λ t. described_lawful in_attachment t.0 t.1)

pub item_lawful : (in_attachment : Bool) (before : List Item) → Lawful (item in_attachment before)
unfolding item
item_lawful in_attachment before = such_lawful _ _ DUPLICATE_LIST_PROPERTY (any_item_lawful in_attachment)

pub items_lawful : (in_attachment : Bool) → Lawful (items in_attachment)
unfolding items
items_lawful in_attachment = then_lawful word _ word_lawful (λ n. repeat_lawful n (item in_attachment) [] (item_lawful in_attachment))

pub prop_list_lawful : (in_attachment : Bool) → Lawful (prop_list in_attachment)
unfolding prop_list
prop_list_lawful in_attachment = seen_lawful (items in_attachment) list_of (items_lawful in_attachment)

pub recipient_lists_lawful : Lawful recipient_lists
unfolding recipient_lists
recipient_lists_lawful = many_lawful (prop_list false) (prop_list_lawful false)
