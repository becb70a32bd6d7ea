-- How long the TNEF stream of a sample may be, and how much its .msg file may hold.
use Rattle.std.proofs.Common.{◌≡◌, ℕ, zero, suc, ◌+◌, ◌*◌, ◌%◌, ◌<◌, ◌≤◌, List, [], ◌∷◌, ◌++◌, length, map, filter, replicate, Bool, true, false, cond, refl, sym, ap, subst, arith, length-append}
use Rattle.std.specs.List.{range_with_len, flat_map, AllByRecursion}
use Rattle.std.specs.Cmp.Lexicographic.{slice_cmp}
use Rattle.std.specs.Ordering.{nat_cmp}
use Rattle.std.specs.Prelude.{codes, decimal, Some, None, not, ◌==◌}
use Rattle.std.proofs.lemmas.List.{length-map, length-replicate, append-nil}
use Rattle.std.proofs.lemmas.List.FromFn.{length-map-range_with_len}
use Rattle.carrier_model.specs.Bytes.{le16, le32, sum16, pad4}
use Rattle.carrier_model.specs.FileTrees.{no_file, and_files, streams_from}
use Rattle.carrier_model.specs.Keys.{Name, numbered, set_of, id, name_cmp}
use Rattle.carrier_model.specs.SmallTrees.{wide, string_prop, integer32}
use Rattle.carrier_model.specs.Tree.{Message, message, Attachments, attachments_from, no_more, attached, Body, embedded, nothing, names_in, names_of, listed}
use Rattle.carrier_model.specs.Values.{Prop, bytes}
use Rattle.carrier_model.proofs.SortedElements.{every_elements, length_elements}
use Rattle.text_model.specs.SampleTrees.{GREATEST_SAMPLE}
use Rattle.text_model.specs.SampleTrees.{COMMON, named_prop, sample_props, sample_recipient, sample_data, plain_attachment, level_props, level_message, level_attachment, sample_attachments, sample_tree}
use Rattle.text_model.specs.TreeTexts.{counted}
use Rattle.job_model.proofs.LayoutSizes.{load, load_both}
use Rattle.job_model.proofs.SampleParts.{length_wide, digits_few, counted_few, sample_names}
use Rattle.msg_model.specs.WrittenMsg.{tag_of, value_streams, props_streams, entry_bytes, entries_bytes, list_files, head_of, recipient_files, message_files, attachment_files, files_of}
use Rattle.msg_model.specs.WrittenNames.{sets_of, is_fixed_set, text_of, text_stream, entries_from, bucket, bucket_entries, hash_number, name_word, hash_stream, has_bytes, name_map_files}
use Rattle.tnef_model.specs.LegacyAttributes.{ATTACHMENT}
use Rattle.tnef_model.specs.TnefCanonical.{prop_bytes, props_bytes, list_bytes, attribute, page_attribute, recipients_attribute, props_attribute, rendering_attribute, stream_of, attachments_bytes, content_of, object_bytes, tnef_of}
use Rattle.tnef_model.specs.TnefMessage.{IID_MESSAGE}

-- ---- properties

-- a bound on what a property takes in a stream, and in a file with the stream of its value
record Takes (p : Prop) (w : ℕ) : Type 0 where
  in_stream : (names : List Name) → length (prop_bytes names p) ≤ w
  in_file : (names : List Name) → length (entry_bytes names p) + load (streams_from (value_streams (tag_of names p) p.value)) ≤ w

-- and on what some take
record TakeAll (props : List Prop) (w : ℕ) : Type 0 where
  in_stream : (names : List Name) → length (props_bytes names props) ≤ w
  in_file : (names : List Name) → length (flat_map (entry_bytes names) props) + load (streams_from (props_streams names props)) ≤ w

load_streams : (a b : List (List ℕ × List ℕ)) → load (streams_from (a ++ b)) ≡ load (streams_from a) + load (streams_from b)
load_streams [] b = omega arith
load_streams (s ∷ a) b = omega (arith, load_streams a b)

none_take : TakeAll [] 0
none_take = record { in_stream = λ names. omega arith; in_file = λ names. omega arith }

one_more : (p : Prop) (props : List Prop) (v w : ℕ) → Takes p v → TakeAll props w → TakeAll (p ∷ props) (v + w)
one_more p props v w one all = record {
  in_stream = λ names. omega (arith, one.in_stream names, all.in_stream names, length-append (prop_bytes names p) (props_bytes names props));
  in_file = λ names. omega (arith, one.in_file names, all.in_file names, length-append (entry_bytes names p) (flat_map (entry_bytes names) props), load_streams (value_streams (tag_of names p) p.value) (props_streams names props));
}

alone : (p : Prop) (w : ℕ) → Takes p w → TakeAll (p ∷ []) (w + 0)
alone p w one = one_more p [] w 0 one none_take

integer_takes : (n bits : ℕ) → Takes (integer32 n bits) 16
integer_takes n bits = record { in_stream = λ names. omega arith; in_file = λ names. omega arith }

named_takes : (i : ℕ) → Takes (named_prop i) 32
named_takes i = record { in_stream = λ names. omega arith; in_file = λ names. omega arith }

padded_few : (x : List ℕ) → length (x ++ replicate (pad4 (length x)) 0) ≤ length x + 3
padded_few x = omega (arith, length-append x (replicate (pad4 (length x)) 0), length-replicate {A = ℕ} (pad4 (length x)) 0)

string_takes : (n : ℕ) (text : List ℕ) → Takes (string_prop n text) (80 + 2 * length text)
string_takes n text = record {
  in_stream = λ names. omega (arith, padded_few (wide text ++ replicate 2 0), length-append (wide text) (replicate 2 0), length_wide text);
  in_file = λ names. omega (arith, length_wide text);
}

binary_takes : (n : ℕ) (x : List ℕ) → Takes (record { key = id n; value = bytes 0x0102 x }) (80 + length x)
binary_takes n x = record {
  in_stream = λ names. omega (arith, padded_few (x ++ replicate 0 0), length-append x (replicate 0 0));
  in_file = λ names. omega arith;
}

-- ---- lists

more_take : (props : List Prop) (v w : ℕ) → v ≤ w → TakeAll props v → TakeAll props w
more_take props v w le all = record { in_stream = λ names. omega (arith, all.in_stream names, le); in_file = λ names. omega (arith, all.in_file names, le) }

named_take : (a n : ℕ) → TakeAll (map named_prop (range_with_len a n)) (32 * n)
named_take a zero = none_take
named_take a (suc n) = more_take (map named_prop (range_with_len a (suc n))) (32 + 32 * n) (32 * suc n) (omega arith) (one_more (named_prop a) (map named_prop (range_with_len (a + 1) n)) 32 (32 * n) (named_takes a) (named_take (a + 1) n))

own_take : (n : ℕ) → n < 10000 → TakeAll (sample_props n) (300 + 32 * n)
own_take n few =
    let a : Prop = integer32 0x0017 (n % 3) in
    let b : Prop = string_prop 0x001A (codes "IPM.Note") in
    let c : Prop = string_prop 0x0037 (counted (codes "sample") n) in
    let names : List Prop = map named_prop (range_with_len 0 n) in
    let t : ℕ = 80 + 2 * length (counted (codes "sample") n) in
    more_take (sample_props n) (16 + (96 + (t + 32 * n))) (300 + 32 * n) (omega (arith, counted_few (codes "sample") n few))
    (one_more a (b ∷ c ∷ names) 16 (96 + (t + 32 * n)) (integer_takes 0x0017 (n % 3))
    (one_more b (c ∷ names) 96 (t + 32 * n) (string_takes 0x001A (codes "IPM.Note"))
    (one_more c names t (32 * n) (string_takes 0x0037 (counted (codes "sample") n)) (named_take 0 n))))

recipient_takes : (i : ℕ) → i < 10000 → TakeAll (sample_recipient i) 100
recipient_takes i few =
    let p : Prop = string_prop 0x3001 (codes "r" ++ decimal i) in
    more_take (sample_recipient i) (80 + 2 * length (codes "r" ++ decimal i) + 0) 100 (omega (arith, digits_few i few)) (alone p (80 + 2 * length (codes "r" ++ decimal i)) (string_takes 0x3001 (codes "r" ++ decimal i)))

level_takes : (k : ℕ) → k < 10000 → TakeAll (level_props k) 110
level_takes k few =
    let p : Prop = string_prop 0x0037 (counted (codes "level") k) in
    more_take (level_props k) (80 + 2 * length (counted (codes "level") k) + 0) 110 (omega (arith, counted_few (codes "level") k few)) (alone p (80 + 2 * length (counted (codes "level") k)) (string_takes 0x0037 (counted (codes "level") k)))

data_takes : (i : ℕ) → i < 33 → TakeAll (plain_attachment i).0 4200
data_takes i few =
    let long : length (sample_data i) ≡ 128 * i = length-map-range_with_len (λ j. (i + j) % 251) 0 (128 * i) in
    more_take (plain_attachment i).0 (80 + length (sample_data i) + (16 + 0)) 4200 (omega (arith, long, few))
    (one_more (record { key = id 0x3701; value = bytes 0x0102 (sample_data i) }) (integer32 0x3705 1 ∷ []) (80 + length (sample_data i)) (16 + 0) (binary_takes 0x3701 (sample_data i)) (alone (integer32 0x3705 1) 16 (integer_takes 0x3705 1)))

-- ---- streams

attribute_length : (level n : ℕ) (content : List ℕ) → length (attribute level n content) ≡ 11 + length content
attribute_length level n content = omega (arith, length-append content (le16 (sum16 content)))

rows_few : (names : List Name) (a n : ℕ) → a + n ≤ 10000 → length (flat_map (λ props. list_bytes names props None) (map sample_recipient (range_with_len a n))) ≤ 104 * n
rows_few names a zero few = omega arith
rows_few names a (suc n) few = omega (arith, (recipient_takes a (omega (arith, few))).in_stream names, rows_few names (a + 1) n (omega (arith, few)), length-append (list_bytes names (sample_recipient a) None) (flat_map (λ props. list_bytes names props None) (map sample_recipient (range_with_len (a + 1) n))))

table_few : (names : List Name) (rows : List (List Prop)) (w : ℕ) → length (flat_map (λ props. list_bytes names props None) rows) ≤ w → length (recipients_attribute names rows) ≤ 15 + w
table_few names [] w le = omega arith
table_few names (r ∷ rows) w le =
    let content : List ℕ = le32 (length (r ∷ rows)) ++ flat_map (λ props. list_bytes names props None) (r ∷ rows) in
    omega (arith, le, attribute_length 1 0x00069004 content)

message_few : (names : List Name) (props : List Prop) (rows : List (List Prop)) (all : Attachments) (v w : ℕ) → TakeAll props v → length (recipients_attribute names rows) ≤ w → length (stream_of names (message props rows all)) ≤ 55 + v + w + length (attachments_bytes names all)
message_few names props rows all v w own table =
    let d = props_attribute names props in
    let e = attachments_bytes names all in
    omega (arith, own.in_stream names, table, attribute_length 1 0x00069003 (list_bytes names props None), length-append (page_attribute props) (recipients_attribute names rows ++ (d ++ e)), length-append (recipients_attribute names rows) (d ++ e), length-append d e)

attached_length : (names : List Name) (props : List Prop) (body : Body) (others : Attachments) → length (attachments_bytes names (attached props body others)) ≡ 36 + length (list_bytes names props (content_of names body)) + length (attachments_bytes names others)
attached_length names props body others =
    let a = rendering_attribute props in
    let b = attribute 2 ATTACHMENT (list_bytes names props (content_of names body)) in
    let c = attachments_bytes names others in
    omega (arith, length-append a (b ++ c), length-append b c, attribute_length 2 ATTACHMENT (list_bytes names props (content_of names body)))

object_few : (names : List Name) (x : List ℕ) → length (list_bytes names [] (Some x)) ≤ 19 + length x
object_few names x = omega (arith, padded_few x, ap length (append-nil (object_bytes x)))

level_stream : (names : List Name) (below k : ℕ) → below + k < 10000 → length (stream_of names (level_message below k)) ≤ 300 * (below + 1)
level_stream names zero k few = omega (arith, message_few names (level_props k) [] no_more 110 0 (level_takes k (omega (arith, few))) (omega arith))
level_stream names (suc below) k few =
    let inner : Message = level_message below (k + 1) in
    let x : List ℕ = IID_MESSAGE ++ stream_of names inner in
    omega (arith, message_few names (level_props k) [] (attached [] (embedded inner) no_more) 110 0 (level_takes k (omega (arith, few))) (omega arith), attached_length names [] (embedded inner) no_more, object_few names x, level_stream names below (k + 1) (omega (arith, few)))

attachments_stream : (names : List Name) (levels a n : ℕ) → a + n ≤ 33 → levels ≤ 1000 → length (attachments_bytes names (attachments_from (map plain_attachment (range_with_len a n) ++ level_attachment levels))) ≤ 4300 * n + 300 * (levels + 1)
attachments_stream names zero a zero few low = omega arith
attachments_stream names (suc below) a zero few low =
    let inner : Message = level_message below 1 in
    omega (arith, attached_length names [] (embedded inner) no_more, object_few names (IID_MESSAGE ++ stream_of names inner), level_stream names below 1 (omega (arith, low)))
attachments_stream names levels a (suc n) few low =
    let others : Attachments = attachments_from (map plain_attachment (range_with_len (a + 1) n) ++ level_attachment levels) in
    omega (arith, attached_length names (plain_attachment a).0 nothing others, (data_takes a (omega (arith, few))).in_stream names, attachments_stream names levels (a + 1) n (omega (arith, few)) low)

stream_few : (names : List Name) (n : ℕ) → n ≤ GREATEST_SAMPLE → length (stream_of names (sample_tree n)) ≤ 0x10_0000
stream_few names n few =
    let rows : List (List Prop) = map sample_recipient (range_with_len 0 (n % 2049)) in
    let table = table_few names rows (104 * (n % 2049)) (rows_few names 0 (n % 2049) (omega arith)) in
    omega (arith, few, message_few names (sample_props n) rows (attachments_from (sample_attachments (n % 33))) (300 + 32 * n) (15 + 104 * (n % 2049)) (own_take n (omega (arith, few))) table, attachments_stream names (n % 33) 0 (n % 33) (omega arith) (omega arith))

-- a megabyte at most
pub sample_stream : (n : ℕ) → n ≤ GREATEST_SAMPLE → length (tnef_of (sample_tree n)) ≤ 0x10_0000
sample_stream n few = stream_few (names_of (sample_tree n)) n few

-- ---- files

list_load : (names : List Name) (head : List ℕ) (props : List Prop) (w : ℕ) → TakeAll props w → load (list_files names head props None) ≤ 64 + length head + w
list_load names head props w all = omega (arith, all.in_file names, length-append head (entries_bytes names props None))

rows_load : (names : List Name) (i a n : ℕ) → a + n ≤ 10000 → load (recipient_files names i (map sample_recipient (range_with_len a n))) ≤ 236 * n
rows_load names i a zero few = omega arith
rows_load names i a (suc n) few = omega (arith, list_load names (replicate 8 0) (sample_recipient a) 100 (recipient_takes a (omega (arith, few))), rows_load names (i + 1) (a + 1) n (omega (arith, few)))

head_few : (top : Bool) (m n : ℕ) → length (head_of top m n) ≤ 32
head_few true m n = omega arith
head_few false m n = omega arith

message_load : (names : List Name) (top : Bool) (props : List Prop) (rows : List (List Prop)) (all : Attachments) (w : ℕ) → TakeAll props w → load (message_files names top (message props rows all)) ≤ 96 + w + load (recipient_files names 0 rows) + load (attachment_files names 0 all)
message_load names top props rows all w own =
    let head = head_of top (length rows) (length (listed all)) in
    let a = list_files names head props None in
    let b = recipient_files names 0 rows in
    let c = attachment_files names 0 all in
    omega (arith, list_load names head props w own, head_few top (length rows) (length (listed all)), load_both a (and_files b c), load_both b c)

level_load : (names : List Name) (below k : ℕ) → below + k < 10000 → load (message_files names false (level_message below k)) ≤ 600 * (below + 1)
level_load names zero k few = omega (arith, message_load names false (level_props k) [] no_more 110 (level_takes k (omega (arith, few))))
level_load names (suc below) k few = omega (arith, message_load names false (level_props k) [] (attached [] (embedded (level_message below (k + 1))) no_more) 110 (level_takes k (omega (arith, few))), level_load names below (k + 1) (omega (arith, few)))

attachments_load : (names : List Name) (i levels a n : ℕ) → a + n ≤ 33 → levels ≤ 1000 → load (attachment_files names i (attachments_from (map plain_attachment (range_with_len a n) ++ level_attachment levels))) ≤ 4400 * n + 600 * (levels + 1)
attachments_load names i zero a zero few low = omega arith
attachments_load names i (suc below) a zero few low = omega (arith, level_load names below 1 (omega (arith, low)))
attachments_load names i levels a (suc n) few low =
    let files = list_files names (replicate 8 0) (plain_attachment a).0 None in
    omega (arith, load_both files no_file, list_load names (replicate 8 0) (plain_attachment a).0 4200 (data_takes a (omega (arith, few))), attachments_load names (i + 1) levels (a + 1) n (omega (arith, few)) low)

-- ---- the name map

-- a number in a set of 16 bytes
abbrev Plain : Name → Type 0
Plain name = (length (set_of name) ≡ 16) × (text_of name ≡ [])

plain_names : (a n : ℕ) → AllByRecursion Plain (map (λ i. numbered COMMON (0x8500 + i)) (range_with_len a n))
plain_names a zero = tt
plain_names a (suc n) = ((refl, refl), plain_names (a + 1) n)

texts_none : (names : List Name) → AllByRecursion Plain names → text_stream names ≡ []
texts_none [] all = refl
texts_none (name ∷ names) all = rw (all.0.1, texts_none names all.1) refl

sets_plain : (names : List Name) → AllByRecursion Plain names → AllByRecursion (λ (set : List ℕ). length set ≡ 16) (map set_of names)
sets_plain [] all = tt
sets_plain (name ∷ names) all = (all.0.0, sets_plain names all.1)

module _ {A : Type 0} (p : A → Bool) where
  all_kept : (P : A → Type 0) (xs : List A) → AllByRecursion P xs → AllByRecursion P (filter p xs)
  all_kept P [] all = tt
  all_kept P (x ∷ xs) all = by all.0 (all_kept P xs all.1) (p x)
    where
      by : P x → AllByRecursion P (filter p xs) → (b : Bool) → AllByRecursion P (cond b (x ∷ filter p xs) (filter p xs))
      by one rest true = (one, rest)
      by one rest false = rest

  few_kept : (xs : List A) → length (filter p xs) ≤ length xs
  few_kept [] = omega arith
  few_kept (x ∷ xs) = by (few_kept xs) (p x)
    where
      by : length (filter p xs) ≤ length xs → (b : Bool) → length (cond b (x ∷ filter p xs) (filter p xs)) ≤ suc (length xs)
      by le true = omega (arith, le)
      by le false = omega (arith, le)

load_kept : (p : List ℕ × List ℕ → Bool) (xs : List (List ℕ × List ℕ)) → load (streams_from (filter p xs)) ≤ load (streams_from xs)
load_kept p [] = omega arith
load_kept p (x ∷ xs) = by (load_kept p xs) (p x)
  where
    by : load (streams_from (filter p xs)) ≤ load (streams_from xs) → (b : Bool) → load (streams_from (cond b (x ∷ filter p xs) (filter p xs))) ≤ 64 + length x.1 + load (streams_from xs)
    by le true = omega (arith, le)
    by le false = omega (arith, le)

all_long : (sets : List (List ℕ)) → AllByRecursion (λ (set : List ℕ). length set ≡ 16) sets → length (flat_map (λ set. set) sets) ≡ 16 * length sets
all_long [] all = refl
all_long (set ∷ sets) all = omega (arith, length-append set (flat_map (λ set. set) sets), all.0, all_long sets all.1)

guids_few : (names : List Name) → AllByRecursion Plain names → length (flat_map (λ set. set) (sets_of names)) ≤ 16 * length names
guids_few names all =
    let kept : List (List ℕ) = filter (λ set. not (is_fixed_set set)) (map set_of names) in
    let sixteen = every_elements (slice_cmp nat_cmp) (λ (set : List ℕ). length set ≡ 16) kept [] tt (all_kept (λ set. not (is_fixed_set set)) (λ (set : List ℕ). length set ≡ 16) (map set_of names) (sets_plain names all)) in
    omega (arith, all_long (sets_of names) sixteen, length_elements (slice_cmp nat_cmp) kept [], few_kept (λ set. not (is_fixed_set set)) (map set_of names), length-map names set_of)

entries_few : (sets : List (List ℕ)) (k place : ℕ) (names : List Name) → length (entries_from sets k place names) ≡ 8 * length names
entries_few sets k place [] = refl
entries_few sets k place (name ∷ names) = omega (arith, entries_few sets (k + 1) (place + length (text_of name)) names)

bucket_few : (sets : List (List ℕ)) (b k : ℕ) (names : List Name) → length (bucket_entries sets b k names) ≤ 8 * length names
bucket_few sets b k [] = omega arith
bucket_few sets b k (name ∷ names) = by (bucket_entries sets b (k + 1) names) (bucket_few sets b (k + 1) names) (bucket sets name == b)
  where
    by : (rest : List ℕ) → length rest ≤ 8 * length names → (t : Bool) → length (cond t (le32 (hash_number name) ++ le32 (name_word sets k name)) [] ++ rest) ≤ 8 * suc (length names)
    by rest le true = omega (arith, le)
    by rest le false = omega (arith, le)

hashes_few : (names : List Name) (a n : ℕ) → load (streams_from (map (hash_stream names) (range_with_len a n))) ≤ (64 + 8 * length names) * n
hashes_few names a zero = omega arith
hashes_few names a (suc n) = omega (arith, bucket_few (sets_of names) a 0 names, hashes_few names (a + 1) n)

map_load : (names : List Name) → AllByRecursion Plain names → load (name_map_files names) ≤ 2200 + 300 * length names
map_load names all = omega (arith, guids_few names all, entries_few (sets_of names) 0 0 names, ap length (texts_none names all), load_kept has_bytes (map (hash_stream names) (range_with_len 0 31)), hashes_few names 0 31)

-- ---- all of them

pub names_few : (n : ℕ) → length (names_of (sample_tree n)) ≤ n
names_few n =
    let names : List Name = map (λ i. numbered COMMON (0x8500 + i)) (range_with_len 0 n) in
    omega (arith, length_elements name_cmp (names_in (sample_tree n)) [], ap length (sample_names n), length-map-range_with_len (λ i. numbered COMMON (0x8500 + i)) 0 n)

names_plain : (n : ℕ) → AllByRecursion Plain (names_of (sample_tree n))
names_plain n = every_elements name_cmp Plain (names_in (sample_tree n)) [] tt (subst (AllByRecursion Plain) (sym (sample_names n)) (plain_names 0 n))

-- four megabytes at most, each entry counted as 64
pub sample_load : (n : ℕ) → n ≤ GREATEST_SAMPLE → load (files_of (sample_tree n)) ≤ 0x40_0000
sample_load n few =
    let t : Message = sample_tree n in
    let names : List Name = names_of t in
    let rows : List (List Prop) = map sample_recipient (range_with_len 0 (n % 2049)) in
    omega (arith, few, names_few n, map_load names (names_plain n), message_load names true (sample_props n) rows (attachments_from (sample_attachments (n % 33))) (300 + 32 * n) (own_take n (omega (arith, few))), rows_load names 0 0 (n % 2049) (omega arith), attachments_load names 0 (n % 33) 0 (n % 33) (omega arith) (omega arith))
