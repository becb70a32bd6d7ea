-- The words that are edits. A word is the bytes of a text in UTF-8; the kinds are those of MS-OXCDATA, section 2.11.1.
use Rattle.std.specs.Prelude.{ℕ, zero, suc, ◌+◌, ◌-◌, ◌*◌, ◌^◌, ◌==◌, ◌&&◌, ◌||◌, not, nat_le, nat_lt, Bool, false, if◌then◌else◌, List, [], ◌∷◌, ◌++◌, length, take, drop, slice_index, Option, Some, None, codes, bytes_eq}
use Rattle.std.specs.List.{flat_map, list_all, slice_split}
use Rattle.std.specs.Option.{option_map, option_and_then}
use Rattle.std.specs.Str.{chars}
use Rattle.std.specs.Char.Escape.{encode_utf16}
use Rattle.carrier_model.specs.Bytes.{unit_bytes}
use Rattle.carrier_model.specs.HexDigits.{number_of, bytes_of, guid_of}
use Rattle.carrier_model.specs.Keys.{Key, id, named, numbered}
use Rattle.carrier_model.specs.Values.{Value, number, guid, bytes, number_widths, width_in}
use Rattle.edit_model.specs.Edits.{Spot, itself, recipient, attachment, Place, Edit, set_prop, remove_prop, add_recipient, drop_recipient, drop_attachment}

-- in a do block: a step without a value ends it with none
infixl 10 ◌>>=◌
abbrev pub ◌>>=◌ : {A B : Type 0} → Option A → (A → Option B) → Option B
None >>= f = None
Some x >>= f = f x

-- where a test holds
abbrev pub where_true : {A : Type 0} → Bool → A → Option A
where_true holds x = if holds then Some x else None

-- ---- numbers

abbrev pub is_digit : ℕ → Bool
is_digit c = nat_le 0x30 c && nat_le c 0x39

-- the number that digits say behind others that say n
abbrev pub number_behind : ℕ → List ℕ → ℕ
number_behind n [] = n
number_behind n (c ∷ more) = number_behind (10 * n + (c - 0x30)) more

-- digits, the first of which is no zero but in `0` itself
abbrev pub is_decimal : List ℕ → Bool
is_decimal [] = false
is_decimal (c ∷ more) = list_all is_digit (c ∷ more) && (not (c == 0x30) || (length more == 0))

abbrev pub decimal_of : List ℕ → Option ℕ
decimal_of word = where_true (is_decimal word) (number_behind 0 word)

-- the number of an attachment or a recipient has at most nine digits
abbrev pub place_number : List ℕ → Option ℕ
place_number word = if nat_le (length word) 9 then decimal_of word else None

-- ---- keys

-- four upper-case digits of a number below 8000
abbrev pub id_of : List ℕ → Option Key
id_of word = do
  n ← number_of 4 word
  where_true (nat_lt n 0x8000) (id n)

-- the set's bytes, a slash, and eight upper-case digits of the number
abbrev pub name_of : List ℕ → Option Key
name_of word = do
  set ← guid_of (take 32 word)
  n ← number_of 8 (drop 33 word)
  where_true (slice_index word 32 == 0x2F) (named (numbered set n))

abbrev pub key_of : List ℕ → Option Key
key_of word = if length word == 4 then id_of word else (if length word == 41 then name_of word else None)

-- ---- kinds and values

-- the kinds that an edit may have, by their names
abbrev pub edit_kinds : List (List ℕ × ℕ)
edit_kinds =
    (codes "Integer16", 0x0002)
    ∷ (codes "Integer32", 0x0003)
    ∷ (codes "Integer64", 0x0014)
    ∷ (codes "Currency", 0x0006)
    ∷ (codes "ErrorCode", 0x000A)
    ∷ (codes "Boolean", 0x000B)
    ∷ (codes "Time", 0x0040)
    ∷ (codes "String", 0x001F)
    ∷ (codes "Binary", 0x0102)
    ∷ (codes "Guid", 0x0048)
    ∷ []

abbrev pub kind_among : List (List ℕ × ℕ) → List ℕ → Option ℕ
kind_among [] word = None
kind_among (row ∷ rows) word = if bytes_eq row.0 word then Some row.1 else kind_among rows word

abbrev pub kind_of_word : List ℕ → Option ℕ
kind_of_word word = kind_among edit_kinds word

-- a text in UTF-16, the low byte of a unit first
abbrev pub wide_text : List ℕ → List ℕ
wide_text word = unit_bytes (flat_map encode_utf16 (chars word))

-- one more than the greatest number of a kind; a Boolean is 0 or 1
abbrev pub numbers_below : ℕ → ℕ
numbers_below kind = if kind == 0x000B then 2 else 2 ^ (8 * width_in number_widths kind)

abbrev pub number_value : ℕ → List ℕ → Option Value
number_value kind word = do
  bits ← decimal_of word
  where_true (nat_lt bits (numbers_below kind)) (number kind bits)

-- a String is the word itself, a Binary and a Guid are bytes, any other kind is a number
abbrev pub value_of : ℕ → List ℕ → Option Value
value_of kind word =
    if kind == 0x001F then Some (bytes 0x001F (wide_text word))
    else if kind == 0x0102 then option_map (bytes 0x0102) (bytes_of word)
    else if kind == 0x0048 then option_map guid (guid_of word)
    else number_value kind word

-- ---- places

-- where steps lead from the message at a path: `m` and a number into the message that an attachment embeds, and as the last
-- step `r` and a number to a recipient, or `a` and a number to an attachment
abbrev pub step_from : List ℕ → ℕ → ℕ → List (List ℕ) → (List ℕ → Option Place) → Option Place
step_from path letter n steps onward =
    if letter == 0x6D then onward (path ++ n ∷ [])
    else if (letter == 0x72) && (length steps == 0) then Some (record { path = path; spot = recipient n })
    else if (letter == 0x61) && (length steps == 0) then Some (record { path = path; spot = attachment n })
    else None

abbrev pub place_from : List ℕ → List (List ℕ) → Option Place
place_from path [] = Some (record { path = path; spot = itself })
place_from path ([] ∷ steps) = None
place_from path ((letter ∷ digits) ∷ steps) = do
  n ← place_number digits
  step_from path letter n steps (λ longer. place_from longer steps)

-- steps behind a dot, each behind a slash
abbrev pub place_of_parts : List (List ℕ) → Option Place
place_of_parts [] = None
place_of_parts (first ∷ steps) = if bytes_eq first (codes ".") then place_from [] steps else None

abbrev pub place_of : List ℕ → Option Place
place_of word = place_of_parts (slice_split (λ c. c == 0x2F) word)

-- the path of a place that is a message
abbrev pub path_with : List ℕ → Spot → Option (List ℕ)
path_with path itself = Some path
path_with path (recipient n) = None
path_with path (attachment n) = None

abbrev pub path_to : Place → Option (List ℕ)
path_to place = path_with place.path place.spot

abbrev pub message_of : List ℕ → Option (List ℕ)
message_of word = option_and_then path_to (place_of word)

-- ---- edits

abbrev pub set_of : (place key kind value : List ℕ) → Option Edit
set_of place key kind value = do
  p ← place_of place
  k ← key_of key
  n ← kind_of_word kind
  v ← value_of n value
  Some (set_prop p (record { key = k; value = v }))

abbrev pub remove_of : (place key kind : List ℕ) → Option Edit
remove_of place key kind = do
  p ← place_of place
  k ← key_of key
  n ← kind_of_word kind
  Some (remove_prop p k n)

abbrev pub drop_of : (verb message n : List ℕ) → Option Edit
drop_of verb message n = do
  path ← message_of message
  k ← place_number n
  if bytes_eq verb (codes "drop-recipient") then Some (drop_recipient path k)
      else where_true (bytes_eq verb (codes "drop-attachment")) (drop_attachment path k)

-- the edit of its first word and the others
abbrev pub edit_of : List ℕ → List (List ℕ) → Option Edit
edit_of verb [] = None
edit_of verb (message ∷ []) = if bytes_eq verb (codes "add-recipient") then option_map add_recipient (message_of message) else None
edit_of verb (message ∷ n ∷ []) = drop_of verb message n
edit_of verb (place ∷ key ∷ kind ∷ []) = if bytes_eq verb (codes "remove") then remove_of place key kind else None
edit_of verb (place ∷ key ∷ kind ∷ value ∷ []) = if bytes_eq verb (codes "set") then set_of place key kind value else None
edit_of verb (place ∷ key ∷ kind ∷ value ∷ more ∷ others) = None

-- how many words stand behind the first word of an edit
abbrev pub words_behind : List ℕ → ℕ
words_behind verb =
    if bytes_eq verb (codes "set") then 4
    else if bytes_eq verb (codes "remove") then 3
    else if bytes_eq verb (codes "add-recipient") then 1
    else 2

-- the edits of words, of which some are skipped, behind other edits
abbrev pub edits_behind : List Edit → ℕ → List (List ℕ) → Option (List Edit)
edits_behind edits skipped [] = Some edits
edits_behind edits zero (verb ∷ words) = do
  edit ← edit_of verb (take (words_behind verb) words)
  edits_behind (edits ++ edit ∷ []) (words_behind verb) words
edits_behind edits (suc skipped) (word ∷ words) = edits_behind edits skipped words

-- the most bytes of a word
abbrev pub MOST_WORD_BYTES : ℕ
MOST_WORD_BYTES = 1048576

abbrev pub are_short : List (List ℕ) → Bool
are_short words = list_all (λ word. nat_le (length word) MOST_WORD_BYTES) words

-- one or more edits
abbrev pub edits_of : List (List ℕ) → Option (List Edit)
edits_of words = if not (length words == 0) && are_short words then edits_behind [] 0 words else None
