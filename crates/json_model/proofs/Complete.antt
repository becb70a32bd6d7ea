-- What means a tree is read as that tree.
use Rattle.std.proofs.Common.{◌≡◌, ℕ, suc, inl, inr, is_some, ◌+◌, ◌*◌, ◌/◌, ◌%◌, ◌^◌, ◌<◌, ◌≤◌, List, [], ◌∷◌, ◌++◌, length, Bool, true, false, cond, Some, refl, ap, sym, ◌∙◌, arith, true≢false, subst}
use Rattle.std.specs.Prelude.{◌||◌, not, ◌⊎◌, ◌&&◌, ◌==◌, codes, nat_le, nat_lt, Result, Ok, bytes_eq}
use Rattle.std.proofs.lemmas.Bool.Decides.{nat_tests}
use Rattle.std.proofs.lemmas.Slice.Eq.{bytes_eq-Decides}
use Rattle.std.specs.List.{AllByRecursion, list_all, flat_map}
use Rattle.std.specs.Str.{chars}
use Rattle.std.specs.Char.Escape.{encode_utf16}
use Rattle.std.proofs.lemmas.List.{append-nil, append_assoc}
use Rattle.serde_json.specs.Data.{Data, string, array, object, Items, no_items, item}
use Rattle.serde_json.specs.Data as json
use Rattle.carrier_model.specs.Bytes.{units_of, unit_bytes}
use Rattle.carrier_model.specs.Keys.{Key, id, named, Name, numbered, texted, IsKey}
use Rattle.carrier_model.specs.HexDigits.{is_hex, is_digit, number_in}
use Rattle.carrier_model.specs.KeyTexts.{hex_digits, upper}
use Rattle.carrier_model.specs.KindNames.{kind_names}
use Rattle.carrier_model.specs.Lists.{looked_up}
use Rattle.carrier_model.specs.Values.{list_limit}
use Rattle.json_model.specs.ByteTrees.{AreBytes}
use Rattle.json_model.specs.Digits.{hex, read_groups, read_hex, read_guid, read_id}
use Rattle.json_model.specs.Faults.{JsonFault, mapped}
use Rattle.json_model.specs.JsonMeanings.{HasMembers, OfMember, HexMeans, TextMeans, NameMeans, NumberMeans, ItemsMean, ArrayMeans, KeyMeans, KindMeans}
use Rattle.json_model.specs.Parts.{has_members, number_below, in_turn, read_each}
use Rattle.json_model.specs.Properties.{NUMBERED, TEXTED, MOST_UNITS, read_named, read_list, read_key, read_kind, kind_among}
use Rattle.json_model.specs.Texts.{UNITS, read_units, read_text, read_name}
use Rattle.json_model.proofs.Keys.{not_members_second, firsts_differ, false_if}
use Rattle.serde_json.specs.Find.{get}
use Rattle.json_model.proofs.HexLaws.{and_true, and_both, hex_reads}
use Rattle.carrier_model.proofs.HexDigits.{reads_digit}

-- ---- digits

whole_hex : (x : List ℕ) → AreBytes x → is_hex (hex x) ≡ true
whole_hex x h =
    let r = hex_reads x h in
    let e = r.each in
    let even : (length (hex x) % 2 == 0) ≡ true = let z : length (hex x) % 2 ≡ 0 = omega (arith, e) in grind (arith, nat_tests) in
    and_both _ _ r.digits even

groups_read : (group : ℕ) (v : Data) (x : List ℕ) → HexMeans v x → length (hex x) % group ≡ 0 → read_groups group v ≡ Ok x
groups_read group v x h whole =
    let c : (is_hex (hex x) && (length (hex x) % group == 0)) ≡ true = and_both _ _ (whole_hex x h.1) (ap (λ n. n == 0) whole) in
    ap (read_groups group) h.0 ∙ rw c (ap Ok (hex_reads x h.1).again)

pub hex_read : (v : Data) (x : List ℕ) → HexMeans v x → read_hex v ≡ Ok x
hex_read v x h = groups_read 2 v x h (let e = (hex_reads x h.1).each in omega (arith, e))

pub guid_read : (v : Data) (x : List ℕ) → HexMeans v x → length x ≡ 16 → read_guid v ≡ Ok x
guid_read v x h is =
    let e : length (hex x) ≡ 32 = let e = (hex_reads x h.1).each in omega (arith, e, is) in
    let c : (is_hex (hex x) && (length (hex x) == 32)) ≡ true = and_both _ _ (whole_hex x h.1) (ap (λ n. n == 32) e) in
    ap read_guid h.0 ∙ rw c (ap Ok (hex_reads x h.1).again)

id_read : (n : ℕ) → n < 0x8000 → read_id (hex_digits upper 4 n) ≡ Ok n
id_read n lt =
    let a = reads_digit upper (n / 16 / 16 / 16 % 16) (omega arith) (omega arith) in
    let b = reads_digit upper (n / 16 / 16 % 16) (omega arith) (omega arith) in
    let c = reads_digit upper (n / 16 % 16) (omega arith) (omega arith) in
    let d = reads_digit upper (n % 16) (omega arith) (omega arith) in
    let digits : (list_all (is_digit upper) (hex_digits upper 4 n) && (length (hex_digits upper 4 n) == 4)) ≡ true = rw (a.digit, b.digit, c.digit, d.digit) refl in
    let is : number_in (hex_digits upper 4 n) ≡ n = rw (a.value, b.value, c.value, d.value) (let e : 16 * (16 * (16 * (0 + n / 16 / 16 / 16 % 16) + n / 16 / 16 % 16) + n / 16 % 16) + n % 16 ≡ n = omega (arith, lt) in e) in
    let small : nat_lt (number_in (hex_digits upper 4 n)) 0x8000 ≡ true = ap (λ m. nat_lt m 0x8000) is ∙ grind (arith, nat_tests) in
    rw (digits, small) (ap Ok is)

-- ---- texts

units_read : (v : Data) (x : List ℕ) → HasMembers UNITS v → OfMember (codes "units") v (λ d. HexMeans d x) → length x % 2 ≡ 0 → read_units v ≡ Ok x
units_read v x h (d, at, is) even =
    let whole : length (hex x) % 4 ≡ 0 = let e = (hex_reads x is.1).each in omega (arith, e, even) in
    rw (h, at, groups_read 4 d x is whole) refl

pub text_read : (v : Data) (x : List ℕ) → TextMeans v x → read_text v ≡ Ok x
text_read v x (inl h) = ap read_text h.1 ∙ ap Ok (sym h.2)
text_read json.null x (inr h) = units_read json.null x h.0 h.1 h.2
text_read (json.boolean b) x (inr h) = units_read (json.boolean b) x h.0 h.1 h.2
text_read (json.number n) x (inr h) = units_read (json.number n) x h.0 h.1 h.2
text_read (string s) x (inr h) = absurd (true≢false (sym h.0))
text_read (array ds) x (inr h) = units_read (array ds) x h.0 h.1 h.2
text_read (object ms) x (inr h) = units_read (object ms) x h.0 h.1 h.2

-- the bytes of a text are of whole units
units_even : (units : List ℕ) → length (unit_bytes units) % 2 ≡ 0
units_even [] = refl
units_even (u ∷ units) = omega (arith, units_even units)

pub text_even : (v : Data) (x : List ℕ) → TextMeans v x → length x % 2 ≡ 0
text_even v x (inl h) = ap (λ y. length y % 2) h.2 ∙ units_even (flat_map encode_utf16 (chars h.0))
text_even v x (inr h) = h.2

pub units_half : (x : List ℕ) → length x % 2 ≡ 0 → length x ≡ 2 * length (units_of x)
units_half [] e = refl
units_half (a ∷ []) e = absurd (omega (arith, e))
units_half (a ∷ b ∷ x) e = omega (arith, units_half x (omega (arith, e)))

pub name_read : (most : ℕ) (v : Data) (units : List ℕ) → NameMeans v units → length units ≤ most → read_name most v ≡ Ok units
name_read most v units (x, is, same) short =
    let e = units_half x (text_even v x is) in
    let s = ap length same in
    let fits : nat_le (length x) (2 * most) ≡ true = let le : length x ≤ 2 * most = omega (arith, e, s, short) in grind (arith, nat_tests) in
    rw (text_read v x is, fits) (ap Ok (sym same))

-- ---- lists

pub items_read : {A : Type 0} (read : Data → Result A JsonFault) (means : Data → A → Type 0) (P : A → Type 0) → ((v : Data) (x : A) → means v x → P x → read v ≡ Ok x)
    → (before : List A) (ds : Items) (xs : List A) → ItemsMean means ds xs → AllByRecursion P xs → in_turn (λ b. read) before ds ≡ Ok (before ++ xs)
items_read read means P each before no_items [] h k = ap Ok (sym (append-nil before))
items_read read means P each before no_items (x ∷ xs) h k = absurd h
items_read read means P each before (item d ds) [] h k = absurd h
items_read read means P each before (item d ds) (x ∷ xs) h k = rw (each d x h.0 k.0) (items_read read means P each (before ++ x ∷ []) ds xs h.1 k.1 ∙ ap Ok (append_assoc before (x ∷ []) xs))

pub each_read : {A : Type 0} (read : Data → Result A JsonFault) (means : Data → A → Type 0) (P : A → Type 0) → ((v : Data) (x : A) → means v x → P x → read v ≡ Ok x)
    → (v : Data) (xs : List A) → ArrayMeans means v xs → AllByRecursion P xs → read_each read v ≡ Ok xs
each_read read means P each v xs (ds, is, h) k = ap (read_each read) is ∙ items_read read means P each [] ds xs h k

pub list_read : {A : Type 0} (read : Data → Result A JsonFault) (means : Data → A → Type 0) (P : A → Type 0) → ((v : Data) (x : A) → means v x → P x → read v ≡ Ok x)
    → (v : Data) (xs : List A) → ArrayMeans means v xs → AllByRecursion P xs → length xs < list_limit → read_list read v ≡ Ok xs
list_read read means P each v xs h k few =
    let short : nat_lt (length xs) list_limit ≡ true = grind (arith, nat_tests) in
    rw (each_read read means P each v xs h k, short) refl

-- ---- properties

pub number_read : (limit : ℕ) (v : Data) (n : ℕ) → NumberMeans v n → n < limit → number_below limit v ≡ Ok n
number_read limit v n h lt =
    let small : nat_lt n limit ≡ true = grind (arith, nat_tests) in
    ap (number_below limit) h ∙ rw small refl

named_numbered : (v : Data) (set : List ℕ) (n : ℕ) → KeyMeans v (named (numbered set n)) → IsKey (named (numbered set n)) → read_named v ≡ Ok (numbered set n)
named_numbered v set n (h, (a, at, is), (b, to, are)) ok =
    rw (h, at, number_read (2 ^ 32) a n is ok.1, to, guid_read b set are ok.0) refl

-- an object has one or the other members
not_numbered : (v : Data) → HasMembers TEXTED v → has_members NUMBERED v ≡ false
not_numbered v h =
    not_members_second v (codes "number") (codes "set") (codes "set") (codes "text") h
    (firsts_differ (codes "number") (codes "set") 110 115 refl refl (λ e. absurd (omega (arith, e))))
    (firsts_differ (codes "text") (codes "number") 116 110 refl refl (λ e. absurd (omega (arith, e))))
    (firsts_differ (codes "text") (codes "set") 116 115 refl refl (λ e. absurd (omega (arith, e))))

named_texted : (v : Data) (set units : List ℕ) → KeyMeans v (named (texted set units)) → IsKey (named (texted set units)) → read_named v ≡ Ok (texted set units)
named_texted v set units (h, (a, at, is), (b, to, are)) ok =
    rw (not_numbered v h, h, at, guid_read a set is ok.0, to, name_read MOST_UNITS b units are ok.1) refl

object_key : (v : Data) (names : List (List ℕ)) (n : Name) → HasMembers names v → 0 < length names → read_named v ≡ Ok n → read_key v ≡ Ok (named n)
object_key json.null names n h some e = ap (mapped named) e
object_key (json.boolean b) names n h some e = ap (mapped named) e
object_key (json.number x) names n h some e = ap (mapped named) e
object_key (string s) [] n h some e = absurd (omega (arith, some))
object_key (string s) (name ∷ names) n h some e = absurd (true≢false (sym h ∙ (let z : (0 == suc (length names)) ≡ false = grind (arith, nat_tests) in ap (λ t. t && list_all (λ (name : List ℕ). is_some (get name (string s))) (name ∷ names)) z)))
object_key (array ds) names n h some e = ap (mapped named) e
object_key (object ms) names n h some e = ap (mapped named) e

pub key_read : (v : Data) (key : Key) → KeyMeans v key → IsKey key → read_key v ≡ Ok key
key_read v (id n) h ok = ap read_key h ∙ ap (mapped id) (id_read n ok)
key_read v (named (numbered set n)) h ok = object_key v NUMBERED (numbered set n) h.0 (omega arith) (named_numbered v set n h ok)
key_read v (named (texted set units)) h ok = object_key v TEXTED (texted set units) h.0 (omega arith) (named_texted v set units h ok)

-- ---- kinds

abbrev has_name : List ℕ → List (ℕ × List ℕ) → Bool
has_name name [] = false
has_name name (row ∷ rows) = bytes_eq row.1 name || has_name name rows

abbrev are_distinct : List (ℕ × List ℕ) → Bool
are_distinct [] = true
are_distinct (row ∷ rows) = not (has_name row.1 rows) && are_distinct rows

or_second : (a b : Bool) → b ≡ true → (a || b) ≡ true
or_second true b h = refl
or_second false b h = h

not_true : (b : Bool) → not b ≡ true → b ≡ false
not_true true h = absurd (true≢false (sym h))
not_true false h = refl

named_row : (row : ℕ × List ℕ) (rows : List (ℕ × List ℕ)) (n : ℕ) (name : List ℕ) (b : Bool) → (row.0 == n) ≡ b → cond b (Some row.1) (looked_up rows n) ≡ Some name → (b ≡ false → has_name name rows ≡ true) → has_name name (row ∷ rows) ≡ true
named_row row rows n name true e h rest = let is : row.1 ≡ name = cc in let same : bytes_eq row.1 name ≡ true = (bytes_eq-Decides row.1 name).1 is in rw same refl
named_row row rows n name false e h rest = or_second (bytes_eq row.1 name) (has_name name rows) (rest refl)

has_row : (rows : List (ℕ × List ℕ)) (n : ℕ) (name : List ℕ) → looked_up rows n ≡ Some name → has_name name rows ≡ true
has_row [] n name h = cc
has_row (row ∷ rows) n name h = named_row row rows n name (row.0 == n) refl h (λ e. has_row rows n name (subst (λ b. cond b (Some row.1) (looked_up rows n) ≡ Some name) e h))

rest_at : (row : ℕ × List ℕ) (rows : List (ℕ × List ℕ)) (n : ℕ) (name : List ℕ) (b : Bool) → (row.0 == n) ≡ b → cond b (Some row.1) (looked_up rows n) ≡ Some name → (looked_up rows n ≡ Some name → kind_among rows name ≡ Ok n) → (kind_among rows name ≡ Ok n) ⊎ (b ≡ true)
rest_at row rows n name true e h rest = inr refl
rest_at row rows n name false e h rest = inl (rest h)

kind_at : (row : ℕ × List ℕ) (rows : List (ℕ × List ℕ)) (n : ℕ) (name : List ℕ) (b : Bool) → (row.0 == n) ≡ b → cond b (Some row.1) (looked_up rows n) ≡ Some name → not (has_name row.1 rows) ≡ true → (kind_among rows name ≡ Ok n) ⊎ (b ≡ true) → kind_among (row ∷ rows) name ≡ Ok n
kind_at row rows n name true e h d rest =
    let is : row.1 ≡ name = cc in
    let same : bytes_eq row.1 name ≡ true = (bytes_eq-Decides row.1 name).1 is in
    let number : row.0 ≡ n = grind (arith, nat_tests) in
    rw same (ap Ok number)
kind_at row rows n name false e h d (inr q) = absurd (true≢false (sym q))
kind_at row rows n name false e h d (inl rest) =
    let other : bytes_eq row.1 name ≡ false = false_if (bytes_eq row.1 name) (λ q. let is = (bytes_eq-Decides row.1 name).0 q in true≢false (sym (has_row rows n name h) ∙ (ap (λ x. has_name x rows) (sym is) ∙ not_true (has_name row.1 rows) d))) in
    rw other rest

kind_found : (rows : List (ℕ × List ℕ)) → are_distinct rows ≡ true → (n : ℕ) (name : List ℕ) → looked_up rows n ≡ Some name → kind_among rows name ≡ Ok n
kind_found [] d n name h = cc
kind_found (row ∷ rows) d n name h =
    let both = and_true (not (has_name row.1 rows)) (are_distinct rows) d in
    kind_at row rows n name (row.0 == n) refl h both.0 (rest_at row rows n name (row.0 == n) refl h (λ k. kind_found rows both.1 n name k))

pub kind_read : (v : Data) (n : ℕ) → KindMeans v n → read_kind v ≡ Ok n
kind_read v n (name, is, h) = ap read_kind is ∙ kind_found kind_names refl n name h
