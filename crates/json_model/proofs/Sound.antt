-- What is read is meant: digits, texts, lists and keys.
use Rattle.std.proofs.Common.{◌≡◌, ℕ, inl, inr, ◌+◌, ◌*◌, ◌/◌, ◌%◌, ◌^◌, ◌<◌, ◌≤◌, List, [], ◌∷◌, ◌++◌, length, Bool, true, false, cond, Option, Some, None, refl, ap, sym, ◌∙◌, arith, subst}
use Rattle.std.specs.Prelude.{◌&&◌, ◌==◌, codes, nat_le, nat_lt, Result, Ok, Err}
use Rattle.std.proofs.lemmas.Bool.Decides.{nat_tests}
use Rattle.std.proofs.lemmas.List.{append-nil, append_assoc}
use Rattle.std.specs.List.{AllByRecursion, list_all, flat_map}
use Rattle.std.specs.Str.{chars}
use Rattle.std.specs.Char.Escape.{encode_utf16}
use Rattle.serde_json.specs.Data.{Data, null, boolean, string, array, object, Items, no_items, item, unsigned, negative, float}
use Rattle.serde_json.specs.Data as json
use Rattle.carrier_model.specs.Bytes.{units_of}
use Rattle.carrier_model.specs.Keys.{Key, id, named, Name, numbered, texted, IsKey}
use Rattle.carrier_model.specs.HexDigits.{is_hex, is_digit, digit_of, bytes_in, number_in}
use Rattle.carrier_model.specs.KeyTexts.{hex_digits, hex_digit, lower, upper}
use Rattle.carrier_model.specs.Trees.{KeyHasUnits}
use Rattle.json_model.specs.ByteTrees.{AreBytes}
use Rattle.json_model.specs.Digits.{hex, read_groups, read_hex, read_guid, read_id}
use Rattle.json_model.specs.Faults.{JsonFault, Shape, ◌>>=◌, check, under, mapped, fault_here, digits, range, form}
use Rattle.json_model.specs.JsonMeanings.{HexMeans, TextMeans, NameMeans, NumberMeans, ItemsMean, ArrayMeans, KeyMeans}
use Rattle.json_model.specs.Parts.{has_members, formed, member_at, number_below, in_turn, read_each, items_at}
use Rattle.json_model.specs.Properties.{NUMBERED, TEXTED, MOST_UNITS, read_named, read_numbered, read_texted, read_key}
use Rattle.json_model.specs.Texts.{UNITS, read_units, read_text, read_name, utf16_of}
use Rattle.json_model.proofs.Complete.{units_half, text_even}
use Rattle.json_model.proofs.Meant.{turns_all, unit_bytes_are}
use Rattle.json_model.proofs.WellFormed.{units_small}
use Rattle.json_model.proofs.HexLaws.{and_true, hex_prints}
use Rattle.carrier_model.proofs.HexDigits.{prints_digit}

-- ---- steps

pub bind_was : {A B : Type 0} (r : Result A JsonFault) (next : A → Result B JsonFault) (b : B) → (r >>= next) ≡ Ok b → (a : A) × (r ≡ Ok a) × (next a ≡ Ok b)
bind_was (Ok a) next b h = (a, refl, h)
bind_was (Err g) next b h = cc

pub under_was : {A : Type 0} (step : ℕ) (r : Result A JsonFault) (a : A) → under step r ≡ Ok a → r ≡ Ok a
under_was step (Ok x) a h = h
under_was step (Err g) a h = cc

pub check_was : (b : Bool) (why : Shape) (x : Unit {0}) → check b why ≡ Ok x → b ≡ true
check_was true why x h = refl
check_was false why x h = cc

pub mapped_was : {A B : Type 0} (f : A → B) (r : Result A JsonFault) (b : B) → mapped f r ≡ Ok b → (a : A) × (r ≡ Ok a) × (f a ≡ b)
mapped_was f (Ok a) b h = (a, refl, cc)
mapped_was f (Err g) b h = cc

pub formed_was : {A : Type 0} (o : Option A) (a : A) → formed o ≡ Ok a → o ≡ Some a
formed_was None a h = cc
formed_was (Some x) a h = cc

-- ---- digits

groups_meant : (group : ℕ) (v : Data) (x : List ℕ) → read_groups group v ≡ Ok x → HexMeans v x × (2 * length x % group ≡ 0)
groups_meant group null x h = cc
groups_meant group (boolean b) x h = cc
groups_meant group (json.number n) x h = cc
groups_meant group (array ds) x h = cc
groups_meant group (object ms) x h = cc
groups_meant group (string s) x h =
    let (u, ok, is) = bind_was (check (is_hex s && (length s % group == 0)) digits) _ x h in
    let both = and_true (is_hex s) (length s % group == 0) (check_was _ digits u ok) in
    let hexes = and_true (list_all (is_digit lower) s) (length s % 2 == 0) both.0 in
    let p = hex_prints s hexes.0 (let e = hexes.1 in grind (arith, nat_tests)) in
    let same : bytes_in s ≡ x = cc in
    let whole : length s % group ≡ 0 = let e = both.1 in grind (arith, nat_tests) in
    ((ap string (sym p.again) ∙ ap (λ y. string (hex y)) same, subst AreBytes same p.are_bytes), ap (λ n. n % group) (ap (λ (y : List ℕ). 2 * length y) (sym same) ∙ p.each) ∙ whole)

pub hex_meant : (v : Data) (x : List ℕ) → read_hex v ≡ Ok x → HexMeans v x
hex_meant v x h = (groups_meant 2 v x h).0

pub guid_meant : (v : Data) (x : List ℕ) → read_guid v ≡ Ok x → HexMeans v x × (length x ≡ 16)
guid_meant null x h = cc
guid_meant (boolean b) x h = cc
guid_meant (json.number n) x h = cc
guid_meant (array ds) x h = cc
guid_meant (object ms) x h = cc
guid_meant (string s) x h =
    let (u, ok, is) = bind_was (check (is_hex s && (length s == 32)) digits) _ x h in
    let both = and_true (is_hex s) (length s == 32) (check_was _ digits u ok) in
    let hexes = and_true (list_all (is_digit lower) s) (length s % 2 == 0) both.0 in
    let p = hex_prints s hexes.0 (let e = hexes.1 in grind (arith, nat_tests)) in
    let same : bytes_in s ≡ x = cc in
    let whole : length s ≡ 32 = let e = both.1 in grind (arith, nat_tests) in
    let long = ap (λ (y : List ℕ). length y) same in
    let each = p.each in
    ((ap string (sym p.again) ∙ ap (λ y. string (hex y)) same, subst AreBytes same p.are_bytes), omega (arith, long, each, whole))

four : (s : List ℕ) → length s ≡ 4 → list_all (is_digit upper) s ≡ true → hex_digits upper 4 (number_in s) ≡ s
four [] l h = absurd (omega (arith, l))
four (a ∷ []) l h = absurd (omega (arith, l))
four (a ∷ b ∷ []) l h = absurd (omega (arith, l))
four (a ∷ b ∷ c ∷ []) l h = absurd (omega (arith, l))
four (a ∷ b ∷ c ∷ d ∷ e ∷ s) l h = absurd (omega (arith, l))
four (a ∷ b ∷ c ∷ d ∷ []) l h =
    let w = and_true (is_digit upper a) (is_digit upper b && (is_digit upper c && (is_digit upper d && true))) h in
    let x = and_true (is_digit upper b) (is_digit upper c && (is_digit upper d && true)) w.1 in
    let y = and_true (is_digit upper c) (is_digit upper d && true) x.1 in
    let z = and_true (is_digit upper d) true y.1 in
    let p = prints_digit upper a (omega arith) w.0 in
    let q = prints_digit upper b (omega arith) x.0 in
    let r = prints_digit upper c (omega arith) y.0 in
    let t = prints_digit upper d (omega arith) z.0 in
    let i = digit_of upper a in
    let j = digit_of upper b in
    let k = digit_of upper c in
    let m = digit_of upper d in
    let n = 16 * (16 * (16 * (0 + i) + j) + k) + m in
    let e : n / 16 / 16 / 16 % 16 ≡ i = omega (arith, p.small, q.small, r.small, t.small) in
    let f : n / 16 / 16 % 16 ≡ j = omega (arith, p.small, q.small, r.small, t.small) in
    let g : n / 16 % 16 ≡ k = omega (arith, p.small, q.small, r.small, t.small) in
    let o : n % 16 ≡ m = omega (arith, p.small, q.small, r.small, t.small) in
    (λ u. hex_digit upper (e u) ∷ hex_digit upper (f u) ∷ hex_digit upper (g u) ∷ hex_digit upper (o u) ∷ [])
    ∙ (λ u. p.again u ∷ q.again u ∷ r.again u ∷ t.again u ∷ [])

id_meant : (s : List ℕ) (n : ℕ) → read_id s ≡ Ok n → (s ≡ hex_digits upper 4 n) × (n < 0x8000)
id_meant s n h =
    let (u, ok, rest) = bind_was (check (list_all (is_digit upper) s && (length s == 4)) digits) _ n h in
    let both = and_true (list_all (is_digit upper) s) (length s == 4) (check_was _ digits u ok) in
    let (w, fits, is) = bind_was (check (nat_lt (number_in s) 0x8000) range) _ n rest in
    let small = check_was (nat_lt (number_in s) 0x8000) range w fits in
    let same : number_in s ≡ n = cc in
    let lt : number_in s < 0x8000 = grind (arith, nat_tests) in
    (sym (four s (let e = both.1 in grind (arith, nat_tests)) both.0) ∙ ap (hex_digits upper 4) same, omega (arith, same, lt))

-- ---- texts

record IsText (v : Data) (x : List ℕ) : Type 0 where
  means : TextMeans v x
  are_bytes : AreBytes x

units_meant : (v : Data) (x : List ℕ) → read_units v ≡ Ok x → IsText v x
units_meant v x h =
    let (u, ok, rest) = bind_was (check (has_members UNITS v) form) _ x h in
    let (d, at, is) = bind_was (member_at (codes "units") v) _ x rest in
    let (hexes, whole) = groups_meant 4 d x (under_was 0 (read_groups 4 d) x is) in
    record { means = inr (check_was _ form u ok, (d, formed_was _ d at, hexes), omega (arith, whole)); are_bytes = hexes.1 }

text_of : (v : Data) (x : List ℕ) → read_text v ≡ Ok x → IsText v x
text_of null x h = units_meant null x h
text_of (boolean b) x h = units_meant (boolean b) x h
text_of (json.number n) x h = units_meant (json.number n) x h
text_of (string s) x h = let same : utf16_of s ≡ x = cc in record { means = inl (s, refl, sym same); are_bytes = subst AreBytes same (unit_bytes_are (flat_map encode_utf16 (chars s))) }
text_of (array ds) x h = units_meant (array ds) x h
text_of (object ms) x h = units_meant (object ms) x h

pub text_is_meant : (v : Data) (x : List ℕ) → read_text v ≡ Ok x → TextMeans v x
text_is_meant v x h = (text_of v x h).means

pub record IsShortName (most : ℕ) (v : Data) (units : List ℕ) : Type 0 where
  pub means : NameMeans v units
  pub short : length units ≤ most
  pub small : AllByRecursion (λ u. u < 2 ^ 16) units

pub name_is : (most : ℕ) (v : Data) (units : List ℕ) → read_name most v ≡ Ok units → IsShortName most v units
name_is most v units h =
    let (x, text, rest) = bind_was (read_text v) _ units h in
    let t = text_of v x text in
    let (u, ok, is) = bind_was (check (nat_le (length x) (2 * most)) range) _ units rest in
    let fits = check_was (nat_le (length x) (2 * most)) range u ok in
    let le : length x ≤ 2 * most = grind (arith, nat_tests) in
    let same : units_of x ≡ units = cc in
    let half = units_half x (text_even v x t.means) in
    let long = ap (λ (y : List ℕ). length y) same in
    record { means = (x, t.means, sym same); short = omega (arith, le, half, long); small = subst (AllByRecursion (λ u. u < 2 ^ 16)) same (units_small x t.are_bytes) }

-- ---- lists

pub record AllMeant {A : Type 0} (means : Data → A → Type 0) (P : A → Type 0) (ds : Items) (xs : List A) : Type 0 where
  pub items : ItemsMean means ds xs
  pub each : AllByRecursion P xs

-- the elements behind those that were there
pub items_are : {A : Type 0} (read : Data → Result A JsonFault) (means : Data → A → Type 0) (P : A → Type 0) → ((v : Data) (x : A) → read v ≡ Ok x → means v x × P x)
    → (before : List A) (ds : Items) (all : List A) → in_turn (λ b. read) before ds ≡ Ok all → (xs : List A) × (all ≡ before ++ xs) × AllMeant means P ds xs
items_are read means P one before no_items all h = let same : before ≡ all = cc in ([], sym same ∙ sym (append-nil before), record { items = tt; each = tt })
items_are read means P one before (item d ds) all h =
    let (x, is, rest) = bind_was (under (length before) (read d)) (λ x. in_turn (λ b. read) (before ++ x ∷ []) ds) all h in
    let (xs, parts, more) = items_are read means P one (before ++ x ∷ []) ds all rest in
    let here = one d x (under_was (length before) (read d) x is) in
    (x ∷ xs, parts ∙ append_assoc before (x ∷ []) xs, record { items = (here.0, more.items); each = (here.1, more.each) })

pub array_was : (v : Data) (ds : Items) → items_at v ≡ Ok ds → v ≡ array ds
array_was null ds h = cc
array_was (boolean b) ds h = cc
array_was (json.number n) ds h = cc
array_was (string s) ds h = cc
array_was (array es) ds h = cc
array_was (object ms) ds h = cc

pub each_is : {A : Type 0} (read : Data → Result A JsonFault) (means : Data → A → Type 0) (P : A → Type 0) → ((v : Data) (x : A) → read v ≡ Ok x → means v x × P x)
    → (v : Data) (xs : List A) → read_each read v ≡ Ok xs → ArrayMeans means v xs × AllByRecursion P xs
each_is read means P one v xs h =
    let (ds, is, rest) = bind_was (items_at v) (in_turn (λ b. read) []) xs h in
    let (ys, same, all) = items_are read means P one [] ds xs rest in
    ((ds, array_was v ds is, subst (ItemsMean means ds) (sym same) all.items), subst (AllByRecursion P) (sym same) all.each)

-- ---- keys

pub number_is : (limit : ℕ) (v : Data) (n : ℕ) → number_below limit v ≡ Ok n → NumberMeans v n × (n < limit)
number_is limit null n h = cc
number_is limit (boolean b) n h = cc
number_is limit (string s) n h = cc
number_is limit (array ds) n h = cc
number_is limit (object ms) n h = cc
number_is limit (json.number (negative z)) n h = cc
number_is limit (json.number (float x)) n h = cc
number_is limit (json.number (unsigned m)) n h = whole limit m n (nat_lt m limit) refl h
  where
    whole : (limit m n : ℕ) (b : Bool) → nat_lt m limit ≡ b → cond b (Ok m) (Err (fault_here range)) ≡ Ok n → NumberMeans (json.number (unsigned m)) n × (n < limit)
    whole limit m n true e h = let same : m ≡ n = cc in let lt : m < limit = grind (arith, nat_tests) in (ap (λ k. json.number (unsigned k)) same, omega (arith, same, lt))
    whole limit m n false e h = cc

pub record IsKeyOf (v : Data) (key : Key) : Type 0 where
  pub means : KeyMeans v key
  pub fits : IsKey key
  pub units : KeyHasUnits key

named_is : (v : Data) (n : Name) → read_named v ≡ Ok n → IsKeyOf v (named n)
named_is v n h = by v n (has_members NUMBERED v) (has_members TEXTED v) refl refl h
  where
    by : (v : Data) (n : Name) (a b : Bool) → has_members NUMBERED v ≡ a → has_members TEXTED v ≡ b → cond a (read_numbered v) (cond b (read_texted v) (Err (fault_here form))) ≡ Ok n → IsKeyOf v (named n)
    by v n true b e f h =
        let (x, at, h1) = bind_was (member_at (codes "number") v) _ n h in
        let (m, is, h2) = bind_was (under 0 (number_below (2 ^ 32) x)) _ n h1 in
        let (y, to, h3) = bind_was (member_at (codes "set") v) _ n h2 in
        let (set, are, h4) = bind_was (under 1 (read_guid y)) _ n h3 in
        let (number, lt) = number_is (2 ^ 32) x m (under_was 0 (number_below (2 ^ 32) x) m is) in
        let (hexes, long) = guid_meant y set (under_was 1 (read_guid y) set are) in
        let same : numbered set m ≡ n = cc in
        subst (λ k. IsKeyOf v (named k)) same (record { means = (e, (x, formed_was _ x at, number), (y, formed_was _ y to, hexes)); fits = (long, lt); units = tt })
    by v n false true e f h =
        let (x, at, h1) = bind_was (member_at (codes "set") v) _ n h in
        let (set, is, h2) = bind_was (under 0 (read_guid x)) _ n h1 in
        let (y, to, h3) = bind_was (member_at (codes "text") v) _ n h2 in
        let (units, are, h4) = bind_was (under 1 (read_name MOST_UNITS y)) _ n h3 in
        let (hexes, long) = guid_meant x set (under_was 0 (read_guid x) set is) in
        let name = name_is MOST_UNITS y units (under_was 1 (read_name MOST_UNITS y) units are) in
        let same : texted set units ≡ n = cc in
        subst (λ k. IsKeyOf v (named k)) same (record { means = (f, (x, formed_was _ x at, hexes), (y, formed_was _ y to, name.means)); fits = (long, name.short); units = turns_all units name.small })
    by v n false false e f h = cc

named_key : (v : Data) (key : Key) → mapped named (read_named v) ≡ Ok key → IsKeyOf v key
named_key v key h = let (n, is, same) = mapped_was named (read_named v) key h in subst (IsKeyOf v) same (named_is v n is)

pub key_is : (v : Data) (key : Key) → read_key v ≡ Ok key → IsKeyOf v key
key_is null key h = named_key null key h
key_is (boolean b) key h = named_key (boolean b) key h
key_is (json.number n) key h = named_key (json.number n) key h
key_is (array ds) key h = named_key (array ds) key h
key_is (object ms) key h = named_key (object ms) key h
key_is (string s) key h =
    let (n, is, same) = mapped_was id (read_id s) key h in
    let (text, small) = id_meant s n is in
    subst (IsKeyOf (string s)) same (record { means = ap string text; fits = small; units = tt })
