-- What is read is meant: property lists.
use Rattle.std.proofs.Common.{◌≡◌, ℕ, zero, suc, inl, inr, is_some, ◌-◌, ◌*◌, ◌^◌, ◌<◌, ◌≤◌, List, [], ◌∷◌, ◌++◌, length, Bool, true, false, cond, Option, Some, None, Ordering, Less, Equal, Greater, get_or, refl, ap, sym, ◌∙◌, arith, true≢false, subst}
use Rattle.std.specs.Prelude.{◌||◌, ◌&&◌, ◌==◌, codes, nat_le, nat_lt, IsTrue, unwrap_or, All, Result, Ok, bytes_eq}
use Rattle.std.proofs.lemmas.Bool.Decides.{nat_tests}
use Rattle.std.proofs.lemmas.Slice.Eq.{bytes_eq-Decides}
use Rattle.std.proofs.lemmas.List.{append-nil, append_assoc}
use Rattle.std.specs.Cmp.{IsTotalOrder}
use Rattle.std.specs.List.{AllByRecursion, list_all}
use Rattle.serde_json.specs.Data.{Data, string, array, object, Items, no_items, item}
use Rattle.serde_json.specs.Data as json
use Rattle.carrier_model.specs.KindNames.{kind_names, kind_name}
use Rattle.carrier_model.specs.Kinds.{is_number_kind, is_numbers_kind}
use Rattle.carrier_model.specs.Sorted.{IsStrictlySorted, choose}
use Rattle.carrier_model.specs.Trees.{IsPropList, KeyHasUnits}
use Rattle.carrier_model.specs.Values.{Value, number, guid, bytes, numbers, guids, parts, Prop, prop_cmp, kind_of, IsValue, IsProp, IsBytes, list_limit, number_widths, numbers_widths, width_in, is_bytes_kind}
use Rattle.carrier_model.proofs.Orders.{prop_total}
use Rattle.json_model.specs.Digits.{read_hex, read_guid}
use Rattle.json_model.specs.Faults.{JsonFault, check, under, mapped, range, form, order}
use Rattle.json_model.specs.JsonMeanings.{HexMeans, NumberMeans, ItemsMean, ArrayMeans, KindMeans, BytesMean, ValueMeans, PropMeans, PropsMean}
use Rattle.json_model.specs.Parts.{has_members, member_at, string_at, number_below, in_turn, read_each, items_at}
use Rattle.json_model.specs.Properties.{PROPERTY, read_kind, kind_among, read_key, read_bytes, read_list, bytes_limit, read_value, read_prop, comes_after, read_next_prop, read_props, number_limit, numbers_limit}
use Rattle.json_model.specs.Texts.{read_text}
use Rattle.json_model.proofs.Complete.{text_even}
use Rattle.json_model.proofs.HexLaws.{and_true}
use Rattle.json_model.proofs.Sound.{bind_was, under_was, check_was, mapped_was, formed_was, array_was, hex_meant, guid_meant, text_is_meant, each_is, number_is, key_is}

-- ---- kinds

pair_is : (row : ℕ × List ℕ) (n : ℕ) (name : List ℕ) → row.0 ≡ n → row.1 ≡ name → (Q : ℕ × List ℕ → Bool) → Q row ≡ true → Q (n, name) ≡ true
pair_is row n name e f Q h = (λ i. Q (sym e i, sym f i)) ∙ h

row_at : (row : ℕ × List ℕ) (rows : List (ℕ × List ℕ)) (n : ℕ) (name : List ℕ) (b : Bool) → bytes_eq row.1 name ≡ b → cond b (Ok row.0) (kind_among rows name) ≡ Ok n → (Q : ℕ × List ℕ → Bool) → Q row ≡ true → (kind_among rows name ≡ Ok n → Q (n, name) ≡ true) → Q (n, name) ≡ true
row_at row rows n name true e h Q here other = let same : row.0 ≡ n = cc in pair_is row n name same ((bytes_eq-Decides row.1 name).0 e) Q here
row_at row rows n name false e h Q here other = other h

row_found : (rows : List (ℕ × List ℕ)) (n : ℕ) (name : List ℕ) → kind_among rows name ≡ Ok n → (Q : ℕ × List ℕ → Bool) → list_all Q rows ≡ true → Q (n, name) ≡ true
row_found [] n name h Q all = cc
row_found (row ∷ rows) n name h Q all = let both = and_true (Q row) (list_all Q rows) all in row_at row rows n name (bytes_eq row.1 name) refl h Q both.0 (λ k. row_found rows n name k Q both.1)

abbrev names_kind : ℕ × List ℕ → Bool
names_kind row = is_some (kind_name row.0) && bytes_eq (unwrap_or (kind_name row.0) []) row.1

-- the forms of values, one of which a kind has
abbrev has_form : ℕ → Bool
has_form n = is_number_kind n || ((n == 0x0048) || (is_bytes_kind n || (is_numbers_kind n || ((n == 0x1048) || (nat_le 0x1000 n && is_bytes_kind (n - 0x1000))))))

named_at : (n : ℕ) (name : List ℕ) (o : Option (List ℕ)) → kind_name n ≡ o → is_some o ≡ true → bytes_eq (unwrap_or o []) name ≡ true → kind_name n ≡ Some name
named_at n name None e h k = absurd (true≢false (sym h))
named_at n name (Some other) e h k = e ∙ ap Some ((bytes_eq-Decides other name).0 k)

record IsKindOf (v : Data) (n : ℕ) : Type 0 where
  means : KindMeans v n
  form_is : has_form n ≡ true

string_was : (v : Data) (s : List ℕ) → string_at v ≡ Ok s → v ≡ string s
string_was json.null s h = cc
string_was (json.boolean b) s h = cc
string_was (json.number n) s h = cc
string_was (string t) s h = cc
string_was (array ds) s h = cc
string_was (object ms) s h = cc

kind_is : (v : Data) (n : ℕ) → read_kind v ≡ Ok n → IsKindOf v n
kind_is v n h =
    let (name, is, found) = bind_was (string_at v) _ n h in
    let both = and_true (is_some (kind_name n)) (bytes_eq (unwrap_or (kind_name n) []) name) (row_found kind_names n name found names_kind refl) in
    record { means = (name, string_was v name is, named_at n name (kind_name n) refl both.0 both.1); form_is = row_found kind_names n name found (λ (row : ℕ × List ℕ). has_form row.0) refl }

-- ---- values

record IsBytesOf (n : ℕ) (v : Data) (x : List ℕ) : Type 0 where
  means : BytesMean n v x
  fits : IsBytes n x

bytes_by : (n : ℕ) (v : Data) (x : List ℕ) (b : Bool) → (n == 0x001F) ≡ b → IsTrue (is_bytes_kind n) → cond b (read_text v) (read_hex v) ≡ Ok x → length x < bytes_limit n → IsBytesOf n v x
bytes_by n v x true e is h short =
    let same : n ≡ 0x001F = grind (arith, nat_tests) in
    let text = text_is_meant v x h in
    record { means = inl (same, text); fits = record { kind_is = is; short = short; even = λ k. text_even v x text } }
bytes_by n v x false e is h short =
    let other = λ (k : n ≡ 0x001F). true≢false (ap (λ m. m == 0x001F) (sym k) ∙ e) in
    record { means = inr (other, hex_meant v x h); fits = record { kind_is = is; short = short; even = λ k. absurd (other k) } }

bytes_is : (n : ℕ) → IsTrue (is_bytes_kind n) → (v : Data) (x : List ℕ) → read_bytes n v ≡ Ok x → BytesMean n v x × IsBytes n x
bytes_is n is v x h =
    let (y, got, rest) = bind_was (cond (n == 0x001F) (read_text v) (read_hex v)) _ x h in
    let (u, ok, end) = bind_was (check (nat_lt (length y) (bytes_limit n)) range) _ x rest in
    let few = check_was (nat_lt (length y) (bytes_limit n)) range u ok in
    let short : length y < bytes_limit n = grind (arith, nat_tests) in
    let same : y ≡ x = cc in
    let found = bytes_by n v y (n == 0x001F) refl is got short in
    subst (λ z. BytesMean n v z × IsBytes n z) same (found.means, found.fits)

pub all_of_turns : {A : Type 0} (P : A → Type 0) (xs : List A) → AllByRecursion P xs → All P xs
all_of_turns P [] h k d lt = absurd (omega (arith, lt))
all_of_turns P (x ∷ xs) h zero d lt = h.0
all_of_turns P (x ∷ xs) h (suc k) d lt = all_of_turns P xs h.1 k d (omega (arith, lt))

record IsListOf {A : Type 0} (means : Data → A → Type 0) (P : A → Type 0) (v : Data) (xs : List A) : Type 0 where
  list : ArrayMeans means v xs
  each : All P xs
  few : length xs < list_limit

list_is : {A : Type 0} (read : Data → Result A JsonFault) (means : Data → A → Type 0) (P : A → Type 0) → ((v : Data) (x : A) → read v ≡ Ok x → means v x × P x) → (v : Data) (xs : List A) → read_list read v ≡ Ok xs → IsListOf means P v xs
list_is read means P one v xs h =
    let (ys, got, rest) = bind_was (read_each read v) _ xs h in
    let (u, ok, end) = bind_was (check (nat_lt (length ys) list_limit) range) _ xs rest in
    let some = check_was (nat_lt (length ys) list_limit) range u ok in
    let lt : length ys < list_limit = grind (arith, nat_tests) in
    let same : ys ≡ xs = cc in
    let (list, each) = each_is read means P one v ys got in
    subst (IsListOf means P v) same (record { list = list; each = all_of_turns P ys each; few = lt })

record IsValueOf (n : ℕ) (v : Data) (value : Value) : Type 0 where
  kind_as : kind_of value ≡ n
  means : ValueMeans v value
  fits : IsValue value

limit_by : (n bits : ℕ) (b : Bool) → (n == 0x000B) ≡ b → 0 < width_in number_widths n → bits < cond b 2 (2 ^ (8 * width_in number_widths n)) → (bits < 2 ^ (8 * width_in number_widths n)) × (n ≡ 0x000B → bits < 2)
limit_by n bits true e some lt =
    let same : 0x000B ≡ n = grind (arith, nat_tests) in
    (subst (λ m. bits < 2 ^ (8 * width_in number_widths m)) same (omega (arith, lt)), λ k. lt)
limit_by n bits false e some lt = (lt, λ k. absurd (true≢false (ap (λ m. m == 0x000B) (sym k) ∙ e)))

value_by : (n : ℕ) (v : Data) (value : Value) (a b c d e : Bool) → is_number_kind n ≡ a → (n == 0x0048) ≡ b → is_bytes_kind n ≡ c → is_numbers_kind n ≡ d → (n == 0x1048) ≡ e
    → (a || (b || (c || (d || (e || (nat_le 0x1000 n && is_bytes_kind (n - 0x1000))))))) ≡ true
    → cond a (mapped (number n) (number_below (number_limit n) v)) (cond b (mapped guid (read_guid v)) (cond c (mapped (bytes n) (read_bytes n v)) (cond d (mapped (numbers n) (read_list (number_below (numbers_limit n)) v)) (cond e (mapped guids (read_list read_guid v)) (mapped (parts n) (read_list (read_bytes (n - 0x1000)) v)))))) ≡ Ok value
    → IsValueOf n v value
value_by n v value true b c d e p q r s t shaped h =
    let (bits, is, same) = mapped_was (number n) (number_below (number_limit n) v) value h in
    let (means, lt) = number_is (number_limit n) v bits is in
    let some : 0 < width_in number_widths n = grind (arith, nat_tests) in
    let (fits, two) = limit_by n bits (n == 0x000B) refl some lt in
    subst (IsValueOf n v) same (record { kind_as = refl; means = means; fits = (fits, some, two) })
value_by n v value false true c d e p q r s t shaped h =
    let (set, is, same) = mapped_was guid (read_guid v) value h in
    let (means, long) = guid_meant v set is in
    let k : 0x0048 ≡ n = grind (arith, nat_tests) in
    subst (IsValueOf n v) same (record { kind_as = k; means = means; fits = long })
value_by n v value false false true d e p q r s t shaped h =
    let (x, is, same) = mapped_was (bytes n) (read_bytes n v) value h in
    let (means, fits) = bytes_is n r v x is in
    subst (IsValueOf n v) same (record { kind_as = refl; means = means; fits = fits })
value_by n v value false false false true e p q r s t shaped h =
    let (list, is, same) = mapped_was (numbers n) (read_list (number_below (numbers_limit n)) v) value h in
    let found = list_is (number_below (numbers_limit n)) NumberMeans (λ m. m < numbers_limit n) (number_is (numbers_limit n)) v list is in
    let some : 0 < width_in numbers_widths n = grind (arith, nat_tests) in
    subst (IsValueOf n v) same (record { kind_as = refl; means = found.list; fits = (found.each, some, found.few) })
value_by n v value false false false false true p q r s t shaped h =
    let (list, is, same) = mapped_was guids (read_list read_guid v) value h in
    let found = list_is read_guid HexMeans (λ g. length g ≡ 16) guid_meant v list is in
    let k : 0x1048 ≡ n = grind (arith, nat_tests) in
    subst (IsValueOf n v) same (record { kind_as = k; means = found.list; fits = (found.each, found.few) })
value_by n v value false false false false false p q r s t shaped h =
    let (list, is, same) = mapped_was (parts n) (read_list (read_bytes (n - 0x1000)) v) value h in
    let both = and_true (nat_le 0x1000 n) (is_bytes_kind (n - 0x1000)) shaped in
    let found = list_is (read_bytes (n - 0x1000)) (BytesMean (n - 0x1000)) (IsBytes (n - 0x1000)) (bytes_is (n - 0x1000) both.1) v list is in
    let from : 0x1000 ≤ n = let z = both.0 in grind (arith, nat_tests) in
    subst (IsValueOf n v) same (record { kind_as = refl; means = found.list; fits = (found.each, from, both.1, found.few) })

value_is : (n : ℕ) → has_form n ≡ true → (v : Data) (value : Value) → read_value n v ≡ Ok value → IsValueOf n v value
value_is n shaped v value h = value_by n v value (is_number_kind n) (n == 0x0048) (is_bytes_kind n) (is_numbers_kind n) (n == 0x1048) refl refl refl refl refl shaped h

-- ---- properties

pub record IsPropOf (v : Data) (p : Prop) : Type 0 where
  pub means : PropMeans v p
  pub fits : IsProp p
  pub units : KeyHasUnits p.key

prop_is : (v : Data) (p : Prop) → read_prop v ≡ Ok p → IsPropOf v p
prop_is v p h =
    let (u, whole, h1) = bind_was (check (has_members PROPERTY v) form) _ p h in
    let (b, at, h2) = bind_was (member_at (codes "kind") v) _ p h1 in
    let (n, is, h3) = bind_was (under 1 (read_kind b)) _ p h2 in
    let (a, to, h4) = bind_was (member_at (codes "key") v) _ p h3 in
    let (key, are, h5) = bind_was (under 0 (read_key a)) _ p h4 in
    let (c, by, h6) = bind_was (member_at (codes "value") v) _ p h5 in
    let (value, got, h7) = bind_was (under 2 (read_value n c)) _ p h6 in
    let kinds = kind_is b n (under_was 1 (read_kind b) n is) in
    let keys = key_is a key (under_was 0 (read_key a) key are) in
    let found = value_is n kinds.form_is c value (under_was 2 (read_value n c) value got) in
    let same : record { key = key; value = value } ≡ p = cc in
    subst (IsPropOf v) same (record {
      means = record {
        members = check_was (has_members PROPERTY v) form u whole;
        key = (a, formed_was _ a to, keys.means);
        kind = (b, formed_was _ b at, subst (KindMeans b) (sym found.kind_as) kinds.means);
        value = (c, formed_was _ c by, found.means);
      };
      fits = record { key = keys.fits; value = found.fits };
      units = keys.units;
    })

-- ---- lists in order

abbrev pub Rises : {A : Type 0} → (A → A → Ordering) → A → List A → Type 0
Rises cmp x [] = Unit {0}
Rises cmp x (y ∷ ys) = (cmp x y ≡ Less) × Rises cmp y ys

rises_on : {A : Type 0} (cmp : A → A → Ordering) → IsTotalOrder cmp → (x y : A) (ys : List A) → cmp x y ≡ Less → AllByRecursion (λ z. cmp y z ≡ Less) ys → AllByRecursion (λ z. cmp x z ≡ Less) ys
rises_on cmp total x y [] e h = tt
rises_on cmp total x y (z ∷ ys) e h = (total.trans x y z e h.0, rises_on cmp total x y ys e h.1)

above_all : {A : Type 0} (cmp : A → A → Ordering) → IsTotalOrder cmp → (x : A) (xs : List A) → Rises cmp x xs → AllByRecursion (λ z. cmp x z ≡ Less) xs
above_all cmp total x [] h = tt
above_all cmp total x (y ∷ ys) h = (h.0, rises_on cmp total x y ys h.0 (above_all cmp total y ys h.1))

turn_at : {A : Type 0} (P : A → Type 0) (xs : List A) → AllByRecursion P xs → (k : ℕ) (d : A) → k < length xs → P (get_or xs k d)
turn_at P [] h k d lt = absurd (omega (arith, lt))
turn_at P (x ∷ xs) h zero d lt = h.0
turn_at P (x ∷ xs) h (suc k) d lt = turn_at P xs h.1 k d (omega (arith, lt))

pub sorted_cons : {A : Type 0} (cmp : A → A → Ordering) (x : A) (xs : List A) → AllByRecursion (λ z. cmp x z ≡ Less) xs → IsStrictlySorted cmp xs → IsStrictlySorted cmp (x ∷ xs)
sorted_cons cmp x xs h k zero zero d lt le = absurd (omega (arith, lt))
sorted_cons cmp x xs h k zero (suc j) d lt le = turn_at (λ z. cmp x z ≡ Less) xs h j d (omega (arith, le))
sorted_cons cmp x xs h k (suc i) zero d lt le = absurd (omega (arith, lt))
sorted_cons cmp x xs h k (suc i) (suc j) d lt le = k i j d (omega (arith, lt)) (omega (arith, le))

pub rises_sorted : {A : Type 0} (cmp : A → A → Ordering) → IsTotalOrder cmp → (x : A) (xs : List A) → Rises cmp x xs → IsStrictlySorted cmp (x ∷ xs)
rises_sorted cmp total x [] h = sorted_cons cmp x [] tt (λ i j d lt le. absurd (omega (arith, le)))
rises_sorted cmp total x (y ∷ ys) h = sorted_cons cmp x (y ∷ ys) (above_all cmp total x (y ∷ ys) h) (rises_sorted cmp total y ys h.1)

less_if : (o : Ordering) → choose o true false false ≡ true → o ≡ Less
less_if Less h = refl
less_if Equal h = absurd (true≢false (sym h))
less_if Greater h = absurd (true≢false (sym h))

after_is : (before : List Prop) (q p : Prop) → comes_after (before ++ q ∷ []) p ≡ choose (prop_cmp q p) true false false
after_is [] q p = refl
after_is (x ∷ []) q p = refl
after_is (x ∷ y ∷ before) q p = after_is (y ∷ before) q p

GoodProp : Prop → Type 0
GoodProp p = IsProp p × KeyHasUnits p.key

record AreNext (q : Prop) (ds : Items) (xs : List Prop) : Type 0 where
  items : ItemsMean PropMeans ds xs
  each : AllByRecursion GoodProp xs
  rise : Rises prop_cmp q xs

props_behind : (before : List Prop) (q : Prop) (ds : Items) (all : List Prop) → in_turn read_next_prop (before ++ q ∷ []) ds ≡ Ok all → (xs : List Prop) × (all ≡ (before ++ q ∷ []) ++ xs) × AreNext q ds xs
unfolding GoodProp
props_behind before q no_items all h = let same : before ++ q ∷ [] ≡ all = cc in ([], sym same ∙ sym (append-nil (before ++ q ∷ [])), record { items = tt; each = tt; rise = tt })
props_behind before q (item d ds) all h =
    let (p, is, rest) = bind_was (under (length (before ++ q ∷ [])) (read_next_prop (before ++ q ∷ []) d)) (λ x. in_turn read_next_prop ((before ++ q ∷ []) ++ x ∷ []) ds) all h in
    let (r, read, next) = bind_was (read_prop d) _ p (under_was (length (before ++ q ∷ [])) (read_next_prop (before ++ q ∷ []) d) p is) in
    let (u, after, end) = bind_was (check (comes_after (before ++ q ∷ []) r) order) _ p next in
    let same : r ≡ p = cc in
    let one = prop_is d p (read ∙ ap Ok same) in
    let less = less_if (prop_cmp q p) (sym (after_is before q p) ∙ (ap (comes_after (before ++ q ∷ [])) (sym same) ∙ check_was (comes_after (before ++ q ∷ []) r) order u after)) in
    let (xs, whole, more) = props_behind (before ++ q ∷ []) p ds all rest in
    (p ∷ xs, whole ∙ append_assoc (before ++ q ∷ []) (p ∷ []) xs, record { items = (one.means, more.items); each = ((one.fits, one.units), more.each); rise = (less, more.rise) })

record AreProps (ds : Items) (xs : List Prop) : Type 0 where
  items : ItemsMean PropMeans ds xs
  each : AllByRecursion GoodProp xs
  order_is : IsStrictlySorted prop_cmp xs

props_all : (ds : Items) (all : List Prop) → in_turn read_next_prop [] ds ≡ Ok all → AreProps ds all
unfolding GoodProp
props_all no_items all h = let same : [] ≡ all = cc in subst (AreProps no_items) same (record { items = tt; each = tt; order_is = λ i j d lt le. absurd (omega (arith, le)) })
props_all (item d ds) all h =
    let (p, is, rest) = bind_was (under 0 (read_next_prop [] d)) (λ x. in_turn read_next_prop (x ∷ []) ds) all h in
    let (r, read, next) = bind_was (read_prop d) _ p (under_was 0 (read_next_prop [] d) p is) in
    let same : r ≡ p = cc in
    let one = prop_is d p (read ∙ ap Ok same) in
    let (xs, whole, more) = props_behind [] p ds all rest in
    subst (AreProps (item d ds)) (sym whole) (record { items = (one.means, more.items); each = ((one.fits, one.units), more.each); order_is = rises_sorted prop_cmp prop_total p xs more.rise })

firsts : (xs : List Prop) → AllByRecursion GoodProp xs → AllByRecursion IsProp xs
unfolding GoodProp
firsts [] h = tt
firsts (x ∷ xs) h = (h.0.0, firsts xs h.1)

seconds : (xs : List Prop) → AllByRecursion GoodProp xs → AllByRecursion (λ p. KeyHasUnits p.key) xs
unfolding GoodProp
seconds [] h = tt
seconds (x ∷ xs) h = (h.0.1, seconds xs h.1)

pub props_are : (v : Data) (ps : List Prop) → read_props v ≡ Ok ps → PropsMean v ps × IsPropList ps
props_are v ps h =
    let (ds, is, rest) = bind_was (items_at v) (in_turn read_next_prop []) ps h in
    let all = props_all ds ps rest in
    ((ds, array_was v ds is, all.items), record { sorted = all.order_is; each = all_of_turns IsProp ps (firsts ps all.each); units = all_of_turns (λ p. KeyHasUnits p.key) ps (seconds ps all.each) })
