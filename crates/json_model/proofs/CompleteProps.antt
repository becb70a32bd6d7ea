-- Property lists that a value means are read.
use Rattle.std.proofs.Common.{◌≡◌, ℕ, suc, inl, inr, ◌+◌, ◌-◌, ◌*◌, ◌^◌, ◌<◌, List, [], ◌∷◌, ◌++◌, length, Bool, true, false, cond, Some, refl, ap, sym, ◌∙◌, arith, true≢false, subst}
use Rattle.std.specs.Prelude.{not, ◌&&◌, ◌==◌, nat_lt, IsTrue, unwrap_or, Ok}
use Rattle.std.proofs.lemmas.Bool.Decides.{nat_tests}
use Rattle.std.specs.List.{AllByRecursion, list_all}
use Rattle.std.specs.declared.cmp.Ordering.TheVariants.{Less}
use Rattle.std.proofs.lemmas.List.{append-nil, append_assoc}
use Rattle.serde_json.specs.Data.{Data, Items, no_items, item}
use Rattle.carrier_model.specs.Kinds.{is_number_kind, is_numbers_kind}
use Rattle.carrier_model.specs.Lists.{looked_up}
use Rattle.carrier_model.specs.Sorted.{IsStrictlySorted}
use Rattle.carrier_model.specs.Trees.{IsPropList}
use Rattle.carrier_model.specs.Values.{Value, number, guid, bytes, numbers, guids, parts, Prop, prop_cmp, kind_of, IsValue, IsProp, IsBytes, list_limit, number_widths, numbers_widths, width_in, is_bytes_kind}
use Rattle.json_model.specs.JsonMeanings.{HexMeans, NumberMeans, ItemsMean, ArrayMeans, BytesMean, ValueMeans, PropMeans, PropsMean}
use Rattle.json_model.specs.Parts.{number_below, in_turn}
use Rattle.json_model.specs.Properties.{read_bytes, read_list, bytes_limit, read_value, read_prop, comes_after, read_next_prop, read_props, number_limit, numbers_limit}
use Rattle.json_model.specs.Digits.{read_guid}
use Rattle.json_model.proofs.Complete.{hex_read, guid_read, text_read, list_read, number_read, key_read, kind_read}
use Rattle.json_model.proofs.HexLaws.{and_true}
use Rattle.json_model.proofs.Meant.{by_turns}

-- ---- bytes

bytes_at : (n : ℕ) (v : Data) (x : List ℕ) (b : Bool) → (n == 0x001F) ≡ b → BytesMean n v x → length x < bytes_limit n → read_bytes n v ≡ Ok x
bytes_at n v x true e (inl h) short = let fits : nat_lt (length x) (bytes_limit n) ≡ true = grind (arith, nat_tests) in rw (e, text_read v x h.1, fits) refl
bytes_at n v x false e (inl h) short = absurd (true≢false (sym (ap (λ m. m == 0x001F) h.0) ∙ e))
bytes_at n v x true e (inr h) short = absurd (h.0 (grind (arith, nat_tests)))
bytes_at n v x false e (inr h) short = let fits : nat_lt (length x) (bytes_limit n) ≡ true = grind (arith, nat_tests) in rw (e, hex_read v x h.1, fits) refl

bytes_read : (n : ℕ) (v : Data) (x : List ℕ) → BytesMean n v x → IsBytes n x → read_bytes n v ≡ Ok x
bytes_read n v x h is = bytes_at n v x (n == 0x001F) refl h is.short

-- ---- values

-- what holds of the kinds of a table
of_row : (Q : ℕ → Bool) (row n : ℕ) (same : Bool) → (row == n) ≡ same → Q row ≡ true → (same ≡ false → Q n ≡ true) → Q n ≡ true
of_row Q row n true e h other = let is : row ≡ n = grind (arith, nat_tests) in ap Q (sym is) ∙ h
of_row Q row n false e h other = other refl

of_rows : (Q : ℕ → Bool) (rows : List (ℕ × ℕ)) → list_all (λ (row : ℕ × ℕ). Q row.0) rows ≡ true → (n : ℕ) → 0 < unwrap_or (looked_up rows n) 0 → Q n ≡ true
of_rows Q [] all n h = absurd (omega (arith, h))
of_rows Q (row ∷ rows) all n h =
    let both = and_true (Q row.0) (list_all (λ (r : ℕ × ℕ). Q r.0) rows) all in
    of_row Q row.0 n (row.0 == n) refl both.0 (λ e. of_rows Q rows both.1 n (subst (λ b. 0 < unwrap_or (cond b (Some row.1) (looked_up rows n)) 0) e h))

bytes_kinds : (Q : ℕ → Type 0) (n : ℕ) (a b c : Bool) → (n == 0x001E) ≡ a → (n == 0x001F) ≡ b → (n == 0x0102) ≡ c → IsTrue (is_bytes_kind n) → Q 0x001E → Q 0x001F → Q 0x0102 → Q n
bytes_kinds Q n true b c ea eb ec h x y z = let is : 0x001E ≡ n = grind (arith, nat_tests) in subst Q is x
bytes_kinds Q n false true c ea eb ec h x y z = let is : 0x001F ≡ n = grind (arith, nat_tests) in subst Q is y
bytes_kinds Q n false false true ea eb ec h x y z = let is : 0x0102 ≡ n = grind (arith, nat_tests) in subst Q is z
bytes_kinds Q n false false false ea eb ec h x y z = absurd (true≢false (sym h ∙ rw (ea, eb, ec) refl))

-- which of the forms a kind has
several : ℕ → Bool
several n = not (is_number_kind n) && (not (n == 0x0048) && (not (is_bytes_kind n) && is_numbers_kind n))

not_true : (b : Bool) → not b ≡ true → b ≡ false
not_true true h = absurd (true≢false (sym h))
not_true false h = refl

limit_at : (n bits : ℕ) (b : Bool) → (n == 0x000B) ≡ b → bits < 2 ^ (8 * width_in number_widths n) → (n ≡ 0x000B → bits < 2) → bits < number_limit n
limit_at n bits true e h two = rw e (two (grind (arith, nat_tests)))
limit_at n bits false e h two = rw e h

parts_list : (k : ℕ) (v : Data) (list : List (List ℕ)) → ArrayMeans (BytesMean k) v list → AllByRecursion (IsBytes k) list → length list < list_limit → read_list (read_bytes k) v ≡ Ok list
parts_list k v list h is few = list_read (read_bytes k) (BytesMean k) (IsBytes k) (bytes_read k) v list h is few

value_read : (v : Data) (value : Value) → ValueMeans v value → IsValue value → read_value (kind_of value) v ≡ Ok value
unfolding several
value_read v (number n bits) h is =
    let one : is_number_kind n ≡ true = let w = is.1 in grind (arith, nat_tests) in
    rw (one, number_read (number_limit n) v bits h (limit_at n bits (n == 0x000B) refl is.0 is.2)) refl
value_read v (guid set) h is = rw (guid_read v set h is) refl
value_read v (bytes n x) h is =
    bytes_kinds (λ k. BytesMean k v x → IsBytes k x → read_value k v ≡ Ok (bytes k x)) n (n == 0x001E) (n == 0x001F) (n == 0x0102) refl refl refl is.kind_is
    (λ h is. rw (bytes_read 0x001E v x h is) refl) (λ h is. rw (bytes_read 0x001F v x h is) refl) (λ h is. rw (bytes_read 0x0102 v x h is) refl) h is
value_read v (numbers n list) h is =
    let all = of_rows several numbers_widths refl n is.1 in
    let a = and_true (not (is_number_kind n)) (not (n == 0x0048) && (not (is_bytes_kind n) && is_numbers_kind n)) all in
    let b = and_true (not (n == 0x0048)) (not (is_bytes_kind n) && is_numbers_kind n) a.1 in
    let c = and_true (not (is_bytes_kind n)) (is_numbers_kind n) b.1 in
    rw (not_true _ a.0, not_true _ b.0, not_true _ c.0, c.1, list_read (number_below (numbers_limit n)) NumberMeans (λ m. m < numbers_limit n) (number_read (numbers_limit n)) v list h (by_turns (λ m. m < numbers_limit n) list is.0) is.2) refl
value_read v (guids list) h is = rw (list_read read_guid HexMeans (λ g. length g ≡ 16) guid_read v list h (by_turns (λ g. length g ≡ 16) list is.0) is.1) refl
value_read v (parts n list) h is =
    let m = n - 0x1000 in
    let few = is.3 in
    let e : n ≡ m + 0x1000 = omega (arith, is.1) in
    bytes_kinds (λ k. n ≡ k + 0x1000 → ArrayMeans (BytesMean k) v list → AllByRecursion (IsBytes k) list → read_value n v ≡ Ok (parts n list)) m (m == 0x001E) (m == 0x001F) (m == 0x0102) refl refl refl is.2
    (λ e h is. subst (λ n. read_value n v ≡ Ok (parts n list)) (sym e) (rw (parts_list 0x001E v list h is few) refl))
    (λ e h is. subst (λ n. read_value n v ≡ Ok (parts n list)) (sym e) (rw (parts_list 0x001F v list h is few) refl))
    (λ e h is. subst (λ n. read_value n v ≡ Ok (parts n list)) (sym e) (rw (parts_list 0x0102 v list h is few) refl))
    e h (by_turns (IsBytes m) list is.0)

-- ---- properties

prop_read : (v : Data) (p : Prop) → PropMeans v p → IsProp p → read_prop v ≡ Ok p
prop_read v p h is =
    rw (h.members, h.kind.1, kind_read h.kind.0 (kind_of p.value) h.kind.2, h.key.1, key_read h.key.0 p.key h.key.2 is.key, h.value.1, value_read h.value.0 p.value h.value.2 is.value) refl

-- in a sorted list a property comes after those before it
after_sorted : (before : List Prop) (p : Prop) (more : List Prop) → IsStrictlySorted prop_cmp (before ++ p ∷ more) → comes_after before p ≡ true
after_sorted [] p more h = refl
after_sorted (q ∷ []) p more h = let less : prop_cmp q p ≡ Less = h 0 1 p (omega arith) (omega arith) in rw less refl
after_sorted (q ∷ r ∷ before) p more h = after_sorted (r ∷ before) p more (λ i j d lt le. h (suc i) (suc j) d (omega (arith, lt)) (omega (arith, le)))

props_items : (before : List Prop) (ds : Items) (ps : List Prop) → ItemsMean PropMeans ds ps → AllByRecursion IsProp ps → IsStrictlySorted prop_cmp (before ++ ps) → in_turn read_next_prop before ds ≡ Ok (before ++ ps)
props_items before no_items [] h is sorted = ap Ok (sym (append-nil before))
props_items before no_items (p ∷ ps) h is sorted = absurd h
props_items before (item d ds) [] h is sorted = absurd h
props_items before (item d ds) (p ∷ ps) h is sorted =
    let one = append_assoc before (p ∷ []) ps in
    rw (prop_read d p h.0 is.0, after_sorted before p ps sorted) (props_items (before ++ p ∷ []) ds ps h.1 is.1 (subst (IsStrictlySorted prop_cmp) (sym one) sorted) ∙ ap Ok one)

pub props_read : (v : Data) (ps : List Prop) → PropsMean v ps → IsPropList ps → read_props v ≡ Ok ps
props_read v ps (ds, is, h) keeps = ap read_props is ∙ props_items [] ds ps h (by_turns IsProp ps keeps.each) keeps.sorted
