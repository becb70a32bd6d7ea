-- What a well-formed tree becomes is well-formed.
use Rattle.std.proofs.Common.{◌≡◌, ◌∙◌, ◌⊎◌, lit≤, max, inl, inr, refl, sym, ap, subst, ℕ, zero, suc, ◌+◌, ◌-◌, ◌*◌, ◌≤◌, ◌<◌, Bool, true, false, List, [], ◌∷◌, length, map, get_or, arith}
use Rattle.std.specs.Prelude.{All, Option, Some, None, ◌==◌, ◌||◌, not, if◌then◌else◌}
use Rattle.std.specs.List.{AllByRecursion}
use Rattle.std.specs.Ordering.{nat_cmp, ordering_then, MatchOrdering}
use Rattle.std.specs.declared.cmp.Ordering.{Ordering}
use Rattle.std.specs.declared.cmp.Ordering.TheVariants.{Less, Equal, Greater}
use Rattle.std.proofs.lemmas.Bool.{cases_lt}
use Rattle.std.proofs.lemmas.Bool.Decides.{nat_tests}
use Rattle.std.proofs.lemmas.Cmp.{ranked}
use Rattle.std.proofs.lemmas.List.{get_or-map, length-map}
use Rattle.std.proofs.lemmas.List.Elements.{All-head, All-tail}
use Rattle.carrier_model.specs.Bytes.{unit_bytes}
use Rattle.carrier_model.specs.Keys.{Key, IsKey, key_cmp}
use Rattle.carrier_model.specs.Stores.{IsStore}
use Rattle.carrier_model.specs.Sorted.{choose, IsStrictlySorted}
use Rattle.carrier_model.specs.Tree.{Message, message, Attachments, no_more, attached, Body, nothing, embedded, stored, depth, depth_in, depth_of_body}
use Rattle.carrier_model.specs.Trees.{KeyHasUnits, IsPropList, HasPropLists, HavePropLists, BodyHasPropLists, IsTree}
use Rattle.carrier_model.specs.Values.{Value, number, guid, bytes, numbers, guids, parts, Prop, IsBytes, IsValue, IsProp, kind_of, prop_cmp, with_pair, HasPair}
use Rattle.carrier_model.proofs.Elements.{all_of}
use Rattle.carrier_model.proofs.OrderLaws.{props_exactly, keys_exactly}
use Rattle.carrier_model.proofs.Units.{length-units}
use Rattle.text8_model.specs.Pages.{Page, page_of}
use Rattle.text8_model.specs.Unicode.{wide_kind, has_pair, lacks, is_to_convert, value_by, converted_prop, converted_props, page_in, FIRST_PAGE}
use Rattle.text8_model.specs.Become.{TextsOf, BecomesWide, BecomesBy, EachBecomes, PropsBecome, RecipientsBecome, MessageBecomes, AttachmentsBecome, BodyBecomes, UnicodeOf}
use Rattle.text8_model.proofs.TextLaws.{text_short}
use Rattle.text8_model.proofs.TreeLaws.{each_means}
use Rattle.text8_model.proofs.ValueLaws.{prop_by}

-- ---- which properties are there

either_false : (a b : Bool) → (a || b) ≡ false → (a ≡ false) × (b ≡ false)
either_false true b e = absurd (let wrong : ⊥ = cc in wrong)
either_false false b e = (refl, e)

not_pair : (key : Key) (kind : ℕ) (q : Prop) → choose (prop_cmp q (with_pair key kind)) false true false ≡ false → HasPair key kind q → ⊥
not_pair key kind q e has =
    let same : prop_cmp q (with_pair key kind) ≡ Equal = (props_exactly q (with_pair key kind)).1 has in
    let wrong : true ≡ false = sym (ap (λ o. choose o false true false) same) ∙ e in
    cc

pub none_there : (props : List Prop) (key : Key) (kind : ℕ) → has_pair props key kind ≡ false → (i : ℕ) (d : Prop) → i < length props → HasPair key kind (get_or props i d) → ⊥
none_there [] key kind e i d lt has = absurd (omega (arith, lt))
none_there (q ∷ qs) key kind e zero d lt has = not_pair key kind q (either_false (choose (prop_cmp q (with_pair key kind)) false true false) (has_pair qs key kind) e).0 has
none_there (q ∷ qs) key kind e (suc i) d lt has = none_there qs key kind (either_false (choose (prop_cmp q (with_pair key kind)) false true false) (has_pair qs key kind) e).1 i d (omega (arith, lt)) has

-- ---- kinds

-- the kind of what a property becomes is the old one, or the next that the list lacks
abbrev pub Next : List Prop → Key → Value → ℕ → Type 0
Next props key v kind = (kind ≡ kind_of v) ⊎ ((kind ≡ kind_of v + 1) × (has_pair props key (kind_of v + 1) ≡ false))

is_false : (b : Bool) → not b ≡ true → b ≡ false
is_false true e = absurd (let wrong : ⊥ = cc in wrong)
is_false false e = refl

-- a kind that is the one before the wide one
abbrev pub wide_if : Bool → ℕ → Option ℕ
wide_if b wide = if b then Some wide else None

lacked : (props : List Prop) (key : Key) (b : Bool) (wide : ℕ) → lacks props key (wide_if b wide) ≡ true → (b ≡ true) × (has_pair props key wide ≡ false)
lacked props key true wide e = (refl, is_false (has_pair props key wide) e)
lacked props key false wide e = absurd (let wrong : ⊥ = cc in wrong)

same_number : (m n : ℕ) → (m == n) ≡ true → m ≡ n
same_number m n e = grind (arith, nat_tests)

value_next : (o : Option Page) (props : List Prop) (key : Key) (v : Value) → lacks props key (wide_kind v) ≡ true → Next props key v (kind_of (value_by o v))
value_next None props key v e = inl refl
value_next (Some page) props key (number kind bits) e = inl refl
value_next (Some page) props key (guid set) e = inl refl
value_next (Some page) props key (bytes kind x) e =
    let l = lacked props key (kind == 0x001E) 0x001F e in
    let is : kind ≡ 0x001E = same_number kind 0x001E l.0 in
    let next : kind + 1 ≡ 0x001F = ap (λ n. n + 1) is in
    inr (sym next, ap (has_pair props key) next ∙ l.1)
value_next (Some page) props key (numbers kind list) e = inl refl
value_next (Some page) props key (guids list) e = inl refl
value_next (Some page) props key (parts kind list) e =
    let l = lacked props key (kind == 0x101E) 0x101F e in
    let is : kind ≡ 0x101E = same_number kind 0x101E l.0 in
    let next : kind + 1 ≡ 0x101F = ap (λ n. n + 1) is in
    inr (sym next, ap (has_pair props key) next ∙ l.1)

prop_next : (b : Bool) (code : ℕ) (props : List Prop) (p : Prop) → lacks props p.key (wide_kind p.value) ≡ b → Next props p.key p.value (kind_of (prop_by b code p).value)
prop_next false code props p e = inl refl
prop_next true code props p e = value_next (page_of code) props p.key p.value e

key_kept : (b : Bool) (code : ℕ) (p : Prop) → (prop_by b code p).key ≡ p.key
key_kept false code p = refl
key_kept true code p = refl

-- ---- the order

less_is : (x y : ℕ) → nat_cmp x y ≡ Less → x < y
less_is x y e = subst (λ (r : Ordering). MatchOrdering r (x < y) (x ≡ y) (y < x)) e (ranked x y (nat_cmp x y) refl)

is_less : (x y : ℕ) → x < y → nat_cmp x y ≡ Less
is_less x y h = grind (arith, nat_tests)

then_less : (a b c : Ordering) → ordering_then a b ≡ Less → (a ≡ Equal → b ≡ Less → c ≡ Less) → ordering_then a c ≡ Less
then_less Less b c e f = refl
then_less Equal b c e f = f refl e
then_less Greater b c e f = absurd (let wrong : ⊥ = cc in wrong)

later : (props : List Prop) (p q : Prop) (m n : ℕ) → p.key ≡ q.key → kind_of p.value < kind_of q.value → (HasPair p.key (kind_of p.value + 1) q → has_pair props p.key (kind_of p.value + 1) ≡ false → ⊥) → Next props p.key p.value m → Next props q.key q.value n → m < n
later props p q m n key lt there (inl a) (inl b) = omega (arith, lt, a, b)
later props p q m n key lt there (inl a) (inr b) = omega (arith, lt, a, b.0)
later props p q m n key lt there (inr a) (inr b) = omega (arith, lt, a.0, b.0)
later props p q m n key lt there (inr a) (inl b) = elim (next_or (kind_of p.value) (kind_of q.value) lt) [
  | inl e ↦ absurd (there (sym key, e) a.1)
  | inr over ↦ omega (arith, a.0, b, over)
]
  where
    next_or : (x y : ℕ) → x < y → (y ≡ x + 1) ⊎ (x + 1 < y)
    next_or x y h = elim (cases_lt (x + 1) y) [
      | inl under ↦ inr under
      | inr from ↦ inl (omega (arith, h, from))
    ]

pair_less : (code : ℕ) (props : List Prop) (p q : Prop) → (HasPair p.key (kind_of p.value + 1) q → has_pair props p.key (kind_of p.value + 1) ≡ false → ⊥) → prop_cmp p q ≡ Less → prop_cmp (converted_prop code props p) (converted_prop code props q) ≡ Less
pair_less code props p q there e =
    let a = prop_next (is_to_convert props p) code props p refl in
    let b = prop_next (is_to_convert props q) code props q refl in
    let m = kind_of (converted_prop code props p).value in
    let n = kind_of (converted_prop code props q).value in
    let kept = then_less (key_cmp p.key q.key) (nat_cmp (kind_of p.value) (kind_of q.value)) (nat_cmp m n) e (λ same less. is_less m n (later props p q m n ((keys_exactly p.key q.key).0 same) (less_is _ _ less) there a b)) in
    (λ i. ordering_then (key_cmp (key_kept (is_to_convert props p) code p i) (key_kept (is_to_convert props q) code q i)) (nat_cmp m n)) ∙ kept

pub sorted_kept : (code : ℕ) (props : List Prop) → IsStrictlySorted prop_cmp props → IsStrictlySorted prop_cmp (converted_props code props)
sorted_kept code props sorted i j d lt in_range =
    let long : length (converted_props code props) ≡ length props = length-map props (converted_prop code props) in
    let here : j < length props = omega (arith, in_range, long) in
    let p = get_or props i d in
    let q = get_or props j d in
    let less = pair_less code props p q (λ has none. none_there props p.key (kind_of p.value + 1) none j d here has) (sorted i j d lt here) in
    (λ k. prop_cmp (get_or-map (converted_prop code props) props i d d (omega (arith, lt, here)) k) (get_or-map (converted_prop code props) props j d d here k)) ∙ less

-- ---- values

wide_bytes_fit : (page : Page) (x u : List ℕ) → length x < 0x1000_0000 → length u ≤ length x → IsBytes 0x001F (unit_bytes u)
wide_bytes_fit page x u short few =
    let long : length (unit_bytes u) ≡ 2 * length u = length-units u in
    record { kind_is = refl; short = omega (arith, long, short, few); even = λ _. omega (arith, long) }

short_of : (kind : ℕ) (x : List ℕ) → kind ≡ 0x001E → IsBytes kind x → length x < 0x1000_0000
short_of kind x is b = subst (λ k. length x < (if k == 0x001E then 0x1000_0000 else 0x4000_0000)) is b.short

texts_fit : (page : Page) (kind : ℕ) (xs us : List (List ℕ)) → kind ≡ 0x001E → TextsOf page xs us → All (IsBytes kind) xs → AllByRecursion (IsBytes 0x001F) (map unit_bytes us) × (length us ≡ length xs)
texts_fit page kind [] [] is t all = (tt, refl)
texts_fit page kind [] (u ∷ us) is t all = absurd t
texts_fit page kind (x ∷ xs) [] is t all = absurd t
texts_fit page kind (x ∷ xs) (u ∷ us) is t all =
    let rest = texts_fit page kind xs us is t.1 (All-tail (IsBytes kind) x xs all) in
    ((wide_bytes_fit page x u (short_of kind x is (All-head (IsBytes kind) x xs all)) (text_short page x u t.0), rest.0), ap suc rest.1)

pub value_fits : (page : Page) (props : List Prop) (key : Key) (v w : Value) → lacks props key (wide_kind v) ≡ true → BecomesWide page v w → IsValue v → IsValue w
value_fits page props key (number kind bits) w e b h = absurd b
value_fits page props key (guid set) w e b h = absurd b
value_fits page props key (bytes kind x) w e (u, t, is) h =
    let l = lacked props key (kind == 0x001E) 0x001F e in
    subst IsValue (sym is) (wide_bytes_fit page x u (short_of kind x (same_number kind 0x001E l.0) h) (text_short page x u t))
value_fits page props key (numbers kind list) w e b h = absurd b
value_fits page props key (guids list) w e b h = absurd b
value_fits page props key (parts kind xs) w e (us, t, is) h =
    let l = lacked props key (kind == 0x101E) 0x101F e in
    let single : kind - 0x1000 ≡ 0x001E = ap (λ n. n - 0x1000) (same_number kind 0x101E l.0) in
    let fit = texts_fit page (kind - 0x1000) xs us single t h.0 in
    let long : length (map unit_bytes us) ≡ length us = length-map us unit_bytes in
    subst IsValue (sym is) (all_of (IsBytes 0x001F) (map unit_bytes us) fit.0, lit≤ tt, refl, omega (arith, long, fit.1, h.3))

-- ---- properties and lists

prop_fits : (b : Bool) (code : ℕ) (props : List Prop) (p q : Prop) → lacks props p.key (wide_kind p.value) ≡ b → BecomesBy b code p q → IsProp p → IsProp q
prop_fits false code props p q e is h = subst IsProp (sym is) h
prop_fits true code props p q e (key, page, known, wide) h = record { key = subst IsKey (sym key) h.key; value = value_fits page props p.key p.value q.value e wide h.value }

key_of_prop : (b : Bool) (code : ℕ) (p q : Prop) → BecomesBy b code p q → q.key ≡ p.key
key_of_prop false code p q is = ap (λ (r : Prop). r.key) is
key_of_prop true code p q (key, page, known, wide) = key

each_fits : (code : ℕ) (props ps qs : List Prop) → EachBecomes code props ps qs → All IsProp ps → AllByRecursion IsProp qs
each_fits code props [] [] b h = tt
each_fits code props [] (q ∷ qs) b h = absurd b
each_fits code props (p ∷ ps) [] b h = absurd b
each_fits code props (p ∷ ps) (q ∷ qs) b h = (prop_fits (is_to_convert props p) code props p q refl b.0 (All-head IsProp p ps h), each_fits code props ps qs b.1 (All-tail IsProp p ps h))

units_fit : (code : ℕ) (props ps qs : List Prop) → EachBecomes code props ps qs → All (λ p. KeyHasUnits p.key) ps → AllByRecursion (λ p. KeyHasUnits p.key) qs
units_fit code props [] [] b h = tt
units_fit code props [] (q ∷ qs) b h = absurd b
units_fit code props (p ∷ ps) [] b h = absurd b
units_fit code props (p ∷ ps) (q ∷ qs) b h = (subst KeyHasUnits (sym (key_of_prop (is_to_convert props p) code p q b.0)) (All-head (λ r. KeyHasUnits r.key) p ps h), units_fit code props ps qs b.1 (All-tail (λ r. KeyHasUnits r.key) p ps h))

list_fits : (code : ℕ) (ps qs : List Prop) → PropsBecome code ps qs → IsPropList ps → IsPropList qs
list_fits code ps qs b h = record {
  sorted = subst (IsStrictlySorted prop_cmp) (sym (each_means code ps ps qs b)) (sorted_kept code ps h.sorted);
  each = all_of IsProp qs (each_fits code ps ps qs b h.each);
  units = all_of (λ p. KeyHasUnits p.key) qs (units_fit code ps ps qs b h.units);
}

recipients_fit : (code : ℕ) (ps qs : List (List Prop)) → RecipientsBecome code ps qs → All IsPropList ps → AllByRecursion IsPropList qs
recipients_fit code [] [] b h = tt
recipients_fit code [] (q ∷ qs) b h = absurd b
recipients_fit code (p ∷ ps) [] b h = absurd b
recipients_fit code (p ∷ ps) (q ∷ qs) b h = (list_fits code p q b.0 (All-head IsPropList p ps h), recipients_fit code ps qs b.1 (All-tail IsPropList p ps h))

-- ---- messages

mutual
  message_fits : (code : ℕ) (t u : Message) → MessageBecomes code t u → HasPropLists t → HasPropLists u
  message_fits code (message ps rs xs) (message qs ss ys) b h = (list_fits (page_in code ps) ps qs b.0 h.0, (all_of IsPropList ss (recipients_fit (page_in code ps) rs ss b.1.0 h.1.0), attachments_fit (page_in code ps) xs ys b.1.1 h.1.1))

  attachments_fit : (code : ℕ) (xs ys : Attachments) → AttachmentsBecome code xs ys → HavePropLists xs → HavePropLists ys
  attachments_fit code no_more no_more b h = tt
  attachments_fit code no_more (attached qs y others) b h = absurd b
  attachments_fit code (attached ps x more) no_more b h = absurd b
  attachments_fit code (attached ps x more) (attached qs y others) b h = (list_fits code ps qs b.0 h.0, (body_fits code x y b.1.0 h.1.0, attachments_fit code more others b.1.1 h.1.1))

  body_fits : (code : ℕ) (x y : Body) → BodyBecomes code x y → BodyHasPropLists x → BodyHasPropLists y
  body_fits code nothing nothing b h = tt
  body_fits code nothing (embedded u) b h = absurd b
  body_fits code nothing (stored s) b h = absurd b
  body_fits code (embedded t) nothing b h = absurd b
  body_fits code (embedded t) (embedded u) b h = message_fits code t u b h
  body_fits code (embedded t) (stored s) b h = absurd b
  body_fits code (stored r) nothing b h = absurd b
  body_fits code (stored r) (embedded u) b h = absurd b
  body_fits code (stored r) (stored s) b h = subst IsStore (sym b) h

mutual
  pub depth_kept : (code : ℕ) (t u : Message) → MessageBecomes code t u → depth u ≡ depth t
  depth_kept code (message ps rs xs) (message qs ss ys) b = depths_kept (page_in code ps) xs ys b.1.1

  depths_kept : (code : ℕ) (xs ys : Attachments) → AttachmentsBecome code xs ys → depth_in ys ≡ depth_in xs
  depths_kept code no_more no_more b = refl
  depths_kept code no_more (attached qs y others) b = absurd b
  depths_kept code (attached ps x more) no_more b = absurd b
  depths_kept code (attached ps x more) (attached qs y others) b =
      let one = body_depth code x y b.1.0 in
      let rest = depths_kept code more others b.1.1 in
      λ i. max (one i) (rest i)

  body_depth : (code : ℕ) (x y : Body) → BodyBecomes code x y → depth_of_body y ≡ depth_of_body x
  body_depth code nothing nothing b = refl
  body_depth code nothing (embedded u) b = absurd b
  body_depth code nothing (stored s) b = absurd b
  body_depth code (embedded t) nothing b = absurd b
  body_depth code (embedded t) (embedded u) b = ap (λ n. n + 1) (depth_kept code t u b)
  body_depth code (embedded t) (stored s) b = absurd b
  body_depth code (stored r) nothing b = absurd b
  body_depth code (stored r) (embedded u) b = absurd b
  body_depth code (stored r) (stored s) b = refl

pub tree_kept : (t u : Message) → UnicodeOf t u → IsTree t → IsTree u
tree_kept t u b h = record { lists = message_fits FIRST_PAGE t u b h.lists; levels = omega (arith, depth_kept FIRST_PAGE t u b, h.levels) }
