-- Values of streams, and elements by themselves.
use Rattle.std.proofs.Common.{◌≡◌, ◌⊎◌, inl, inr, ℕ, zero, suc, ◌+◌, ◌-◌, ◌*◌, ◌/◌, ◌%◌, ◌<◌, ◌≤◌, ◌^◌, Bool, true, false, cond, List, [], length, get_or, map, take, drop, Option, Some, None, refl, sym, ap, subst, ◌∙◌, arith}
use Rattle.std.specs.Prelude.{All, is_some, nat_eq, nat_le, ◌==◌, ◌&&◌, ◌||◌, if◌then◌else◌}
use Rattle.std.specs.Int.{w32, from_le_bytes}
use Rattle.std.specs.Option.{option_map}
use Rattle.std.proofs.lemmas.Bool.{eqb-true, leb-true, le-leb}
use Rattle.std.proofs.lemmas.List.{length-take, length-map, drop_more, drop_all}
use Rattle.std.proofs.lemmas.List.FromFn.{length-map-range_with_len}
use Rattle.carrier_model.specs.Bytes.{le_number}
use Rattle.carrier_model.specs.Kinds.{null_of, without_null}
use Rattle.carrier_model.specs.Lookups.{Found, size_place_at, bytes_at}
use Rattle.carrier_model.specs.Reasons.{BAD_ELEMENT}
use Rattle.carrier_model.specs.Streams.{Stream}
use Rattle.carrier_model.specs.Sectors.{u32_of}
use Rattle.carrier_model.specs.Values.{IsBytes, IsValue, numbers, guids, is_bytes_kind, width_in, numbers_widths}
use Rattle.cfb_sectors.specs.Seen.{bytes_of, number_in, stream}
use Rattle.cfb_sectors.specs.declared.view.StreamView.{StreamView}
use Rattle.msg_model.specs.MsgValues.{fits_kind, means_empty, pieces_of}
use Rattle.msg_props.specs.Elements.{part_in, is_good, is_present, IsElement, IsBad}
use Rattle.msg_props.proofs.NameForms.{there, nowhere}
use Rattle.prop_values.specs.Shapes.{IsWidth}

pub bytes_kinds : (kind : ℕ) → is_bytes_kind kind ≡ true → (kind ≡ 0x001E) ⊎ ((kind ≡ 0x001F) ⊎ (kind ≡ 0x0102))
bytes_kinds kind = by (kind == 0x001E) (kind == 0x001F) (kind == 0x0102) refl refl refl
  where
    by : (a b c : Bool) → (kind == 0x001E) ≡ a → (kind == 0x001F) ≡ b → (kind == 0x0102) ≡ c → (a || b || c) ≡ true → (kind ≡ 0x001E) ⊎ ((kind ≡ 0x001F) ⊎ (kind ≡ 0x0102))
    by true b c e f g h = inl (eqb-true _ _ e)
    by false true c e f g h = inr (inl (eqb-true _ _ f))
    by false false true e f g h = inr (inr (eqb-true _ _ g))
    by false false false e f g h = absurd cc

pub bytes_valid : (kind : ℕ) (x : List ℕ) → is_bytes_kind kind ≡ true → fits_kind kind (length x) ≡ true → length x < 0x1000_0000 → IsBytes kind x
bytes_valid kind x k fits small = record {
  kind_is = k;
  short = by (nat_eq kind 0x001E);
  even = λ e. eqb-true _ _ (subst (λ (z : ℕ). fits_kind z (length x) ≡ true) e fits);
}
  where
    by : (c : Bool) → length x < cond c 0x1000_0000 0x4000_0000
    by true = small
    by false = omega (arith, small)

without_len : (n : ℕ) (x : List ℕ) → (without_null n x ≡ x) ⊎ ((n ≤ length x) × (length (without_null n x) ≡ length x - n))
without_len n x = by (nat_le n (length x)) (le_number (drop (length x - n) x) == 0) refl
  where
    by : (p q : Bool) → nat_le n (length x) ≡ p → ((if p && q then take (length x - n) x else x) ≡ x) ⊎ ((n ≤ length x) × (length (if p && q then take (length x - n) x else x) ≡ length x - n))
    by true true e = inr (leb-true n (length x) e, omega (arith, length-take (length x - n) x))
    by true false e = inl refl
    by false q e = inl refl

null_shorter : (n : ℕ) (x : List ℕ) → length (without_null n x) ≤ length x
null_shorter n x = elim (without_len n x) [ inl s ↦ omega (arith, ap length s) | inr s ↦ omega (arith, s.1) ]

null_even : (x : List ℕ) → length x % 2 ≡ 0 → length (without_null 2 x) % 2 ≡ 0
null_even x e = elim (without_len 2 x) [ inl s ↦ omega (arith, ap length s) | inr s ↦ omega (arith, s.0, s.1) ]

part_fits : (kind : ℕ) (x : List ℕ) → is_bytes_kind kind ≡ true → fits_kind kind (length x) ≡ true → fits_kind kind (length (without_null (null_of kind) x)) ≡ true
part_fits kind x k fits = elim (bytes_kinds kind k) [
  | inl e ↦ rw e refl
  | inr (inl e) ↦ rw e (let even : length x % 2 ≡ 0 = eqb-true _ _ (subst (λ (z : ℕ). fits_kind z (length x) ≡ true) e fits) in let here = null_even x even in rw here refl)
  | inr (inr e) ↦ rw e refl
]

pub part_valid : (kind : ℕ) (x : List ℕ) → is_bytes_kind kind ≡ true → fits_kind kind (length x) ≡ true → length x < 0x1000_0000 → IsBytes kind (without_null (null_of kind) x)
part_valid kind x k fits small = bytes_valid kind (without_null (null_of kind) x) k (part_fits kind x k fits) (omega (arith, null_shorter (null_of kind) x))

pub empty_fits : (kind : ℕ) → is_bytes_kind kind ≡ true → fits_kind kind 0 ≡ true
empty_fits kind k = elim (bytes_kinds kind k) [ inl e ↦ rw e refl | inr (inl e) ↦ rw e refl | inr (inr e) ↦ rw e refl ]

pub empty_part : (kind : ℕ) → is_bytes_kind kind ≡ true → without_null (null_of kind) [] ≡ []
empty_part kind k = elim (bytes_kinds kind k) [ inl e ↦ rw e refl | inr (inl e) ↦ rw e refl | inr (inr e) ↦ rw e refl ]

-- ---- the null at the end

pub number_tail : (w at : ℕ) (x : List ℕ) → at + w ≡ length x → number_in x at w ≡ le_number (drop at x)
number_tail zero at x e = sym (ap le_number (drop_all at x (omega arith)))
number_tail (suc w) at x e =
    ap (λ (n : ℕ). get_or x at 0 + 256 * n) (number_tail w (at + 1) x (omega arith)) ∙ sym (ap le_number (drop_more x at 0 (omega arith)))

pub cut_short : (n : ℕ) (x : List ℕ) → length x < n → without_null n x ≡ x
cut_short n x lt = by (nat_le n (length x)) refl
  where
    by : (p : Bool) → nat_le n (length x) ≡ p → (if p && (le_number (drop (length x - n) x) == 0) then take (length x - n) x else x) ≡ x
    by true e = absurd (omega (arith, leb-true n (length x) e))
    by false e = refl

pub cut_other : (n number : ℕ) (x : List ℕ) → n ≤ length x → number ≡ number_in x (length x - n) n → (number ≡ 0 → ⊥) → without_null n x ≡ x
cut_other n number x le e other = by (nat_le n (length x)) (le_number (drop (length x - n) x) == 0) refl
  where
    by : (p q : Bool) → (le_number (drop (length x - n) x) == 0) ≡ q → (if p && q then take (length x - n) x else x) ≡ x
    by p true f = absurd (other (e ∙ number_tail n (length x - n) x (omega arith) ∙ eqb-true _ _ f))
    by true false f = refl
    by false false f = refl

pub cut_null_off : (n number : ℕ) (x : List ℕ) → n ≤ length x → number ≡ number_in x (length x - n) n → number ≡ 0 → without_null n x ≡ take (length x - n) x
cut_null_off n number x le e zero_is =
    let zero_there : le_number (drop (length x - n) x) ≡ 0 = sym (e ∙ number_tail n (length x - n) x (omega arith)) ∙ zero_is in
    let enough : nat_le n (length x) ≡ true = le-leb n (length x) le in
    rw (enough, zero_there) refl

-- ---- elements

module _ (single size : ℕ) (o : Option Found) (k : is_bytes_kind single ≡ true) where
  pub element_there : (view v : StreamView) → Some (stream view) ≡ option_map (λ f. f.stream) o → fits_kind single (length (bytes_of view)) ≡ true → bytes_of v ≡ without_null (null_of single) (bytes_of view) → length (bytes_of view) < 0x1000_0000 → IsElement single (record { stream = o; size = size }) (Some v)
  element_there view v e fits cut small =
      let (f, is, s) = there o (stream view) e in
      let same : bytes_of view ≡ bytes_at o = ap (λ (t : Stream). t.bytes) s ∙ sym (ap bytes_at is) in
      let good = subst (λ (x : List ℕ). fits_kind single (length x) ≡ true) same fits in (
        good,
        (let here : is_some o ≡ true = ap is_some is in rw here refl),
        cut ∙ ap (without_null (null_of single)) same,
        part_valid single (bytes_at o) k good (subst (λ (x : List ℕ). length x < 0x1000_0000) same small),
      )

  pub element_bad : (view : StreamView) (g : ℕ × ℕ) → Some (stream view) ≡ option_map (λ f. f.stream) o → fits_kind single (length (bytes_of view)) ≡ false → g ≡ (BAD_ELEMENT, size_place_at o) → IsBad single (record { stream = o; size = size }) g
  element_bad view g e fits fault =
      let (f, is, s) = there o (stream view) e in
      let same : bytes_of view ≡ bytes_at o = ap (λ (t : Stream). t.bytes) s ∙ sym (ap bytes_at is) in
      (subst (λ (x : List ℕ). fits_kind single (length x) ≡ false) same fits, fault)

  none_good : o ≡ None → is_good single (record { stream = o; size = size }) ≡ true
  none_good e = ap (λ (p : Option Found). fits_kind single (length (bytes_at p))) e ∙ empty_fits single k

  none_part : o ≡ None → part_in single (record { stream = o; size = size }) ≡ []
  none_part e = ap (λ (p : Option Found). without_null (null_of single) (bytes_at p)) e ∙ empty_part single k

  pub element_empty : (v : StreamView) → None ≡ option_map (λ f. f.stream) o → means_empty single size ≡ true → bytes_of v ≡ [] → IsElement single (record { stream = o; size = size }) (Some v)
  element_empty v e empty b =
      let none = nowhere o e in
      let here : is_present single (record { stream = o; size = size }) ≡ true = ap (λ (p : Option Found). is_some p || means_empty single size) none ∙ empty in (
        none_good none,
        here,
        b ∙ sym (none_part none),
        subst (IsBytes single) (sym (none_part none)) (bytes_valid single [] k (empty_fits single k) (omega arith)),
      )

  pub element_missing : None ≡ option_map (λ f. f.stream) o → means_empty single size ≡ false → IsElement single (record { stream = o; size = size }) None
  element_missing e gone =
      let none = nowhere o e in
      (none_good none, ap (λ (p : Option Found). is_some p || means_empty single size) none ∙ gone)

few : (n width : ℕ) → IsWidth width → n / width ≤ n
few n width (inl e) = let h : n / 2 ≤ n = omega arith in rw e h
few n width (inr (inl e)) = let h : n / 4 ≤ n = omega arith in rw e h
few n width (inr (inr e)) = let h : n / 8 ≤ n = omega arith in rw e h

-- ---- lists

pub numbers_valid : (kind width : ℕ) (l x : List ℕ) → width_in numbers_widths kind ≡ width → IsWidth width → All (λ n. n < 2 ^ (8 * width)) l → l ≡ map le_number (pieces_of width x) → length x < 0x1000_0000 → IsValue (numbers kind l)
numbers_valid kind width l x e w fit is small =
    let len : length l ≡ length x / width = ap length is ∙ length-map (pieces_of width x) le_number ∙ length-map-range_with_len (λ i. take width (drop (width * i) x)) 0 (length x / width) in
    (rw e fit, rw e (some w), omega (arith, len, small, few (length x) width w))
  where
    some : IsWidth width → 0 < width
    some (inl e) = rw e (omega arith)
    some (inr (inl e)) = rw e (omega arith)
    some (inr (inr e)) = rw e (omega arith)

pub guids_valid : (l : List (List ℕ)) (x : List ℕ) → All (λ g. length g ≡ 16) l → l ≡ pieces_of 16 x → length x < 0x1000_0000 → IsValue (guids l)
guids_valid l x fit is small =
    let len : length l ≡ length x / 16 = ap length is ∙ length-map-range_with_len (λ i. take 16 (drop (16 * i) x)) 0 (length x / 16) in
    (fit, omega (arith, len, small))

-- ---- sizes of elements

pub wide : (step : ℕ) → (step ≡ 4) ⊎ (step ≡ 8) → IsWidth step
wide step w = inr w

pub count_small : (n step k : ℕ) → (step ≡ 4) ⊎ (step ≡ 8) → k < n / step → n < 0x1000_0000 → k < 2 ^ 32
count_small n step k w lt small = omega (arith, lt, small, few n step (wide step w))

pub size_inside : (n step k : ℕ) → (step ≡ 4) ⊎ (step ≡ 8) → k < n / step → step * k + 4 ≤ n
size_inside n step k (inl e) lt = let h : k < n / 4 = rw e at lt in let g : 4 * k + 4 ≤ n = omega arith in rw e g
size_inside n step k (inr e) lt = let h : k < n / 8 = rw e at lt in let g : 8 * k + 4 ≤ n = omega arith in rw e g

pub size_read : (size step other k : ℕ) (x : List ℕ) → step ≡ other → size ≡ from_le_bytes w32 (take 4 (drop (step * k) x)) → size ≡ u32_of x (other * k)
unfolding u32_of
size_read size step other k x e h = h ∙ ap (λ (n : ℕ). from_le_bytes w32 (take 4 (drop (n * k) x))) e

pub list_small : (n step k many : ℕ) → (step ≡ 4) ⊎ (step ≡ 8) → k ≡ n / step → n < 0x1000_0000 → many ≤ k → many < 0x1000_0000
list_small n step k many w e small le = omega (arith, e, small, le, few n step (wide step w))
