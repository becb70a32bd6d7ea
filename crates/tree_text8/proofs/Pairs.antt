-- Whether a list has a property with a key and a kind, and a list that grows at its end.
use Rattle.std.proofs.Common.{◌≡◌, ◌∙◌, refl, sym, ap, subst, ℕ, zero, suc, ◌+◌, Bool, true, false, List, [], ◌∷◌, ◌++◌, take, drop, map, take-append-drop}
use Rattle.std.specs.Prelude.{All, Option, Some, None, IfSome, IfNone, is_none, is_some, slice_get, ◌||◌, not}
use Rattle.std.specs.declared.cmp.Ordering.{Ordering}
use Rattle.std.specs.declared.cmp.Ordering.TheVariants.{Less, Equal, Greater}
use Rattle.std.proofs.lemmas.List.{map-append}
use Rattle.std.proofs.lemmas.List.Elements.{All-head, All-tail}
use Rattle.carrier_model.specs.Keys.{Key}
use Rattle.carrier_model.specs.Sorted.{choose, IsStrictlySorted}
use Rattle.carrier_model.specs.Values.{Prop, IsProp, Value, prop_cmp, with_pair, HasPair}
use Rattle.carrier_model.proofs.OrderLaws.{props_exactly}
use Rattle.carrier_model.proofs.SortedLists.{sorted_to}
use Rattle.carrier_model.proofs.Trees.{drop_at}
use Rattle.text8_model.specs.Pages.{Page}
use Rattle.text8_model.specs.Unicode.{has_pair, lacks, is_to_convert, wide_value, bad_value, converted_prop}
use Rattle.text8_model.proofs.KeptLaws.{sorted_kept, value_fits}
use Rattle.text8_model.proofs.ValueLaws.{wide_found}

-- ---- a key and a kind

or_true : (a : Bool) → (a || true) ≡ true
or_true true = refl
or_true false = refl

pair_there : (props : List Prop) (key : Key) (kind k : ℕ) (p : Prop) → slice_get props k ≡ Some p → HasPair key kind p → has_pair props key kind ≡ true
pair_there [] key kind k p at has = absurd (let wrong : ⊥ = cc in wrong)
pair_there (q ∷ qs) key kind zero p at has =
    let first : q ≡ p = cc in
    let same : prop_cmp q (with_pair key kind) ≡ Equal = (props_exactly q (with_pair key kind)).1 (subst (HasPair key kind) (sym first) has) in
    ap (λ o. choose o false true false || has_pair qs key kind) same
pair_there (q ∷ qs) key kind (suc k) p at has =
    ap (λ b. choose (prop_cmp q (with_pair key kind)) false true false || b) (pair_there qs key kind k p at has) ∙ or_true (choose (prop_cmp q (with_pair key kind)) false true false)

unlike : (q : Prop) (key : Key) (kind : ℕ) → (HasPair key kind q → ⊥) → (o : Ordering) → prop_cmp q (with_pair key kind) ≡ o → choose o false true false ≡ false
unlike q key kind other Less e = refl
unlike q key kind other Equal e = absurd (other ((props_exactly q (with_pair key kind)).0 e))
unlike q key kind other Greater e = refl

pair_missing : (props : List Prop) (key : Key) (kind : ℕ) → All (λ p. HasPair key kind p → ⊥) props → has_pair props key kind ≡ false
pair_missing [] key kind all = refl
pair_missing (q ∷ qs) key kind all =
    let one : choose (prop_cmp q (with_pair key kind)) false true false ≡ false = unlike q key kind (All-head (λ p. HasPair key kind p → ⊥) q qs all) (prop_cmp q (with_pair key kind)) refl in
    let rest = pair_missing qs key kind (All-tail (λ p. HasPair key kind p → ⊥) q qs all) in
    λ i. one i || rest i

-- what a test for None says
pub none_is : (o : Option ℕ) (b : Bool) → is_some o ≡ not b → b ≡ is_none o
none_is None true e = refl
none_is None false e = absurd (let wrong : ⊥ = cc in wrong)
none_is (Some k) true e = absurd (let wrong : ⊥ = cc in wrong)
none_is (Some k) false e = refl

pub found_decides : (props : List Prop) (key : Key) (kind : ℕ) (wide : Option ℕ) (o : Option ℕ) → wide ≡ Some kind → IfSome o (λ k. (p : Prop) × (slice_get props k ≡ Some p) × HasPair key kind p) → IfNone o (All (λ p. HasPair key kind p → ⊥) props) → is_none o ≡ lacks props key wide
found_decides props key kind wide (Some k) e some none = ap not (sym (pair_there props key kind k some.0 some.1 some.2)) ∙ ap (lacks props key) (sym e)
found_decides props key kind wide None e some none = ap not (sym (pair_missing props key kind none)) ∙ ap (lacks props key) (sym e)

-- ---- what a converted property keeps to

pub wide_fits : (page : Page) (props : List Prop) (p : Prop) (key : Key) (value : Value) → is_to_convert props p ≡ true → bad_value 0 0 (Some page) p.value ≡ [] → IsProp p → key ≡ p.key → value ≡ wide_value page p.value → IsProp (record { key = key; value = value })
wide_fits page props p key value is good h k v =
    let fits = value_fits page props p.key p.value (wide_value page p.value) is (wide_found page props p.key p.value 0 0 is good) h.value in
    (λ (e : IsProp (record { key = p.key; value = wide_value page p.value })). subst IsProp (λ i. record { key = sym k i; value = sym v i }) e) (record { key = h.key; value = fits })

-- ---- one more behind the others

pub next_sorted : (code : ℕ) (props all : List Prop) (k : ℕ) (p q : Prop) → IsStrictlySorted prop_cmp props → slice_get props k ≡ Some p → all ≡ map (converted_prop code props) (take k props) → q ≡ converted_prop code props p → IsStrictlySorted prop_cmp (all ++ q ∷ [])
next_sorted code props all k p q sorted at made is =
    let f = converted_prop code props in
    let rest = map f (drop (k + 1) props) in
    let split : map f props ≡ map f (take k props) ++ f p ∷ rest = ap (map f) (sym (take-append-drop k props) ∙ ap (λ l. take k props ++ l) (drop_at props k p at)) ∙ map-append f (take k props) (p ∷ drop (k + 1) props) in
    let whole : map f props ≡ all ++ q ∷ rest = split ∙ λ i. sym made i ++ sym is i ∷ rest in
    sorted_to prop_cmp all rest q (subst (IsStrictlySorted prop_cmp) whole (sorted_kept code props sorted))
