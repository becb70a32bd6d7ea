-- The names of a tree are among the names that it is written with.
use Rattle.std.proofs.Common.{◌≡◌, ℕ, zero, suc, ◌≤◌, ◌++◌, List, [], ◌∷◌, length, inl, inr, refl, sym, ap, subst, ◌∙◌, arith}
use Rattle.std.specs.Prelude.{Contains, All, slice_get, Some, None}
use Rattle.std.specs.List.{flat_map}
use Rattle.std.specs.declared.cmp.Ordering.{Ordering}
use Rattle.std.specs.declared.cmp.Ordering.TheVariants.{Less, Equal, Greater}
use Rattle.std.proofs.lemmas.Bool.{cases_lt}
use Rattle.std.proofs.lemmas.List.Elements.{Contains-append_left, Contains-append_right}
use Rattle.std.proofs.lemmas.Option.{slice_get_within, get_or_from_slice_get}
use Rattle.carrier_model.specs.Keys.{Name, Key, id, named, name_cmp}
use Rattle.carrier_model.specs.Limits.{first_limit, tnef_limits, too_many_names}
use Rattle.carrier_model.proofs.Messages.{is_passed}
use Rattle.carrier_model.specs.Sorted.{choose, with_element, with_elements}
use Rattle.carrier_model.specs.Tree.{Message, Attached, name_in, names_in, names_in_props, names_at, names_below, names_of, attachments_from}
use Rattle.carrier_model.specs.Values.{Prop}
use Rattle.carrier_model.proofs.Orders.{name_exact}
use Rattle.carrier_model.proofs.SortedLists.{in_head, in_tail}
use Rattle.tnef_writer.specs.Written.{Includes}
use Rattle.tnef_props.specs.Named.{HasKey, HasNames}

kept_element : (m : List Name) (x y : Name) → Contains m y → Contains (with_element name_cmp m x) y
kept_element [] x y (k, lt, e) = absurd (omega (arith, lt))
kept_element (z ∷ m) x y (zero, lt, e) = by (name_cmp z x)
  where
    by : (o : Ordering) → Contains (choose o (z ∷ with_element name_cmp m x) (z ∷ m) (x ∷ z ∷ m)) y
    by Less = (zero, omega arith, e)
    by Equal = (zero, lt, e)
    by Greater = (suc zero, omega (arith, lt), e)
kept_element (z ∷ m) x y (suc k, lt, e) = by (kept_element m x y (k, omega (arith, lt), e)) (name_cmp z x)
  where
    by : Contains (with_element name_cmp m x) y → (o : Ordering) → Contains (choose o (z ∷ with_element name_cmp m x) (z ∷ m) (x ∷ z ∷ m)) y
    by c Less = in_tail z y (with_element name_cmp m x) c
    by c Equal = (suc k, lt, e)
    by c Greater = (suc (suc k), omega (arith, lt), e)

new_element : (m : List Name) (x : Name) → Contains (with_element name_cmp m x) x
new_element [] x = in_head x []
new_element (z ∷ m) x = by (new_element m x) (name_cmp z x) refl
  where
    by : Contains (with_element name_cmp m x) x → (o : Ordering) → name_cmp z x ≡ o → Contains (choose o (z ∷ with_element name_cmp m x) (z ∷ m) (x ∷ z ∷ m)) x
    by c Less e = in_tail z x (with_element name_cmp m x) c
    by c Equal e = subst (λ (w : Name). Contains (w ∷ m) x) (sym (name_exact z x e)) (in_head x m)
    by c Greater e = in_head x (z ∷ m)

kept_elements : (ps m : List Name) (y : Name) → Contains m y → Contains (with_elements name_cmp m ps) y
kept_elements [] m y c = c
kept_elements (p ∷ ps) m y c = kept_elements ps (with_element name_cmp m p) y (kept_element m p y c)

all_elements : (ps m : List Name) (y : Name) → Contains ps y → Contains (with_elements name_cmp m ps) y
all_elements [] m y (k, lt, e) = absurd (omega (arith, lt))
all_elements (p ∷ ps) m y (zero, lt, e) = kept_elements ps (with_element name_cmp m p) y (subst (Contains (with_element name_cmp m p)) e (new_element m p))
all_elements (p ∷ ps) m y (suc k, lt, e) = all_elements ps (with_element name_cmp m p) y (k, omega (arith, lt), e)

pub includes_own : (t : Message) → Includes (names_of t) (names_in t)
includes_own t x c = all_elements (names_in t) [] x c

pub includes_left : (names xs ys : List Name) → Includes names (xs ++ ys) → Includes names xs
includes_left names xs ys h x c = h x (Contains-append_left xs ys x c)

pub includes_right : (names xs ys : List Name) → Includes names (xs ++ ys) → Includes names ys
includes_right names xs ys h x c = h x (Contains-append_right xs ys x c)

has_key : (names : List Name) (key : Key) → Includes names (name_in key) → HasKey names key
has_key names (id n) h = tt
has_key names (named name) h = h name (in_head name [])

pub has_names : (names : List Name) (props : List Prop) → Includes names (names_in_props props) → HasNames names props
has_names names [] h k d lt = absurd (omega (arith, lt))
has_names names (p ∷ props) h zero d lt = has_key names p.key (includes_left names (name_in p.key) (names_in_props props) h)
has_names names (p ∷ props) h (suc k) d lt = has_names names props (includes_right names (name_in p.key) (names_in_props props) h) k d (omega (arith, lt))

pub all_have_names : (names : List Name) (lists : List (List Prop)) → Includes names (flat_map names_in_props lists) → All (HasNames names) lists
all_have_names names [] h k d lt = absurd (omega (arith, lt))
all_have_names names (props ∷ lists) h zero d lt = has_names names props (includes_left names (names_in_props props) (flat_map names_in_props lists) h)
all_have_names names (props ∷ lists) h (suc k) d lt = all_have_names names lists (includes_right names (names_in_props props) (flat_map names_in_props lists) h) k d (omega (arith, lt))

pub includes_at : (names : List Name) (xs : List Attached) (k : ℕ) (x : Attached) → slice_get xs k ≡ Some x → Includes names (names_below (attachments_from xs)) → Includes names (names_at x)
includes_at names [] k x at h = absurd (omega (arith, slice_get_within {A = Attached} [] k x at))
includes_at names (y ∷ xs) zero x at h = subst (λ (z : Attached). Includes names (names_at z)) (get_or_from_slice_get (y ∷ xs) 0 x x at) (includes_left names (names_at y) (names_below (attachments_from xs)) h)
includes_at names (y ∷ xs) (suc k) x at h = includes_at names xs k x at (includes_right names (names_at y) (names_below (attachments_from xs)) h)

-- a tree that passes no limit of a TNEF stream has few names
pub few_names : (t : Message) → first_limit (tnef_limits t) ≡ None → length (names_of t) ≤ 32000
few_names t none = elim (cases_lt 32000 (length (names_of t))) [
  | inl many ↦ let e = is_passed 32000 (length (names_of t)) (too_many_names (length (names_of t))) many in absurd (let some = sym (ap first_limit e) ∙ none in cc)
  | inr few ↦ few
]
