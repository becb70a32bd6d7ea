-- The entries of a list, by tags that were found before.
use Rattle.std.proofs.Common.{◌≡◌, ℕ, ◌+◌, ◌-◌, ◌<◌, ◌≤◌, List, ◌++◌, Option, Some, None, Result, length, map, take, drop, take_all, get_or, not, refl, sym, ap, subst, ◌∙◌, append_assoc, arith}
use Rattle.std.specs.Prelude.{filter, slice_get, OnOk}
use Rattle.std.specs.List.{flat_map}
use Rattle.std.proofs.lemmas.List.{length-drop}
use Rattle.std.proofs.lemmas.Option.{slice_get-get_or}
use Rattle.carrier_model.specs.Keys.{Name}
use Rattle.carrier_model.specs.Kinds.{comes_before_object}
use Rattle.carrier_model.specs.Values.{Prop}
use Rattle.msg_model.specs.WrittenMsg.{tag_of, entry_bytes, entries_bytes, object_entry}
use Rattle.msg_props.specs.Tagged.{tagged_entry, tagged_range}
use Rattle.msg_props.proofs.TaggedLists.{range_flat, range_at, loop_more}

-- one entry more
pub range_more : (from to k : ℕ) (tags : List ℕ) (props : List Prop) (p : Prop) (old now next : List ℕ) → k < to - from → to ≤ length props → length tags ≡ length props → slice_get props (from + k) ≡ Some p → now ≡ old ++ flat_map tagged_entry (take k (tagged_range from to tags props)) → next ≡ now ++ tagged_entry (get_or tags (from + k) 0, p) → next ≡ old ++ flat_map tagged_entry (take (k + 1) (tagged_range from to tags props))
range_more from to k tags props p old now next lt within each at e f =
    let t = get_or tags (from + k) 0 in
    let here = range_at from to tags props k t p lt (slice_get-get_or tags (from + k) 0 (omega (arith, lt, within, each))) at in
    loop_more tagged_entry (tagged_range from to tags props) k (t, p) old now next (tagged_entry (t, p)) here e f (refl {a = tagged_entry (t, p)})

all_entries : (names : List Name) (tags : List ℕ) (props : List Prop) (n : ℕ) → n ≡ length props → tags ≡ map (tag_of names) props → flat_map tagged_entry (tagged_range 0 n tags props) ≡ flat_map (entry_bytes names) props
all_entries names tags props n is t =
    range_flat tagged_entry (tag_of names) tags props 0 n t ∙ ap (flat_map (entry_bytes names)) (take_all (n - 0) props (omega (arith, is)))

front_entries : (names : List Name) (tags : List ℕ) (props : List Prop) (n : ℕ) → tags ≡ map (tag_of names) props → take n props ≡ filter comes_before_object props → flat_map tagged_entry (tagged_range 0 n tags props) ≡ flat_map (entry_bytes names) (filter comes_before_object props)
front_entries names tags props n t front =
    range_flat tagged_entry (tag_of names) tags props 0 n t ∙ ap (λ (k : ℕ). flat_map (entry_bytes names) (take k props)) (let z : n - 0 ≡ n = omega arith in z) ∙ ap (flat_map (entry_bytes names)) front

back_entries : (names : List Name) (tags : List ℕ) (props : List Prop) (n m : ℕ) → m ≡ length props → tags ≡ map (tag_of names) props → drop n props ≡ filter (λ (p : Prop). not (comes_before_object p)) props → flat_map tagged_entry (tagged_range n m tags props) ≡ flat_map (entry_bytes names) (filter (λ (p : Prop). not (comes_before_object p)) props)
back_entries names tags props n m is t back =
    range_flat tagged_entry (tag_of names) tags props n m t
    ∙ ap (flat_map (entry_bytes names)) (take_all (m - n) (drop n props) (omega (arith, is, length-drop n props)))
    ∙ ap (flat_map (entry_bytes names)) back

-- without an object
pub entries_none : {T E : Type 0} (r : Result T E) (names : List Name) (tags : List ℕ) (props : List Prop) (object : Option ℕ) (n : ℕ) (old new : List ℕ) → object ≡ None → n ≡ length props → tags ≡ map (tag_of names) props → OnOk r (new ≡ old ++ flat_map tagged_entry (tagged_range 0 n tags props)) → OnOk r (new ≡ old ++ entries_bytes names props object)
entries_none r names tags props object n old new none is t h =
    subst (λ (z : List ℕ). OnOk r (new ≡ old ++ z)) (all_entries names tags props n is t ∙ sym (ap (entries_bytes names props) none)) h

-- with one
pub entries_some : {T E : Type 0} (r : Result T E) (names : List Name) (tags : List ℕ) (props : List Prop) (object : Option ℕ) (word n m : ℕ) (old one two new : List ℕ) → object ≡ Some word → m ≡ length props → tags ≡ map (tag_of names) props
    → take n props ≡ filter comes_before_object props → drop n props ≡ filter (λ (p : Prop). not (comes_before_object p)) props
    → one ≡ old ++ flat_map tagged_entry (tagged_range 0 n tags props) → two ≡ one ++ object_entry word
    → OnOk r (new ≡ two ++ flat_map tagged_entry (tagged_range n m tags props)) → OnOk r (new ≡ old ++ entries_bytes names props object)
entries_some r names tags props object word n m old one two new some is t front back p q h =
    let f = flat_map (entry_bytes names) (filter comes_before_object props) in
    let b = flat_map (entry_bytes names) (filter (λ (p : Prop). not (comes_before_object p)) props) in
    let o = object_entry word in
    let here : two ≡ (old ++ f) ++ o = q ∙ ap (λ (z : List ℕ). z ++ o) (p ∙ ap (λ (z : List ℕ). old ++ z) (front_entries names tags props n t front)) in
    let all : two ++ flat_map tagged_entry (tagged_range n m tags props) ≡ old ++ entries_bytes names props object =
    (λ i. here i ++ back_entries names tags props n m is t back i)
    ∙ append_assoc (old ++ f) o b ∙ append_assoc old f (o ++ b)
    ∙ ap (λ (z : List ℕ). old ++ z) (sym (ap (entries_bytes names props) some)) in
    subst (λ (z : List ℕ). OnOk r (new ≡ z)) all h
