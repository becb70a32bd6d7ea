-- What is in a value, and what is in its data.
use Rattle.std.proofs.Common.{◌≡◌, ◌∙◌, refl, sym, ap, subst, ℕ, List, [], ◌∷◌, Bool, true, false, true≢false, cond, bytes_eq, Option, Some, None, option_map, Bor, Box, Vec, Global}
use Rattle.std.proofs.lemmas.Slice.Eq.{bytes_eq-Decides}
use Rattle.json.specs.Find as find
use Rattle.json.specs.Json as json
use Rattle.serde_json.specs.Data.{Data, Members, no_members, put, item}
use Rattle.serde_json.specs.Find.{get, get_member, as_array}
use Rattle.serde_json.proofs.Views.{get_member-put, get_member-put_other}
use Rattle.json_values.specs.Values.{in_box, value_view, json_items}
use Rattle.json_values.specs.declared.value.Value.{Value, Array}
use Rattle.json_values.proofs.Values.{array_seen}
use Rattle.json_values.specs.View.{data_of, items_data, with_members, view, items_view}

items_seen : (vs : List Value) → items_data (json_items vs) ≡ items_view vs
items_seen [] = refl
items_seen (v ∷ vs) = ap (item (view v)) (items_seen vs)

pub elements_seen : (items : Option (Box (Vec Value Global) Global)) (v : Value) → Array items ≡ v → Some (items_view (in_box items)) ≡ as_array (view v)
elements_seen items v is = ap Some (sym (items_seen (in_box items))) ∙ (ap (λ j. as_array (data_of j)) (sym (array_seen items)) ∙ ap (λ w. as_array (view w)) is)

pub seen_by_ref : (r : Option (Bor Value)) → option_map (λ v. view v.now) r ≡ option_map data_of (option_map (λ v. value_view v.now) r)
seen_by_ref None = refl
seen_by_ref (Some v) = refl

-- what is found later, or else before
abbrev or_before : Option Data → Option Data → Option Data
or_before None before = before
or_before (Some d) before = Some d

here : (name k : List ℕ) (j : json.Json) (found : Members) (later : Option json.Json) (b : Bool) → bytes_eq k name ≡ b
    → or_before (option_map data_of later) (get_member name (put k (data_of j) found)) ≡ or_before (option_map data_of (find.later_or later (cond b (Some j) None))) (get_member name found)
here name k j found (Some i) b is = refl
here name k j found None true is =
    let same : k ≡ name = (bytes_eq-Decides k name).0 is in
    subst (λ n. get_member n (put k (data_of j) found) ≡ Some (data_of j)) same (get_member-put k (data_of j) found)
here name k j found None false is = get_member-put_other name k (data_of j) found (λ same. true≢false (sym ((bytes_eq-Decides k name).1 (sym same)) ∙ is))

found_in : (name : List ℕ) (ms : json.Members) (found : Members) → get_member name (with_members ms found) ≡ or_before (option_map data_of (find.get_member name ms)) (get_member name found)
found_in name json.no_members found = refl
found_in name (json.member k j ms) found = found_in name ms (put k (data_of j) found) ∙ here name k j found (find.get_member name ms) (bytes_eq k name) refl

or_none : (o : Option Data) → or_before o None ≡ o
or_none None = refl
or_none (Some d) = refl

-- the last member of a name is the one in the data
pub get_seen : (name : List ℕ) (j : json.Json) → option_map data_of (find.get name j) ≡ get name (data_of j)
get_seen name json.null = refl
get_seen name (json.boolean b) = refl
get_seen name (json.number s) = refl
get_seen name (json.string s) = refl
get_seen name (json.array js) = refl
get_seen name (json.object ms) = sym (found_in name ms no_members ∙ or_none _)
