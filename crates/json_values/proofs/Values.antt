-- Values, level by level, and lists of them that grow at their end.
use Rattle.std.proofs.Common.{◌≡◌, ◌∙◌, refl, sym, ap, ℕ, List, [], ◌∷◌, ◌++◌, Bool, true, false, cond, bytes_eq, Option, Some, None, Box, Vec, Global, Bor, rules}
use Rattle.json.specs.Token.{Token}
use Rattle.json.specs.Json.{Json, array, object, Items, no_items, item, Members, no_members, member, parse_map}
use Rattle.json.specs.Find.{later_or, get_member}
use Rattle.json_values.specs.Values.{in_box, value_view, view_step, json_items, json_members}
use Rattle.json_values.specs.declared.value.Value.{Value, Array, Object, fold-roll-Value, the_lemmas}
use Rattle.json_values.specs.declared.value.Value.TheViews.{rolls-Object}
use Rattle.json_values.specs.declared.value.Value.TheOpen as one

pub array_seen : (b : Option (Box (Vec Value Global) Global)) → value_view (Array b) ≡ array (json_items (in_box b))
array_seen None = search (rules, the_lemmas)
array_seen (Some b) = search (rules, the_lemmas)

pub object_seen : (b : Option (Box (Vec (Bor (List ℕ) × Value) Global) Global)) → value_view (Object b) ≡ object (json_members (in_box b))
object_seen None = search (rules, the_lemmas)
object_seen (Some b) = ap value_view (sym (rolls-Object (Some b))) ∙ fold-roll-Value Json view_step (one.Object (Some b))

-- ---- what is found stands before what is still to come

abbrev pub items_before : List Value → Items → Items
items_before [] rest = rest
items_before (v ∷ vs) rest = item (value_view v) (items_before vs rest)

abbrev pub members_before : List (Bor (List ℕ) × Value) → Members → Members
members_before [] rest = rest
members_before (m ∷ ms) rest = member m.0.now (value_view m.1) (members_before ms rest)

pub all_items : (vs : List Value) → items_before vs no_items ≡ json_items vs
all_items [] = refl
all_items (v ∷ vs) = ap (item (value_view v)) (all_items vs)

pub all_members : (ms : List (Bor (List ℕ) × Value)) → members_before ms no_members ≡ json_members ms
all_members [] = refl
all_members (m ∷ ms) = ap (member m.0.now (value_view m.1)) (all_members ms)

item_behind : (vs : List Value) (v : Value) (rest : Items) → items_before vs (item (value_view v) rest) ≡ items_before (vs ++ v ∷ []) rest
item_behind [] v rest = refl
item_behind (w ∷ vs) v rest = ap (item (value_view w)) (item_behind vs v rest)

member_behind : (ms : List (Bor (List ℕ) × Value)) (m : Bor (List ℕ) × Value) (rest : Members) → members_before ms (member m.0.now (value_view m.1) rest) ≡ members_before (ms ++ m ∷ []) rest
member_behind [] m rest = refl
member_behind (n ∷ ms) m rest = ap (member n.0.now (value_view n.1)) (member_behind ms m rest)

pub one_more_item : (vs : List Value) (v : Value) (r : Option (Items × List Token)) → parse_map (items_before vs) (parse_map (item (value_view v)) r) ≡ parse_map (items_before (vs ++ v ∷ [])) r
one_more_item vs v None = refl
one_more_item vs v (Some p) = ap (λ js. Some (js, p.1)) (item_behind vs v p.0)

pub one_more_member : (ms : List (Bor (List ℕ) × Value)) (m : Bor (List ℕ) × Value) (r : Option (Members × List Token))
    → parse_map (members_before ms) (parse_map (member m.0.now (value_view m.1)) r) ≡ parse_map (members_before (ms ++ m ∷ [])) r
one_more_member ms m None = refl
one_more_member ms m (Some p) = ap (λ js. Some (js, p.1)) (member_behind ms m p.0)

-- ---- the last member of a name

latest : (b : Bool) (j : Json) (later earlier : Option Json) → later_or (cond b (Some j) later) earlier ≡ cond b (Some j) (later_or later earlier)
latest true j later earlier = refl
latest false j later earlier = refl

pub one_more_named : (name : List ℕ) (ms : List (Bor (List ℕ) × Value)) (m : Bor (List ℕ) × Value)
    → get_member name (json_members (ms ++ m ∷ [])) ≡ cond (bytes_eq m.0.now name) (Some (value_view m.1)) (get_member name (json_members ms))
one_more_named name [] m = refl
one_more_named name (n ∷ ms) m =
    ap (λ o. later_or o (cond (bytes_eq n.0.now name) (Some (value_view n.1)) None)) (one_more_named name ms m)
    ∙ latest (bytes_eq m.0.now name) (value_view m.1) (get_member name (json_members ms)) (cond (bytes_eq n.0.now name) (Some (value_view n.1)) None)
