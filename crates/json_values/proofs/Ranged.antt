-- Values with numbers in range alone are read as all values are, element by element.
use Rattle.std.proofs.Common.{◌≡◌, ◌∙◌, refl, sym, ap, ℕ, zero, suc, ◌-◌, ◌<◌, List, ◌∷◌, length, Bool, true, false, ◌&&◌, cond, is_some, Option, Some, None, option_and_then}
use Rattle.std.specs.Prelude.{Result, Ok, Err, IfOk, IfErr}
use Rattle.json.specs.Token.{Token}
use Rattle.json.specs.Json.{Json, number, array, object, Items, item, Members, member, Parse, parse_map, after_end_array, read_key, items_step, members_step, items, members, value}
use Rattle.json.proofs.Grammar.{value_is, value-begin_array, value-begin_object}
use Rattle.serde_json.specs.Read.{number_of}
use Rattle.json_values.specs.Values.{value_view}
use Rattle.json_values.specs.declared.texts.TextEnd.{TextEnd}
use Rattle.json_values.specs.declared.texts.TextEnd.TheVariants.{NotJson}
use Rattle.json_values.specs.declared.value.Value.{Value}
use Rattle.json_values.specs.Ranges.{in_range, items_in_range, members_in_range, only, ranged_value}

nothing : {A : Type 0} (b : Bool) → cond {A = Option A} b None None ≡ None
nothing true = refl
nothing false = refl

one_item : (j : Json) (r : Option (Items × List Token)) → cond (in_range j) (parse_map (item j) (only items_in_range r)) None ≡ only items_in_range (parse_map (item j) r)
one_item j None = nothing (in_range j)
one_item j (Some p) = by (in_range j) (items_in_range p.0)
  where
    by : (a b : Bool) → cond a (parse_map (item j) (cond b (Some p) None)) None ≡ cond (a && b) (Some (item j p.0, p.1)) None
    by true true = refl
    by true false = refl
    by false b = refl

one_member : (k : List ℕ) (j : Json) (r : Option (Members × List Token)) → cond (in_range j) (parse_map (member k j) (only members_in_range r)) None ≡ only members_in_range (parse_map (member k j) r)
one_member k j None = nothing (in_range j)
one_member k j (Some p) = by (in_range j) (members_in_range p.0)
  where
    by : (a b : Bool) → cond a (parse_map (member k j) (cond b (Some p) None)) None ≡ cond (a && b) (Some (member k j p.0, p.1)) None
    by true true = refl
    by true false = refl
    by false b = refl

under : {A B : Type 0} (b : Bool) (x : A) (f : A → Option B) → option_and_then f (cond b (Some x) None) ≡ cond b (f x) None
under true x f = refl
under false x f = refl

module _ (p : Parse Json) where
  abbrev ranged : Parse Json
  ranged ts = only in_range (p ts)

  items_by : (n : ℕ) → ((ts : List Token) → items ranged n ts ≡ only items_in_range (items p n ts)) → (r : Option (Json × List Token))
      → option_and_then (λ q. parse_map (item q.0) (items ranged n q.1)) (only in_range r) ≡ only items_in_range (option_and_then (λ q. parse_map (item q.0) (items p n q.1)) r)
  items_by n more None = refl
  items_by n more (Some q) =
      under (in_range q.0) q (λ x. parse_map (item x.0) (items ranged n x.1))
      ∙ (ap (λ r. cond (in_range q.0) (parse_map (item q.0) r) None) (more q.1) ∙ one_item q.0 (items p n q.1))

  step_by : (n : ℕ) → ((ts : List Token) → items ranged n ts ≡ only items_in_range (items p n ts)) → (ts : List Token) (o : Option (List Token))
      → items_step ranged (items ranged n) ts o ≡ only items_in_range (items_step p (items p n) ts o)
  step_by n more ts (Some rest) = refl
  step_by n more ts None = items_by n more (p ts)

  pub ranged_items : (n : ℕ) (ts : List Token) → items ranged n ts ≡ only items_in_range (items p n ts)
  unfolding items
  ranged_items zero ts = refl
  ranged_items (suc n) ts = step_by n (ranged_items n) ts (after_end_array ts)

  members_by : (n : ℕ) → ((ts : List Token) → members ranged n ts ≡ only members_in_range (members p n ts)) → (k : List ℕ) (r : Option (Json × List Token))
      → option_and_then (λ q. parse_map (member k q.0) (members ranged n q.1)) (only in_range r) ≡ only members_in_range (option_and_then (λ q. parse_map (member k q.0) (members p n q.1)) r)
  members_by n more k None = refl
  members_by n more k (Some q) =
      under (in_range q.0) q (λ x. parse_map (member k x.0) (members ranged n x.1))
      ∙ (ap (λ r. cond (in_range q.0) (parse_map (member k q.0) r) None) (more q.1) ∙ one_member k q.0 (members p n q.1))

  key_by : (n : ℕ) → ((ts : List Token) → members ranged n ts ≡ only members_in_range (members p n ts)) → (o : Option (Option (List ℕ) × List Token))
      → option_and_then (λ q. members_step ranged (members ranged n) q.0 q.1) o ≡ only members_in_range (option_and_then (λ q. members_step p (members p n) q.0 q.1) o)
  key_by n more None = refl
  key_by n more (Some (None, rest)) = refl
  key_by n more (Some (Some k, rest)) = members_by n more k (p rest)

  pub ranged_members : (n : ℕ) (ts : List Token) → members ranged n ts ≡ only members_in_range (members p n ts)
  unfolding members
  ranged_members zero ts = refl
  ranged_members (suc n) ts = key_by n (ranged_members n) (read_key ts)

-- ---- arrays and objects

in_array : (r : Option (Items × List Token)) → only in_range (parse_map array r) ≡ parse_map array (only items_in_range r)
in_array None = refl
in_array (Some p) = by (items_in_range p.0)
  where
    by : (b : Bool) → cond b (Some (array p.0, p.1)) None ≡ parse_map array (cond b (Some p) None)
    by true = refl
    by false = refl

in_object : (r : Option (Members × List Token)) → only in_range (parse_map object r) ≡ parse_map object (only members_in_range r)
in_object None = refl
in_object (Some p) = by (members_in_range p.0)
  where
    by : (b : Bool) → cond b (Some (object p.0, p.1)) None ≡ parse_map object (cond b (Some p) None)
    by true = refl
    by false = refl

pub ranged_array : (levels : ℕ) (ts : List Token) → 0 < levels → ranged_value levels (Token.begin_array ∷ ts) ≡ parse_map array (items (ranged_value (levels - 1)) (length ts) ts)
ranged_array levels ts some = ap (only in_range) (value-begin_array levels ts some) ∙ (in_array (items (value (levels - 1)) (length ts) ts) ∙ ap (parse_map array) (sym (ranged_items (value (levels - 1)) (length ts) ts)))

pub ranged_object : (levels : ℕ) (ts : List Token) → 0 < levels → ranged_value levels (Token.begin_object ∷ ts) ≡ parse_map object (members (ranged_value (levels - 1)) (length ts) ts)
ranged_object levels ts some = ap (only in_range) (value-begin_object levels ts some) ∙ (in_object (members (value (levels - 1)) (length ts) ts) ∙ ap (parse_map object) (sym (ranged_members (value (levels - 1)) (length ts) ts)))

-- ---- a number

read_where : (b : Bool) (levels : ℕ) (text : List ℕ) (ts rest : List Token) → ts ≡ Token.number text ∷ rest → is_some (number_of text) ≡ b → ranged_value levels ts ≡ cond b (Some (number text, rest)) None
read_where b levels text ts rest at is = ap (ranged_value levels) at ∙ (ap (only in_range) (value_is levels (Token.number text ∷ rest)) ∙ ap (λ c. cond c (Some (number text, rest)) None) is)

pub number_read : (levels : ℕ) (text : List ℕ) (ts rest : List Token) (r : Result Value TextEnd) → ts ≡ Token.number text ∷ rest
    → IfOk r (λ v. (is_some (number_of text) ≡ true) × (value_view v ≡ number text)) → IfOk r (λ v. ranged_value levels ts ≡ Some (value_view v, rest))
number_read levels text ts rest (Ok v) at is = read_where true levels text ts rest at is.0 ∙ ap (λ j. Some (j, rest)) (sym is.1)
number_read levels text ts rest (Err e) at is = is

pub number_refused : (levels : ℕ) (text : List ℕ) (ts rest : List Token) (r : Result Value TextEnd) (e : TextEnd) → ts ≡ Token.number text ∷ rest
    → IfErr r (λ f. (f ≡ NotJson) × (is_some (number_of text) ≡ false)) → r ≡ Err e → ranged_value levels ts ≡ None
number_refused levels text ts rest (Ok v) e at is wrong = absurd cc
number_refused levels text ts rest (Err f) e at is same = read_where false levels text ts rest at is.1
