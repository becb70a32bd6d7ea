-- A text whose numbers are in range is read as the data of its value, and any other as nothing.
use Rattle.std.proofs.Common.{◌≡◌, ◌∙◌, refl, sym, ap, ℕ, List, [], ◌∷◌, Bool, true, false, ◌&&◌, cond, Option, Some, None, option_map, option_and_then, is_some}
use Rattle.json.specs.Json as json
use Rattle.json.specs.Lex.{tokens}
use Rattle.serde_json.specs.Data.{Data, Num, number, array, object, item, Members, no_members, put}
use Rattle.serde_json.specs.Read.{number_of, of_json, of_items, of_members, max_depth, read}
use Rattle.json.specs.Token.{Token}
use Rattle.json_values.specs.Ranges.{in_range, items_in_range, members_in_range, only, ranged_value}
use Rattle.json_values.specs.View.{in_place, data_of, items_data, with_members}

one_number : (o : Option Num) → option_map number o ≡ cond (is_some o) (Some (number (in_place o))) None
one_number None = refl
one_number (Some n) = refl

mapped : {A B : Type 0} (f : A → B) (b : Bool) (x : A) → option_map f (cond b (Some x) None) ≡ cond b (Some (f x)) None
mapped f true x = refl
mapped f false x = refl

then_more : {A B : Type 0} (next : A → Option B) (a b : Bool) (x : A) (y : B) → next x ≡ cond b (Some y) None → option_and_then next (cond a (Some x) None) ≡ cond (a && b) (Some y) None
then_more next true b x y is = is
then_more next false b x y is = refl

mutual
  pub read_is : (j : json.Json) → of_json j ≡ cond (in_range j) (Some (data_of j)) None
  read_is json.null = refl
  read_is (json.boolean b) = refl
  read_is (json.number s) = one_number (number_of s)
  read_is (json.string s) = refl
  read_is (json.array js) = ap (option_map array) (items_are js) ∙ mapped array (items_in_range js) (items_data js)
  read_is (json.object ms) = ap (option_map object) (members_are ms no_members) ∙ mapped object (members_in_range ms) (with_members ms no_members)

  items_are : (js : json.Items) → of_items js ≡ cond (items_in_range js) (Some (items_data js)) None
  items_are json.no_items = refl
  items_are (json.item j js) =
      ap (option_and_then (λ d. option_map (item d) (of_items js))) (read_is j)
      ∙ then_more (λ d. option_map (item d) (of_items js)) (in_range j) (items_in_range js) (data_of j) (item (data_of j) (items_data js)) (ap (option_map (item (data_of j))) (items_are js) ∙ mapped (item (data_of j)) (items_in_range js) (items_data js))

  members_are : (ms : json.Members) (found : Members) → of_members ms found ≡ cond (members_in_range ms) (Some (with_members ms found)) None
  members_are json.no_members found = refl
  members_are (json.member k j ms) found =
      ap (option_and_then (λ d. of_members ms (put k d found))) (read_is j)
      ∙ then_more (λ d. of_members ms (put k d found)) (in_range j) (members_in_range ms) (data_of j) (with_members ms (put k (data_of j) found)) (members_are ms (put k (data_of j) found))

read_by : (text : List ℕ) (r : Option (json.Json × List Token)) → json.value max_depth (tokens text) ≡ r → read text ≡ option_and_then of_json (option_and_then (λ p. json.if_last p.0 p.1) r)
read_by text r e = ap (λ r. option_and_then of_json (option_and_then (λ p. json.if_last p.0 p.1) r)) e

-- the data of a value behind which nothing stands
abbrev data_of_whole : Option (json.Json × List Token) → Option Data
data_of_whole None = None
data_of_whole (Some (j, [])) = Some (data_of j)
data_of_whole (Some (j, t ∷ ts)) = None

-- what a text is read as, by what is read of its tokens with numbers in range alone
ranged_is : (text : List ℕ) → read text ≡ data_of_whole (ranged_value max_depth (tokens text))
ranged_is text = by (json.value max_depth (tokens text)) refl
  where
    whole_by : (b : Bool) (j : json.Json) (ts : List Token) → in_range j ≡ b → option_and_then of_json (json.if_last j ts) ≡ data_of_whole (cond b (Some (j, ts)) None)
    whole_by true j [] is = read_is j ∙ ap (λ c. cond c (Some (data_of j)) None) is
    whole_by false j [] is = read_is j ∙ ap (λ c. cond c (Some (data_of j)) None) is
    whole_by true j (t ∷ ts) is = refl
    whole_by false j (t ∷ ts) is = refl

    by : (r : Option (json.Json × List Token)) → json.value max_depth (tokens text) ≡ r → read text ≡ data_of_whole (ranged_value max_depth (tokens text))
    by None e = read_by text None e ∙ sym (ap (λ r. data_of_whole (only in_range r)) e)
    by (Some p) e = read_by text (Some p) e ∙ (whole_by (in_range p.0) p.0 p.1 refl ∙ sym (ap (λ r. data_of_whole (only in_range r)) e))

pub read_whole : (text : List ℕ) (j : json.Json) → ranged_value max_depth (tokens text) ≡ Some (j, []) → read text ≡ Some (data_of j)
read_whole text j e = ranged_is text ∙ ap data_of_whole e

pub read_none : (text : List ℕ) → ranged_value max_depth (tokens text) ≡ None → read text ≡ None
read_none text e = ranged_is text ∙ ap data_of_whole e

pub read_front : (text : List ℕ) (j : json.Json) (ts : List Token) → ranged_value max_depth (tokens text) ≡ Some (j, ts) → (ts ≡ [] → ⊥) → read text ≡ None
read_front text j [] e more = absurd (more refl)
read_front text j (t ∷ ts) e more = ranged_is text ∙ ap data_of_whole e
