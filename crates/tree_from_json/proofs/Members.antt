-- Whether an object has some members and no others.
use Rattle.std.proofs.Common.{◌≡◌, ◌∙◌, refl, ap, ℕ, List, [], ◌∷◌, length, Bool, true, false, ◌&&◌, ◌==◌, true≢false, is_some, arith}
use Rattle.std.specs.List.{list_all}
use Rattle.std.proofs.lemmas.Bool.Decides.{nat_tests}
use Rattle.json.specs.Json as json
use Rattle.serde_json.specs.Data.{Data}
use Rattle.serde_json.specs.Find.{get}
use Rattle.json_model.specs.Parts.{has_members, member_count}
use Rattle.json_values.specs.Keys.{is_among, are_apart, keys_of}
use Rattle.json_values.specs.View.{data_of}
use Rattle.json_values.proofs.Counted.{as_many, one_more}

abbrev pub all_found : List (List ℕ) → Data → Bool
all_found names d = list_all (λ name. is_some (get name d)) names

none_found : (names : List (List ℕ)) (d : Data) (count : ℕ) → ((name : List ℕ) → is_some (get name d) ≡ false) → count ≡ 0 → ((count == length names) && all_found names d) ≡ all_found names d
none_found [] d count none is = rw is refl
none_found (name ∷ names) d count none is = both (count == length (name ∷ names)) (is_some (get name d)) (all_found names d) (none name)
  where
    both : (a b c : Bool) → b ≡ false → (a && (b && c)) ≡ (b && c)
    both true b c h = refl
    both false b c h = rw h refl

-- an object whose keys are all among the names
pub only_these : (names : List (List ℕ)) (j : json.Json) → are_apart names ≡ true → list_all (is_among names) (keys_of (data_of j)) ≡ true → has_members names (data_of j) ≡ all_found names (data_of j)
only_these names json.null apart only = none_found names (data_of json.null) 0 (λ name. refl) refl
only_these names (json.boolean b) apart only = none_found names (data_of (json.boolean b)) 0 (λ name. refl) refl
only_these names (json.number s) apart only = none_found names (data_of (json.number s)) 0 (λ name. refl) refl
only_these names (json.string s) apart only = none_found names (data_of (json.string s)) 0 (λ name. refl) refl
only_these names (json.array js) apart only = none_found names (data_of (json.array js)) 0 (λ name. refl) refl
only_these names (json.object ms) apart only = by (all_found names (data_of (json.object ms))) refl
  where
    by : (b : Bool) → all_found names (data_of (json.object ms)) ≡ b → has_members names (data_of (json.object ms)) ≡ all_found names (data_of (json.object ms))
    by true is = let same : (member_count (data_of (json.object ms)) == length names) ≡ true = (let e = as_many names ms apart only is in grind (arith, nat_tests)) in ap (λ t. t && all_found names (data_of (json.object ms))) same
    by false is = rw is (neither (member_count (data_of (json.object ms)) == length names))
      where
        neither : (a : Bool) → (a && false) ≡ false
        neither true = refl
        neither false = refl

-- an object with another key
pub another_key : (names : List (List ℕ)) (j : json.Json) → are_apart names ≡ true → list_all (is_among names) (keys_of (data_of j)) ≡ false → has_members names (data_of j) ≡ false
another_key names json.null apart other = absurd (true≢false other)
another_key names (json.boolean b) apart other = absurd (true≢false other)
another_key names (json.number s) apart other = absurd (true≢false other)
another_key names (json.string s) apart other = absurd (true≢false other)
another_key names (json.array js) apart other = absurd (true≢false other)
another_key names (json.object ms) apart other = by (all_found names (data_of (json.object ms))) refl
  where
    by : (b : Bool) → all_found names (data_of (json.object ms)) ≡ b → has_members names (data_of (json.object ms)) ≡ false
    by true is = let more : (member_count (data_of (json.object ms)) == length names) ≡ false = (let lt = one_more names ms apart other is in grind (arith, nat_tests)) in ap (λ t. t && all_found names (data_of (json.object ms))) more
    by false is = ap (λ t. (member_count (data_of (json.object ms)) == length names) && t) is ∙ neither (member_count (data_of (json.object ms)) == length names)
      where
        neither : (a : Bool) → (a && false) ≡ false
        neither true = refl
        neither false = refl
