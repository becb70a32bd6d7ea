-- The keys of an object, and those of the members that went in.
use Rattle.std.proofs.Common.{◌≡◌, ◌∙◌, refl, sym, ap, ℕ, List, ◌∷◌, Bool, true, false, ◌&&◌, Ordering, Less, Equal, Greater, nat_cmp, is_eq, Bor, Option, Box, Vec, Global, drop, get_or, length, ◌+◌, ◌<◌, ◌≤◌}
use Rattle.std.proofs.lemmas.List.{drop_more, drop_all}
use Rattle.std.proofs.lemmas.Map.Text.{is_eq-slice_cmp}
use Rattle.std.proofs.lemmas.Slice.Eq.{bytes_eq-Decides}
use Rattle.std.specs.Cmp.Lexicographic.{slice_cmp}
use Rattle.std.specs.List.{list_all}
use Rattle.std.specs.Ordering.{match_ordering}
use Rattle.json.specs.Json as json
use Rattle.json.specs.Strict.{keys}
use Rattle.serde_json.specs.Data.{Data, Members, no_members, member, put}
use Rattle.json_values.specs.Keys.{member_keys, keys_of}
use Rattle.json_values.specs.Values.{in_box, value_view, json_members}
use Rattle.json_values.specs.declared.value.Value.{Value, Object}
use Rattle.json_values.proofs.Values.{object_seen}
use Rattle.json_values.specs.View.{data_of, with_members, view}

twice : (a b : Bool) → (a && b) ≡ (a && (a && b))
twice true b = refl
twice false b = refl

swapped : (a b c : Bool) → (a && (b && c)) ≡ (b && (a && c))
swapped true b c = refl
swapped false true c = refl
swapped false false c = refl

pub equal_is : (k l : List ℕ) → slice_cmp nat_cmp k l ≡ Equal → k ≡ l
equal_is k l e = (bytes_eq-Decides k l).0 (sym (is_eq-slice_cmp k l) ∙ ap is_eq e)

put_by : (p : List ℕ → Bool) (o : Ordering) (k l : List ℕ) (d e : Data) (ms : Members) → slice_cmp nat_cmp k l ≡ o → list_all p (member_keys (put k d ms)) ≡ (p k && list_all p (member_keys ms))
    → list_all p (member_keys (match_ordering o (member k d (member l e ms)) (member l d ms) (member l e (put k d ms)))) ≡ (p k && (p l && list_all p (member_keys ms)))
put_by p Less k l d e ms is more = refl
put_by p Equal k l d e ms is more = twice (p l) _ ∙ ap (λ n. p n && (p l && list_all p (member_keys ms))) (sym (equal_is k l is))
put_by p Greater k l d e ms is more = ap (λ b. p l && b) more ∙ swapped (p l) (p k) _

all_put : (p : List ℕ → Bool) (k : List ℕ) (d : Data) (ms : Members) → list_all p (member_keys (put k d ms)) ≡ (p k && list_all p (member_keys ms))
all_put p k d no_members = refl
all_put p k d (member l e ms) = put_by p (slice_cmp nat_cmp k l) k l d e ms refl (all_put p k d ms)

all_in : (p : List ℕ → Bool) (ms : json.Members) (found : Members) → list_all p (member_keys (with_members ms found)) ≡ (list_all p (keys ms) && list_all p (member_keys found))
all_in p json.no_members found = refl
all_in p (json.member k j ms) found =
    all_in p ms (put k (data_of j) found) ∙ (ap (λ b. list_all p (keys ms) && b) (all_put p k (data_of j) found) ∙ (swapped (list_all p (keys ms)) (p k) _ ∙ grouped (p k) (list_all p (keys ms)) _))
  where
    grouped : (a b c : Bool) → (a && (b && c)) ≡ ((a && b) && c)
    grouped true b c = refl
    grouped false b c = refl

and_true : (b : Bool) → (b && true) ≡ b
and_true true = refl
and_true false = refl

-- a test of all keys that went in is one of all keys in the data
pub all_keys : (p : List ℕ → Bool) (members : Option (Box (Vec (Bor (List ℕ) × Value) Global) Global)) (items : List (Bor (List ℕ) × Value)) (v : Value)
    → items ≡ in_box members → v ≡ Object members → list_all p (keys (json_members items)) ≡ list_all p (keys_of (view v))
all_keys p members items v same is =
    let seen : value_view v ≡ json.object (json_members items) = ap value_view is ∙ (object_seen members ∙ ap (λ l. json.object (json_members l)) (sym same)) in
    sym (ap (λ j. list_all p (keys_of (data_of j))) seen ∙ (all_in p (json_members items) no_members ∙ and_true _))

module _ (p : List ℕ → Bool) (items : List (Bor (List ℕ) × Value)) (k : ℕ) (same : list_all p (keys (json_members (drop k items))) ≡ list_all p (keys (json_members items))) where
  -- the test fails at the next key
  pub fails_here : (m : Bor (List ℕ) × Value) → k < length items → m ≡ get_or items k m → p m.0.now ≡ false → false ≡ list_all p (keys (json_members items))
  fails_here m lt at fails =
      let next = drop_more items k m lt ∙ ap (λ x. x ∷ drop (k + 1) items) (sym at) in
      sym (ap (λ b. b && list_all p (keys (json_members (drop (k + 1) items)))) fails) ∙ (sym (ap (λ l. list_all p (keys (json_members l))) next) ∙ same)

  -- no key is left
  pub holds_to_end : length items ≤ k → true ≡ list_all p (keys (json_members items))
  holds_to_end le = sym (ap (λ l. list_all p (keys (json_members l))) (drop_all k items le)) ∙ same
