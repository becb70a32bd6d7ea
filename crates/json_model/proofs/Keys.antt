-- Objects that differ in a key.
use Rattle.std.proofs.Common.{◌≡◌, ℕ, suc, inl, inr, ◌⊎◌, is_some, List, [], ◌∷◌, Bool, true, false, Some, Ordering, Less, Equal, Greater, nat_cmp, is_eq, refl, ap, sym, ◌∙◌, arith, true≢false, get_or}
use Rattle.std.specs.Prelude.{◌&&◌, ◌==◌}
use Rattle.std.proofs.lemmas.Bool.Decides.{nat_tests}
use Rattle.std.proofs.lemmas.Map.Text.{is_eq-slice_cmp}
use Rattle.std.proofs.lemmas.Slice.Eq.{bytes_eq-Decides}
use Rattle.std.specs.Cmp.Lexicographic.{slice_cmp}
use Rattle.std.specs.Ordering.{match_ordering}
use Rattle.serde_json.specs.Data as json
use Rattle.serde_json.specs.Data.{Data, Members, no_members, member, object}
use Rattle.serde_json.specs.Events.{members_len}
use Rattle.serde_json.specs.Find.{get, get_member}
use Rattle.json_model.specs.Parts.{has_members, member_count}
use Rattle.json_model.proofs.HexLaws.{and_true}

found_at : (o : Ordering) (k l : List ℕ) (d : Data) (ms : Members) → slice_cmp nat_cmp k l ≡ o → is_some (match_ordering o (get_member k ms) (Some d) (get_member k ms)) ≡ true → (k ≡ l) ⊎ (is_some (get_member k ms) ≡ true)
found_at Less k l d ms e h = inr h
found_at Equal k l d ms e h = inl ((bytes_eq-Decides k l).0 (sym (is_eq-slice_cmp k l) ∙ ap is_eq e))
found_at Greater k l d ms e h = inr h

-- a key that is there is the first, or among the others
found_key : (k l : List ℕ) (d : Data) (ms : Members) → is_some (get_member k (member l d ms)) ≡ true → (k ≡ l) ⊎ (is_some (get_member k ms) ≡ true)
found_key k l d ms h = found_at (slice_cmp nat_cmp k l) k l d ms refl h

of_two : (k l m : List ℕ) (d e : Data) → is_some (get_member k (member l d (member m e no_members))) ≡ true → (k ≡ l) ⊎ (k ≡ m)
of_two k l m d e h = elim (found_key k l d (member m e no_members) h) [ inl is ↦ inl is | inr more ↦ elim (found_key k m e no_members more) [ inl is ↦ inr is | inr none ↦ absurd (true≢false (sym none)) ] ]

pigeons : (a b c l m : List ℕ) → (a ≡ l) ⊎ (a ≡ m) → (b ≡ l) ⊎ (b ≡ m) → (c ≡ l) ⊎ (c ≡ m) → (a ≡ b → ⊥) → (c ≡ a → ⊥) → (c ≡ b → ⊥) → ⊥
pigeons a b c l m (inl x) (inl y) z p q r = p (x ∙ sym y)
pigeons a b c l m (inr x) (inr y) z p q r = p (x ∙ sym y)
pigeons a b c l m (inl x) (inr y) (inl z) p q r = q (z ∙ sym x)
pigeons a b c l m (inl x) (inr y) (inr z) p q r = r (z ∙ sym y)
pigeons a b c l m (inr x) (inl y) (inl z) p q r = r (z ∙ sym y)
pigeons a b c l m (inr x) (inl y) (inr z) p q r = q (z ∙ sym x)

-- an object of two members has no third key
pub no_third : (v : Data) (a b c : List ℕ) → has_members (a ∷ b ∷ []) v ≡ true → is_some (get c v) ≡ true → (a ≡ b → ⊥) → (c ≡ a → ⊥) → (c ≡ b → ⊥) → ⊥
no_third json.null a b c h k p q r = true≢false (sym k)
no_third (json.boolean x) a b c h k p q r = true≢false (sym k)
no_third (json.number n) a b c h k p q r = true≢false (sym k)
no_third (json.string s) a b c h k p q r = true≢false (sym k)
no_third (json.array ds) a b c h k p q r = true≢false (sym k)
no_third (object no_members) a b c h k p q r = true≢false (sym k)
no_third (object (member l d no_members)) a b c h k p q r = true≢false (sym h)
no_third (object (member l d (member m e no_members))) a b c h k p q r =
    let x = and_true (is_some (get_member a (member l d (member m e no_members)))) (is_some (get_member b (member l d (member m e no_members))) && true) h in
    let y = and_true (is_some (get_member b (member l d (member m e no_members)))) true x.1 in
    pigeons a b c l m (of_two a l m d e x.0) (of_two b l m d e y.0) (of_two c l m d e k) p q r
no_third (object (member l d (member m e (member n f ms)))) a b c h k p q r =
    let much : (suc (suc (suc (members_len ms))) == 2) ≡ false = grind (arith, nat_tests) in
    true≢false (sym h ∙ ap (λ t. t && (is_some (get a (object (member l d (member m e (member n f ms))))) && (is_some (get b (object (member l d (member m e (member n f ms))))) && true))) much)

-- texts that begin with different characters
pub firsts_differ : (x y : List ℕ) (a b : ℕ) → get_or x 0 0 ≡ a → get_or y 0 0 ≡ b → (a ≡ b → ⊥) → x ≡ y → ⊥
firsts_differ x y a b h k never e = never (sym h ∙ (ap (λ z. get_or z 0 0) e ∙ k))

pub false_if : (b : Bool) → (b ≡ true → ⊥) → b ≡ false
false_if true never = absurd (never refl)
false_if false never = refl

-- such an object has no other two members of which it lacks one
pub not_members : (v : Data) (a b c d : List ℕ) → has_members (c ∷ d ∷ []) v ≡ true → (a ≡ b → ⊥) → (c ≡ a → ⊥) → (c ≡ b → ⊥) → has_members (a ∷ b ∷ []) v ≡ false
not_members v a b c d h p q r =
    let x = and_true (member_count v == 2) (is_some (get c v) && (is_some (get d v) && true)) h in
    let y = and_true (is_some (get c v)) (is_some (get d v) && true) x.1 in
    false_if (has_members (a ∷ b ∷ []) v) (λ e. no_third v a b c e y.0 p q r)

pub not_members_second : (v : Data) (a b c d : List ℕ) → has_members (c ∷ d ∷ []) v ≡ true → (a ≡ b → ⊥) → (d ≡ a → ⊥) → (d ≡ b → ⊥) → has_members (a ∷ b ∷ []) v ≡ false
not_members_second v a b c d h p q r =
    let x = and_true (member_count v == 2) (is_some (get c v) && (is_some (get d v) && true)) h in
    let y = and_true (is_some (get c v)) (is_some (get d v) && true) x.1 in
    let z = and_true (is_some (get d v)) true y.1 in
    false_if (has_members (a ∷ b ∷ []) v) (λ e. no_third v a b d e z.0 p q r)

-- an object of one member is none of two
pub not_one : (v : Data) (a c d : List ℕ) → has_members (c ∷ d ∷ []) v ≡ true → has_members (a ∷ []) v ≡ false
not_one v a c d h =
    let x = and_true (member_count v == 2) (is_some (get c v) && (is_some (get d v) && true)) h in
    let two : member_count v ≡ 2 = let e = x.0 in grind (arith, nat_tests) in
    let no : (member_count v == 1) ≡ false = grind (arith, nat_tests) in
    rw no refl
