-- An object has each key once, so that it has as many members as there are names where they are the same.
use Rattle.std.proofs.Common.{◌≡◌, ◌∙◌, refl, sym, ap, ℕ, suc, ◌<◌, ◌≤◌, List, [], ◌∷◌, length, Bool, true, false, cond, not, ◌&&◌, ◌||◌, true≢false, bytes_eq, Ordering, Less, Equal, Greater, nat_cmp, is_eq, Option, Some, is_some, arith}
use Rattle.std.specs.Prelude.{⊤}
use Rattle.std.proofs.lemmas.Cmp.{nat_list_cmp_total}
use Rattle.std.proofs.lemmas.Map.Text.{is_eq-slice_cmp}
use Rattle.std.proofs.lemmas.Slice.Eq.{bytes_eq-Decides}
use Rattle.std.specs.Cmp.Lexicographic.{slice_cmp}
use Rattle.std.specs.List.{list_all}
use Rattle.std.specs.Ordering.{match_ordering, ordering_reverse}
use Rattle.json.specs.Json as json
use Rattle.serde_json.specs.Data.{Data, Members, no_members, member, put}
use Rattle.serde_json.specs.Events.{members_len}
use Rattle.serde_json.specs.Find.{get_member}
use Rattle.json_values.specs.Keys.{is_among, are_apart, member_keys}
use Rattle.json_values.specs.View.{data_of, with_members}

-- ---- lists of names

abbrev without : List ℕ → List (List ℕ) → List (List ℕ)
without x [] = []
without x (y ∷ ys) = cond (bytes_eq y x) (without x ys) (y ∷ without x ys)

without_by : (b : Bool) (y : List ℕ) (n : ℕ) (ys : List (List ℕ)) → length ys ≤ n → length (cond b ys (y ∷ ys)) ≤ suc n
without_by true y n ys h = omega (arith, h)
without_by false y n ys h = omega (arith, h)

no_longer : (x : List ℕ) (ys : List (List ℕ)) → length (without x ys) ≤ length ys
no_longer x [] = omega arith
no_longer x (y ∷ ys) = without_by (bytes_eq y x) y (length ys) (without x ys) (no_longer x ys)

shorter : (x : List ℕ) (ys : List (List ℕ)) → is_among ys x ≡ true → length (without x ys) < length ys
shorter x [] h = absurd (true≢false (sym h))
shorter x (y ∷ ys) h = by (bytes_eq y x) h (λ e. shorter x ys e)
  where
    by : (b : Bool) → (b || is_among ys x) ≡ true → (is_among ys x ≡ true → length (without x ys) < length ys) → length (cond b (without x ys) (y ∷ without x ys)) < suc (length ys)
    by true e more = omega (arith, no_longer x ys)
    by false e more = omega (arith, more e)

stays : (x z : List ℕ) (ys : List (List ℕ)) → bytes_eq x z ≡ false → is_among ys z ≡ true → is_among (without x ys) z ≡ true
stays x z [] other h = h
stays x z (y ∷ ys) other h = by (bytes_eq y x) refl (bytes_eq y z) refl h (λ e. stays x z ys other e)
  where
    by : (a : Bool) → bytes_eq y x ≡ a → (b : Bool) → bytes_eq y z ≡ b → (b || is_among ys z) ≡ true → (is_among ys z ≡ true → is_among (without x ys) z ≡ true) → is_among (cond a (without x ys) (y ∷ without x ys)) z ≡ true
    by true same true is e more = absurd (true≢false (sym is ∙ (ap (λ w. bytes_eq w z) ((bytes_eq-Decides y x).0 same) ∙ other)))
    by true same false is e more = more e
    by false same true is e more = ap (λ t. t || is_among (without x ys) z) is
    by false same false is e more = ap (λ t. t || is_among (without x ys) z) is ∙ more e

turned : (x z : List ℕ) → bytes_eq z x ≡ false → bytes_eq x z ≡ false
turned x z h = by (bytes_eq x z) refl
  where
    by : (b : Bool) → bytes_eq x z ≡ b → b ≡ false
    by true e = absurd (true≢false (sym ((bytes_eq-Decides z x).1 (sym ((bytes_eq-Decides x z).0 e))) ∙ h))
    by false e = refl

all_stay : (x : List ℕ) (xs ys : List (List ℕ)) → is_among xs x ≡ false → list_all (is_among ys) xs ≡ true → list_all (is_among (without x ys)) xs ≡ true
all_stay x [] ys none all = refl
all_stay x (z ∷ xs) ys none all = by (bytes_eq z x) refl none (is_among ys z) refl all (λ lacks rest. all_stay x xs ys lacks rest)
  where
    by : (a : Bool) → bytes_eq z x ≡ a → (a || is_among xs x) ≡ false → (b : Bool) → is_among ys z ≡ b → (b && list_all (is_among ys) xs) ≡ true
        → (is_among xs x ≡ false → list_all (is_among ys) xs ≡ true → list_all (is_among (without x ys)) xs ≡ true) → (is_among (without x ys) z && list_all (is_among (without x ys)) xs) ≡ true
    by true is lacks b at rest more = absurd (true≢false lacks)
    by false is lacks true at rest more = ap (λ t. t && list_all (is_among (without x ys)) xs) (stays x z ys (turned x z is) at) ∙ more lacks rest
    by false is lacks false at rest more = absurd (true≢false (sym rest))

-- names that come once each and are all among others are no more than these
within : (xs ys : List (List ℕ)) → are_apart xs ≡ true → list_all (is_among ys) xs ≡ true → length xs ≤ length ys
within [] ys apart all = omega arith
within (x ∷ xs) ys apart all = by (is_among xs x) refl apart (is_among ys x) refl all (λ some rest. within xs (without x ys) some rest)
  where
    by : (a : Bool) → is_among xs x ≡ a → (not a && are_apart xs) ≡ true → (b : Bool) → is_among ys x ≡ b → (b && list_all (is_among ys) xs) ≡ true
        → (are_apart xs ≡ true → list_all (is_among (without x ys)) xs ≡ true → length xs ≤ length (without x ys)) → suc (length xs) ≤ length ys
    by true is lacks b at rest more = absurd (true≢false (sym lacks))
    by false is some true at rest more = omega (arith, shorter x ys at, more some (all_stay x xs ys is rest))
    by false is some false at rest more = absurd (true≢false (sym rest))

-- ---- members in order

abbrev AllAbove : List ℕ → Members → Type 0
AllAbove k no_members = ⊤
AllAbove k (member l e ms) = (slice_cmp nat_cmp k l ≡ Less) × AllAbove k ms

abbrev InOrder : Members → Type 0
InOrder no_members = ⊤
InOrder (member k d ms) = AllAbove k ms × InOrder ms

higher : (k l : List ℕ) (ms : Members) → slice_cmp nat_cmp k l ≡ Less → AllAbove l ms → AllAbove k ms
higher k l no_members lt above = tt
higher k l (member m e ms) lt above = (nat_list_cmp_total.trans k l m lt above.0, higher k l ms lt above.1)

above_by : (o : Ordering) (b k l : List ℕ) (d e : Data) (ms : Members) → slice_cmp nat_cmp b k ≡ Less → AllAbove b (member l e ms) → AllAbove b (put k d ms)
    → AllAbove b (match_ordering o (member k d (member l e ms)) (member l d ms) (member l e (put k d ms)))
above_by Less b k l d e ms lt above more = (lt, above)
above_by Equal b k l d e ms lt above more = above
above_by Greater b k l d e ms lt above more = (above.0, more)

above_put : (b k : List ℕ) (d : Data) (ms : Members) → slice_cmp nat_cmp b k ≡ Less → AllAbove b ms → AllAbove b (put k d ms)
above_put b k d no_members lt above = (lt, tt)
above_put b k d (member l e ms) lt above = above_by (slice_cmp nat_cmp k l) b k l d e ms lt above (above_put b k d ms lt above.1)

order_by : (o : Ordering) (k l : List ℕ) (d e : Data) (ms : Members) → slice_cmp nat_cmp k l ≡ o → InOrder (member l e ms) → InOrder (put k d ms)
    → InOrder (match_ordering o (member k d (member l e ms)) (member l d ms) (member l e (put k d ms)))
order_by Less k l d e ms is order more = ((is, higher k l ms is order.0), order)
order_by Equal k l d e ms is order more = order
order_by Greater k l d e ms is order more = (above_put l k d ms (nat_list_cmp_total.antisymm l k ∙ ap ordering_reverse is) order.0, more)

order_put : (k : List ℕ) (d : Data) (ms : Members) → InOrder ms → InOrder (put k d ms)
order_put k d no_members order = (tt, tt)
order_put k d (member l e ms) order = order_by (slice_cmp nat_cmp k l) k l d e ms refl order (order_put k d ms order.1)

order_with : (ms : json.Members) (found : Members) → InOrder found → InOrder (with_members ms found)
order_with json.no_members found order = order
order_with (json.member k j ms) found order = order_with ms (put k (data_of j) found) (order_put k (data_of j) found order)

apart_above : (k : List ℕ) (ms : Members) → AllAbove k ms → is_among (member_keys ms) k ≡ false
apart_above k no_members above = refl
apart_above k (member l e ms) above =
    let differ : bytes_eq k l ≡ false = sym (is_eq-slice_cmp k l) ∙ ap is_eq above.0 in
    rw (turned l k differ) (apart_above k ms above.1)

keys_apart : (ms : Members) → InOrder ms → are_apart (member_keys ms) ≡ true
keys_apart no_members order = refl
keys_apart (member k d ms) order = rw (apart_above k ms order.0) (keys_apart ms order.1)

-- ---- as many members as names

counted : (ms : Members) → members_len ms ≡ length (member_keys ms)
counted no_members = refl
counted (member k d ms) = ap suc (counted ms)

found_by : (o : Ordering) (k l : List ℕ) (e : Data) (b : Bool) (r : Option Data) → is_eq o ≡ bytes_eq k l → is_some r ≡ b → is_some (match_ordering o r (Some e) r) ≡ (bytes_eq l k || b)
found_by Less k l e b r is more = rw (turned l k (sym is)) more
found_by Equal k l e b r is more = let same : bytes_eq l k ≡ true = (bytes_eq-Decides l k).1 (sym ((bytes_eq-Decides k l).0 (sym is))) in rw same refl
found_by Greater k l e b r is more = rw (turned l k (sym is)) more

found_among : (k : List ℕ) (ms : Members) → is_some (get_member k ms) ≡ is_among (member_keys ms) k
found_among k no_members = refl
found_among k (member l e ms) = found_by (slice_cmp nat_cmp k l) k l e (is_among (member_keys ms) k) (get_member k ms) (is_eq-slice_cmp k l) (found_among k ms)

all_among : (names : List (List ℕ)) (ms : Members) → list_all (λ name. is_some (get_member name ms)) names ≡ true → list_all (is_among (member_keys ms)) names ≡ true
all_among [] ms all = refl
all_among (name ∷ names) ms all = by (is_some (get_member name ms)) refl all (λ rest. all_among names ms rest)
  where
    by : (b : Bool) → is_some (get_member name ms) ≡ b → (b && list_all (λ n. is_some (get_member n ms)) names) ≡ true
        → (list_all (λ n. is_some (get_member n ms)) names ≡ true → list_all (is_among (member_keys ms)) names ≡ true) → (is_among (member_keys ms) name && list_all (is_among (member_keys ms)) names) ≡ true
    by true is rest more = ap (λ t. t && list_all (is_among (member_keys ms)) names) (sym (found_among name ms) ∙ is) ∙ more rest
    by false is rest more = absurd (true≢false (sym rest))

record Stray (names keys : List (List ℕ)) : Type 0 where
  key : List ℕ
  other : is_among names key ≡ false
  there : is_among keys key ≡ true

or_true : (a b : Bool) → b ≡ true → (a || b) ≡ true
or_true true b h = refl
or_true false b h = h

one_further : (names keys : List (List ℕ)) (k : List ℕ) → Stray names keys → Stray names (k ∷ keys)
one_further names keys k s = record { key = s.key; other = s.other; there = or_true (bytes_eq k s.key) (is_among keys s.key) s.there }

stray : (names keys : List (List ℕ)) → list_all (is_among names) keys ≡ false → Stray names keys
stray names [] lacks = absurd (true≢false lacks)
stray names (k ∷ keys) lacks = by (is_among names k) refl lacks (λ rest. stray names keys rest)
  where
    by : (b : Bool) → is_among names k ≡ b → (b && list_all (is_among names) keys) ≡ false → (list_all (is_among names) keys ≡ false → Stray names keys) → Stray names (k ∷ keys)
    by true is rest more = one_further names keys k (more rest)
    by false is rest more = record { key = k; other = is; there = ap (λ t. t || is_among keys k) ((bytes_eq-Decides k k).1 refl) }

module _ (names : List (List ℕ)) (ms : json.Members) (apart : are_apart names ≡ true) where
  abbrev all_of : Members
  all_of = with_members ms no_members

  pub as_many : list_all (is_among names) (member_keys all_of) ≡ true → list_all (λ name. is_some (get_member name all_of)) names ≡ true → members_len all_of ≡ length names
  as_many only found =
      let most = within (member_keys all_of) names (keys_apart all_of (order_with ms no_members tt)) only in
      let least = within names (member_keys all_of) apart (all_among names all_of found) in
      omega (arith, counted all_of, most, least)

  pub one_more : list_all (is_among names) (member_keys all_of) ≡ false → list_all (λ name. is_some (get_member name all_of)) names ≡ true → length names < members_len all_of
  one_more lacks found =
      let s = stray names (member_keys all_of) lacks in
      let both : are_apart (s.key ∷ names) ≡ true = rw s.other apart in
      let all : list_all (is_among (member_keys all_of)) (s.key ∷ names) ≡ true = rw s.there (all_among names all_of found) in
      omega (arith, counted all_of, within (s.key ∷ names) (member_keys all_of) both all)
