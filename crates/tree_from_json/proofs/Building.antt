-- The members that entries in turn are, one after another.
use Rattle.std.proofs.Common.{◌≡◌, ◌∙◌, refl, sym, ap, ℕ, zero, suc, ◌≤◌, ◌<◌, Bool, true, false, cond, List, [], ◌∷◌, ◌++◌, length, map, append_assoc, arith}
use Rattle.std.proofs.lemmas.Bool.Decides.{nat_tests}
use Rattle.carrier_model.specs.FileTrees as trees
use Rattle.carrier_model.specs.FileTrees.{FileTree, Named, bytes_at, store_at, files_listed, in_order_below, sorted, with_stream, with_storage}
use Rattle.json_model.specs.StoreForms.{Entry, storage_entry, stream_entry, path_of, last_name, is_below, front_below, behind_below, files_within}
use Rattle.msg_tree.specs.Gathering.{in_order}
use Rattle.msg_tree.specs.StoreMeaning.{store_of, member_of as kept_of, member_step, entry_step, store_step}
use Rattle.msg_tree.specs.declared.stores.Store.{Store}
use Rattle.msg_tree.specs.declared.stores.Member.{fold-roll-Member}
use Rattle.msg_tree.specs.declared.stores.Member.TheVariants.{Storage, Stream, rolls-Storage, rolls-Stream}
use Rattle.tree_from_json.specs.Entries.{tree_at, members_at, member_of, behind}

-- ---- what is at the front is not longer than the whole

short_if : (b : Bool) (e : Entry) (xs : List Entry) (n : ℕ) → length xs ≤ n → length (cond b (e ∷ xs) []) ≤ suc n
short_if true e xs n le = omega (arith, le)
short_if false e xs n le = omega arith

front_short : (level : ℕ) (es : List Entry) → length (front_below level es) ≤ length es
front_short level [] = omega arith
front_short level (e ∷ es) = short_if (is_below level e) e (front_below level es) (length es) (front_short level es)

behind_if : (b : Bool) (e : Entry) (xs es : List Entry) → length xs ≤ length es → length (cond b xs (e ∷ es)) ≤ suc (length es)
behind_if true e xs es le = omega (arith, le)
behind_if false e xs es le = omega arith

pub behind_short : (level : ℕ) (es : List Entry) → length (behind_below level es) ≤ length es
behind_short level [] = omega arith
behind_short level (e ∷ es) = behind_if (is_below level e) e (behind_below level es) es (behind_short level es)

pub left_short : (level : ℕ) (e : Entry) (more : List Entry) → length (behind level e more) ≤ length more
left_short level (stream_entry path x) more = omega arith
left_short level (storage_entry path class) more = behind_short (suc level) more

-- ---- any number of entries that is large enough serves

enough : (a b level : ℕ) (es : List Entry) → length es ≤ a → length es ≤ b → files_within a level es ≡ files_within b level es
enough zero zero level es p q = refl
enough zero (suc b) level [] p q = refl
enough (suc a) zero level [] p q = refl
enough (suc a) (suc b) level [] p q = refl
enough zero (suc b) level (e ∷ es) p q = absurd (omega (arith, p))
enough (suc a) zero level (e ∷ es) p q = absurd (omega (arith, q))
enough (suc a) (suc b) level (stream_entry path x ∷ es) p q = ap (trees.stream (last_name path) x) (enough a b level es (omega (arith, p)) (omega (arith, q)))
enough (suc a) (suc b) level (storage_entry path class ∷ es) p q =
    let f = front_short (suc level) es in
    let r = behind_short (suc level) es in
    let inside = enough a b (suc level) (front_below (suc level) es) (omega (arith, p, f)) (omega (arith, q, f)) in
    let others = enough a b level (behind_below (suc level) es) (omega (arith, p, r)) (omega (arith, q, r)) in
    λ i. trees.storage (last_name path) class (inside i) (others i)

tree_storage : (level : ℕ) (path : List (List ℕ)) (class : List ℕ) (es : List Entry)
    → tree_at level (storage_entry path class ∷ es) ≡ trees.storage (last_name path) class (tree_at (suc level) (front_below (suc level) es)) (tree_at level (behind_below (suc level) es))
tree_storage level path class es =
    let inside = enough (length es) (length (front_below (suc level) es)) (suc level) (front_below (suc level) es) (front_short (suc level) es) (omega arith) in
    let others = enough (length es) (length (behind_below (suc level) es)) level (behind_below (suc level) es) (behind_short (suc level) es) (omega arith) in
    λ i. trees.storage (last_name path) class (inside i) (others i)

-- ---- fronts of fronts

deeper_not : (level : ℕ) (e : Entry) → is_below level e ≡ false → is_below (suc level) e ≡ false
deeper_not level e h = let le : length (path_of e) ≤ level = grind (arith, nat_tests) in let l : length (path_of e) ≤ suc level = omega (arith, le) in grind (arith, nat_tests)

deeper_is : (level : ℕ) (e : Entry) → is_below (suc level) e ≡ true → is_below level e ≡ true
deeper_is level e h = let lt : suc level < length (path_of e) = grind (arith, nat_tests) in let l : level < length (path_of e) = omega (arith, lt) in grind (arith, nat_tests)

front_front : (level : ℕ) (es : List Entry) → front_below (suc level) (front_below level es) ≡ front_below (suc level) es
front_front level [] = refl
front_front level (e ∷ es) = by (is_below level e) refl (front_front level es)
  where
    by : (b : Bool) → is_below level e ≡ b → front_below (suc level) (front_below level es) ≡ front_below (suc level) es → front_below (suc level) (cond b (e ∷ front_below level es) []) ≡ cond (is_below (suc level) e) (e ∷ front_below (suc level) es) []
    by true h more = ap (λ l. cond (is_below (suc level) e) (e ∷ l) []) more
    by false h more = ap (λ b. cond b (e ∷ front_below (suc level) es) []) (sym (deeper_not level e h))

behind_front : (level : ℕ) (es : List Entry) → behind_below (suc level) (front_below level es) ≡ front_below level (behind_below (suc level) es)
behind_front level [] = refl
behind_front level (e ∷ es) = by (is_below (suc level) e) (is_below level e) refl refl (behind_front level es)
  where
    by : (a b : Bool) → is_below (suc level) e ≡ a → is_below level e ≡ b → behind_below (suc level) (front_below level es) ≡ front_below level (behind_below (suc level) es)
        → behind_below (suc level) (cond b (e ∷ front_below level es) []) ≡ front_below level (cond a (behind_below (suc level) es) (e ∷ es))
    by true true h k more = ap (λ a. cond a (behind_below (suc level) (front_below level es)) (e ∷ front_below level es)) h ∙ more
    by true false h k more = absurd (let wrong : false ≡ true = sym k ∙ deeper_is level e h in cc)
    by false true h k more = ap (λ a. cond a (behind_below (suc level) (front_below level es)) (e ∷ front_below level es)) h ∙ ap (λ b. cond b (e ∷ front_below level es) []) (sym k)
    by false false h k more = ap (λ b. cond b (e ∷ front_below level es) []) (sym k)

behind_behind : (level : ℕ) (es : List Entry) → behind_below level (behind_below (suc level) es) ≡ behind_below level es
behind_behind level [] = refl
behind_behind level (e ∷ es) = by (is_below (suc level) e) refl (behind_behind level es)
  where
    by : (a : Bool) → is_below (suc level) e ≡ a → behind_below level (behind_below (suc level) es) ≡ behind_below level es → behind_below level (cond a (behind_below (suc level) es) (e ∷ es)) ≡ cond (is_below level e) (behind_below level es) (e ∷ es)
    by true h more = more ∙ ap (λ b. cond b (behind_below level es) (e ∷ es)) (sym (deeper_is level e h))
    by false h more = refl

-- ---- one entry

members_first : (level : ℕ) (e : Entry) (more : List Entry) → members_at level (e ∷ front_below level more) ≡ member_of level e more ∷ members_at level (front_below level (behind level e more))
members_first level (stream_entry path x) more = refl
members_first level (storage_entry path class) more =
    let inner = front_front level more in
    let outer = behind_front level more in
    ap (λ f. map in_order_below (files_listed f)) (tree_storage level path class (front_below level more))
    ∙ (λ i. (last_name path, store_at (record { class = class; members = sorted (tree_at (suc level) (inner i)) })) ∷ members_at level (outer i))

-- one member more, with what is in it
pub made_more : (level : ℕ) (e : Entry) (es more left : List Entry) (done new : List Named) (all : List Named) → level < length (path_of e) → es ≡ e ∷ more
    → done ++ members_at level (front_below level es) ≡ all → new ≡ done ++ member_of level e more ∷ [] → left ≡ behind level e more → new ++ members_at level (front_below level left) ≡ all
made_more level e es more left done new all deep is so_far added rest =
    let below : is_below level e ≡ true = grind (arith, nat_tests) in
    let front : front_below level es ≡ e ∷ front_below level more = ap (front_below level) is ∙ ap (λ b. cond b (e ∷ front_below level more) []) below in
    (λ i. added i ++ members_at level (front_below level (rest i)))
    ∙ (append_assoc done (member_of level e more ∷ []) (members_at level (front_below level (behind level e more)))
    ∙ (ap (λ l. done ++ l) (sym (ap (members_at level) front ∙ members_first level e more)) ∙ so_far))

left_is : (level : ℕ) (e : Entry) (more : List Entry) → behind_below level (behind level e more) ≡ behind_below level more
left_is level (stream_entry path x) more = refl
left_is level (storage_entry path class) more = behind_behind level more

pub left_more : (level : ℕ) (e : Entry) (es more left all : List Entry) → level < length (path_of e) → es ≡ e ∷ more → behind_below level es ≡ all → left ≡ behind level e more → behind_below level left ≡ all
left_more level e es more left all deep is so_far rest =
    let below : is_below level e ≡ true = grind (arith, nat_tests) in
    ap (behind_below level) rest ∙ (left_is level e more ∙ (sym (ap (behind_below level) is ∙ ap (λ b. cond b (behind_below level more) (e ∷ more)) below) ∙ so_far))

-- ---- in order

pub in_order_is : (f : FileTree) → in_order (map in_order_below (files_listed f)) ≡ sorted f
in_order_is trees.no_file = refl
in_order_is (trees.stream name x others) = ap (with_stream name x) (in_order_is others)
in_order_is (trees.storage name class inside others) = ap (with_storage name class (sorted inside)) (in_order_is others)

-- ---- a stream, and a storage with what was taken for it

module _ {B : Type 0} (bytes_of : B → List ℕ) where
  stream_made : (blob : B) → kept_of bytes_of (Stream blob) ≡ bytes_at (bytes_of blob)
  stream_made blob = ap (kept_of bytes_of) (sym (rolls-Stream blob)) ∙ fold-roll-Member B trees.Member Named trees.Store (member_step bytes_of) (entry_step bytes_of) (store_step bytes_of) _

  pub stream_named : (level : ℕ) (path : List (List ℕ)) (name : List ℕ) (more : List Entry) (blob : B)
      → name ≡ last_name path → (name, kept_of bytes_of (Stream blob)) ≡ member_of level (stream_entry path (bytes_of blob)) more
  stream_named level path name more blob n = λ i. (n i, stream_made blob i)

  storage_made : (inner : Store B) → kept_of bytes_of (Storage inner) ≡ store_at (store_of bytes_of inner)
  storage_made inner = ap (kept_of bytes_of) (sym (rolls-Storage inner)) ∙ fold-roll-Member B trees.Member Named trees.Store (member_step bytes_of) (entry_step bytes_of) (store_step bytes_of) _

  pub storage_named : (level : ℕ) (path : List (List ℕ)) (class name : List ℕ) (more : List Entry) (inner : Store B) (members : List Named)
      → name ≡ last_name path → store_of bytes_of inner ≡ record { class = class; members = in_order members } → members ≡ members_at (suc level) (front_below (suc level) more)
      → (name, kept_of bytes_of (Storage inner)) ≡ member_of level (storage_entry path class) more
  storage_named level path class name more inner members n made are =
      let whole = storage_made inner ∙ (ap store_at made ∙ ap (λ l. store_at (record { class = class; members = l })) (ap in_order are ∙ in_order_is (tree_at (suc level) (front_below (suc level) more)))) in
      λ i. (n i, whole i)
