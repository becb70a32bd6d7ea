-- Siblings that are linked by their middles.
use Rattle.std.proofs.Common.{◌≡◌, ℕ, zero, suc, ◌+◌, ◌-◌, ◌/◌, ◌<◌, ◌≤◌, List, [], ◌∷◌, ◌++◌, length, get_or, map, take, drop, cond, refl, sym, ◌∙◌, ap, subst, arith}
use Rattle.std.specs.Prelude.{IsPermutation}
use Rattle.std.specs.List.{flat_map}
use Rattle.std.proofs.lemmas.List.{append_assoc, length-append, length-take, length-drop, take-map, drop-map, get_or-map}
use Rattle.std.proofs.lemmas.List.Sorted.{IsPermutation-refl, IsPermutation-sym, IsPermutation-trans, IsPermutation-cons, IsPermutation-append_left, IsPermutation-append_right, IsPermutation-append_comm, IsPermutation-middle}
use Rattle.carrier_model.specs.Files.{Tag, Children, none, storage, stream, name_of, tree_of}
use Rattle.carrier_model.specs.Layout.{middle, top_of, side_links}
use Rattle.carrier_model.specs.Links.{Directory, Links, leaf, node, no_link, ids, is_storage, IsChild, Linked, below_depth, below_link}
use Rattle.carrier_model.specs.Streams.{Stream}

-- a sibling's number, and what is linked below it
pub record Item : Type 0 where
  pub id : ℕ
  pub below : Links

abbrev pub numbers : List Item → List ℕ
numbers items = map (λ (i : Item). i.id) items

-- the middle as the top, over those before it and those behind it
abbrev pub balanced : ℕ → List Item → Links
balanced zero items = leaf
balanced (suc levels) [] = leaf
balanced (suc levels) (x ∷ xs) =
    let all = x ∷ xs in
    let m = (length all - 1) / 2 in
    let it = get_or all m x in
    node it.id (balanced levels (take m all)) (balanced levels (drop (m + 1) all)) it.below

-- a list about one of its elements
pub about : (xs : List Item) (m : ℕ) (d : Item) → m < length xs → take m xs ++ get_or xs m d ∷ drop (m + 1) xs ≡ xs
about [] m d below = absurd (omega (arith, below))
about (x ∷ xs) zero d below = refl
about (x ∷ xs) (suc m) d below =
    let one : suc m + 1 ≡ suc (m + 1) = omega arith in
    ap (λ k. x ∷ (take m xs ++ get_or xs m d ∷ drop k (x ∷ xs))) one ∙ ap (λ (l : List Item). x ∷ l) (about xs m d (omega (arith, below)))

half : (n : ℕ) → 0 < n → (n - 1) / 2 < n
half n some = omega (arith, some)

-- ---- the links

abbrev pub Pair : Type 0
Pair = ℕ × ℕ

-- an item's entry, with these links to its left and right
pub record IsLinked (d : Directory) (depth : ℕ) (it : Item) (sides : ℕ × ℕ) : Type 0 where
  pub there : it.id < d.count
  pub child : IsChild (d.entry it.id) depth
  pub left : (d.entry it.id).left ≡ sides.0
  pub right : (d.entry it.id).right ≡ sides.1
  pub linked : Linked d (below_depth (d.entry it.id) depth) (below_link (d.entry it.id)) it.below

abbrev pub AreLinked : Directory → ℕ → List Item → List (ℕ × ℕ) → Type 0
AreLinked d depth [] [] = Unit {0}
AreLinked d depth [] (l ∷ ls) = ⊥
AreLinked d depth (i ∷ items) [] = ⊥
AreLinked d depth (i ∷ items) (l ∷ ls) = IsLinked d depth i l × AreLinked d depth items ls

linked-split : (d : Directory) (depth : ℕ) (xs : List Item) (y : Item) (zs : List Item) (ls : List (ℕ × ℕ)) (b : ℕ × ℕ) (cs : List (ℕ × ℕ)) → length xs ≡ length ls → AreLinked d depth (xs ++ y ∷ zs) (ls ++ b ∷ cs) → AreLinked d depth xs ls × IsLinked d depth y b × AreLinked d depth zs cs
linked-split d depth [] y zs [] b cs long h = (tt, h.0, h.1)
linked-split d depth [] y zs (a ∷ ls) b cs long h = absurd (omega (arith, long))
linked-split d depth (x ∷ xs) y zs [] b cs long h = absurd (omega (arith, long))
linked-split d depth (x ∷ xs) y zs (a ∷ ls) b cs long h = let more = linked-split d depth xs y zs ls b cs (omega (arith, long)) h.1 in ((h.0, more.0), more.1, more.2)

-- the links of siblings, by their items
abbrev pub item_top : List Item → ℕ
item_top items = top_of (numbers items)

abbrev pub item_links : ℕ → List Item → List (ℕ × ℕ)
item_links zero items = []
item_links (suc levels) [] = []
item_links (suc levels) (x ∷ xs) =
    let all = x ∷ xs in
    let m = (length all - 1) / 2 in
    item_links levels (take m all) ++ ((item_top (take m all), item_top (drop (m + 1) all)) ∷ item_links levels (drop (m + 1) all))

numbers-length : (items : List Item) → length (numbers items) ≡ length items
numbers-length [] = refl
numbers-length (i ∷ items) = ap suc (numbers-length items)

pub side_links-are : (levels : ℕ) (items : List Item) → side_links levels (numbers items) ≡ item_links levels items
side_links-are zero items = refl
side_links-are (suc levels) [] = refl
side_links-are (suc levels) (x ∷ xs) =
    let all = x ∷ xs in
    let m = (length all - 1) / 2 in
    let mid : middle (numbers all) ≡ m = ap (λ n. (n - 1) / 2) (numbers-length all) in
    let before : take (middle (numbers all)) (numbers all) ≡ numbers (take m all) = ap (λ k. take k (numbers all)) mid ∙ take-map (λ (i : Item). i.id) m all in
    let behind : drop (middle (numbers all) + 1) (numbers all) ≡ numbers (drop (m + 1) all) = ap (λ k. drop (k + 1) (numbers all)) mid ∙ drop-map (λ (i : Item). i.id) (m + 1) all in
    ap (λ (l : List ℕ). side_links levels l ++ ((top_of l, top_of (drop (middle (numbers all) + 1) (numbers all))) ∷ side_links levels (drop (middle (numbers all) + 1) (numbers all)))) before
    ∙ (ap (λ (l : List ℕ). side_links levels (numbers (take m all)) ++ ((item_top (take m all), top_of l) ∷ side_links levels l)) behind
    ∙ (ap (λ (l : List (ℕ × ℕ)). l ++ ((item_top (take m all), item_top (drop (m + 1) all)) ∷ side_links levels (numbers (drop (m + 1) all)))) (side_links-are levels (take m all))
    ∙ ap (λ (l : List (ℕ × ℕ)). item_links levels (take m all) ++ ((item_top (take m all), item_top (drop (m + 1) all)) ∷ l)) (side_links-are levels (drop (m + 1) all))))

pub item_links-length : (levels : ℕ) (items : List Item) → length items ≤ levels → length (item_links levels items) ≡ length items
item_links-length zero [] few = refl
item_links-length zero (x ∷ xs) few = absurd (omega (arith, few))
item_links-length (suc levels) [] few = refl
item_links-length (suc levels) (x ∷ xs) few =
    let all = x ∷ xs in
    let m = (length all - 1) / 2 in
    let below = half (length all) (omega arith) in
    let a : length (take m all) ≡ m = simp length-take (omega (arith, below)) in
    let b : length (drop (m + 1) all) ≡ length all - (m + 1) = simp length-drop refl in
    length-append (item_links levels (take m all)) _
    ∙ (rw (item_links-length levels (take m all) (omega (arith, a, few)), item_links-length levels (drop (m + 1) all) (omega (arith, b, few))) (omega (arith, a, b, below)))

top-number : (x : Item) (xs : List Item) → item_top (x ∷ xs) ≡ (get_or (x ∷ xs) ((length (x ∷ xs) - 1) / 2) x).id
top-number x xs =
    let all = x ∷ xs in
    let m = (length all - 1) / 2 in
    ap (λ n. get_or (numbers all) ((n - 1) / 2) no_link) (numbers-length all) ∙ get_or-map (λ (i : Item). i.id) all m x no_link (half (length all) (omega arith))

pub balanced-linked : (levels : ℕ) (d : Directory) (depth : ℕ) (items : List Item) → length items ≤ levels → AreLinked d depth items (item_links levels items) → Linked d depth (item_top items) (balanced levels items)
balanced-linked zero d depth [] few h = refl
balanced-linked zero d depth (x ∷ xs) few h = absurd (omega (arith, few))
balanced-linked (suc levels) d depth [] few h = refl
balanced-linked (suc levels) d depth (x ∷ xs) few h =
    let all = x ∷ xs in
    let m = (length all - 1) / 2 in
    let it = get_or all m x in
    let below = half (length all) (omega arith) in
    let A = take m all in
    let B = drop (m + 1) all in
    let a : length A ≡ m = simp length-take (omega (arith, below)) in
    let b : length B ≡ length all - (m + 1) = simp length-drop refl in
    let whole = about all m x below in
    let split = linked-split d depth A it B (item_links levels A) (item_top A, item_top B) (item_links levels B) (sym (item_links-length levels A (omega (arith, a, few))))
    (subst (λ (l : List Item). AreLinked d depth l (item_links levels A ++ ((item_top A, item_top B) ∷ item_links levels B))) (sym whole) h) in
    let left = balanced-linked levels d depth A (omega (arith, a, few)) split.0 in
    let right = balanced-linked levels d depth B (omega (arith, b, few)) split.2 in (
      top-number x xs,
      split.1.there,
      split.1.child,
      subst (λ k. Linked d depth k (balanced levels A)) (sym split.1.left) left,
      subst (λ k. Linked d depth k (balanced levels B)) (sym split.1.right) right,
      split.1.linked,
    )

-- ---- the numbers

abbrev pub all_ids : List Item → List ℕ
all_ids items = flat_map (λ (i : Item). i.id ∷ ids i.below) items

all_ids-append : (xs ys : List Item) → all_ids (xs ++ ys) ≡ all_ids xs ++ all_ids ys
all_ids-append [] ys = refl
all_ids-append (x ∷ xs) ys = ap (λ (l : List ℕ). x.id ∷ (ids x.below ++ l)) (all_ids-append xs ys) ∙ ap (λ (l : List ℕ). x.id ∷ l) (sym (append_assoc (ids x.below) (all_ids xs) (all_ids ys)))

pub balanced-ids : (levels : ℕ) (items : List Item) → length items ≤ levels → IsPermutation (ids (balanced levels items)) (all_ids items)
balanced-ids zero [] few = IsPermutation-refl []
balanced-ids zero (x ∷ xs) few = absurd (omega (arith, few))
balanced-ids (suc levels) [] few = IsPermutation-refl []
balanced-ids (suc levels) (x ∷ xs) few =
    let all = x ∷ xs in
    let m = (length all - 1) / 2 in
    let it = get_or all m x in
    let below = half (length all) (omega arith) in
    let A = take m all in
    let B = drop (m + 1) all in
    let a : length A ≡ m = simp length-take (omega (arith, below)) in
    let b : length B ≡ length all - (m + 1) = simp length-drop refl in
    let whole = about all m x below in
    let la = ids (balanced levels A) in
    let lb = ids (balanced levels B) in
    let left = balanced-ids levels A (omega (arith, a, few)) in
    let right = balanced-ids levels B (omega (arith, b, few)) in
    -- it ∷ (la ++ (lb ++ c))  to  la ++ it ∷ (c ++ lb)  to  all_ids A ++ it ∷ (c ++ all_ids B)
    let one = IsPermutation-cons it.id (la ++ (lb ++ ids it.below)) (la ++ (ids it.below ++ lb)) (IsPermutation-append_right la (lb ++ ids it.below) (ids it.below ++ lb) (IsPermutation-append_comm lb (ids it.below))) in
    let two = IsPermutation-sym (la ++ it.id ∷ (ids it.below ++ lb)) (it.id ∷ (la ++ (ids it.below ++ lb))) (IsPermutation-middle la it.id (ids it.below ++ lb)) in
    let three = IsPermutation-append_left (it.id ∷ (ids it.below ++ lb)) la (all_ids A) left in
    let four = IsPermutation-append_right (all_ids A) (it.id ∷ (ids it.below ++ lb)) (it.id ∷ (ids it.below ++ all_ids B)) (IsPermutation-cons it.id (ids it.below ++ lb) (ids it.below ++ all_ids B) (IsPermutation-append_right (ids it.below) lb (all_ids B) right)) in
    let start = it.id ∷ (la ++ (lb ++ ids it.below)) in
    let end = all_ids A ++ it.id ∷ (ids it.below ++ all_ids B) in
    let same : end ≡ all_ids all = sym (all_ids-append A (it ∷ B)) ∙ ap all_ids whole in
    subst (λ (l : List ℕ). IsPermutation start l) same
    (IsPermutation-trans start (it.id ∷ (la ++ (ids it.below ++ lb))) end one
    (IsPermutation-trans (it.id ∷ (la ++ (ids it.below ++ lb))) (la ++ it.id ∷ (ids it.below ++ lb)) end two
    (IsPermutation-trans (la ++ it.id ∷ (ids it.below ++ lb)) (all_ids A ++ it.id ∷ (ids it.below ++ lb)) end three four)))

-- ---- the tree

abbrev pub item_tree : Directory → (ℕ → Stream) → Item → Children → Children
item_tree d streams i rest =
    let tag : Tag = record { name = name_of (d.entry i.id); id = i.id; place = d.place i.id; class = (d.entry i.id).class } in
    cond (is_storage (d.entry i.id)) (storage tag (tree_of d streams i.below none) rest) (stream tag (streams i.id) rest)

-- the items in their order
abbrev pub row : Directory → (ℕ → Stream) → List Item → Children → Children
row d streams [] rest = rest
row d streams (i ∷ items) rest = item_tree d streams i (row d streams items rest)

row-append : (d : Directory) (streams : ℕ → Stream) (xs ys : List Item) (rest : Children) → row d streams (xs ++ ys) rest ≡ row d streams xs (row d streams ys rest)
row-append d streams [] ys rest = refl
row-append d streams (x ∷ xs) ys rest = ap (item_tree d streams x) (row-append d streams xs ys rest)

pub balanced-tree : (levels : ℕ) (d : Directory) (streams : ℕ → Stream) (items : List Item) (rest : Children) → length items ≤ levels → tree_of d streams (balanced levels items) rest ≡ row d streams items rest
balanced-tree zero d streams [] rest few = refl
balanced-tree zero d streams (x ∷ xs) rest few = absurd (omega (arith, few))
balanced-tree (suc levels) d streams [] rest few = refl
balanced-tree (suc levels) d streams (x ∷ xs) rest few =
    let all = x ∷ xs in
    let m = (length all - 1) / 2 in
    let it = get_or all m x in
    let below = half (length all) (omega arith) in
    let A = take m all in
    let B = drop (m + 1) all in
    let a : length A ≡ m = simp length-take (omega (arith, below)) in
    let b : length B ≡ length all - (m + 1) = simp length-drop refl in
    let right = balanced-tree levels d streams B rest (omega (arith, b, few)) in
    ap (λ (c : Children). tree_of d streams (balanced levels A) (item_tree d streams it c)) right
    ∙ (balanced-tree levels d streams A (item_tree d streams it (row d streams B rest)) (omega (arith, a, few))
    ∙ (sym (row-append d streams A (it ∷ B) rest) ∙ ap (λ (l : List Item). row d streams l rest) (about all m x below)))
