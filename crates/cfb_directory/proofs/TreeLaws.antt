-- Trees from the children of each entry.
use Rattle.std.proofs.Common.{◌≡◌, ℕ, zero, suc, ◌+◌, ◌<◌, ◌≤◌, List, [], ◌∷◌, ◌++◌, Bool, true, false, ◌||◌, not, cond, eqb, leb, max, refl, ◌∙◌, ap, arith, inl, inr}
use Rattle.std.proofs.lemmas.Bool.{cases_Bool, eqb-true, leb-true}
use Rattle.std.proofs.lemmas.List.Folds.{list_any-append, list_all-append}
use Rattle.carrier_model.specs.Chains.{member}
use Rattle.carrier_model.specs.Files.{Children, none, storage, stream, tree_of, name_of}
use Rattle.carrier_model.specs.Links.{Directory, Links, leaf, node, ids, siblings, is_storage, Linked, no_link}
use Rattle.carrier_model.specs.Streams.{Stream}
use Rattle.std.specs.List.{list_all}
use Rattle.cfb_directory.specs.Trees.{Table, built, under, ends}

-- the children of each entry are the siblings of its child link
abbrev pub HasKids : (ℕ → List ℕ) → Links → Type 0
HasKids kids leaf = Unit {0}
HasKids kids (node id l r c) = (kids id ≡ siblings c) × HasKids kids l × HasKids kids r × HasKids kids c

-- a table speaks of these entries
abbrev pub Agrees : Table → Directory → (ℕ → Stream) → Links → Type 0
Agrees T d streams leaf = Unit {0}
Agrees T d streams (node id l r c) =
    (T.kids id ≡ siblings c) × (T.entry id ≡ d.entry id) × (T.place id ≡ d.place id) × (is_storage (d.entry id) ≡ false → T.stream id ≡ streams id)
    × Agrees T d streams l × Agrees T d streams r × Agrees T d streams c

-- how many storages stand one in another
abbrev pub levels : Links → ℕ
levels leaf = 0
levels (node id l r c) = max (max (levels l) (levels r)) (suc (levels c))

built-append : (T : Table) (below : ℕ → Children) (xs ys : List ℕ) (rest : Children) → built T below (xs ++ ys) rest ≡ built T below xs (built T below ys rest)
built-append T below [] ys rest = refl
built-append T below (x ∷ xs) ys rest =
    elim (cases_Bool (is_storage (T.entry x))) [
      | inl ours ↦ rw (ours, built-append T below xs ys rest) refl
      | inr other ↦ rw (other, built-append T below xs ys rest) refl
    ]

pub tree_built : (T : Table) (d : Directory) (streams : ℕ → Stream) (t : Links) (k : ℕ) (rest : Children) → levels t ≤ k → Agrees T d streams t → built T (under T k) (siblings t) rest ≡ tree_of d streams t rest
unfolding under
tree_built T d streams leaf k rest deep same = refl
tree_built T d streams (node id l r c) zero rest deep same = absurd (omega arith)
tree_built T d streams (node id l r c) (suc j) rest deep same =
    let below : under T (suc j) id ≡ tree_of d streams c none = ap (λ l. built T (under T j) l none) same.0 ∙ tree_built T d streams c j none (omega arith) same.6 in
    let after : built T (under T (suc j)) (siblings r) rest ≡ tree_of d streams r rest = tree_built T d streams r (suc j) rest (omega arith) same.5 in
    built-append T (under T (suc j)) (siblings l) (id ∷ siblings r) rest
    ∙ (ap (built T (under T (suc j)) (siblings l)) (one below after)
    ∙ tree_built T d streams l (suc j) _ (omega arith) same.4)
  where
    one : under T (suc j) id ≡ tree_of d streams c none → built T (under T (suc j)) (siblings r) rest ≡ tree_of d streams r rest → built T (under T (suc j)) (id ∷ siblings r) rest ≡ cond (is_storage (d.entry id)) (storage (record { name = name_of (d.entry id); id = id; place = d.place id; class = (d.entry id).class }) (tree_of d streams c none) (tree_of d streams r rest)) (stream (record { name = name_of (d.entry id); id = id; place = d.place id; class = (d.entry id).class }) (streams id) (tree_of d streams r rest))
    one below after =
        elim (cases_Bool (is_storage (d.entry id))) [
          | inl ours ↦ rw (same.1, ours, same.2, below, after) refl
          | inr other ↦ rw (same.1, other, same.2, same.3 other, after) refl
        ]

-- a link to nothing has nothing below it
nothing : (d : Directory) (depth : ℕ) (t : Links) → d.count ≤ no_link → Linked d depth no_link t → t ≡ leaf
nothing d depth leaf few h = refl
nothing d depth (node id l r c) few h = absurd (omega (arith, h.0, h.1))

pub levels_bound : (d : Directory) (depth x : ℕ) (t : Links) → d.count ≤ no_link → depth ≤ 101 → Linked d depth x t → levels t + depth ≤ 102
levels_bound d depth x leaf few shallow h = omega arith
levels_bound d depth x (node id l r c) few shallow h =
    let one = levels_bound d depth _ l few shallow h.3 in
    let two = levels_bound d depth _ r few shallow h.4 in
    let three : suc (levels c) + depth ≤ 102 = below (λ e y s g. levels_bound d e y c few s g) (h.2).shallow h.5 in
    omega arith
  where
    below : ((e y : ℕ) → e ≤ 101 → Linked d e y c → levels c + e ≤ 102) → (not (is_storage (d.entry id)) || leb depth 100) ≡ true → Linked d (cond (is_storage (d.entry id)) (depth + 1) 0) (cond (is_storage (d.entry id)) (d.entry id).child no_link) c → suc (levels c) + depth ≤ 102
    below again fits linked =
        elim (cases_Bool (is_storage (d.entry id))) [
          | inl ours ↦
              let small : leb depth 100 ≡ true = rw ours at fits in
              let deeper : Linked d (depth + 1) (d.entry id).child c = rw ours at linked in
              let bound = again (depth + 1) (d.entry id).child (omega (arith, leb-true depth 100 small)) deeper in
              omega arith
          | inr other ↦
              let nowhere : Linked d 0 no_link c = rw other at linked in
              rw (nothing d 0 c few nowhere) (omega arith)
        ]

-- No more levels are below an entry than there are.
all_end : (kids : ℕ → List ℕ) (t : Links) (k : ℕ) → levels t ≤ k → HasKids kids t → list_all (ends kids k) (siblings t) ≡ true
unfolding ends
all_end kids leaf k deep same = refl
all_end kids (node id l r c) zero deep same = absurd (omega arith)
all_end kids (node id l r c) (suc j) deep same =
    let here : list_all (ends kids j) (kids id) ≡ true = ap (list_all (ends kids j)) same.0 ∙ all_end kids c j (omega arith) same.3 in
    list_all-append (ends kids (suc j)) (siblings l) (id ∷ siblings r) ∙ rw (all_end kids l (suc j) (omega arith) same.1, here, all_end kids r (suc j) (omega arith) same.2) refl

ends_at : (kids : ℕ → List ℕ) (t : Links) (k id : ℕ) → levels t ≤ k → HasKids kids t → member id (ids t) ≡ true → ends kids k id ≡ true
unfolding ends
ends_at kids leaf k id deep same there = absurd (cc)
ends_at kids (node x l r c) zero id deep same there = absurd (omega arith)
ends_at kids (node x l r c) (suc j) id deep same there =
    elim (cases_Bool (eqb id x)) [
      | inl here ↦ rw (eqb-true id x here) (ap (list_all (ends kids j)) same.0 ∙ all_end kids c j (omega arith) same.3)
      | inr other ↦
          let behind : member id (ids l ++ (ids r ++ ids c)) ≡ true = rw other at there in
          elim (cases_Bool (member id (ids l))) [
            | inl a ↦ ends_at kids l (suc j) id (omega arith) same.1 a
            | inr a ↦
                let later : member id (ids r ++ ids c) ≡ true = rw (list_any-append (eqb id) (ids l) (ids r ++ ids c), a) at behind in
                elim (cases_Bool (member id (ids r))) [
                  | inl b ↦ ends_at kids r (suc j) id (omega arith) same.2 b
                  | inr b ↦ ends_at kids c (suc j) id (omega arith) same.3 (rw (list_any-append (eqb id) (ids r) (ids c), b) at later)
                ]
          ]
    ]

pub all_ends : (kids : ℕ → List ℕ) (t : Links) (k : ℕ) → levels t < k → HasKids kids t → kids 0 ≡ siblings t → ((id : ℕ) → member id (0 ∷ ids t) ≡ false → kids id ≡ []) → (id : ℕ) → ends kids k id ≡ true
unfolding ends
all_ends kids t zero deep same root others id = absurd (omega arith)
all_ends kids t (suc j) deep same root others id =
    elim (cases_Bool (member id (0 ∷ ids t))) [
      | inr absent ↦ rw (others id absent) refl
      | inl there ↦
          elim (cases_Bool (eqb id 0)) [
            | inl here ↦ rw (eqb-true id 0 here) (ap (list_all (ends kids j)) root ∙ all_end kids t j (omega arith) same)
            | inr other ↦ ends_at kids t (suc j) id (omega arith) same (rw other at there)
          ]
    ]

built-same : (T : Table) (f g : ℕ → Children) (p : ℕ → Bool) (xs : List ℕ) (rest : Children) → list_all p xs ≡ true → ((x : ℕ) → p x ≡ true → f x ≡ g x) → built T f xs rest ≡ built T g xs rest
built-same T f g p [] rest all same = refl
built-same T f g p (x ∷ xs) rest all same =
    elim (cases_Bool (p x)) [
      | inr failed ↦ absurd (cc (rw failed at all))
      | inl ok ↦
          let more : list_all p xs ≡ true = rw ok at all in
          elim (cases_Bool (is_storage (T.entry x))) [
            | inl ours ↦ rw (ours, same x ok, built-same T f g p xs rest more same) refl
            | inr other ↦ rw (other, built-same T f g p xs rest more same) refl
          ]
    ]

-- More levels than there are change nothing.
pub enough : (T : Table) (k id : ℕ) → ends T.kids k id ≡ true → under T k id ≡ under T (suc k) id
unfolding ends under
enough T zero id end = absurd (cc)
enough T (suc k) id end = built-same T (under T k) (under T (suc k)) (ends T.kids k) (T.kids id) none end (λ x h. enough T k x h)
