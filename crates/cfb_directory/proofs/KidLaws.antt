-- The entries of a walk, each with its storage, are the siblings that are linked there.
use Rattle.std.proofs.Common.{◌≡◌, ℕ, ◌<◌, List, [], ◌∷◌, ◌++◌, map, true, false, ◌||◌, cond, eqb, refl, sym, ◌∙◌, ap, subst, inl, inr}
use Rattle.std.specs.List.{All}
use Rattle.std.proofs.lemmas.Bool.{cases_Bool, eq-eqb, eqb-true}
use Rattle.std.proofs.lemmas.List.{append-nil, map-append}
use Rattle.std.proofs.lemmas.List.Elements.{All-head, All-tail, All-cons, All-nil}
use Rattle.std.proofs.lemmas.List.Folds.{list_any-append}
use Rattle.carrier_model.specs.Chains.{member}
use Rattle.carrier_model.specs.Files.{families}
use Rattle.carrier_model.specs.Links.{Links, leaf, node, ids, siblings, AreNew}
use Rattle.carrier_model.proofs.VisitLaws.{AreNew-split}
use Rattle.cfb_directory.specs.Families.{children_in}
use Rattle.cfb_directory.specs.Walks.{placed, IsInside}
use Rattle.cfb_directory.specs.declared.links.Member.{Member}
use Rattle.cfb_directory.proofs.TreeLaws.{HasKids}

children-append : (q : ℕ) (xs ys : List Member) → children_in q (xs ++ ys) ≡ children_in q xs ++ children_in q ys
children-append q [] ys = refl
children-append q (x ∷ xs) ys =
    elim (cases_Bool (eqb x.parent q)) [
      | inl ours ↦ rw (ours, children-append q xs ys) refl
      | inr other ↦ rw (other, children-append q xs ys) refl
    ]

pub children-inside : (n q : ℕ) (xs : List Member) → All (IsInside n) xs → All (λ k. k < n) (children_in q xs)
children-inside n q [] h = All-nil (λ k. k < n)
children-inside n q (x ∷ xs) h =
    elim (cases_Bool (eqb x.parent q)) [
      | inl ours ↦ rw ours (All-cons (λ k. k < n) x.id (children_in q xs) (All-head (IsInside n) x xs h).1 (children-inside n q xs (All-tail (IsInside n) x xs h)))
      | inr other ↦ rw other (children-inside n q xs (All-tail (IsInside n) x xs h))
    ]

-- members of a list in two parts
out-left : (q : ℕ) (xs ys : List ℕ) → member q (xs ++ ys) ≡ false → member q xs ≡ false
out-left q xs ys h = elim (cases_Bool (member q xs)) [ inl a ↦ absurd (no (sym (list_any-append (eqb q) xs ys) ∙ h) a) | inr a ↦ a ]
  where
    no : (member q xs || member q ys) ≡ false → member q xs ≡ true → ⊥
    no h a = absurd (cc (rw a at h))

out-right : (q : ℕ) (xs ys : List ℕ) → member q (xs ++ ys) ≡ false → member q ys ≡ false
out-right q xs ys h = rw (list_any-append (eqb q) xs ys, out-left q xs ys h) at h

pub in-left : (q : ℕ) (xs ys : List ℕ) → member q xs ≡ true → member q (xs ++ ys) ≡ true
in-left q xs ys h = list_any-append (eqb q) xs ys ∙ rw h refl

pub in-right : (q : ℕ) (xs ys : List ℕ) → member q ys ≡ true → member q (xs ++ ys) ≡ true
in-right q xs ys h = list_any-append (eqb q) xs ys ∙ elim (cases_Bool (member q xs)) [ inl a ↦ rw a refl | inr a ↦ rw (a, h) refl ]

-- what is new is none of the seen ones
new-out : (seen xs : List ℕ) (q : ℕ) → AreNew seen xs → member q xs ≡ true → member q seen ≡ false
new-out seen [] q h there = absurd (cc)
new-out seen (x ∷ xs) q h there =
    elim (cases_Bool (eqb q x)) [
      | inl same ↦ rw (eqb-true q x same) h.0
      | inr other ↦ out-left q seen (x ∷ []) (new-out (seen ++ x ∷ []) xs q h.1 (rw other at there))
    ]

pub clear : (seen xs : List ℕ) (q : ℕ) → AreNew seen xs → member q seen ≡ true → member q xs ≡ false
clear seen xs q h there = elim (cases_Bool (member q xs)) [ inl a ↦ absurd (cc (new-out seen xs q h a, there)) | inr a ↦ a ]

apart : (p q : ℕ) (s : List ℕ) → member p s ≡ true → member q s ≡ false → eqb p q ≡ false
apart p q s h k = elim (cases_Bool (eqb p q)) [ inl same ↦ absurd (cc (subst (λ n. member n s ≡ true) (eqb-true p q same) h, k)) | inr other ↦ other ]

flip : (p q : ℕ) → eqb q p ≡ false → eqb p q ≡ false
flip p q h = elim (cases_Bool (eqb p q)) [ inl same ↦ absurd (cc (eq-eqb q p (sym (eqb-true p q same)), h)) | inr other ↦ other ]

out-head : (q x : ℕ) (xs : List ℕ) → member q (x ∷ xs) ≡ false → (eqb q x ≡ false) × (member q xs ≡ false)
out-head q x xs h = elim (cases_Bool (eqb q x)) [ inl a ↦ absurd (cc (rw a at h)) | inr a ↦ (a, rw a at h) ]

away : (q p : ℕ) (xs : List ℕ) → eqb q p ≡ false → member q xs ≡ false → member q (p ∷ xs) ≡ false
away q p xs h k = rw (h, k) refl

-- the parts of what a storage has below it
children-node : (q p id : ℕ) (l r c : Links) → children_in q (placed p (node id l r c)) ≡ children_in q (placed p l) ++ cond (eqb p q) (id ∷ (children_in q (placed p r) ++ children_in q (placed id c))) (children_in q (placed p r) ++ children_in q (placed id c))
children-node q p id l r c =
    children-append q (placed p l) (record { parent = p; id = id } ∷ (placed p r ++ placed id c)) ∙ ap (λ z. children_in q (placed p l) ++ cond (eqb p q) (id ∷ z) z) (children-append q (placed p r) (placed id c))

-- an entry that is neither the storage nor below it has no children there
pub children-none : (q p : ℕ) (t : Links) → member q (p ∷ ids t) ≡ false → children_in q (placed p t) ≡ []
children-none q p leaf h = refl
children-none q p (node id l r c) h =
    let one = out-head q p (ids (node id l r c)) h in
    let two = out-head q id (ids l ++ (ids r ++ ids c)) one.1 in
    let left = out-left q (ids l) (ids r ++ ids c) two.1 in
    let rest = out-right q (ids l) (ids r ++ ids c) two.1 in
    children-node q p id l r c
    ∙ rw (children-none q p l (away q p (ids l) one.0 left), flip p q one.0, children-none q p r (away q p (ids r) one.0 (out-left q (ids r) (ids c) rest)), children-none q id c (away q id (ids c) two.0 (out-right q (ids r) (ids c) rest))) refl

-- the children of the storage itself
pub children-own : (p : ℕ) (t : Links) → member p (ids t) ≡ false → children_in p (placed p t) ≡ siblings t
children-own p leaf h = refl
children-own p (node id l r c) h =
    let one = out-head p id (ids l ++ (ids r ++ ids c)) h in
    let left = out-left p (ids l) (ids r ++ ids c) one.1 in
    let rest = out-right p (ids l) (ids r ++ ids c) one.1 in
    children-node p p id l r c
    ∙ rw (children-own p l left, eq-eqb p p refl, children-own p r (out-left p (ids r) (ids c) rest), children-none p id c (away p id (ids c) one.0 (out-right p (ids r) (ids c) rest)), append-nil (siblings r)) refl

pub self : (id : ℕ) (xs : List ℕ) → member id (id ∷ xs) ≡ true
self id xs = rw (eq-eqb id id refl) refl

-- Each entry's children are the siblings of its child link, where no entry is linked twice.
pub has_kids : (kids : ℕ → List ℕ) (p : ℕ) (seen : List ℕ) (t : Links) → AreNew seen (ids t) → member p seen ≡ true → ((q : ℕ) → member q (ids t) ≡ true → kids q ≡ children_in q (placed p t)) → HasKids kids t
has_kids kids p seen leaf new known same = tt
has_kids kids p seen (node id l r c) new known same =
    let s1 = seen ++ id ∷ [] in
    let nl = AreNew-split s1 (ids l) (ids r ++ ids c) new.1 in
    let nr = AreNew-split (s1 ++ ids l) (ids r) (ids c) nl.1 in
    let nc = nr.1 in
    let pid : eqb p id ≡ false = apart p id seen known new.0 in
    let own : member id s1 ≡ true = in-right id seen (id ∷ []) (self id []) in
    let il : member id (ids l) ≡ false = clear s1 (ids l) id nl.0 own in
    let ir : member id (ids r) ≡ false = clear (s1 ++ ids l) (ids r) id nr.0 (in-left id s1 (ids l) own) in
    let ic : member id (ids c) ≡ false = clear ((s1 ++ ids l) ++ ids r) (ids c) id nc (in-left id (s1 ++ ids l) (ids r) (in-left id s1 (ids l) own)) in
    let here : kids id ≡ siblings c =
    same id (self id (ids l ++ (ids r ++ ids c))) ∙ (children-node id p id l r c
    ∙ rw (children-none id p l (away id p (ids l) (flip id p pid) il), pid, children-none id p r (away id p (ids r) (flip id p pid) ir), children-own id c ic) refl) in
    let known1 : member p s1 ≡ true = in-left p seen (id ∷ []) known in
    let s2 = s1 ++ ids l in
    let s3 = s2 ++ ids r in
    let inside = λ (q : ℕ) (xs : member q (ids l ++ (ids r ++ ids c)) ≡ true). same q (in-right q (id ∷ []) (ids l ++ (ids r ++ ids c)) xs) ∙ children-node q p id l r c in
    let known2 : member p s2 ≡ true = in-left p s1 (ids l) known1 in
    let own2 : member id s2 ≡ true = in-left id s1 (ids l) own in
    let own3 : member id s3 ≡ true = in-left id s2 (ids r) own2 in
    let on_left : (q : ℕ) → member q (ids l) ≡ true → kids q ≡ children_in q (placed p l) = λ q there.
    let out : member q s1 ≡ false = new-out s1 (ids l) q nl.0 there in
    let pq : eqb p q ≡ false = apart p q s1 known1 out in
    let qi : eqb q id ≡ false = flip q id (apart id q s1 own out) in
    let in2 : member q s2 ≡ true = in-right q s1 (ids l) there in
    let qr : member q (ids r) ≡ false = clear s2 (ids r) q nr.0 in2 in
    let qc : member q (ids c) ≡ false = clear s3 (ids c) q nc (in-left q s2 (ids r) in2) in
    inside q (in-left q (ids l) (ids r ++ ids c) there) ∙ rw (pq, children-none q p r (away q p (ids r) (flip q p pq) qr), children-none q id c (away q id (ids c) qi qc), append-nil (children_in q (placed p l))) refl in
    let on_right : (q : ℕ) → member q (ids r) ≡ true → kids q ≡ children_in q (placed p r) = λ q there.
    let out : member q s2 ≡ false = new-out s2 (ids r) q nr.0 there in
    let pq : eqb p q ≡ false = apart p q s2 known2 out in
    let qi : eqb q id ≡ false = flip q id (apart id q s2 own2 out) in
    let ql : member q (ids l) ≡ false = out-right q s1 (ids l) out in
    let qc : member q (ids c) ≡ false = clear s3 (ids c) q nc (in-right q s2 (ids r) there) in
    inside q (in-right q (ids l) (ids r ++ ids c) (in-left q (ids r) (ids c) there)) ∙ rw (children-none q p l (away q p (ids l) (flip q p pq) ql), pq, children-none q id c (away q id (ids c) qi qc), append-nil (children_in q (placed p r))) refl in
    let on_below : (q : ℕ) → member q (ids c) ≡ true → kids q ≡ children_in q (placed id c) = λ q there.
    let out : member q s3 ≡ false = new-out s3 (ids c) q nc there in
    let pq : eqb p q ≡ false = apart p q s3 (in-left p s2 (ids r) known2) out in
    let qr : member q (ids r) ≡ false = out-right q s2 (ids r) out in
    let ql : member q (ids l) ≡ false = out-right q s1 (ids l) (out-left q s2 (ids r) out) in
    inside q (in-right q (ids l) (ids r ++ ids c) (in-right q (ids r) (ids c) there)) ∙ rw (children-none q p l (away q p (ids l) (flip q p pq) ql), pq, children-none q p r (away q p (ids r) (flip q p pq) qr)) refl in
    (here, has_kids kids p s1 l nl.0 known1 on_left, has_kids kids p s2 r nr.0 known2 on_right, has_kids kids id s3 c nc own3 on_below)

-- Below each entry of a walk, in the order of the visits, are its children.
pub families_are : (kids : ℕ → List ℕ) (t : Links) → HasKids kids t → families t ≡ map kids (ids t)
families_are kids leaf h = refl
families_are kids (node id l r c) h =
    rw (families_are kids l h.1, families_are kids r h.2, families_are kids c h.3, map-append kids (ids l) (ids r ++ ids c), map-append kids (ids r) (ids c), h.0) refl
