-- The children of storages, and their names, as they are linked and as a tree.
use Rattle.std.proofs.Common.{◌≡◌, ℕ, ◌≤◌, List, [], ◌∷◌, ◌++◌, map, false, not, cond, refl, sym, ◌∙◌, ap, subst, arith, Ok, inl, inr}
use Rattle.std.specs.Prelude.{nat_eq}
use Rattle.std.specs.List.{IsDistinct, AllByRecursion}
use Rattle.std.specs.Cmp.Lexicographic.{pointwise}
use Rattle.std.proofs.lemmas.Cmp.{nat_list_eq_equiv}
use Rattle.std.proofs.lemmas.Bool.{cond-true, cond-false, cases_Bool, not-true, or_parts, or_from}
use Rattle.std.proofs.lemmas.List.{append_assoc, append-nil, map-append}
use Rattle.carrier_model.specs.Reasons.{DOUBLE_NAME}
use Rattle.carrier_model.specs.Entries.{Entry}
use Rattle.carrier_model.specs.Files.{Tag, Children, none, storage, stream, name_of, folded, is_among, families, family_names, names_of, tree_of}
use Rattle.carrier_model.specs.Holds.{AreApart, child_names, HaveNames}
use Rattle.carrier_model.specs.Links.{Directory, Links, leaf, node, no_link, ids, siblings, is_storage, below_link, below_depth, Linked}
use Rattle.carrier_model.specs.Streams.{Stream}
use Rattle.carrier_model.proofs.VisitLaws.{bind_ok, check_ok}

-- properties of the members of a list
pub each-append : {K : Type 0} (P : K → Type 0) (xs ys : List K) → AllByRecursion P xs → AllByRecursion P ys → AllByRecursion P (xs ++ ys)
each-append P [] ys h k = k
each-append P (x ∷ xs) ys h k = (h.0, each-append P xs ys h.1 k)

pub each-split : {K : Type 0} (P : K → Type 0) (xs ys : List K) → AllByRecursion P (xs ++ ys) → AllByRecursion P xs × AllByRecursion P ys
each-split P [] ys h = (tt, h)
each-split P (x ∷ xs) ys h = let more = each-split P xs ys h.1 in ((h.0, more.0), more.1)

-- one more key
one-more : (xs : List (List ℕ)) (x : List ℕ) → IsDistinct (pointwise nat_eq) xs → is_among x xs ≡ false → IsDistinct (pointwise nat_eq) (xs ++ x ∷ [])
unfolding IsDistinct
one-more [] x h fresh = (tt, tt)
one-more (y ∷ ys) x h fresh =
    let parts = or_parts (pointwise nat_eq x y) (is_among x ys) fresh in
    (each-append (λ z. pointwise nat_eq y z ≡ false) ys (x ∷ []) h.0 (nat_list_eq_equiv.symm y x ∙ parts.0, tt), one-more ys x h.1 parts.1)

not-before : (xs : List (List ℕ)) (x : List ℕ) (ys : List (List ℕ)) → IsDistinct (pointwise nat_eq) (xs ++ x ∷ ys) → is_among x xs ≡ false
unfolding IsDistinct
not-before [] x ys h = refl
not-before (y ∷ xs) x ys h =
    or_from (pointwise nat_eq x y) (is_among x xs) (nat_list_eq_equiv.symm x y ∙ (each-split (λ z. pointwise nat_eq y z ≡ false) xs (x ∷ ys) h.0).1.0) (not-before xs x ys h.1)

-- the names of entries
abbrev pub names_in : Directory → List ℕ → List (List ℕ)
names_in d ids = map (λ id. name_of (d.entry id)) ids

pub family_ok : (d : Directory) (ids : List ℕ) (earlier : List (List ℕ)) (u : Unit {0}) → family_names d ids earlier ≡ Ok u → IsDistinct (pointwise nat_eq) earlier → IsDistinct (pointwise nat_eq) (earlier ++ map folded (names_in d ids))
unfolding family_names
family_ok d [] earlier u is h = rw append-nil h
family_ok d (id ∷ ids) earlier u is h =
    let key = folded (name_of (d.entry id)) in
    let p = check_ok (not (is_among key earlier)) DOUBLE_NAME (d.place id) (λ v. family_names d ids (earlier ++ key ∷ [])) u is in
    let more = family_ok d ids (earlier ++ key ∷ []) u p.1 (one-more earlier key h (not-true (is_among key earlier) p.0)) in
    rw (← append_assoc earlier (key ∷ []) (map folded (names_in d ids))) more

pub family_from : (d : Directory) (ids : List ℕ) (earlier : List (List ℕ)) → IsDistinct (pointwise nat_eq) (earlier ++ map folded (names_in d ids)) → family_names d ids earlier ≡ Ok tt
unfolding family_names
family_from d [] earlier h = refl
family_from d (id ∷ ids) earlier h =
    let key = folded (name_of (d.entry id)) in
    let rest = family_from d ids (earlier ++ key ∷ []) (rw (append_assoc earlier (key ∷ []) (map folded (names_in d ids))) h) in
    rw (not-before earlier key (map folded (names_in d ids)) h) rest

-- each family's names are apart
abbrev pub FamiliesApart : Directory → List (List ℕ) → Type 0
FamiliesApart d fs = AllByRecursion (λ family. AreApart (names_in d family)) fs

pub names_ok : (d : Directory) (fs : List (List ℕ)) (u : Unit {0}) → names_of d fs ≡ Ok u → FamiliesApart d fs
unfolding names_of IsDistinct
names_ok d [] u is = tt
names_ok d (f ∷ fs) u is =
    let p = bind_ok (family_names d f []) (λ v. names_of d fs) u is in
    (family_ok d f [] p.0 p.1 tt, names_ok d fs u p.2)

pub names_from : (d : Directory) (fs : List (List ℕ)) → FamiliesApart d fs → names_of d fs ≡ Ok tt
unfolding names_of
names_from d [] h = refl
names_from d (f ∷ fs) h = rw (family_from d f [] h.0) (names_from d fs h.1)

-- the tree's names
abbrev top_of : Directory → (ℕ → Stream) → ℕ → Links → Children → Children
top_of d streams id c after =
    let tag : Tag = record { name = name_of (d.entry id); id = id; place = d.place id; class = (d.entry id).class } in
    cond (is_storage (d.entry id)) (storage tag (tree_of d streams c none) after) (stream tag (streams id) after)

top_names : (d : Directory) (streams : ℕ → Stream) (id : ℕ) (c : Links) (after : Children) → child_names (top_of d streams id c after) ≡ name_of (d.entry id) ∷ child_names after
top_names d streams id c after =
    let tag : Tag = record { name = name_of (d.entry id); id = id; place = d.place id; class = (d.entry id).class } in
    elim (cases_Bool (is_storage (d.entry id))) [
      | inl holds ↦ ap child_names (cond-true (is_storage (d.entry id)) (storage tag (tree_of d streams c none) after) (stream tag (streams id) after) holds)
      | inr other ↦ ap child_names (cond-false (is_storage (d.entry id)) (storage tag (tree_of d streams c none) after) (stream tag (streams id) after) other)
    ]

pub tree_names : (d : Directory) (streams : ℕ → Stream) (t : Links) (rest : Children) → child_names (tree_of d streams t rest) ≡ names_in d (siblings t) ++ child_names rest
tree_names d streams leaf rest = refl
tree_names d streams (node id l r c) rest =
    let after = tree_of d streams r rest in
    tree_names d streams l (top_of d streams id c after)
    ∙ (ap (λ ns. names_in d (siblings l) ++ ns) (top_names d streams id c after ∙ ap (λ ns. name_of (d.entry id) ∷ ns) (tree_names d streams r rest))
    ∙ (sym (append_assoc (names_in d (siblings l)) (name_of (d.entry id) ∷ names_in d (siblings r)) (child_names rest))
    ∙ ap (λ ns. ns ++ child_names rest) (sym (map-append (λ id. name_of (d.entry id)) (siblings l) (id ∷ siblings r)))))

pub own_names : (d : Directory) (streams : ℕ → Stream) (t : Links) → child_names (tree_of d streams t none) ≡ names_in d (siblings t)
own_names d streams t = tree_names d streams t none ∙ append-nil (names_in d (siblings t))

-- what families have, the tree has
pub tree_have : (d : Directory) (streams : ℕ → Stream) (t : Links) (rest : Children) → FamiliesApart d (families t) → HaveNames rest → HaveNames (tree_of d streams t rest)
tree_have d streams leaf rest h k = k
tree_have d streams (node id l r c) rest h k =
    let tag : Tag = record { name = name_of (d.entry id); id = id; place = d.place id; class = (d.entry id).class } in
    let after = tree_of d streams r rest in
    let p = each-split (λ family. AreApart (names_in d family)) (families l) (families r ++ families c) h.1 in
    let q = each-split (λ family. AreApart (names_in d family)) (families r) (families c) p.1 in
    let behind = tree_have d streams r rest q.0 k in
    let inside = tree_have d streams c none q.1 tt in
    let own = subst AreApart (sym (own_names d streams c)) h.0 in
    let top : HaveNames (top_of d streams id c after) = elim (cases_Bool (is_storage (d.entry id))) [
      | inl holds ↦ subst HaveNames (sym (cond-true (is_storage (d.entry id)) (storage tag (tree_of d streams c none) after) (stream tag (streams id) after) holds)) (own, inside, behind)
      | inr other ↦ subst HaveNames (sym (cond-false (is_storage (d.entry id)) (storage tag (tree_of d streams c none) after) (stream tag (streams id) after) other)) behind
    ] in
    tree_have d streams l (top_of d streams id c after) p.0 top

-- a stream has nothing below it
no_below : (d : Directory) (depth : ℕ) (e : Entry) (c : Links) → d.count ≤ no_link → is_storage e ≡ false → Linked d depth (below_link e) c → c ≡ leaf
no_below d depth e leaf few other linked = refl
no_below d depth e (node id l r c) few other linked =
    let none : below_link e ≡ no_link = cond-false (is_storage e) e.child no_link other in
    absurd (omega (arith, few, none, linked.0, linked.1))

pub tree_had : (d : Directory) (streams : ℕ → Stream) (depth x : ℕ) (t : Links) (rest : Children) → d.count ≤ no_link → Linked d depth x t → HaveNames (tree_of d streams t rest) → FamiliesApart d (families t) × HaveNames rest
unfolding IsDistinct
tree_had d streams depth x leaf rest few linked h = (tt, h)
tree_had d streams depth x (node id l r c) rest few linked h =
    let tag : Tag = record { name = name_of (d.entry id); id = id; place = d.place id; class = (d.entry id).class } in
    let after = tree_of d streams r rest in
    let p = tree_had d streams depth (d.entry id).left l (top_of d streams id c after) few linked.3 h in
    let below : AreApart (names_in d (siblings c)) × FamiliesApart d (families c) × HaveNames after = elim (cases_Bool (is_storage (d.entry id))) [
      | inl holds ↦
          let all = subst HaveNames (cond-true (is_storage (d.entry id)) (storage tag (tree_of d streams c none) after) (stream tag (streams id) after) holds) p.1 in
          let inside = tree_had d streams (below_depth (d.entry id) depth) (below_link (d.entry id)) c none few linked.5 all.1 in
          (subst AreApart (own_names d streams c) all.0, inside.0, all.2)
      | inr other ↦
          let all = subst HaveNames (cond-false (is_storage (d.entry id)) (storage tag (tree_of d streams c none) after) (stream tag (streams id) after) other) p.1 in
          let nothing = no_below d (below_depth (d.entry id) depth) (d.entry id) c few other linked.5 in
          subst (λ c. AreApart (names_in d (siblings c)) × FamiliesApart d (families c) × HaveNames after) (sym nothing) (tt, tt, all)
    ] in
    let q = tree_had d streams depth (d.entry id).right r rest few linked.4 below.2 in
    ((below.0, each-append (λ family. AreApart (names_in d family)) (families l) (families r ++ families c) p.0 (each-append (λ family. AreApart (names_in d family)) (families r) (families c) q.0 below.1)), q.1)

-- the tree depends on the streams of its streams alone
pub tree_same : (d : Directory) (f g : ℕ → Stream) (t : Links) (rest : Children) → AllByRecursion (λ id. is_storage (d.entry id) ≡ false → f id ≡ g id) (ids t) → tree_of d f t rest ≡ tree_of d g t rest
tree_same d f g leaf rest same = refl
tree_same d f g (node id l r c) rest same =
    let tag : Tag = record { name = name_of (d.entry id); id = id; place = d.place id; class = (d.entry id).class } in
    let p = each-split (λ id. is_storage (d.entry id) ≡ false → f id ≡ g id) (ids l) (ids r ++ ids c) same.1 in
    let q = each-split (λ id. is_storage (d.entry id) ≡ false → f id ≡ g id) (ids r) (ids c) p.1 in
    let after : tree_of d f r rest ≡ tree_of d g r rest = tree_same d f g r rest q.0 in
    let top : top_of d f id c (tree_of d f r rest) ≡ top_of d g id c (tree_of d g r rest) = elim (cases_Bool (is_storage (d.entry id))) [
      | inl holds ↦ cond-true (is_storage (d.entry id)) _ _ holds ∙ (rw (tree_same d f g c none q.1, after) refl ∙ sym (cond-true (is_storage (d.entry id)) _ _ holds))
      | inr other ↦ cond-false (is_storage (d.entry id)) _ _ other ∙ (rw (same.0 other, after) refl ∙ sym (cond-false (is_storage (d.entry id)) _ _ other))
    ] in
    tree_same d f g l (top_of d f id c (tree_of d f r rest)) p.0 ∙ ap (tree_of d g l) top
