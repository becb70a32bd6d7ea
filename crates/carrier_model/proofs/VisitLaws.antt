-- Visits of a directory's links.
use Rattle.std.proofs.Common.{◌≡◌, ℕ, zero, suc, ◌+◌, ◌<◌, ◌≤◌, List, [], ◌∷◌, ◌++◌, Bool, true, false, ◌||◌, cond, eqb, refl, sym, ◌∙◌, ap, arith, Ok, Err, Result, inl, inr}
use Rattle.std.proofs.lemmas.Bool.{ne_eqb, eq-eqb, eqb-true, cond-true, cond-false, cases_Bool, cases_eq, not-true, ltb-true, lt-ltb}
use Rattle.std.proofs.lemmas.List.{append_assoc, append-nil}
use Rattle.std.proofs.lemmas.List.Folds.{list_any-append}
use Rattle.carrier_model.specs.Trail.{Fault}
use Rattle.carrier_model.specs.Outcomes.{◌>>=◌, check}
use Rattle.carrier_model.specs.Reasons.{ENTRY_OUT_OF_RANGE, ENTRY_SHARED, BAD_ENTRY_TYPE, BAD_NAME, STORAGE_TOO_DEEP}
use Rattle.carrier_model.specs.Chains.{member}
use Rattle.carrier_model.specs.Entries.{Entry}
use Rattle.carrier_model.specs.Links.{Directory, Link, Links, leaf, node, no_link, ids, IsChild, Linked, AreNew, visited, left_of, right_of, below_of, visit}

-- how many numbers below n are not in the list
abbrev pub unseen : ℕ → List ℕ → ℕ
unseen zero seen = 0
unseen (suc n) seen = cond (member n seen) 0 1 + unseen n seen

member-append : (q : ℕ) (xs ys : List ℕ) → member q (xs ++ ys) ≡ (member q xs || member q ys)
member-append q xs ys = list_any-append (eqb q) xs ys

cond-or : (x y : Bool) → cond (x || y) 0 1 ≤ cond x 0 1
cond-or true y = omega arith
cond-or false true = omega arith
cond-or false false = omega arith

pub unseen-more : (n : ℕ) (seen more : List ℕ) → unseen n (seen ++ more) ≤ unseen n seen
unseen-more zero seen more = omega arith
unseen-more (suc n) seen more =
    rw (member-append n seen more) (omega (arith, cond-or (member n seen) (member n more), unseen-more n seen more))

pub unseen-less : (n x : ℕ) (seen more : List ℕ) → x < n → member x seen ≡ false → unseen n (seen ++ x ∷ more) < unseen n seen
unseen-less zero x seen more below fresh = absurd (omega arith)
unseen-less (suc n) x seen more below fresh =
    elim (cases_eq x n) [
      | inl same ↦ let fresh2 : member n seen ≡ false = rw same at fresh in rw (member-append n seen (x ∷ more), eq-eqb n x (sym same), fresh2) (omega (arith, unseen-more n seen (x ∷ more)))
      | inr other ↦ rw (member-append n seen (x ∷ more)) (omega (arith, cond-or (member n seen) (member n (x ∷ more)), unseen-less n x seen more (omega arith) fresh))
    ]

pub unseen-le : (n : ℕ) (seen : List ℕ) → unseen n seen ≤ n
unseen-le zero seen = omega arith
unseen-le (suc n) seen = omega (arith, cond_le (member n seen), unseen-le n seen)
  where
    cond_le : (b : Bool) → cond b 0 1 ≤ 1
    cond_le true = omega arith
    cond_le false = omega arith

bind_same : {A B : Type 0} (r : Result A Fault) (f g : A → Result B Fault) → ((a : A) → r ≡ Ok a → f a ≡ g a) → (r >>= f) ≡ (r >>= g)
bind_same (Ok a) f g h = h a refl
bind_same (Err e) f g h = refl

pub check_ok : {B : Type 0} (t : Bool) (r o : ℕ) (f : Unit {0} → Result B Fault) (y : B) → (check t r o >>= f) ≡ Ok y → (t ≡ true) × (f tt ≡ Ok y)
check_ok true r o f y h = (refl, h)
check_ok false r o f y h = absurd (cc)

-- what a visited entry is
pub visited-ok : (d : Directory) (link : Link) (seen : List ℕ) (e : Entry) → visited d link seen ≡ Ok e → (link.target < d.count) × (member link.target seen ≡ false) × IsChild (d.entry link.target) link.depth
unfolding visited
visited-ok d link seen e h =
    let a = check_ok _ ENTRY_OUT_OF_RANGE link.place _ e h in
    let b = check_ok _ ENTRY_SHARED link.place _ e a.1 in
    let c = check_ok _ BAD_ENTRY_TYPE _ _ e b.1 in
    let n = check_ok _ BAD_NAME _ _ e c.1 in
    let f = check_ok _ STORAGE_TOO_DEEP _ _ e n.1 in
    (ltb-true _ _ a.0, not-true _ b.0, record { typed = c.0; named = n.0; shallow = f.0 })

-- the entry, and what a function gives for its links
unfoldable pub body : (Link → List ℕ → Result Links Fault) → Directory → Link → List ℕ → Result Links Fault
body v d link seen =
    visited d link seen >>= λ e.
    v (left_of d link) (seen ++ link.target ∷ []) >>= λ l.
    v (right_of d link) ((seen ++ link.target ∷ []) ++ ids l) >>= λ r.
    v (below_of d link) (((seen ++ link.target ∷ []) ++ ids l) ++ ids r) >>= λ c.
    Ok (node link.target l r c)

pub visit-body : (k : ℕ) (d : Directory) (link : Link) (seen : List ℕ) → visit (suc k) d link seen ≡ cond (eqb link.target no_link) (Ok leaf) (body (visit k d) d link seen)
unfolding visit body
visit-body k d link seen = refl

body_same : (v w : Link → List ℕ → Result Links Fault) (d : Directory) (link : Link) (seen : List ℕ) → ((l : Link) (s : List ℕ) → unseen d.count s < unseen d.count seen → v l s ≡ w l s) → body v d link seen ≡ body w d link seen
unfolding body
body_same v w d link seen same =
    bind_same (visited d link seen) _ _ (λ e is.
    let here = visited-ok d link seen e is in
    let one : unseen d.count (seen ++ link.target ∷ []) < unseen d.count seen = unseen-less d.count link.target seen [] here.0 here.1 in
    rw (same (left_of d link) (seen ++ link.target ∷ []) one)
    (bind_same (w (left_of d link) (seen ++ link.target ∷ [])) _ _ (λ l il.
    let two : unseen d.count ((seen ++ link.target ∷ []) ++ ids l) < unseen d.count seen = omega (arith, unseen-more d.count (seen ++ link.target ∷ []) (ids l)) in
    rw (same (right_of d link) ((seen ++ link.target ∷ []) ++ ids l) two)
    (bind_same (w (right_of d link) ((seen ++ link.target ∷ []) ++ ids l)) _ _ (λ r ir.
    let three : unseen d.count (((seen ++ link.target ∷ []) ++ ids l) ++ ids r) < unseen d.count seen = omega (arith, unseen-more d.count ((seen ++ link.target ∷ []) ++ ids l) (ids r)) in
    rw (same (below_of d link) (((seen ++ link.target ∷ []) ++ ids l) ++ ids r) three) refl)))))

pub fuel_more : (k : ℕ) (d : Directory) (link : Link) (seen : List ℕ) → unseen d.count seen < k → visit (suc k) d link seen ≡ visit k d link seen
fuel_more zero d link seen enough = absurd (omega arith)
fuel_more (suc k) d link seen enough =
    visit-body (suc k) d link seen
    ∙ (ap (cond (eqb link.target no_link) (Ok leaf)) (body_same (visit (suc k) d) (visit k d) d link seen (λ l s fewer. fuel_more k d l s (omega arith)))
    ∙ sym (visit-body k d link seen))

pub visit_whole : (d : Directory) (link : Link) (seen : List ℕ) → (link.target ≡ no_link → ⊥) → visit (suc d.count) d link seen ≡ body (visit (suc d.count) d) d link seen
visit_whole d link seen other =
    visit-body d.count d link seen
    ∙ (cond-false (eqb link.target no_link) (Ok leaf) (body (visit d.count d) d link seen) (ne_eqb link.target no_link other)
    ∙ body_same (visit d.count d) (visit (suc d.count) d) d link seen (λ l s fewer. sym (fuel_more d.count d l s (omega (arith, unseen-le d.count seen)))))

pub bind_ok : {A B : Type 0} (r : Result A Fault) (f : A → Result B Fault) (y : B) → (r >>= f) ≡ Ok y → (x : A) × (r ≡ Ok x) × (f x ≡ Ok y)
bind_ok (Ok x) f y h = (x, refl, h)
bind_ok (Err e) f y h = absurd (cc)

ok_is : Links → Result Links Fault
ok_is t = Ok t

ok_links : (t u : Links) → ok_is t ≡ ok_is u → t ≡ u
unfolding ok_is
ok_links t u h = cc

pub AreNew-append : (seen xs ys : List ℕ) → AreNew seen xs → AreNew (seen ++ xs) ys → AreNew seen (xs ++ ys)
AreNew-append seen [] ys h k = rw append-nil at k
AreNew-append seen (x ∷ xs) ys h k = (h.0, AreNew-append (seen ++ x ∷ []) xs ys h.1 (rw (append_assoc seen (x ∷ []) xs) k))

pub AreNew-split : (seen xs ys : List ℕ) → AreNew seen (xs ++ ys) → AreNew seen xs × AreNew (seen ++ xs) ys
AreNew-split seen [] ys h = (tt, rw append-nil h)
AreNew-split seen (x ∷ xs) ys h =
    let parts = AreNew-split (seen ++ x ∷ []) xs ys h.1 in
    ((h.0, parts.0), rw (append_assoc seen (x ∷ []) xs) at parts.1)

-- What is visited is linked there, and its ids are new.
pub visit-sound : (k : ℕ) (d : Directory) (link : Link) (seen : List ℕ) (t : Links) → unseen d.count seen < k → visit k d link seen ≡ Ok t → Linked d link.depth link.target t × AreNew seen (ids t)
unfolding body ok_is
visit-sound zero d link seen t enough is = absurd (omega arith)
visit-sound (suc k) d link seen t enough is =
    elim (cases_Bool (eqb link.target no_link)) [
      | inl none ↦
          let e : ok_is leaf ≡ ok_is t = sym (visit-body k d link seen ∙ cond-true (eqb link.target no_link) (Ok leaf) _ none) ∙ is in
          rw (← ok_links leaf t e) (eqb-true _ _ none, tt)
      | inr other ↦
          let b : body (visit k d) d link seen ≡ Ok t = sym (visit-body k d link seen ∙ cond-false (eqb link.target no_link) (Ok leaf) _ other) ∙ is in
          let p = bind_ok (visited d link seen) _ t b in
          let here = visited-ok d link seen p.0 p.1 in
          let s1 = seen ++ link.target ∷ [] in
          let one : unseen d.count s1 < unseen d.count seen = unseen-less d.count link.target seen [] here.0 here.1 in
          let pl = bind_ok (visit k d (left_of d link) s1) _ t p.2 in
          let l = visit-sound k d (left_of d link) s1 pl.0 (omega arith) pl.1 in
          let pr = bind_ok (visit k d (right_of d link) (s1 ++ ids pl.0)) _ t pl.2 in
          let r = visit-sound k d (right_of d link) (s1 ++ ids pl.0) pr.0 (omega (arith, unseen-more d.count s1 (ids pl.0))) pr.1 in
          let pc = bind_ok (visit k d (below_of d link) ((s1 ++ ids pl.0) ++ ids pr.0)) _ t pr.2 in
          let c = visit-sound k d (below_of d link) ((s1 ++ ids pl.0) ++ ids pr.0) pc.0 (omega (arith, unseen-more d.count s1 (ids pl.0), unseen-more d.count (s1 ++ ids pl.0) (ids pr.0))) pc.1 in
          let same : node link.target pl.0 pr.0 pc.0 ≡ t = ok_links _ t pc.2 in
          rw (← same) ((refl, here.0, here.2, l.0, r.0, c.0), (here.1, AreNew-append s1 (ids pl.0) (ids pr.0 ++ ids pc.0) l.1 (AreNew-append (s1 ++ ids pl.0) (ids pr.0) (ids pc.0) r.1 c.1)))
    ]

pub visited-from : (d : Directory) (link : Link) (seen : List ℕ) → link.target < d.count → member link.target seen ≡ false → IsChild (d.entry link.target) link.depth → visited d link seen ≡ Ok (d.entry link.target)
unfolding visited
visited-from d link seen here fresh child = rw (lt-ltb link.target d.count here, fresh, child.typed, child.named, child.shallow) refl

-- What is linked there with new ids is visited.
pub visit-only : (k : ℕ) (d : Directory) (link : Link) (seen : List ℕ) (t : Links) → d.count ≤ no_link → unseen d.count seen < k → Linked d link.depth link.target t → AreNew seen (ids t) → visit k d link seen ≡ Ok t
unfolding body
visit-only zero d link seen t few enough linked new = absurd (omega arith)
visit-only (suc k) d link seen leaf few enough linked new = visit-body k d link seen ∙ cond-true (eqb link.target no_link) (Ok leaf) _ (eq-eqb link.target no_link linked)
visit-only (suc k) d link seen (node id l r c) few enough linked new =
    let inside : link.target < d.count = rw linked.0 linked.1 in
    let child : IsChild (d.entry link.target) link.depth = rw linked.0 linked.2 in
    let fresh : member link.target seen ≡ false = rw linked.0 new.0 in
    let s1 = seen ++ link.target ∷ [] in
    let one : unseen d.count s1 < unseen d.count seen = unseen-less d.count link.target seen [] inside fresh in
    let rest : AreNew s1 (ids l ++ (ids r ++ ids c)) = rw linked.0 new.1 in
    let nl = AreNew-split s1 (ids l) (ids r ++ ids c) rest in
    let nr = AreNew-split (s1 ++ ids l) (ids r) (ids c) nl.1 in
    let vl = visit-only k d (left_of d link) s1 l few (omega arith) (rw linked.0 linked.3) nl.0 in
    let vr = visit-only k d (right_of d link) (s1 ++ ids l) r few (omega (arith, unseen-more d.count s1 (ids l))) (rw linked.0 linked.4) nr.0 in
    let vc = visit-only k d (below_of d link) ((s1 ++ ids l) ++ ids r) c few (omega (arith, unseen-more d.count s1 (ids l), unseen-more d.count (s1 ++ ids l) (ids r))) (rw linked.0 linked.5) nr.1 in
    let entry = visited-from d link seen inside fresh child in
    let other : eqb link.target no_link ≡ false = ne_eqb link.target no_link (λ q. absurd (omega arith)) in
    visit-body k d link seen
    ∙ (cond-false (eqb link.target no_link) (Ok leaf) _ other
    ∙ rw (entry, vl, vr, vc, linked.0) refl)
