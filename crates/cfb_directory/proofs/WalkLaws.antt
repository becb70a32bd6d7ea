-- Steps of a walk with pending links.
use Rattle.std.proofs.Common.{◌≡◌, ℕ, suc, ◌<◌, ◌≤◌, List, [], ◌∷◌, ◌++◌, length, eqb, refl, sym, ◌∙◌, ap, arith, Ok, Err, Some, Result, inl, inr, reverse}
use Rattle.std.specs.List.{All}
use Rattle.std.proofs.lemmas.List.Elements.{All-pop, All-append, All-cons, All-nil}
use Rattle.std.proofs.lemmas.Bool.{ne_eqb, eq-eqb, cond-true, cases_eq}
use Rattle.std.proofs.lemmas.List.{append_assoc, append-nil, reverse-append}
use Rattle.carrier_model.specs.Trail.{Fault}
use Rattle.carrier_model.specs.Outcomes.{◌>>=◌, mapped}
use Rattle.carrier_model.specs.Entries.{Entry}
use Rattle.carrier_model.specs.Links.{Directory, Links, leaf, node, no_link, ids, visited, left_of, right_of, below_of, visit, links_of, below_depth}
use Rattle.carrier_model.proofs.VisitLaws.{body, visit-body, visit_whole}
use Rattle.carrier_io.specs.declared.reasons.Stop.{Stop}
use Rattle.carrier_io.specs.declared.reasons.Stop.TheVariants as stops
use Rattle.carrier_io.specs.Reads.{Fails}
use Rattle.cfb_directory.specs.declared.links.Link.{Link}
use Rattle.cfb_directory.specs.declared.links.Member.{Member}
use Rattle.cfb_directory.specs.declared.links.Pending.{Pending}
use Rattle.cfb_directory.specs.declared.links.Pending.TheVariants.{Visit, Place}
use Rattle.cfb_directory.specs.Walks.{Walked, placed, tour, link_of, walk_of, rust_left, rust_right, rust_below, pend, with_front, IsSafe}

-- two lists as what a walk gives
abbrev made : List Member → List ℕ → Result Walked Fault
made a v = Ok (record { order = a; visits = v })

same_walked : (a b : List Member) (v w : List ℕ) → a ≡ b → v ≡ w → made a v ≡ made b w
same_walked a b v w h k = rw (h, k) refl

-- two fronts make one
fronts : (xs ys : List Member) (vs ws : List ℕ) (r : Result Walked Fault) → with_front xs vs (with_front ys ws r) ≡ with_front (xs ++ ys) (vs ++ ws) r
fronts xs ys vs ws (Ok rest) = same_walked _ _ _ _ (sym (append_assoc xs ys rest.order)) (sym (append_assoc vs ws rest.visits))
fronts xs ys vs ws (Err f) = refl

-- an entry and what is under its links, grouped in two ways
regroup4 : (p x : ℕ) (l r c : Links) (rest : Result Walked Fault) → with_front (placed p (node x l r c)) (ids (node x l r c)) rest ≡ with_front [] (x ∷ []) (with_front (placed p l) (ids l) (with_front (record { parent = p; id = x } ∷ []) [] (with_front (placed p r) (ids r) (with_front (placed x c) (ids c) rest))))
regroup4 p x l r c (Err f) = refl
regroup4 p x l r c (Ok rest) = same_walked _ _ _ _
    (append_assoc (placed p l) (record { parent = p; id = x } ∷ (placed p r ++ placed x c)) rest.order ∙ ap (λ z. placed p l ++ record { parent = p; id = x } ∷ z) (append_assoc (placed p r) (placed x c) rest.order))
    (ap (λ z. x ∷ z) (append_assoc (ids l) (ids r ++ ids c) rest.visits ∙ ap (λ z. ids l ++ z) (append_assoc (ids r) (ids c) rest.visits)))

regroup3 : (p x : ℕ) (l r : Links) (vc : Result Links Fault) (pr pq : Links → Result Walked Fault) → ((c : Links) → pr (node x l r c) ≡ pq c) → ((vc >>= λ c. Ok (node x l r c)) >>= λ t. with_front (placed p t) (ids t) (pr t)) ≡ with_front [] (x ∷ []) (with_front (placed p l) (ids l) (with_front (record { parent = p; id = x } ∷ []) [] (with_front (placed p r) (ids r) (vc >>= λ c. with_front (placed x c) (ids c) (pq c)))))
regroup3 p x l r (Err f) pr pq same = refl
regroup3 p x l r (Ok c) pr pq same = ap (λ z. with_front (placed p (node x l r c)) (ids (node x l r c)) z) (same c) ∙ regroup4 p x l r c (pq c)

regroup2 : (p x : ℕ) (l : Links) (vr : Result Links Fault) (vc : Links → Result Links Fault) (pr : Links → Result Walked Fault) (pq : Links → Links → Result Walked Fault) → ((r c : Links) → pr (node x l r c) ≡ pq r c) → ((vr >>= λ r. vc r >>= λ c. Ok (node x l r c)) >>= λ t. with_front (placed p t) (ids t) (pr t)) ≡ with_front [] (x ∷ []) (with_front (placed p l) (ids l) (with_front (record { parent = p; id = x } ∷ []) [] (vr >>= λ r. with_front (placed p r) (ids r) (vc r >>= λ c. with_front (placed x c) (ids c) (pq r c)))))
regroup2 p x l (Err f) vc pr pq same = refl
regroup2 p x l (Ok r) vc pr pq same = regroup3 p x l r (vc r) pr (pq r) (same r)

regroup : (p x : ℕ) (vl : Result Links Fault) (vr : Links → Result Links Fault) (vc : Links → Links → Result Links Fault) (pr : Links → Result Walked Fault) (pq : Links → Links → Links → Result Walked Fault) → ((l r c : Links) → pr (node x l r c) ≡ pq l r c) → ((vl >>= λ l. vr l >>= λ r. vc l r >>= λ c. Ok (node x l r c)) >>= λ t. with_front (placed p t) (ids t) (pr t)) ≡ with_front [] (x ∷ []) (vl >>= λ l. with_front (placed p l) (ids l) (with_front (record { parent = p; id = x } ∷ []) [] (vr l >>= λ r. with_front (placed p r) (ids r) (vc l r >>= λ c. with_front (placed x c) (ids c) (pq l r c)))))
regroup p x (Err f) vr vc pr pq same = refl
regroup p x (Ok l) vr vc pr pq same = regroup2 p x l (vr l) (vc l) pr (pq l) (same l)

-- the last list of ids, in one grouping and the other
seen_same : (seen : List ℕ) (x : ℕ) (l r c : List ℕ) → seen ++ x ∷ (l ++ (r ++ c)) ≡ (((seen ++ x ∷ []) ++ l) ++ r) ++ c
seen_same seen x l r c = simp append_assoc

-- An entry is visited: its links and its place are pending in place of the link.
pub pend_visit : (d : Directory) (link : Link) (ps : List Pending) (seen : List ℕ) (e : Entry) → (link.target ≡ no_link → ⊥) → visited d (link_of link) seen ≡ Ok e → pend d (Visit link ∷ ps) seen ≡ with_front [] (link.target ∷ []) (pend d (Visit (rust_left link (d.entry link.target) (d.place link.target)) ∷ Place (record { parent = link.parent; id = link.target }) ∷ Visit (rust_right link (d.entry link.target) (d.place link.target)) ∷ Visit (rust_below link (d.entry link.target) (d.place link.target)) ∷ ps) (seen ++ link.target ∷ []))
unfolding pend body
pend_visit d link ps seen e other is =
    ap (λ z. z >>= λ t. with_front (placed link.parent t) (ids t) (pend d ps (seen ++ ids t))) (visit_whole d (link_of link) seen other)
    ∙ (ap (λ (z : Result Entry Fault). (z >>= λ e.
    visit (suc d.count) d (left_of d (link_of link)) (seen ++ link.target ∷ []) >>= λ l.
    visit (suc d.count) d (right_of d (link_of link)) ((seen ++ link.target ∷ []) ++ ids l) >>= λ r.
    visit (suc d.count) d (below_of d (link_of link)) (((seen ++ link.target ∷ []) ++ ids l) ++ ids r) >>= λ c.
    Ok (node link.target l r c)) >>= λ t. with_front (placed link.parent t) (ids t) (pend d ps (seen ++ ids t))) is
    ∙ regroup link.parent link.target
    (visit (suc d.count) d (left_of d (link_of link)) (seen ++ link.target ∷ []))
    (λ l. visit (suc d.count) d (right_of d (link_of link)) ((seen ++ link.target ∷ []) ++ ids l))
    (λ l r. visit (suc d.count) d (below_of d (link_of link)) (((seen ++ link.target ∷ []) ++ ids l) ++ ids r))
    (λ t. pend d ps (seen ++ ids t))
    (λ l r c. pend d ps ((((seen ++ link.target ∷ []) ++ ids l) ++ ids r) ++ ids c))
    (λ l r c. ap (pend d ps) (seen_same seen link.target (ids l) (ids r) (ids c))))

front_none : (r : Result Walked Fault) → with_front [] [] r ≡ r
front_none (Ok rest) = refl
front_none (Err f) = refl

pub pend_none : (d : Directory) (link : Link) (ps : List Pending) (seen : List ℕ) → link.target ≡ no_link → pend d (Visit link ∷ ps) seen ≡ pend d ps seen
unfolding pend
pend_none d link ps seen none =
    ap (λ z. z >>= λ t. with_front (placed link.parent t) (ids t) (pend d ps (seen ++ ids t))) (visit-body d.count d (link_of link) seen ∙ cond-true (eqb link.target no_link) (Ok leaf) _ (eq-eqb link.target no_link none))
    ∙ (front_none (pend d ps (seen ++ [])) ∙ ap (pend d ps) (append-nil seen))

pub pend_place : (d : Directory) (child : Member) (ps : List Pending) (seen : List ℕ) → pend d (Place child ∷ ps) seen ≡ with_front (child ∷ []) [] (pend d ps seen)
unfolding pend
pend_place d child ps seen = refl

pub pend_stop : (d : Directory) (link : Link) (ps : List Pending) (seen : List ℕ) (xs : List Member) (vs : List ℕ) (s : Stop) → (link.target ≡ no_link → ⊥) → Fails s (visited d (link_of link) seen) → Fails s (with_front xs vs (pend d (Visit link ∷ ps) seen))
unfolding pend body
pend_stop d link ps seen xs vs stops.NoMemory other h = tt
pend_stop d link ps seen xs vs (stops.Fault f) other h = rw (visit_whole d (link_of link) seen other, h) refl

rev_pop : (old new : List Pending) (x : Pending) → old ≡ new ++ x ∷ [] → reverse old ≡ x ∷ reverse new
rev_pop old new x is = rw is (reverse-append new (x ∷ []))

-- The steps of the loop. What the whole gives is what stands in order so far, and what the pending ones give.
pub place_step : (d : Directory) (w : Result Walked Fault) (xs : List Member) (vs now : List ℕ) (old new : List Pending) (child : Member) → w ≡ with_front xs vs (pend d (reverse old) now) → old ≡ new ++ Place child ∷ [] → w ≡ with_front (xs ++ child ∷ []) vs (pend d (reverse new) now)
place_step d w xs vs now old new child is popped =
    is ∙ (ap (λ ps. with_front xs vs (pend d ps now)) (rev_pop old new (Place child) popped) ∙ (ap (with_front xs vs) (pend_place d child (reverse new) now)
    ∙ (fronts xs (child ∷ []) vs [] (pend d (reverse new) now) ∙ ap (λ v. with_front (xs ++ child ∷ []) v (pend d (reverse new) now)) (append-nil vs))))

pub none_step : (d : Directory) (w : Result Walked Fault) (xs : List Member) (vs now : List ℕ) (old new : List Pending) (link : Link) → w ≡ with_front xs vs (pend d (reverse old) now) → old ≡ new ++ Visit link ∷ [] → link.target ≡ no_link → w ≡ with_front xs vs (pend d (reverse new) now)
none_step d w xs vs now old new link is popped none =
    is ∙ (ap (λ ps. with_front xs vs (pend d ps now)) (rev_pop old new (Visit link) popped) ∙ ap (with_front xs vs) (pend_none d link (reverse new) now none))

pub visit_step : (d : Directory) (w : Result Walked Fault) (xs : List Member) (vs seen : List ℕ) (old new put : List Pending) (link : Link) (e : Entry) (p : ℕ) → w ≡ with_front xs vs (pend d (reverse old) (seen ++ vs)) → old ≡ new ++ Visit link ∷ [] → (link.target ≡ no_link → ⊥) → visited d (link_of link) (seen ++ vs) ≡ Ok e → e ≡ d.entry link.target → p ≡ d.place link.target → put ≡ new ++ Visit (rust_below link e p) ∷ Visit (rust_right link e p) ∷ Place (record { parent = link.parent; id = link.target }) ∷ Visit (rust_left link e p) ∷ [] → w ≡ with_front xs (vs ++ link.target ∷ []) (pend d (reverse put) (seen ++ (vs ++ link.target ∷ [])))
visit_step d w xs vs seen old new put link e p is popped other here ee ep pushed =
    let same : put ≡ new ++ Visit (rust_below link (d.entry link.target) (d.place link.target)) ∷ Visit (rust_right link (d.entry link.target) (d.place link.target)) ∷ Place (record { parent = link.parent; id = link.target }) ∷ Visit (rust_left link (d.entry link.target) (d.place link.target)) ∷ [] = rw (ee, ep) at pushed in
    let here_now = (seen ++ vs) ++ link.target ∷ [] in
    is ∙ (ap (λ ps. with_front xs vs (pend d ps (seen ++ vs))) (rev_pop old new (Visit link) popped)
    ∙ (ap (with_front xs vs) (pend_visit d link (reverse new) (seen ++ vs) e other here ∙ ap (λ ps. with_front [] (link.target ∷ []) (pend d ps here_now)) (sym (ap reverse same ∙ reverse-append new _)))
    ∙ (fronts xs [] vs (link.target ∷ []) (pend d (reverse put) here_now)
    ∙ (ap (λ z. with_front z (vs ++ link.target ∷ []) (pend d (reverse put) here_now)) (append-nil xs)
    ∙ ap (λ s. with_front xs (vs ++ link.target ∷ []) (pend d (reverse put) s)) (append_assoc seen vs (link.target ∷ []))))))

pub stop_step : (d : Directory) (w : Result Walked Fault) (xs : List Member) (vs now : List ℕ) (old new : List Pending) (link : Link) (s : Stop) → w ≡ with_front xs vs (pend d (reverse old) now) → old ≡ new ++ Visit link ∷ [] → (link.target ≡ no_link → ⊥) → Fails s (visited d (link_of link) now) → Fails s w
stop_step d w xs vs now old new link s is popped other here =
    rw (is ∙ ap (λ ps. with_front xs vs (pend d ps now)) (rev_pop old new (Visit link) popped)) (pend_stop d link (reverse new) now xs vs s other here)

pub done_step : (d : Directory) (w : Result Walked Fault) (xs : List Member) (vs now : List ℕ) (old : List Pending) → w ≡ with_front xs vs (pend d (reverse old) now) → old ≡ [] → w ≡ Ok (record { order = xs; visits = vs })
unfolding pend
done_step d w xs vs now old is none = is ∙ (ap (λ ps. with_front xs vs (pend d (reverse ps) now)) none ∙ same_walked _ _ _ _ (append-nil xs) (append-nil vs))

pub safe_put : (n : ℕ) (old new put : List Pending) (link : Link) (e : Entry) (p : ℕ) → All (IsSafe n) old → old ≡ new ++ Visit link ∷ [] → link.target < n → (e.kind ≡ 1 → link.depth ≤ 100) → put ≡ new ++ Visit (rust_below link e p) ∷ Visit (rust_right link e p) ∷ Place (record { parent = link.parent; id = link.target }) ∷ Visit (rust_left link e p) ∷ [] → All (IsSafe n) put
safe_put n old new put link e p all popped inside shallow pushed =
    let parts = All-pop (IsSafe n) old new (Some (Visit link)) popped all in
    let top : (link.depth ≤ 101) × (link.parent < n) = parts.1 in
    let below : below_depth e link.depth ≤ 101 =
    elim (cases_eq e.kind 1) [
      | inl storage ↦ rw (eq-eqb e.kind 1 storage) (omega (arith, shallow storage))
      | inr other ↦ rw (ne_eqb e.kind 1 other) (omega arith)
    ] in
    let child : Member = record { parent = link.parent; id = link.target } in
    let one = Visit (rust_left link e p) ∷ [] in
    let two = Place child ∷ one in
    let three = Visit (rust_right link e p) ∷ two in
    rw pushed (All-append (IsSafe n) new (Visit (rust_below link e p) ∷ three) parts.0
    (All-cons (IsSafe n) (Visit (rust_below link e p)) three (below, inside)
    (All-cons (IsSafe n) (Visit (rust_right link e p)) two top
    (All-cons (IsSafe n) (Place child) one (top.1, inside)
    (All-cons (IsSafe n) (Visit (rust_left link e p)) [] top (All-nil (IsSafe n)))))))

pub none_left : (xs : List Pending) → length xs ≡ 0 → xs ≡ []
none_left [] h = refl
none_left (x ∷ xs) h = absurd (omega arith)

-- what the walk gives is what its first link gives, and nothing behind it
first_only : (d : Directory) (parent : ℕ) (seen : List ℕ) (r : Result Links Fault) → mapped (tour parent) r ≡ with_front [] [] (r >>= λ t. with_front (placed parent t) (ids t) (pend d [] (seen ++ ids t)))
unfolding pend
first_only d parent seen (Ok t) = same_walked _ _ _ _ (sym (append-nil (placed parent t))) (sym (append-nil (ids t)))
first_only d parent seen (Err g) = refl

pub walk_first : (d : Directory) (first : Link) (seen : List ℕ) → walk_of d first seen ≡ with_front [] [] (pend d (Visit first ∷ []) (seen ++ []))
unfolding pend
walk_first d first seen = first_only d first.parent seen (links_of d (link_of first) seen) ∙ ap (λ s. with_front [] [] (pend d (Visit first ∷ []) s)) (sym (append-nil seen))
