-- Children of entries, by number.
use Rattle.std.proofs.Common.{◌≡◌, ℕ, suc, ◌+◌, ◌<◌, ◌≤◌, add-one, List, [], ◌∷◌, ◌++◌, length, get_or, set, take, drop, map, true, cond, eqb, refl, sym, ◌∙◌, ap, subst, None, Option, Ok, Result, inl, inr}
use Rattle.std.proofs.lemmas.Bool.{cases_Bool, cases_eq, eq-eqb, ne_eqb, eqb-true}
use Rattle.std.proofs.Math.Seq.{take-suc, drop-cons, map-set_same}
use Rattle.std.proofs.Math.ListN.{length-map}
use Rattle.std.proofs.Common.{get_or-set_same, get_or-set_other}
use Rattle.std.proofs.lemmas.List.{map-set, drop_all, get_or-map}
use Rattle.std.proofs.lemmas.List.Folds.{list_any-append}
use Rattle.carrier_model.specs.Trail.{Fault}
use Rattle.carrier_model.specs.Outcomes.{◌>>=◌}
use Rattle.carrier_model.specs.Chains.{member}
use Rattle.carrier_model.specs.Links.{Directory}
use Rattle.carrier_model.specs.Files.{family_names, names_of as test_of}
use Rattle.carrier_io.specs.declared.reasons.Stop.{Stop}
use Rattle.carrier_io.specs.declared.reasons.Stop.TheVariants as stops
use Rattle.carrier_io.specs.Reads.{Fails}
use Rattle.cfb_directory.specs.Named.{first_named}
use Rattle.cfb_directory.specs.Families.{kids_of, index_of, names_of, family_at, index_at, names_at, children_in}
use Rattle.cfb_directory.specs.declared.family.Family.{Family}
use Rattle.cfb_directory.specs.declared.links.Member.{Member}

-- a list that is seen through a function, after one of its elements is set
pub seen-set : {A B : Type 0} (g : A → B) (xs : List A) (i : ℕ) (x : A) (p : ℕ) (d : B) → i < length xs → get_or (map g (set xs i x)) p d ≡ cond (eqb i p) (g x) (get_or (map g xs) p d)
seen-set g xs i x p d below =
    let inside : i < length (map g xs) = rw length-map below in
    elim (cases_eq i p) [
      | inl same ↦ rw (map-set g xs i x, eq-eqb i p same) (subst (λ k. get_or (set (map g xs) i (g x)) k d ≡ g x) same (get_or-set_same (map g xs) i (g x) d inside))
      | inr other ↦ rw (map-set g xs i x, ne_eqb i p other) (get_or-set_other (map g xs) i p (g x) d (λ e. other (sym e)))
    ]

pub children-push : (p : ℕ) (cs : List Member) (c : Member) → children_in p (cs ++ c ∷ []) ≡ cond (eqb c.parent p) (children_in p cs ++ c.id ∷ []) (children_in p cs)
children-push p [] c = refl
children-push p (b ∷ cs) c =
    elim (cases_Bool (eqb b.parent p)) [
      | inl same ↦ rw (same, children-push p cs c) (elim (cases_Bool (eqb c.parent p)) [ inl a ↦ rw a refl | inr a ↦ rw a refl ])
      | inr other ↦ rw (other, children-push p cs c) refl
    ]

-- one more child in its storage
pub family_more : (families : List Family) (order : List Member) (i : ℕ) (c : Member) (f : Family) (d : Member) → i < length order → c ≡ get_or order i d → c.parent < length families → ((p : ℕ) → family_at families p ≡ children_in p (take i order)) → kids_of f ≡ family_at families c.parent ++ c.id ∷ [] → (p : ℕ) → family_at (set families c.parent f) p ≡ children_in p (take (i + 1) order)
family_more families order i c f d below is inside before put p =
    seen-set kids_of families c.parent f p [] inside
    ∙ (ap (λ l. cond (eqb c.parent p) l (family_at families p)) (put ∙ ap (λ l. l ++ c.id ∷ []) (before c.parent))
    ∙ (ap (λ l. cond (eqb c.parent p) (children_in c.parent (take i order) ++ c.id ∷ []) l) (before p)
    ∙ (at_parent
    ∙ (sym (children-push p (take i order) c)
    ∙ ap (children_in p) (sym (rw (add-one, take-suc order i d below) (ap (λ e. take i order ++ e ∷ []) (sym is))))))))
  where
    at_parent : cond (eqb c.parent p) (children_in c.parent (take i order) ++ c.id ∷ []) (children_in p (take i order)) ≡ cond (eqb c.parent p) (children_in p (take i order) ++ c.id ∷ []) (children_in p (take i order))
    at_parent =
        elim (cases_Bool (eqb c.parent p)) [
          | inl same ↦ rw (eqb-true c.parent p same) refl
          | inr other ↦ rw other refl
        ]

-- the names stay
pub spelled_same : (families : List Family) (i : ℕ) (f g : Family) → g ≡ get_or families i g → names_of f ≡ names_of g → (p : ℕ) → names_at (set families i f) p ≡ names_at families p
spelled_same families i f g is same p = ap (λ (l : List (List (List ℕ))). get_or l p []) (map-set_same names_of families i f g (same ∙ ap names_of is))

-- the children stay
pub family_same : (families : List Family) (i : ℕ) (f g : Family) → g ≡ get_or families i g → kids_of f ≡ kids_of g → (p : ℕ) → family_at (set families i f) p ≡ family_at families p
family_same families i f g is same p = ap (λ (l : List (List ℕ)). get_or l p []) (map-set_same kids_of families i f g (same ∙ ap kids_of is))

index_set : (families : List Family) (i : ℕ) (f : Family) (p : ℕ) (q : List ℕ) → i < length families → index_at (set families i f) p q ≡ cond (eqb i p) (index_of f q) (index_at families p q)
index_set families i f p q inside =
    ap (λ (h : List ℕ → Option ℕ). h q) (seen-set index_of families i f p (λ _. None) inside)
    ∙ elim (cases_Bool (eqb i p)) [ inl a ↦ rw a refl | inr a ↦ rw a refl ]

-- the indexes stay
pub index_same : (families : List Family) (i : ℕ) (f g : Family) → i < length families → g ≡ get_or families i g → ((q : List ℕ) → index_of f q ≡ index_of g q) → (p : ℕ) (q : List ℕ) → index_at (set families i f) p q ≡ index_at families p q
index_same families i f g inside is same p q =
    index_set families i f p q inside
    ∙ elim (cases_eq i p) [
      | inl here ↦ rw (eq-eqb i p here) (same q ∙ (ap (λ h. index_of h q) is ∙ (ap (λ (h : List ℕ → Option ℕ). h q) (sym (get_or-map index_of families i g (λ _. None) inside)) ∙ ap (λ k. index_at families k q) here)))
      | inr other ↦ rw (ne_eqb i p other) refl
    ]

member-behind : (p x : ℕ) (xs : List ℕ) → member p (xs ++ x ∷ []) ≡ cond (eqb p x) true (member p xs)
member-behind p x xs =
    list_any-append (eqb p) xs (x ∷ []) ∙ elim (cases_Bool (eqb p x)) [
      | inl a ↦ rw a (elim (cases_Bool (member p xs)) [ inl b ↦ rw b refl | inr b ↦ rw b refl ])
      | inr a ↦ rw a (elim (cases_Bool (member p xs)) [ inl b ↦ rw b refl | inr b ↦ rw b refl ])
    ]

-- one more entry whose children are indexed
pub index_more : (key : ℕ → List ℕ) (fam : ℕ → List ℕ) (families : List Family) (visits : List ℕ) (i : ℕ) (f : Family) → i < length visits → get_or visits i 0 < length families → ((q : List ℕ) → index_of f q ≡ first_named key q (fam (get_or visits i 0))) → (p : ℕ) (q : List ℕ) → index_at families p q ≡ first_named key q (cond (member p (take i visits)) (fam p) []) → index_at (set families (get_or visits i 0) f) p q ≡ first_named key q (cond (member p (take (i + 1) visits)) (fam p) [])
index_more key fam families visits i f below inside here p q before =
    let x = get_or visits i 0 in
    index_set families x f p q inside
    ∙ (both x (elim (cases_eq x p) [
      | inl same ↦ rw (eq-eqb x p same, eq-eqb p x (sym same)) (subst (λ k. index_of f q ≡ first_named key q (fam k)) same (here q))
      | inr other ↦ rw (ne_eqb x p other, ne_eqb p x (λ e. other (sym e))) before
    ])
    ∙ ap (λ l. first_named key q (cond (member p l) (fam p) [])) (sym (rw (add-one, take-suc visits i 0 below) refl)))
  where
    both : (x : ℕ) → cond (eqb x p) (index_of f q) (index_at families p q) ≡ first_named key q (cond (cond (eqb p x) true (member p (take i visits))) (fam p) []) → cond (eqb x p) (index_of f q) (index_at families p q) ≡ first_named key q (cond (member p (take i visits ++ x ∷ [])) (fam p) [])
    both x h = rw (member-behind p x (take i visits)) h

-- and whose children's names are kept
pub spelled_more : (name : ℕ → List ℕ) (fam : ℕ → List ℕ) (families : List Family) (visits : List ℕ) (i : ℕ) (f : Family) → i < length visits → get_or visits i 0 < length families → names_of f ≡ map name (fam (get_or visits i 0)) → (p : ℕ) → names_at families p ≡ map name (cond (member p (take i visits)) (fam p) []) → names_at (set families (get_or visits i 0) f) p ≡ map name (cond (member p (take (i + 1) visits)) (fam p) [])
spelled_more name fam families visits i f below inside here p before =
    let x = get_or visits i 0 in
    seen-set names_of families x f p [] inside
    ∙ (both x (elim (cases_eq x p) [
      | inl same ↦ rw (eq-eqb x p same, eq-eqb p x (sym same)) (subst (λ k. names_of f ≡ map name (fam k)) same here)
      | inr other ↦ rw (ne_eqb x p other, ne_eqb p x (λ e. other (sym e))) before
    ])
    ∙ ap (λ l. map name (cond (member p l) (fam p) [])) (sym (rw (add-one, take-suc visits i 0 below) refl)))
  where
    both : (x : ℕ) → cond (eqb x p) (names_of f) (names_at families p) ≡ map name (cond (cond (eqb p x) true (member p (take i visits))) (fam p) []) → cond (eqb x p) (names_of f) (names_at families p) ≡ map name (cond (member p (take i visits ++ x ∷ [])) (fam p) [])
    both x h = rw (member-behind p x (take i visits)) h

-- The steps of the test of all storages.
pub names_step : (d : Directory) (fam : ℕ → List ℕ) (visits : List ℕ) (i : ℕ) (w : Result (Unit {0}) Fault) → i < length visits → w ≡ test_of d (map fam (drop i visits)) → family_names d (fam (get_or visits i 0)) [] ≡ Ok tt → w ≡ test_of d (map fam (drop (i + 1) visits))
unfolding test_of
names_step d fam visits i w below is here =
    is ∙ (ap (λ l. test_of d (map fam l)) (drop-cons visits i 0 below) ∙ (ap (λ r. r >>= λ _. test_of d (map fam (drop (suc i) visits))) here ∙ ap (λ k. test_of d (map fam (drop k visits))) (sym (add-one i))))

pub names_stop : (d : Directory) (fam : ℕ → List ℕ) (visits : List ℕ) (i : ℕ) (w : Result (Unit {0}) Fault) (s : Stop) → i < length visits → w ≡ test_of d (map fam (drop i visits)) → Fails s (family_names d (fam (get_or visits i 0)) []) → Fails s w
unfolding test_of
names_stop d fam visits i w stops.NoMemory below is h = tt
names_stop d fam visits i w (stops.Fault g) below is h = is ∙ (ap (λ l. test_of d (map fam l)) (drop-cons visits i 0 below) ∙ rw h refl)

pub names_done : (d : Directory) (fam : ℕ → List ℕ) (visits : List ℕ) (i : ℕ) (w : Result (Unit {0}) Fault) → length visits ≤ i → w ≡ test_of d (map fam (drop i visits)) → w ≡ Ok tt
unfolding test_of
names_done d fam visits i w over is = is ∙ ap (λ l. test_of d (map fam l)) (drop_all i visits over)
