-- The outline of a directory, from its parts.
use Rattle.std.proofs.Common.{◌≡◌, ℕ, suc, ◌+◌, ◌<◌, List, [], ◌∷◌, length, map, Bool, true, false, cond, refl, sym, ◌∙◌, ap, subst, arith, Ok, inl, inr}
use Rattle.std.proofs.Common.{set, get_or-set_same, get_or-set_other}
use Rattle.std.specs.Prelude.{replicate}
use Rattle.std.proofs.Math.ListN.{length-set, length-replicate}
use Rattle.std.proofs.lemmas.List.{get_or-replicate}
use Rattle.std.proofs.lemmas.Bool.{cases_Bool, cases_eq, eq-eqb, ne_eqb}
use Rattle.carrier_model.specs.Entries.{Entry}
use Rattle.carrier_model.specs.Marks.{Marks}
use Rattle.carrier_model.specs.Chains.{member}
use Rattle.carrier_model.specs.Files.{first_link, all_families, names_of}
use Rattle.carrier_model.specs.Links.{Directory, Links, ids, siblings, Linked, AreNew, links_of}
use Rattle.carrier_model.proofs.VisitLaws.{visit-sound, unseen-le}
use Rattle.carrier_io.specs.declared.reasons.Stop.{Stop}
use Rattle.carrier_io.specs.declared.reasons.Stop.TheVariants as stops
use Rattle.carrier_io.specs.Reads.{Fails}
use Rattle.cfb_directory.specs.Families.{children_in}
use Rattle.cfb_directory.specs.Outlines.{linked_of}
use Rattle.cfb_directory.specs.Walks.{Walked, placed, tour, link_of, walk_of}
use Rattle.cfb_directory.specs.declared.links.Link as rust
use Rattle.cfb_directory.proofs.ClaimSteps.{mapped_is}
use Rattle.cfb_directory.proofs.KidLaws.{children-none, children-own, has_kids, families_are, self, clear}
use Rattle.cfb_directory.proofs.TreeLaws.{HasKids}

pub outline_links : (d : Directory) (t : Links) → links_of d (first_link d) (0 ∷ []) ≡ Ok t → Linked d 1 (d.entry 0).child t × AreNew (0 ∷ []) (ids t)
outline_links d t is = visit-sound (suc d.count) d (first_link d) (0 ∷ []) t (omega (arith, unseen-le d.count (0 ∷ []))) is

pub outline_own : (fam : ℕ → List ℕ) (t : Links) → AreNew (0 ∷ []) (ids t) → ((p : ℕ) → fam p ≡ children_in p (placed 0 t)) → fam 0 ≡ siblings t
outline_own fam t new same = same 0 ∙ children-own 0 t (clear (0 ∷ []) (ids t) 0 new (self 0 []))

pub outline_kids : (fam : ℕ → List ℕ) (t : Links) → AreNew (0 ∷ []) (ids t) → ((p : ℕ) → fam p ≡ children_in p (placed 0 t)) → HasKids fam t
outline_kids fam t new same = has_kids fam 0 (0 ∷ []) t new (self 0 []) (λ q there. same q)

pub outline_families : (fam : ℕ → List ℕ) (t : Links) → AreNew (0 ∷ []) (ids t) → ((p : ℕ) → fam p ≡ children_in p (placed 0 t)) → map fam (0 ∷ ids t) ≡ all_families t
outline_families fam t new same = rw (outline_own fam t new same, families_are fam t (outline_kids fam t new same)) refl

-- an entry that was not visited has no children
pub outline_others : (fam : ℕ → List ℕ) (t : Links) (p : ℕ) → ((p : ℕ) → fam p ≡ children_in p (placed 0 t)) → member p (0 ∷ ids t) ≡ false → fam p ≡ []
outline_others fam t p same absent = same p ∙ children-none p 0 t absent

pub outline_known : (fam : ℕ → List ℕ) (t : Links) (p : ℕ) → ((p : ℕ) → fam p ≡ children_in p (placed 0 t)) → cond (member p (0 ∷ ids t)) (fam p) [] ≡ fam p
outline_known fam t p same =
    elim (cases_Bool (member p (0 ∷ ids t))) [
      | inl there ↦ rw there refl
      | inr absent ↦ rw absent (sym (outline_others fam t p same absent))
    ]

-- what stops the walk, or the test of the names, stops the whole
pub walk_stops : (d : Directory) (e : Stop) → Fails e (links_of d (first_link d) (0 ∷ [])) → Fails e (linked_of d)
walk_stops d stops.NoMemory h = tt
walk_stops d (stops.Fault g) h = rw h refl

pub names_stop : (d : Directory) (e : Stop) (t : Links) → links_of d (first_link d) (0 ∷ []) ≡ Ok t → Fails e (names_of d (all_families t)) → Fails e (linked_of d)
names_stop d stops.NoMemory t is h = tt
names_stop d (stops.Fault g) t is h = rw (is, h) refl

-- the marks of the root alone
pub root_marks : (n : ℕ) (m : List Bool) → m ≡ set (replicate n false) 0 true → Marks m (0 ∷ [])
root_marks n m is k below =
    let inside : k < length (set (replicate n false) 0 true) = rw (← is) below in
    let small : k < length (replicate n false) = rw (← length-set (replicate n false) 0 true) inside in
    rw is (elim (cases_eq k 0) [
      | inl same ↦ rw (same, eq-eqb 0 0 refl) (get_or-set_same (replicate n false) 0 true false (subst (λ j. j < length (replicate n false)) same small))
      | inr other ↦ rw (ne_eqb k 0 other) (get_or-set_other (replicate n false) 0 k true false other ∙ get_or-replicate n k false false (rw (← length-replicate n false) small))
    ])

pub link_is : (d : Directory) (first : rust.Link) (e : Entry) (p : ℕ) → e ≡ d.entry 0 → p ≡ d.place 0 → first.target ≡ e.child → first.place ≡ p + 76 → first.depth ≡ 1 → link_of first ≡ first_link d
link_is d first e p ee ep a b s = rw (a, b, s, ee, ep) refl

-- what a walk from the root gives
pub outline_tree : (d : Directory) (first : rust.Link) (w : Walked) → link_of first ≡ first_link d → first.parent ≡ 0 → walk_of d first (0 ∷ []) ≡ Ok w → (t : Links) × (links_of d (first_link d) (0 ∷ []) ≡ Ok t) × (w.order ≡ placed 0 t) × (w.visits ≡ ids t)
outline_tree d first w same root is =
    let found = mapped_is (tour first.parent) (links_of d (link_of first) (0 ∷ [])) w is in
    (found.0, rw (← same) found.1, ap (λ (v : Walked). v.order) found.2 ∙ ap (λ p. placed p found.0) root, ap (λ (v : Walked). v.visits) found.2)

pub root_length : (n : ℕ) (m : List Bool) → m ≡ set (replicate n false) 0 true → length m ≡ n
root_length n m is = ap length is ∙ (length-set (replicate n false) 0 true ∙ length-replicate n false)
