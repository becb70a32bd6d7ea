-- The file of a list that is a store.
use Rattle.std.proofs.Common.{◌≡◌, ◌∙◌, ap, subst, ℕ, List, [], ◌∷◌, Result}
use Rattle.std.specs.Prelude.{IfOk, IfErr}
use Rattle.carrier_io.specs.declared.failures.PlanEnd.{PlanEnd}
use Rattle.carrier_model.specs.FileTrees.{FileTree, Store}
use Rattle.carrier_model.specs.Layout.{layout, MESSAGE_CLASS}
use Rattle.carrier_model.specs.Stores.{store_bytes}
use Rattle.cfb_list.specs.Grown.{grown}
use Rattle.cfb_list.specs.Listed.{Listed, tree_of}
use Rattle.cfb_writer.specs.PlanEnds.{IsEndOf}
use Rattle.cfb_writer.specs.Planned.{layout_of}

-- the two laws
abbrev pub AreTrees : Type 0
AreTrees = (files : FileTree) → tree_of (grown ([] ∷ []) 0 files) ≡ files

abbrev pub AreSame : Type 0
AreSame = (z : ℕ) (class : List ℕ) (files : FileTree) → layout_of z class files ≡ layout z class files

-- an empty list that is given the class of a store, and then its members
pub file_is : AreTrees → AreSame → (s : Store) (empty classed all : Listed) (class : List ℕ) → empty ≡ record { root_class = MESSAGE_CLASS; storages = [] ∷ [] } → class ≡ s.class → classed ≡ record empty { root_class = class } → all ≡ record classed { storages = grown classed.storages 0 s.members }
    → layout_of 512 all.root_class (tree_of all.storages) ≡ store_bytes s
file_is trees same s empty classed all class a b c d =
    let root : all.root_class ≡ s.class = ap (λ (l : Listed). l.root_class) d ∙ ap (λ (l : Listed). l.root_class) c ∙ b in
    let begun : classed.storages ≡ [] ∷ [] = ap (λ (l : Listed). l.storages) c ∙ ap (λ (l : Listed). l.storages) a in
    let tree : tree_of all.storages ≡ s.members = ap (λ (l : Listed). tree_of l.storages) d ∙ ap (λ x. tree_of (grown x 0 s.members)) begun ∙ trees s.members in
    (λ i. layout_of 512 (root i) (tree i)) ∙ same 512 s.class s.members

pub plan_as : (r : Result (List ℕ) PlanEnd) (x y : List ℕ) → x ≡ y → IfOk r (λ p. p ≡ x) → IfOk r (λ p. p ≡ y)
plan_as r x y e h = subst (λ (z : List ℕ). IfOk r (λ p. p ≡ z)) e h

pub end_as : (r : Result (List ℕ) PlanEnd) (x y : List ℕ) → x ≡ y → IfErr r (IsEndOf x) → IfErr r (IsEndOf y)
end_as r x y e h = subst (λ (z : List ℕ). IfErr r (IsEndOf z)) e h
