-- Siblings in their order.
use Rattle.std.specs.Prelude.{Bool, List, [], ◌∷◌, cond}
use Rattle.std.specs.Ordering.{is_lt}
use Rattle.carrier_model.specs.FileTrees.{sibling_cmp}
use Rattle.cfb_list.specs.Listed.{Child, name_of}

-- an element in its place among sorted ones, before those that are not below it
abbrev pub placed : {X : Type 0} → (X → X → Bool) → X → List X → List X
placed lt x [] = x ∷ []
placed lt x (y ∷ ys) = cond (lt y x) (y ∷ placed lt x ys) (x ∷ y ∷ ys)

-- sorted by a test; those that tie keep their order
abbrev pub in_order : {X : Type 0} → (X → X → Bool) → List X → List X
in_order lt [] = []
in_order lt (x ∷ xs) = placed lt x (in_order lt xs)

abbrev pub comes_before : Child → Child → Bool
comes_before x y = is_lt (sibling_cmp (name_of x) (name_of y))

-- siblings in their order
abbrev pub siblings_in_order : List Child → List Child
siblings_in_order = in_order comes_before
