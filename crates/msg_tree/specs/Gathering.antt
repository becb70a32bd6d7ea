-- Members that come in any order.
use Rattle.std.specs.Prelude.{ℕ, List, [], ◌∷◌, map}
use Rattle.carrier_model.specs.FileTrees.{FileTree, no_file, Named, with_member}
use Rattle.msg_tree.specs.StoreMeaning.{entry_of}
use Rattle.msg_tree.specs.declared.store_members.Members.{Members}

-- the members as they came
abbrev pub gathered : {B : Type 0} → (B → List ℕ) → Members B → List Named
gathered bytes_of m = map (entry_of bytes_of) m.entries.items

-- members in the order of siblings; those whose names are equal by it stay as they came
abbrev pub in_order : List Named → FileTree
in_order [] = no_file
in_order (x ∷ xs) = with_member x.0 x.1 (in_order xs)
