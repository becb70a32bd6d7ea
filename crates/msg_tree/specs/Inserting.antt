-- How an insertion into a store may end.
use Rattle.std.specs.Prelude.{◌≡◌, ℕ, List, Contains}
use Rattle.carrier_model.specs.FileTrees.{FileTree, file_names}
use Rattle.carrier_model.specs.Files.{folded}
use Rattle.msg_tree.specs.declared.stores.Member.{Member}
use Rattle.msg_tree.specs.declared.stores.MemberEnd.{MemberEnd}
use Rattle.msg_tree.specs.declared.stores.MemberEnd.TheVariants.{Duplicate, NoMemory}

-- a member has the name, ASCII letters in one case
abbrev pub HasName : FileTree → List ℕ → Type 0
HasName files name = (other : List ℕ) × Contains (file_names files) other × (folded other ≡ folded name)

-- a member was refused since its name is there, and is handed back; or there was no memory
abbrev pub IsMemberRefusal : {B : Type 0} → FileTree → List ℕ → Member B → MemberEnd B → Type 0
IsMemberRefusal files name member (Duplicate back) = (back ≡ member) × HasName files name
IsMemberRefusal files name member NoMemory = Unit {0}
