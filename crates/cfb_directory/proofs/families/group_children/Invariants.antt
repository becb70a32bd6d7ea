use Rattle.std.proofs.Common.{◌≡◌, ℕ, ◌<◌, List, [], None, vec_len, take}
use Rattle.cfb_directory.specs.Families.{family_at, index_at, names_at, children_in}
use Rattle.cfb_directory.proofs.families.group_children.Given as goal

abbrev pub invariant-loop-child : goal.invariant-loop-child
invariant-loop-child l = record {
  count : vec_len l.families ≡ l.count;
  children : (p : ℕ) → family_at l.families.items p ≡ children_in p (take l.child-index l.order);
  names : (p : ℕ) (q : List ℕ) → p < l.count → index_at l.families.items p q ≡ None;
  spelled : (p : ℕ) → names_at l.families.items p ≡ [];
}
