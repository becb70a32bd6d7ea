use Rattle.std.proofs.Common.{◌≡◌, ℕ, ◌<◌, List, [], None, vec_len}
use Rattle.cfb_directory.specs.Families.{family_at, index_at, names_at}
use Rattle.cfb_directory.proofs.families.no_families.Given as goal

abbrev pub invariant-loop-i : goal.invariant-loop-i
invariant-loop-i l = record {
  count : vec_len l.families ≡ l._i;
  children : (p : ℕ) → family_at l.families.items p ≡ [];
  names : (p : ℕ) (q : List ℕ) → p < l._i → index_at l.families.items p q ≡ None;
  spelled : (p : ℕ) → names_at l.families.items p ≡ [];
}
