use Rattle.std.proofs.Common.{◌≡◌, ℕ, ◌<◌, List, [], vec_len, take, drop, map, cond}
use Rattle.carrier_model.specs.Chains.{member}
use Rattle.carrier_model.specs.Files.{names_of}
use Rattle.cfb_sectors.specs.States.{entries}
use Rattle.cfb_directory.specs.Named.{key_of, first_named, name_at}
use Rattle.cfb_directory.specs.Walks.{directory_of}
use Rattle.cfb_directory.specs.Families.{family_at, index_at, names_at}
use Rattle.cfb_directory.proofs.families.index_families.Given as goal

abbrev pub invariant-loop-id : goal.invariant-loop-id
invariant-loop-id l = record {
  count : vec_len l.families ≡ vec_len l.initial.families;
  children : (p : ℕ) → family_at l.families.items p ≡ family_at l.initial.families.items p;
  named : (p : ℕ) (q : List ℕ) → p < entries l.sectors → index_at l.families.items p q ≡ first_named (key_of (directory_of l.sectors)) q (cond (member p (take l.id-index l.visits)) (family_at l.initial.families.items p) []);
  spelled : (p : ℕ) → p < entries l.sectors → names_at l.families.items p ≡ map (name_at (directory_of l.sectors)) (cond (member p (take l.id-index l.visits)) (family_at l.initial.families.items p) []);
  so_far : names_of (directory_of l.sectors) (map (family_at l.initial.families.items) l.visits) ≡ names_of (directory_of l.sectors) (map (family_at l.initial.families.items) (drop l.id-index l.visits));
}
