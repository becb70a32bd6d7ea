use Rattle.std.proofs.Common.{◌≡◌, ℕ, List, [], take, drop, map}
use Rattle.carrier_model.specs.Files.{family_names}
use Rattle.cfb_directory.specs.Named.{found, key_of, first_named}
use Rattle.cfb_directory.specs.Walks.{directory_of}
use Rattle.cfb_directory.proofs.names.index_children.Given as goal

abbrev pub invariant-loop-id : goal.invariant-loop-id
invariant-loop-id l = record {
  named : (q : List ℕ) → found l.index q ≡ first_named (key_of (directory_of l.sectors)) q (take l.id-index l.family);
  so_far : family_names (directory_of l.sectors) l.family [] ≡ family_names (directory_of l.sectors) (drop l.id-index l.family) (map (key_of (directory_of l.sectors)) (take l.id-index l.family));
}
