use Rattle.std.proofs.Common.{◌≡◌, ℕ, ◌+◌, ◌≤◌, ◌<◌, List, filter, vec_len}
use Rattle.std.specs.List.{range_with_len, All}
use Rattle.carrier_model.specs.Marks.{Marks, unmarked}
use Rattle.cfb_sectors.specs.States.{entries}
use Rattle.cfb_directory.specs.Nodes.{is_wanted, claims_in}
use Rattle.cfb_directory.specs.Walks.{directory_of}
use Rattle.cfb_directory.proofs.ClaimSteps.{Progress}
use Rattle.cfb_directory.proofs.claiming.claim_streams.Given as goal

abbrev pub invariant-loop-id : goal.invariant-loop-id
invariant-loop-id l = record {
  same : l.sectors ≡ record l.initial.sectors { marks = l.sectors.marks; mini_marks = l.sectors.mini_marks };
  count : vec_len l.numbers ≡ l.id;
  few : vec_len l.views ≤ l.id + 1;
  some : 1 ≤ vec_len l.views;
  inside : All (λ k. k < vec_len l.views) l.numbers.items;
  bounded : l.walk + unmarked l.sectors.marks + unmarked l.sectors.mini_marks ≤ l.initial.walk + unmarked l.initial.sectors.marks + unmarked l.initial.sectors.mini_marks;
  grows : l.initial.walk ≤ l.walk;
  so_far : (long short : List ℕ) → Marks l.initial.sectors.marks long → Marks l.initial.sectors.mini_marks short → Progress l.initial.sectors (is_wanted l.visited (directory_of l.initial.sectors)) l.initial.walk l.id l.numbers.items l.views.items l.sectors.marks l.sectors.mini_marks l.walk (claims_in l.initial.sectors (filter (is_wanted l.visited (directory_of l.initial.sectors)) (range_with_len 0 (entries l.initial.sectors))) long short);
}
