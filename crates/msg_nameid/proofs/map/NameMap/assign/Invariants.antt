use Rattle.std.proofs.Common.{ℕ, ◌≡◌, ◌<◌, ◌≤◌, false, take}
use Rattle.carrier_model.specs.Keys.{name_cmp}
use Rattle.carrier_model.specs.Sorted.{IsStrictlySorted}
use Rattle.msg_model.specs.NameMap.{pairs_from}
use Rattle.msg_nameid.specs.Drafts.{IsWhole, pairs_in}
use Rattle.msg_nameid.specs.Tables.{slot_at, is_taken}
use Rattle.msg_nameid.proofs.map.NameMap.assign.Given as goal

abbrev pub invariant-loop-k : goal.invariant-loop-k
invariant-loop-k l = record {
  whole : IsWhole l.draft;
  pairs : pairs_in l.draft ≡ pairs_from 0 (take l.k l.names);
  free : (j : ℕ) → l.k ≤ j → is_taken (slot_at l.draft.slots j) ≡ false;
  sorted : 0 < l.k → IsStrictlySorted name_cmp l.names;
}
