use Rattle.std.proofs.Common.{◌≡◌, ◌∙◌, ◌+◌, ◌<◌, ◌≤◌, Bool, [], ◌∷◌, ◌++◌, length, sym, ap, subst, take_all, arith}
use Rattle.std.specs.Prelude.{◌||◌}
use Rattle.std.proofs.lemmas.Bool.{ne_eqb}
use Rattle.std.proofs.lemmas.Option.{get_or_from_slice_get}
use Rattle.carrier_model.specs.Keys.{Name}
use Rattle.msg_model.specs.NameMap.{pairs_from}
use Rattle.prop_names.specs.Meaning.{name_of}
use Rattle.msg_nameid.specs.Drafts.{pairs_in}
use Rattle.msg_nameid.specs.Maps.{IsAssigned}
use Rattle.msg_nameid.specs.Tables.{slot_at, is_taken}
use Rattle.msg_nameid.proofs.AssignedLaws.{assigned_more, from_is_assigned, looked_at}
use Rattle.msg_nameid.proofs.map.NameMap.assign.Goals as goal

pub loop-k-preserved : goal.loop-k-preserved
loop-k-preserved c =
    let names = c.args.names.now in
    let l = c.loop-k in
    let x : Name = name_of c.get.result.now in
    let inside : l.k < length names = omega (arith, c.loop-k-test.true, c.len-k-end.ensures) in
    record {
      whole = c.in_ok-add_name.ensures.whole;
      pairs = assigned_more names l.k x (pairs_in l.draft) (pairs_in c.add_name.new.self) inside (get_or_from_slice_get names l.k x x c.get.ensures.name) l.invariant.pairs
          (c.in_ok-add_name.ensures.pairs ∙ ap (λ (n : Name). pairs_in l.draft ++ (0x8000 + l.k, n) ∷ []) c.in_ok-name.ensures);
      free = λ j le. c.in_ok-add_name.ensures.taken j
          ∙ (ap (λ (b : Bool). b || is_taken (slot_at l.draft.slots j)) (ne_eqb j l.k (λ (e : j ≡ l.k). omega (arith, e, le)))
          ∙ l.invariant.free j (omega (arith, le)));
      sorted = λ some. c.get.ensures.sorted;
    }

pub returns-clause-assigned : goal.returns-clause-assigned
returns-clause-assigned c =
    let names = c.args.names.now in
    let l = c.loop-k in
    let all : length names ≤ l.k = omega (arith, c.loop-k-test.false, c.len-k-end.ensures) in
    subst IsAssigned (sym (c.from_draft.ensures ∙ (l.invariant.pairs ∙ ap (pairs_from 0) (take_all l.k names all)))) (from_is_assigned names (looked_at names l.k all l.invariant.sorted) c.requires.few)
