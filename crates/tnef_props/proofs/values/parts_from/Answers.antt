use Rattle.std.proofs.Common.{ℕ, List, arith}
use Rattle.std.proofs.lemmas.Result.{err_from_is_err_and}
use Rattle.prop_values.specs.Kinds.{kind_number}
use Rattle.carrier_model.specs.Values.{IsBytes}
use Rattle.tnef_model.specs.TnefLists.{text}
use Rattle.tnef_props.proofs.ValueForms.{text_valid, turns_begin, turns_more, turns_fault, turns_items, all_push}
use Rattle.tnef_props.proofs.values.parts_from.Goals as goal

pub loop-k-init : goal.loop-k-init
loop-k-init c = rw c.in_ok-list.ensures (record {
  turns = turns_begin (text (kind_number c.args.kind)) (λ (x : List ℕ). x) c.args.from c.in_ok-count.rest c.in_ok-count.count c.in_ok-count.ensures.found;
  fit = λ k d lt. absurd (omega arith);
})

pub returns-in_err-bytes-clause-fault : goal.returns-in_err-bytes-clause-fault
returns-in_err-bytes-clause-fault c =
    let p = err_from_is_err_and c.from_residual-in_err-bytes.result c.from_residual-in_err-bytes.ensures.1 in
    rw (p.1, p.2) (turns_fault (text (kind_number c.args.kind)) (λ (x : List ℕ). x) c.args.from c.loop-k.rest c.in_ok-count.count c.loop-k._k c.loop-k.list c.in_err-bytes.field-0.0 c.loop-k.invariant.turns c.loop-k-test.true c.in_err-bytes.ensures.fault)

pub loop-k-preserved : goal.loop-k-preserved
loop-k-preserved c =
    let kind = kind_number c.args.kind in
    let found = c.in_ok-bytes.ensures.found in
    let valid = text_valid kind c.loop-k.rest c.in_ok-bytes.after c.in_ok-bytes.bytes.now c.requires c.loop-k.rest.few found in
    record {
      turns = turns_more (text kind) (λ (x : List ℕ). x) c.args.from c.loop-k.rest c.in_ok-bytes.after c.in_ok-count.count c.loop-k._k c.loop-k.list c.push.new.self c.in_ok-bytes.bytes.now c.loop-k.invariant.turns c.loop-k-test.true found valid.1 c.in_ok-push.ensures.ok;
      fit = all_push (IsBytes kind) c.loop-k.list c.push.new.self c.in_ok-bytes.bytes.now c.loop-k.invariant.fit valid.0 c.in_ok-push.ensures.ok;
    }

pub returns-clause-found : goal.returns-clause-found
returns-clause-found c = turns_items (text (kind_number c.args.kind)) c.args.from c.loop-k.rest c.in_ok-count.count c.loop-k._k c.loop-k.list c.loop-k.invariant.turns (omega (arith, c.loop-k-test.false, c.loop-k.auto._k-end))
