use Rattle.std.proofs.Common.{◌≡◌, ℕ, List, length, arith}
use Rattle.std.proofs.lemmas.Result.{err_from_is_err_and}
use Rattle.tnef_model.specs.TnefLists.{padded}
use Rattle.tnef_props.proofs.ValueForms.{padded_len, turns_begin, turns_more, turns_fault, turns_items, all_push}
use Rattle.tnef_props.proofs.values.guids_from.Goals as goal

pub loop-k-init : goal.loop-k-init
loop-k-init c = rw c.in_ok-list.ensures (record {
  turns = turns_begin (padded 16) (λ (x : List ℕ). x) c.args.from c.in_ok-count.rest c.in_ok-count.count c.in_ok-count.ensures.found;
  fit = λ k d lt. absurd (omega arith);
})

pub returns-in_err-set-clause-fault : goal.returns-in_err-set-clause-fault
returns-in_err-set-clause-fault c =
    let p = err_from_is_err_and c.from_residual-in_err-set.result c.from_residual-in_err-set.ensures.1 in
    rw (p.1, p.2) (turns_fault (padded 16) (λ (x : List ℕ). x) c.args.from c.loop-k.rest c.in_ok-count.count c.loop-k._k c.loop-k.list c.in_err-set.field-0.0 c.loop-k.invariant.turns c.loop-k-test.true c.in_err-set.ensures.fault)

pub loop-k-preserved : goal.loop-k-preserved
loop-k-preserved c =
    let found = c.in_ok-set.ensures.found in
    let len = padded_len 16 c.loop-k.rest c.in_ok-set.after c.in_ok-set.set.0 found in
    record {
      turns = turns_more (padded 16) (λ (x : List ℕ). x) c.args.from c.loop-k.rest c.in_ok-set.after c.in_ok-count.count c.loop-k._k c.loop-k.list c.push.new.self c.in_ok-set.set.0 c.loop-k.invariant.turns c.loop-k-test.true found (omega (arith, len.1)) c.in_ok-push.ensures.ok;
      fit = all_push (λ (g : List ℕ). length g ≡ 16) c.loop-k.list c.push.new.self c.in_ok-set.set.0 c.loop-k.invariant.fit len.0 c.in_ok-push.ensures.ok;
    }

pub returns-clause-found : goal.returns-clause-found
returns-clause-found c = turns_items (padded 16) c.args.from c.loop-k.rest c.in_ok-count.count c.loop-k._k c.loop-k.list c.loop-k.invariant.turns (omega (arith, c.loop-k-test.false, c.loop-k.auto._k-end))
