use Rattle.std.proofs.Common.{ℕ, [], ◌∷◌, ◌++◌, ◌*◌, ◌<◌, ◌^◌, ap, ◌∙◌, arith}
use Rattle.std.proofs.lemmas.Result.{err_from_is_err_and}
use Rattle.tnef_model.specs.TnefLists.{padded}
use Rattle.carrier_model.specs.Bytes.{le_number}
use Rattle.tnef_props.proofs.ValueForms.{padded_len, turns_begin, turns_more, turns_fault, turns_numbers, numbers_refuse, all_push}
use Rattle.tnef_props.proofs.values.numbers_from.Goals as goal

pub loop-k-init : goal.loop-k-init
loop-k-init c = rw c.in_ok-list.ensures (record {
  turns = turns_begin (padded c.args.width) le_number c.args.from c.in_ok-count.rest c.in_ok-count.count c.in_ok-count.ensures.found;
  fit = λ k d lt. absurd (omega arith);
})

pub returns-in_err-bytes-clause-fault : goal.returns-in_err-bytes-clause-fault
returns-in_err-bytes-clause-fault c =
    let p = err_from_is_err_and c.from_residual-in_err-bytes.result c.from_residual-in_err-bytes.ensures.1 in
    rw (p.1, p.2) (numbers_refuse c.args.width c.args.from c.in_err-bytes.field-0.0
    (turns_fault (padded c.args.width) le_number c.args.from c.loop-k.rest c.in_ok-count.count c.loop-k._k c.loop-k.list c.in_err-bytes.field-0.0 c.loop-k.invariant.turns c.loop-k-test.true c.in_err-bytes.ensures.fault))

pub loop-k-preserved : goal.loop-k-preserved
loop-k-preserved c =
    let found = c.in_ok-bytes.ensures.found in
    let len = padded_len c.args.width c.loop-k.rest c.in_ok-bytes.after c.in_ok-bytes.bytes.now found in
    let below : c.number_in.result < 2 ^ (8 * c.args.width) = rw len.0 at c.number_in.ensures.below in
    record {
      turns = turns_more (padded c.args.width) le_number c.args.from c.loop-k.rest c.in_ok-bytes.after c.in_ok-count.count c.loop-k._k c.loop-k.list c.push.new.self c.in_ok-bytes.bytes.now c.loop-k.invariant.turns c.loop-k-test.true found (omega (arith, len.1, c.requires))
          (c.in_ok-push.ensures.ok ∙ ap (λ (n : ℕ). c.loop-k.list ++ n ∷ []) c.number_in.ensures.number);
      fit = all_push (λ n. n < 2 ^ (8 * c.args.width)) c.loop-k.list c.push.new.self c.number_in.result c.loop-k.invariant.fit below c.in_ok-push.ensures.ok;
    }

pub returns-clause-found : goal.returns-clause-found
returns-clause-found c = turns_numbers c.args.width c.args.from c.loop-k.rest c.in_ok-count.count c.loop-k._k c.loop-k.list c.loop-k.invariant.turns (omega (arith, c.loop-k-test.false, c.loop-k.auto._k-end))
