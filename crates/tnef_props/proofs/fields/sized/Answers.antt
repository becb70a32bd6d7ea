use Rattle.std.proofs.Common.{ℕ}
use Rattle.std.proofs.lemmas.Result.{err_from_is_err_and}
use Rattle.carrier_model.specs.Grammar.{placed}
use Rattle.tnef_model.specs.TnefLists.{size, sized, padded}
use Rattle.tnef_props.proofs.Forms.{then_takes, then_next, placed_takes}
use Rattle.tnef_props.proofs.fields.sized.Goals as goal

pub returns-in_err-bytes-clause-fault : goal.returns-in_err-bytes-clause-fault
unfolding sized
returns-in_err-bytes-clause-fault c =
    let p = err_from_is_err_and c.from_residual-in_err-bytes.result c.from_residual-in_err-bytes.ensures.1 in
    rw (p.1, p.2) (then_next (size c.args.even c.args.least) (λ (n : ℕ). placed (padded n)) c.args.from c.in_ok-n.rest c.in_ok-n.n c.in_err-bytes.field-0.0 c.in_ok-n.ensures.found c.in_err-bytes.ensures.fault)

pub returns-clause-found : goal.returns-clause-found
unfolding sized
returns-clause-found c =
    then_takes (size c.args.even c.args.least) (λ (n : ℕ). placed (padded n)) c.args.from c.in_ok-n.rest c.in_ok-bytes.after c.in_ok-n.n _ c.in_ok-n.ensures.found
    (placed_takes (padded c.in_ok-n.n) c.in_ok-n.rest c.in_ok-bytes.after c.in_ok-bytes.bytes.now c.in_ok-bytes.ensures.found)
