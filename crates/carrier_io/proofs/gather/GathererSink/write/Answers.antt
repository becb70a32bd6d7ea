use Rattle.std.proofs.lemmas.Result.{err_from_is_err_and}
use Rattle.carrier_io.proofs.Gathered.{front-kept}
use Rattle.carrier_io.proofs.gather.GathererSink.write.Goals as goal

pub returns-in_err-flush-clause-bytes : goal.returns-in_err-flush-clause-bytes
returns-in_err-flush-clause-bytes g c =
    let p = err_from_is_err_and c.from_residual.result c.from_residual.ensures.1 in
    rw p.1 (front-kept _ _ _ c.in_err-flush.ensures.keeps)
