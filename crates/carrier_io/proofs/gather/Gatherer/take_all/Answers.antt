use Rattle.carrier_io.proofs.Gathered.{exit-failed, exit-flushed}
use Rattle.carrier_io.proofs.gather.Gatherer.take_all.Goals as goal

pub returns-in_err-write_to : goal.returns-in_err-write_to
returns-in_err-write_to g c =
    let then = c.write_to.new.sink in
    exit-failed c.from_residual.result c.in_err-write_to.field-0.0 then.refused _ _ _ _ _ _ _ _ _ c.from_residual.ensures.0 c.requires.empty c.requires.faultless then.extends then.cut then.later c.in_err-write_to.ensures

pub returns : goal.returns
returns g c =
    let then = c.flush.new.self in
    exit-flushed c.flush.result then.refused _ _ _ _ then.len _ _ _ _ _ then.page _ c.requires.empty c.requires.faultless then.extends then.cut then.later c.in_ok-write_to.ensures c.flush.ensures.empty c.flush.ensures.ready c.flush.ensures.keeps c.flush.ensures.cause
