use Rattle.std.proofs.Common.{ap, ◌∙◌, arith}
use Rattle.mime_envelope.proofs.Coded.{some_left, none_left}
use Rattle.std.proofs.lemmas.Result.{err_from_is_err_and}
use Rattle.mail_model.specs.EnvelopeText.{body_lines}
use Rattle.mail_model.proofs.EnvelopeText.{body_lines-split, body_lines-none}
use Rattle.carrier_io.proofs.Known.{Written-all}
use Rattle.mime_envelope.proofs.Coded.{Written-line, Written-stopped}
use Rattle.mime_envelope.proofs.writing.write_body.Goals as goal

pub returns-in_err-write_line : goal.returns-in_err-write_line
returns-in_err-write_line g c =
    let p = err_from_is_err_and c.from_residual.result c.from_residual.ensures.1 in
    let some = some_left _ _ c.is_empty.ensures c.loop-rest-test.true in
    let e = body_lines-split c.loop-rest.rest.now c.split_at.result.0.now c.split_at.result.1.now c.min.result some c.min.ensures c.split_at.ensures.front c.split_at.ensures.back in
    rw p.1 (record {
      ok = tt;
      failed = Written-stopped _ _ _ _ _ _ _ e c.loop-rest.invariant.written c.in_err-write_line.ensures.failed;
      cause = record { later = omega (arith, c.in_err-write_line.ensures.cause.later); failed = omega (arith, c.in_err-write_line.ensures.cause.failed) };
    })

pub loop-rest-preserved : goal.loop-rest-preserved
loop-rest-preserved g c =
    let some = some_left _ _ c.is_empty.ensures c.loop-rest-test.true in
    let e = body_lines-split c.loop-rest.rest.now c.split_at.result.0.now c.split_at.result.1.now c.min.result some c.min.ensures c.split_at.ensures.front c.split_at.ensures.back in
    record {
      written = Written-line _ _ _ _ _ _ _ e c.loop-rest.invariant.written c.in_ok-write_line.ensures.ok;
      later = omega (arith, c.in_ok-write_line.ensures.cause.later);
    }

pub returns : goal.returns
returns g c =
    let none = none_left _ _ c.is_empty.ensures c.loop-rest-test.false in
    record {
      ok = Written-all _ _ _ _ c.loop-rest.invariant.written (ap body_lines none ∙ body_lines-none);
      failed = tt;
      cause = record { later = c.loop-rest.invariant.later; failed = tt };
    }
