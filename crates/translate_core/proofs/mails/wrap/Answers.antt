use Rattle.std.proofs.Common.{refl, arith}
use Rattle.job_model.specs.Acceptance.{Accepts}
use Rattle.job_model.specs.Commands.{wrap as plain_wrap}
use Rattle.mail_model.specs.EnvelopeText.{envelope_of}
use Rattle.msg_tree.specs.Whole.{meaning_in}
use Rattle.translate_core.proofs.Limiting.{mail_too_large, mail_fits}
use Rattle.translate_core.proofs.Telling.{accepted}
use Rattle.translate_core.proofs.mails.wrap.Goals as goal

pub returns-then-size-gt-MOST_BYTES-clause-told : goal.returns-then-size-gt-MOST_BYTES-clause-told
returns-then-size-gt-MOST_BYTES-clause-told g c =
    let m = meaning_in c.in-Ok.accepted in
    record { m = m; accepted = accepted c.inputs_are_exact.ensures plain_wrap c.args.bytes.now m (c.requires, c.in-Ok.ensures.found); passes = mail_too_large c.args.bytes.now m.message c.envelope_size-size.result (c.envelope_size-size.ensures c.args.bytes.now refl) (omega (arith, c.if-size-gt-MOST_BYTES.true)) (omega (arith, c.envelope_size-size.type_inv)) }

pub returns-in-Ok-write_gathered-clause-told : goal.returns-in-Ok-write_gathered-clause-told
returns-in-Ok-write_gathered-clause-told g c =
    let m = meaning_in c.in-Ok.accepted in
    let a : Accepts plain_wrap c.args.bytes.now m = (c.requires, c.in-Ok.ensures.found) in
    let fits = mail_fits c.args.bytes.now m.message c.envelope_size-size.result (c.envelope_size-size.ensures c.args.bytes.now refl) (omega (arith, c.if-size-gt-MOST_BYTES.false)) in
    record {
      m = m;
      accepted = accepted c.inputs_are_exact.ensures plain_wrap c.args.bytes.now m a;
      written = record { fits = fits; w = envelope_of c.args.bytes.now; is = refl; appended = c.in-Ok-write_gathered.ensures.ok };
      carries = c.outputs_carry_their_message.ensures plain_wrap c.args.bytes.now (envelope_of c.args.bytes.now) m (λ i. omega (arith, c.type_inv.bytes i)) a fits refl;
    }

pub returns-clause-told : goal.returns-clause-told
returns-clause-told g c =
    let m = meaning_in c.in-Ok.accepted in
    let a : Accepts plain_wrap c.args.bytes.now m = (c.requires, c.in-Ok.ensures.found) in
    let fits = mail_fits c.args.bytes.now m.message c.envelope_size-size.result (c.envelope_size-size.ensures c.args.bytes.now refl) (omega (arith, c.if-size-gt-MOST_BYTES.false)) in
    record {
      m = m;
      accepted = accepted c.inputs_are_exact.ensures plain_wrap c.args.bytes.now m a;
      front = record { fits = fits; w = envelope_of c.args.bytes.now; is = refl; appended = c.in-Err-write_gathered.ensures.failed };
    }
