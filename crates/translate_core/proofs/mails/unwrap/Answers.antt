use Rattle.std.proofs.Common.{refl, arith, ℕ, Vec}
use Rattle.std.specs.Global.{Global}
use Rattle.carrier_model.specs.Meanings.{Meaning}
use Rattle.job_model.specs.Acceptance.{Accepts}
use Rattle.job_model.specs.Commands.{unwrap as plain_unwrap}
use Rattle.mail_model.specs.Envelope.{Envelope}
use Rattle.msg_tree.specs.Whole.{meaning_in}
use Rattle.translate_core.proofs.Telling.{accepted, in_mail, mail_stopped, payload_stopped}
use Rattle.translate_core.proofs.mails.unwrap.Goals as goal

pub returns-in-Err-clause-told : goal.returns-in-Err-clause-told
returns-in-Err-clause-told g c = rw c.stopped.ensures (mail_stopped {Y = Vec ℕ Global} (λ v. v.items) c.inputs_are_exact.ensures c.args.bytes.now _ _ c.in-Err.stop c.requires c.in-Err.ensures.value)

pub returns-in-Err-read_tnef-clause-told : goal.returns-in-Err-read_tnef-clause-told
returns-in-Err-read_tnef-clause-told g c =
    let e : Envelope c.args.bytes.now c.deref.result.now = rw c.deref.ensures.value c.in-Ok.ensures.value.found in
    rw c.stopped-in-Err-read_tnef.ensures (payload_stopped {Y = Meaning} (λ m. m) c.inputs_are_exact.ensures c.args.bytes.now c.deref.result.now _ _ c.in-Err-read_tnef.stop c.requires e c.in-Err-read_tnef.ensures)

pub returns-in-Ok-write_pieces-clause-told : goal.returns-in-Ok-write_pieces-clause-told
returns-in-Ok-write_pieces-clause-told g c =
    let m = meaning_in c.in-Ok-read_tnef.accepted in
    let e : Envelope c.args.bytes.now c.deref.result.now = rw c.deref.ensures.value c.in-Ok.ensures.value.found in
    let f : Envelope c.args.bytes.now c.deref-2.result.now = rw c.deref-2.ensures.value c.in-Ok.ensures.value.found in
    let a : Accepts plain_unwrap c.args.bytes.now m = in_mail c.args.bytes.now c.deref.result.now m c.requires e c.in-Ok-read_tnef.ensures.found in
    record {
      m = m;
      accepted = accepted c.inputs_are_exact.ensures plain_unwrap c.args.bytes.now m a;
      written = record { fits = refl; w = c.deref-2.result.now; is = f; appended = c.in-Ok-write_pieces.ensures.ok };
      carries = c.outputs_carry_their_message.ensures plain_unwrap c.args.bytes.now c.deref-2.result.now m (λ i. omega (arith, c.type_inv.bytes i)) a refl f;
    }

pub returns-clause-told : goal.returns-clause-told
returns-clause-told g c =
    let m = meaning_in c.in-Ok-read_tnef.accepted in
    let e : Envelope c.args.bytes.now c.deref.result.now = rw c.deref.ensures.value c.in-Ok.ensures.value.found in
    let f : Envelope c.args.bytes.now c.deref-2.result.now = rw c.deref-2.ensures.value c.in-Ok.ensures.value.found in
    let a : Accepts plain_unwrap c.args.bytes.now m = in_mail c.args.bytes.now c.deref.result.now m c.requires e c.in-Ok-read_tnef.ensures.found in
    record {
      m = m;
      accepted = accepted c.inputs_are_exact.ensures plain_unwrap c.args.bytes.now m a;
      front = record { fits = refl; w = c.deref-2.result.now; is = f; appended = c.in-Err-write_pieces.ensures.failed };
    }
