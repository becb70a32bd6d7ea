use Rattle.std.proofs.Common.{arith, subst}
use Rattle.std.proofs.lemmas.Result.{err_from_is_err_and}
use Rattle.carrier_model.specs.Bytes.{AllBytes}
use Rattle.job_model.specs.Commands.{to_msg, to_tnef, wrap, unwrap}
use Rattle.translate_core.specs.Trips.{Made}
use Rattle.translate_core.proofs.Travelling.{first_ends, second_ends, third_ends, fourth_ends, stream_short, mail_short, given_back, arrived}
use Rattle.translate_core.proofs.steps.trip.Goals as goal

pub returns-in_err-tnef : goal.returns-in_err-tnef
returns-in_err-tnef c =
    let p = err_from_is_err_and c.from_residual.result c.from_residual.ensures.1 in
    record { told = rw (p.1, p.2) (first_ends c.args.bytes.now c.in_err-tnef.field-0.0 c.in_err-tnef.ensures.told) }

pub step_of-requires-2 : goal.step_of-requires-2
step_of-requires-2 c = rw c.deref.ensures.value (stream_short c.args.bytes.now c.in_ok-tnef.tnef.items c.in_ok-tnef.ensures.told)

pub returns-in_err-envelope : goal.returns-in_err-envelope
returns-in_err-envelope c =
    let p = err_from_is_err_and c.from_residual-in_err-envelope.result c.from_residual-in_err-envelope.ensures.1 in
    let all : AllBytes c.args.bytes.now = λ i. omega (arith, c.type_inv.bytes i) in
    let one : Made to_tnef c.args.bytes.now c.deref.result.now = rw c.deref.ensures.value c.in_ok-tnef.ensures.told in
    record { told = rw (p.1, p.2) (second_ends c.outputs_are_taken_on.ensures.streams c.args.bytes.now c.deref.result.now c.in_err-envelope.field-0.0 all one c.in_err-envelope.ensures.told) }

pub step_of-requires-3 : goal.step_of-requires-3
step_of-requires-3 c = rw c.deref-2.ensures.value (mail_short c.deref.result.now c.in_ok-envelope.envelope.items c.in_ok-envelope.ensures.told)

pub returns-in_err-carried : goal.returns-in_err-carried
returns-in_err-carried c =
    let p = err_from_is_err_and c.from_residual-in_err-carried.result c.from_residual-in_err-carried.ensures.1 in
    let two : Made wrap c.deref.result.now c.deref-2.result.now = rw c.deref-2.ensures.value c.in_ok-envelope.ensures.told in
    record { told = rw (p.1, p.2) (third_ends c.outputs_are_taken_on.ensures.mails c.args.bytes.now c.deref.result.now c.deref-2.result.now c.in_err-carried.field-0.0 c.in_ok-envelope.ensures.bytes two c.in_err-carried.ensures.told) }

pub step_of-requires-4 : goal.step_of-requires-4
step_of-requires-4 c =
    let two : Made wrap c.deref.result.now c.deref-2.result.now = rw c.deref-2.ensures.value c.in_ok-envelope.ensures.told in
    let same = given_back c.envelopes_are_exact.ensures.only c.deref.result.now c.deref-2.result.now c.in_ok-carried.carried.items c.in_ok-envelope.ensures.bytes two c.in_ok-carried.ensures.told in
    let one : Made to_tnef c.args.bytes.now c.deref.result.now = rw c.deref.ensures.value c.in_ok-tnef.ensures.told in
    rw (c.deref-3.ensures.value, same) (stream_short c.args.bytes.now c.deref.result.now one)

pub returns-in_err-msg : goal.returns-in_err-msg
returns-in_err-msg c =
    let p = err_from_is_err_and c.from_residual-in_err-msg.result c.from_residual-in_err-msg.ensures.1 in
    let all : AllBytes c.args.bytes.now = λ i. omega (arith, c.type_inv.bytes i) in
    let one : Made to_tnef c.args.bytes.now c.deref.result.now = rw c.deref.ensures.value c.in_ok-tnef.ensures.told in
    let two : Made wrap c.deref.result.now c.deref-2.result.now = rw c.deref-2.ensures.value c.in_ok-envelope.ensures.told in
    let three : Made unwrap c.deref-2.result.now c.deref-3.result.now = rw c.deref-3.ensures.value c.in_ok-carried.ensures.told in
    let same = given_back c.envelopes_are_exact.ensures.only c.deref.result.now c.deref-2.result.now c.deref-3.result.now c.in_ok-envelope.ensures.bytes two three in
    record { told = rw (p.1, p.2) (fourth_ends c.outputs_are_taken_on.ensures.streams c.args.bytes.now c.deref.result.now c.deref-2.result.now c.deref-3.result.now c.in_err-msg.field-0.0 all one two same c.in_err-msg.ensures.told) }

pub returns : goal.returns
returns c =
    let all : AllBytes c.args.bytes.now = λ i. omega (arith, c.type_inv.bytes i) in
    let v = c.in_ok-tnef.tnef.items in
    let w = c.in_ok-envelope.envelope.items in
    let x = c.in_ok-carried.carried.items in
    let bytes : AllBytes v = subst AllBytes c.deref.ensures.value c.in_ok-envelope.ensures.bytes in
    let two : Made wrap v w = subst (λ k. Made wrap k w) c.deref.ensures.value c.in_ok-envelope.ensures.told in
    let three : Made unwrap w x = subst (λ k. Made unwrap k x) c.deref-2.ensures.value c.in_ok-carried.ensures.told in
    let four : Made to_msg x c.in_ok-msg.msg.items = subst (λ k. Made to_msg k c.in_ok-msg.msg.items) c.deref-3.ensures.value c.in_ok-msg.ensures.told in
    record { told = arrived c.outputs_are_taken_on.ensures.streams c.args.bytes.now _ all c.in_ok-tnef.ensures.told two (given_back c.envelopes_are_exact.ensures.only v w x bytes two three) four }
