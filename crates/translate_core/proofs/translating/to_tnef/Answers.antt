use Rattle.std.proofs.Common.{arith}
use Rattle.job_model.specs.Acceptance.{Accepts, CarriesMessage}
use Rattle.job_model.specs.Commands as commands
use Rattle.msg_tree.specs.Whole.{meaning_in}
use Rattle.translate_core.proofs.Telling.{tells}
use Rattle.translate_core.proofs.translating.to_tnef.Goals as goal

pub returns-in-Ok-Msg-clause-told : goal.returns-in-Ok-Msg-clause-told
returns-in-Ok-Msg-clause-told g c =
    let m = meaning_in c.in-Ok-Msg.accepted in
    let found : CarriesMessage c.args.bytes.now m = rw c.in-Ok-Msg.field-0-is at c.in-Ok-Msg.ensures.both.found in
    let a : Accepts commands.to_tnef c.args.bytes.now m = (c.requires, found) in
    tells c.inputs_are_exact.ensures c.outputs_carry_their_message.ensures commands.to_tnef c.args.bytes.now _ _ m c.write_tnef.result (λ i. omega (arith, c.type_inv.bytes i)) a (c.write_tnef.ensures.puts c.args.bytes.now)

pub returns-in-Ok-Tnef-clause-told : goal.returns-in-Ok-Tnef-clause-told
returns-in-Ok-Tnef-clause-told g c =
    let m = meaning_in c.in-Ok-Tnef.accepted in
    let found : CarriesMessage c.args.bytes.now m = rw c.in-Ok-Tnef.field-0-is at c.in-Ok-Tnef.ensures.both.found in
    let a : Accepts commands.to_tnef c.args.bytes.now m = (c.requires, found) in
    tells c.inputs_are_exact.ensures c.outputs_carry_their_message.ensures commands.to_tnef c.args.bytes.now _ _ m c.write_tnef-in-Ok-Tnef.result (λ i. omega (arith, c.type_inv.bytes i)) a (c.write_tnef-in-Ok-Tnef.ensures.puts c.args.bytes.now)
