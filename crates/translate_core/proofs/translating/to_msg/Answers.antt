use Rattle.std.proofs.Common.{arith}
use Rattle.job_model.specs.Acceptance.{Accepts, CarriesMessage}
use Rattle.translate_core.specs.Jobs.{file_job}
use Rattle.msg_tree.specs.Whole.{meaning_in}
use Rattle.translate_core.proofs.Telling.{tells, takes_file}
use Rattle.translate_core.proofs.translating.to_msg.Goals as goal

pub returns-in-Ok-Msg-clause-told : goal.returns-in-Ok-Msg-clause-told
returns-in-Ok-Msg-clause-told g c =
    let m = meaning_in c.in-Ok-Msg.accepted in
    let found : CarriesMessage c.args.bytes.now m = rw c.in-Ok-Msg.field-0-is at c.in-Ok-Msg.ensures.both.found in
    let a : Accepts (file_job c.args.version) c.args.bytes.now m = takes_file c.args.version c.args.bytes.now m c.requires found in
    tells c.inputs_are_exact.ensures c.outputs_carry_their_message.ensures (file_job c.args.version) c.args.bytes.now _ _ m c.ended.result (λ i. omega (arith, c.type_inv.bytes i)) a (rw c.ended.ensures (c.write_file.ensures.puts c.args.bytes.now))

pub returns-in-Ok-Tnef-clause-told : goal.returns-in-Ok-Tnef-clause-told
returns-in-Ok-Tnef-clause-told g c =
    let m = meaning_in c.in-Ok-Tnef.accepted in
    let found : CarriesMessage c.args.bytes.now m = rw c.in-Ok-Tnef.field-0-is at c.in-Ok-Tnef.ensures.both.found in
    let a : Accepts (file_job c.args.version) c.args.bytes.now m = takes_file c.args.version c.args.bytes.now m c.requires found in
    tells c.inputs_are_exact.ensures c.outputs_carry_their_message.ensures (file_job c.args.version) c.args.bytes.now _ _ m c.ended-in-Ok-Tnef.result (λ i. omega (arith, c.type_inv.bytes i)) a (rw c.ended-in-Ok-Tnef.ensures (c.write_file-in-Ok-Tnef.ensures.puts c.args.bytes.now))
