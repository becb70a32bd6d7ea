use Rattle.std.proofs.Common.{sym, ◌∙◌, arith}
use Rattle.tnef_model.proofs.Stream.{head_passes}
use Rattle.tnef_attributes.proofs.Stream.{stream_reads}
use Rattle.tnef_attributes.proofs.attributes.Attributes.read.Goals as goal

pub returns : goal.returns
returns c =
    stream_reads (λ a. a) c.attributes_of.result c.args.at c.args.bytes.now c.split_at.result.1.now (λ i. omega (arith, c.type_inv.bytes i))
    (head_passes c.args.at c.args.bytes.now (omega arith) (sym c.u32_at.ensures ∙ c.if-u32_at-ne-SIGNATURE.false)) c.split_at.ensures.back c.attributes_of.ensures.found c.attributes_of.ensures.fault
