use Rattle.std.proofs.Common.{arith}
use Rattle.tnef_model.proofs.Attributes.{attr_begins}
use Rattle.tnef_attributes.proofs.reading.attribute_at.Goals as goal

pub returns-clause-found : goal.returns-clause-found
returns-clause-found c =
    attr_begins c.args.at c.in_ok-len.len c.u32_at.result c.args.bytes.now c.split_at.result.1.now c.split_at-2.result.0.now c.split_at-3.result.1.now
    (λ i. omega (arith, c.type_inv.bytes i)) c.in_ok-len.ensures.fault c.in_ok-len.ensures.len c.u32_at.ensures c.split_at.ensures.back c.split_at-2.ensures.front c.split_at-3.ensures.back
