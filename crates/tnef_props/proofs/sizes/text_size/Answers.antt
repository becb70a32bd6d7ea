use Rattle.std.proofs.Common.{◌+◌, arith}
use Rattle.tnef_props.proofs.Lengths.{text_length}
use Rattle.tnef_props.proofs.sizes.text_size.Goals as goal

pub returns-clause-size : goal.returns-clause-size
returns-clause-size c = λ x e. omega (arith, text_length x c.args.null (c.args.len + c.args.null) c.pad4.result (omega (arith, e)) c.pad4.ensures.multiple c.pad4.ensures.least)
