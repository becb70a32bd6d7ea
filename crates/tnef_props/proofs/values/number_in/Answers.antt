use Rattle.std.proofs.Common.{◌≡◌, length, ◌∙◌, arith}
use Rattle.tnef_props.proofs.NumberBytes.{number64-le}
use Rattle.tnef_props.proofs.values.number_in.Goals as goal

pub returns-in_default-clause-number : goal.returns-in_default-clause-number
returns-in_default-clause-number c =
    let len : length c.args.bytes.now ≡ 8 = omega (arith, c.requires, c.in_default) in
    c.u64_at.ensures ∙ number64-le c.args.bytes.now len
