use Rattle.std.proofs.Common.{subst}
use Rattle.carrier_model.specs.Values.{IsValue}
use Rattle.prop_values.specs.Meaning.{value_of}
use Rattle.tnef_props.proofs.WrittenValues.{numbers_parts}
use Rattle.tnef_props.proofs.writing_values.append_content.Goals as goal

pub returns-in-Numbers : goal.returns-in-Numbers
returns-in-Numbers g c =
    let valid = subst (λ v. IsValue (value_of g.B.Blob.bytes v)) c.in-Numbers.is c.requires in
    let h = c.is_wide-in-Numbers.ensures.numbers valid.1 in
    rw c.in-Numbers.is (rw (numbers_parts _ _ _ h valid.0) at c.append_numbers.ensures)
