use Rattle.std.proofs.Common.{ℕ, List, sym, subst, arith}
use Rattle.carrier_model.specs.Values.{IsValue}
use Rattle.prop_values.specs.Meaning.{value_of}
use Rattle.tnef_props.proofs.Lengths.{each_length}
use Rattle.tnef_props.proofs.sizes.value_size.Goals as goal

pub returns-in-Numbers : goal.returns-in-Numbers
returns-in-Numbers g c =
    let valid = subst (λ v. IsValue (value_of g.B.Blob.bytes v)) c.in-Numbers.is c.requires in
    let e = c.numbers_size-in-Numbers.ensures.numbers valid.1 _ (sym c.len-in-Numbers.ensures) in
    rw c.in-Numbers.is (omega (arith, e, c.numbers_size-in-Numbers.ensures.few, c.len-in-Numbers.ensures, valid.2))

pub returns-in-Guids : goal.returns-in-Guids
returns-in-Guids g c =
    let valid = subst (λ v. IsValue (value_of g.B.Blob.bytes v)) c.in-Guids.is c.requires in
    let e = each_length (λ (g : List ℕ). g) 16 _ valid.0 in
    rw c.in-Guids.is (omega (arith, e, c.len-in-Guids.ensures, valid.1))

pub returns-in-Parts : goal.returns-in-Parts
returns-in-Parts g c = rw c.in-Parts.is (omega (arith, rw c.part_null_size.ensures at c.texts_size.ensures))
