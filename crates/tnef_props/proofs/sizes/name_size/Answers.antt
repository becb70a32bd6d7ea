use Rattle.std.proofs.Common.{◌≡◌, ◌*◌, ◌+◌, ap, arith, length}
use Rattle.prop_names.specs.Meaning.{name_of}
use Rattle.tnef_props.proofs.Lengths.{text_name_length}
use Rattle.tnef_props.proofs.sizes.name_size.Goals as goal

pub returns-in-Text-clause-size : goal.returns-in-Text-clause-size
returns-in-Text-clause-size c =
    let same : length c.deref.result.now.units ≡ length c.in-Text.text.value.units = ap (λ t. length t.units) c.deref.ensures in
    let e = text_name_length _ _ _ (2 * (c.len.result + 1)) c.pad4.result (ap name_of c.in-Text.is) c.requires (omega (arith, c.len.ensures, same)) c.pad4.ensures.multiple c.pad4.ensures.least in
    omega (arith, e)
