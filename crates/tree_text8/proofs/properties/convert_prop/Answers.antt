use Rattle.std.proofs.Common.{◌≡◌, true, refl, ◌∙◌, ap}
use Rattle.carrier_model.specs.Values.{Prop}
use Rattle.prop_names.specs.Meaning.{key_of}
use Rattle.prop_values.specs.Meaning.{value_of}
use Rattle.text8_model.specs.Unicode as plain
use Rattle.tree_text8.specs.Meaning.{plain_page}
use Rattle.tree_text8.proofs.Pairs.{wide_fits}
use Rattle.tree_text8.proofs.properties.convert_prop.Goals as goal

pub invariant_of-result : goal.invariant_of-result
invariant_of-result g c =
    let p : Prop = record { key = key_of c.prop.inside.key; value = value_of g.C.Blob.bytes c.prop.inside.value } in
    let is : plain.is_to_convert c.requires.0 p ≡ true = ap (plain.is_to_convert c.requires.0) c.prop.view_is ∙ (c.requires.1 ∙ c.if-not-marked.false) in
    wide_fits (plain_page c.in-Some.page) c.requires.0 p _ _ is (c.in-Ok.ensures.good 0 0) c.prop.invariant refl (c.in_ok-value-in-Ok.ensures ∙ c.in-Ok.ensures.ok)
