use Rattle.std.proofs.Common.{◌-◌, [], get_or, ap, subst, sym, ◌∙◌}
use Rattle.carrier_model.specs.KeyTexts.{guid_text}
use Rattle.carrier_model.specs.Values.{IsValue}
use Rattle.text_model.specs.ValueTexts.{bytes_text, number_text}
use Rattle.prop_values.specs.Kinds.{kind_number}
use Rattle.prop_values.specs.Meaning.{value_of}
use Rattle.tree_texts.specs.Elements.{elements_of}
use Rattle.tree_texts.proofs.Lists.{mapped_at}
use Rattle.tree_texts.proofs.Partly.{writes_as}
use Rattle.tree_texts.proofs.elements.write_element.Goals as goal

pub returns-in-Numbers : goal.returns-in-Numbers
returns-in-Numbers g c =
    let kind = kind_number c.in-Numbers.kind in
    let x = c.get.result.now in
    let v = subst (λ y. IsValue (value_of g.B.Blob.bytes y)) c.in-Numbers.is c.requires.value in
    let one = ap (λ k. number_text k x) (c.single_of.ensures.number (c.single_of.ensures.several v.1)) in
    let here = mapped_at (number_text (kind - 0x1000)) c.in-Numbers.list c.args.k x c.get.ensures in
    let seen = ap (λ y. get_or (elements_of (value_of g.B.Blob.bytes y)) c.args.k []) (sym c.in-Numbers.is) in
    writes_as _ (one ∙ (sym here ∙ seen)) c.write_number.ensures

pub returns-in-Guids : goal.returns-in-Guids
returns-in-Guids g c =
    let here = mapped_at guid_text c.in-Guids.list c.args.k c.get-in-Guids.result.now.0 c.get-in-Guids.ensures in
    let seen = ap (λ y. get_or (elements_of (value_of g.B.Blob.bytes y)) c.args.k []) (sym c.in-Guids.is) in
    writes_as _ (sym here ∙ seen) c.print_guid.ensures

pub returns-in-Parts : goal.returns-in-Parts
returns-in-Parts g c =
    let kind = kind_number c.in-Parts.kind in
    let x = g.B.Blob.bytes c.get-in-Parts.result.now in
    let v = subst (λ y. IsValue (value_of g.B.Blob.bytes y)) c.in-Parts.is c.requires.value in
    let one = ap (λ k. bytes_text k x) (c.single_of-in-Parts.ensures.number v.1) in
    let here = mapped_at (bytes_text (kind - 0x1000)) c.in-Parts.list c.args.k x c.get-in-Parts.ensures in
    let seen = ap (λ y. get_or (elements_of (value_of g.B.Blob.bytes y)) c.args.k []) (sym c.in-Parts.is) in
    writes_as _ (one ∙ (sym here ∙ seen)) c.write_bytes.ensures
