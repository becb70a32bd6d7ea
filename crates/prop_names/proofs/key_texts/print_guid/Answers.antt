use Rattle.std.proofs.Common.{◌≡◌, ◌∙◌, ap, length, rules}
use Rattle.uuid.specs.Text as printed
use Rattle.carrier_model.specs.KeyTexts.{guid_text}
use Rattle.prop_names.proofs.Texts.{braced}
use Rattle.prop_names.proofs.key_texts.print_guid.Goals as goal

pub returns : goal.returns
returns g c =
    let long : length c.args.set.now.0 ≡ 16 = search rules in
    let text : c.as_bytes.result.now ≡ guid_text c.args.set.now.0 = c.as_bytes.ensures.value ∙ c.encode_lower-text.ensures.text ∙ ap (printed.braced_text printed.lower) (c.braced.ensures ∙ c.from_bytes_le.ensures) ∙ braced c.args.set.now.0 long in
    rw text at c.write_pieces.ensures
