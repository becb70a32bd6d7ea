use Rattle.std.proofs.Common.{refl, sym, ◌∙◌, ap, Some}
use Rattle.std.specs.List.{flat_map}
use Rattle.std.specs.Char.Escape.{encode_utf16}
use Rattle.std.specs.Str.{chars}
use Rattle.std.proofs.lemmas.Str.{is_utf8-from_IsUtf8}
use Rattle.carrier_model.specs.Bytes.{unit_bytes}
use Rattle.tree_text8.proofs.Elements.{not_utf8}
use Rattle.tree_text8.proofs.texts.wide_utf8.Goals as goal

pub returns-in_ok-utf16_bytes-in-Ok-clause-ok : goal.returns-in_ok-utf16_bytes-in-Ok-clause-ok
returns-in_ok-utf16_bytes-in-Ok-clause-ok c =
    let text = c.in-Ok.ensures.cases in
    (rw (is_utf8-from_IsUtf8 c.args.bytes.now text.1) refl, c.in_ok-utf16_bytes-in-Ok.ensures ∙ ap (λ l. unit_bytes (flat_map encode_utf16 (chars l))) text.0)

pub returns-in-Err-clause-bad : goal.returns-in-Err-clause-bad
returns-in-Err-clause-bad c =
    let place = c.valid_up_to.ensures ∙ c.in-Err.ensures.valid_len in
    (refl, rw (not_utf8 c.args.bytes.now c.in-Err.ensures.cases.0) (ap Some (sym place)))
