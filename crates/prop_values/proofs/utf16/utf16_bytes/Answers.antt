use Rattle.std.proofs.Common.{◌≡◌, sym, ◌∙◌, ap}
use Rattle.std.specs.List.{flat_map}
use Rattle.std.specs.Char.Escape.{encode_utf16}
use Rattle.std.specs.Str.{chars}
use Rattle.std.proofs.lemmas.Iterator.{YieldsList-from_chars}
use Rattle.std.proofs.lemmas.Iterator.Consumers.{YieldsList-end}
use Rattle.std.proofs.lemmas.List.{map-id}
use Rattle.carrier_model.specs.Bytes.{unit_bytes}
use Rattle.prop_values.proofs.utf16.utf16_bytes.Goals as goal

pub returns : goal.returns
returns c =
    let t = YieldsList-end (YieldsList-from_chars c.args.text.now c.utf8.text cc) c.loop-character.yielded _ c.loop-character.yielded_by _ _ c.in-None.is c.next.ensures.steps in
    let whole : c.loop-character.yielded ≡ chars c.args.text.now = sym (map-id c.loop-character.yielded) ∙ t.0 in
    c.loop-character.invariant ∙ ap (λ cs. unit_bytes (flat_map encode_utf16 cs)) whole
