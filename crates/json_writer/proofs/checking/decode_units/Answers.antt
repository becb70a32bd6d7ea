use Rattle.std.proofs.Common.{◌≡◌, ◌∙◌, [], length, ap, sym, arith}
use Rattle.std.proofs.lemmas.Bool.Decides.{nat_tests}
use Rattle.std.proofs.lemmas.List.{append-nil, nil_from_length}
use Rattle.carrier_model.specs.Bytes.{le16, unit_bytes}
use Rattle.json_writer.specs.Decoded.{fits_with}
use Rattle.json_writer.proofs.Decoding.{fits_to_more, fits_to_end}
use Rattle.json_writer.proofs.Lists.{item_parts}
use Rattle.json_writer.proofs.checking.decode_units.Goals as goal

pub loop-rest-preserved : goal.loop-rest-preserved
loop-rest-preserved c = fits_to_more _ _ (item_parts le16 _ c.loop-rest.rest.now _ _ c.split_at.ensures.front c.split_at.ensures.back) c.loop-rest.invariant (rw c.put_units.ensures at c.decode_few.ensures)

pub returns : goal.returns
returns c =
    let none : length c.loop-rest.rest.now ≡ 0 = grind (arith, nat_tests) in
    let nothing : c.loop-rest.rest.now ≡ [] = nil_from_length c.loop-rest.rest.now none in
    sym (fits_to_end (ap unit_bytes nothing) c.loop-rest.invariant []) ∙ ap (fits_with c.args.decoder.now) (append-nil (unit_bytes c.args.units.now))
