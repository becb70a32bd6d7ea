use Rattle.std.proofs.Common.{◌≡◌, ◌∙◌, length, rules}
use Rattle.cfb_writer.proofs.BehindNames.{behind_filled}
use Rattle.cfb_writer.proofs.directory.bytes_behind.Goals as goal

pub returns : goal.returns
returns c =
    let front : c.copy_from_slice.new.self ≡ c.front_bytes.result = search rules in
    let class : c.copy_from_slice-2.new.self ≡ c.args.fields.now.class = search rules in
    let back : c.copy_from_slice-3.new.self ≡ c.back_bytes.result = search rules in
    let long : length c.args.fields.now.class ≡ 16 = search rules in
    behind_filled (length c.args.name.now) c.args.fields.now _ _ _ (front ∙ c.front_bytes.ensures) class (back ∙ c.back_bytes.ensures) long
