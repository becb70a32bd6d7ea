use Rattle.std.proofs.Common.{◌≡◌, ℕ, ◌+◌, ◌*◌, List, ◌++◌, length, replicate, refl, ap, ◌∙◌, rules}
use Rattle.carrier_model.specs.Bytes.{le16}
use Rattle.cfb_writer.specs.Entered.{field_bytes}
use Rattle.cfb_writer.proofs.BehindNames.{put, both_put}
use Rattle.cfb_writer.proofs.NameBytes.{field_then}
use Rattle.cfb_writer.proofs.directory.entry_bytes.Goals as goal

pub returns : goal.returns
returns c =
    let units = c.args.name.now in
    let f = c.args.fields.now in
    let front = c.name_bytes.result in
    let name : c.copy_from_slice.new.self ≡ front = search rules in
    let behind : c.copy_from_slice-2.new.self ≡ c.bytes_behind.result = search rules in
    let long : length front ≡ 64 = search rules in
    (λ t. put 64 64 (put 0 64 (replicate 128 0) (name t)) (behind t))
    ∙ both_put front c.bytes_behind.result long
    ∙ ap (λ (l : List ℕ). front ++ l) c.bytes_behind.ensures
    ∙ field_then units front (le16 (2 * (length units + 1))) (field_bytes f) c.name_bytes.ensures refl
