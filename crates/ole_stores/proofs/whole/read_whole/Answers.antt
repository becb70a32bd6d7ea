use Rattle.std.proofs.Common.{◌∙◌, ap, subst}
use Rattle.std.specs.Option.{option_map}
use Rattle.std.proofs.lemmas.Result.{err_from_is_err_and}
use Rattle.carrier_model.specs.Files.{Files}
use Rattle.carrier_model.specs.Lookups.{size_place, stream_named}
use Rattle.carrier_model.specs.Stores.{PROPERTIES, store_in}
use Rattle.carrier_io.specs.Reads.{Gives}
use Rattle.cfb_directory.specs.Shown.{files}
use Rattle.cfb_sectors.specs.Seen.{bytes_of}
use Rattle.msg_tree.specs.StoreMeaning.{store_of}
use Rattle.ole_stores.proofs.WholeFiles.{file_stops, is_message, is_store, properties_text}
use Rattle.ole_stores.proofs.whole.read_whole.Goals as goal

pub returns-in_err-files : goal.returns-in_err-files
returns-in_err-files c =
    let p = err_from_is_err_and c.from_residual.result c.from_residual.ensures.1 in
    rw (p.1, p.2) (file_stops c.args.bytes.now c.in_err-files.field-0.0 c.in_err-files.ensures.answer)

pub returns-in-Some : goal.returns-in-Some
returns-in-Some c =
    let root = files c.in_ok-files.files in
    is_message c.args.bytes.now root c.in-Some.offset c.in_ok-files.ensures.answer (c.in-Some.ensures PROPERTIES properties_text ∙ ap (λ (f : Files). option_map size_place (stream_named f.children PROPERTIES)) c.root-root.ensures.seen)

pub returns : goal.returns
returns c =
    let root = files c.in_ok-files.files in
    is_store (store_of bytes_of) c.read_store.result c.args.bytes.now root c.in_ok-files.ensures.answer (c.in-None.ensures PROPERTIES properties_text ∙ ap (λ (f : Files). option_map size_place (stream_named f.children PROPERTIES)) c.root-root.ensures.seen)
    (subst (λ (f : Files). Gives (store_of bytes_of) c.read_store.result (store_in f)) c.root-root.ensures.seen c.read_store.ensures.answer)
