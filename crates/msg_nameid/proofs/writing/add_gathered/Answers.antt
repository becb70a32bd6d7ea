use Rattle.std.proofs.Common.{ap, ◌∙◌}
use Rattle.std.proofs.lemmas.Result.{on_ok_weaker}
use Rattle.carrier_model.specs.FileTrees.{storage, no_file, NO_CLASS}
use Rattle.cfb_list.specs.Grown.{grown}
use Rattle.msg_model.specs.StreamNames.{NAME_MAP}
use Rattle.msg_nameid.specs.Gathered.{Gathered, files_gathered}
use Rattle.msg_nameid.proofs.AddedFiles.{name_map_added}
use Rattle.msg_nameid.proofs.writing.add_gathered.Goals as goal

pub returns : goal.returns
returns g c =
    let first = c.args.files.now in
    let all : Gathered = record { sets = c.streams.inside.sets; entries = c.streams.inside.entries.items; texts = c.streams.inside.texts.items; hashes = c.streams.inside.hashes } in
    on_ok_weaker c.add_hashes.result
    (λ e. name_map_added first c.add_storage.new.self c.add_stream.new.files c.add_stream-2.new.files c.add_stream-3.new.files c.add_hashes.new.files c.in_ok-at.at all c.in_ok-guids.guids.items c.in_ok-at.ensures.number c.in_ok-guids.ensures c.in_ok-at.ensures.ok c.in_ok-add_stream.ensures c.in_ok-add_stream-2.ensures c.in_ok-add_stream-3.ensures e
    ∙ ap (λ (s : Gathered). record first { storages = grown first.storages 0 (storage NAME_MAP NO_CLASS (files_gathered s) no_file) }) c.streams.view_is)
    c.add_hashes.ensures
