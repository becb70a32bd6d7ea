use Rattle.std.proofs.Common.{◌≡◌, ◌∙◌, List, Ok, sym, ap, subst}
use Rattle.std.specs.Prelude.{Option, Some, None}
use Rattle.carrier_io.specs.Reads.{Gives}
use Rattle.carrier_model.specs.Files.{Files}
use Rattle.carrier_model.specs.Lookups.{storage_named}
use Rattle.cfb_directory.specs.Found.{storage_seen}
use Rattle.cfb_directory.specs.Shown.{files as files_seen}
use Rattle.msg_model.specs.MsgMessage.{name_streams, name_streams_in, streams_of}
use Rattle.msg_model.specs.NameMap.{Pair, pairs_of}
use Rattle.msg_model.specs.StreamNames.{NAME_MAP}
use Rattle.msg_nameid.proofs.DraftLaws.{both_sides, none_named}
use Rattle.msg_nameid.proofs.StreamLaws.{map_text}
use Rattle.msg_nameid.proofs.map.NameMap.read.Goals as goal

pub returns-in-Some-clause-answer : goal.returns-in-Some-clause-answer
returns-in-Some-clause-answer c =
    let f = c.args.files.now in
    let there : Some (storage_seen f c.in-Some.at) ≡ storage_named (files_seen f).children NAME_MAP = c.in-Some.ensures.found NAME_MAP map_text ∙ ap (λ (x : Files). storage_named x.children NAME_MAP) c.root.ensures.seen in
    subst (λ (o : Option Files). Gives (λ (m : List Pair). m) c.read_storage.result (pairs_of (name_streams_in (streams_of o)))) there c.read_storage.ensures

pub returns-in-Some-clause-both : goal.returns-in-Some-clause-both
returns-in-Some-clause-both c =
    let f = c.args.files.now in
    let there : Some (storage_seen f c.in-Some.at) ≡ storage_named (files_seen f).children NAME_MAP = c.in-Some.ensures.found NAME_MAP map_text ∙ ap (λ (x : Files). storage_named x.children NAME_MAP) c.root.ensures.seen in
    both_sides (λ (m : List Pair). m) c.read_storage.result (name_streams (files_seen f))
    (subst (λ (o : Option Files). Gives (λ (m : List Pair). m) c.read_storage.result (pairs_of (name_streams_in (streams_of o)))) there c.read_storage.ensures)

pub returns-clause-answer : goal.returns-clause-answer
returns-clause-answer c =
    let f = c.args.files.now in
    let absent : None ≡ storage_named (files_seen f).children NAME_MAP = c.in-None.ensures.found NAME_MAP map_text ∙ ap (λ (x : Files). storage_named x.children NAME_MAP) c.root.ensures.seen in
    ap (λ (o : Option Files). pairs_of (name_streams_in (streams_of o))) (sym absent)
    ∙ (none_named _ _ ∙ ap Ok (sym (c.from_draft.ensures ∙ c.new.ensures.none.pairs)))

pub returns-clause-both : goal.returns-clause-both
returns-clause-both c =
    let f = c.args.files.now in
    let absent : None ≡ storage_named (files_seen f).children NAME_MAP = c.in-None.ensures.found NAME_MAP map_text ∙ ap (λ (x : Files). storage_named x.children NAME_MAP) c.root.ensures.seen in
    both_sides (λ (m : List Pair). m) (Ok c.from_draft.result) (name_streams (files_seen f))
    (ap (λ (o : Option Files). pairs_of (name_streams_in (streams_of o))) (sym absent)
    ∙ (none_named _ _ ∙ ap Ok (sym (c.from_draft.ensures ∙ c.new.ensures.none.pairs))))
