use Rattle.std.proofs.Common.{sym, ◌∙◌, ◌+◌, ap, None, Some}
use Rattle.std.specs.Option.{option_map}
use Rattle.std.proofs.lemmas.Bool.{cond-true, cond-false}
use Rattle.carrier_model.specs.Links.{is_storage}
use Rattle.carrier_model.specs.Lookups.{size_place}
use Rattle.cfb_directory.specs.Shown.{table_in}
use Rattle.cfb_directory.proofs.LookupLaws.{stream_at_name, storage_kind, stream_kind}
use Rattle.cfb_directory.proofs.files.Files.size_offset.Goals as goal

pub returns-in_err-entry : goal.returns-in_err-entry
returns-in_err-entry c = λ units h.
    let f = c.args.self.now in
    rw c.from_residual.ensures (ap (option_map size_place) (sym (stream_at_name (table_in f) c.args.at.entry units None (f.deep c.args.at.entry) (f.apart c.args.at.entry) (c.in_err-entry.ensures.named units h))))

pub returns-then-kind-eq-STORAGE : goal.returns-then-kind-eq-STORAGE
returns-then-kind-eq-STORAGE c = λ units h.
    let f = c.args.self.now in
    let T = table_in f in
    let at = c.args.at.entry in
    let id = c.in_ok-entry.entry in
    sym (ap (option_map size_place) (stream_at_name T at units (Some id) (f.deep at) (f.apart at) (c.in_ok-entry.ensures.named units h) ∙ cond-true (is_storage (T.entry id)) None (Some (record { stream = T.stream id; entry = T.place id })) (storage_kind (T.entry id) c.kind.result c.kind.ensures c.if-kind-eq-STORAGE.true)))

pub returns-else-kind-eq-STORAGE : goal.returns-else-kind-eq-STORAGE
returns-else-kind-eq-STORAGE c = λ units h.
    let f = c.args.self.now in
    let T = table_in f in
    let at = c.args.at.entry in
    let id = c.in_ok-entry.entry in
    ap (λ p. Some (p + 120)) c.entry_offset.ensures.place
    ∙ sym (ap (option_map size_place) (stream_at_name T at units (Some id) (f.deep at) (f.apart at) (c.in_ok-entry.ensures.named units h) ∙ cond-false (is_storage (T.entry id)) None (Some (record { stream = T.stream id; entry = T.place id })) (stream_kind (T.entry id) c.kind.result c.kind.ensures c.if-kind-eq-STORAGE.false)))
