use Rattle.std.proofs.Common.{sym, ◌∙◌, ap, None, Some}
use Rattle.std.specs.Option.{option_map}
use Rattle.cfb_directory.specs.Found.{storage_seen}
use Rattle.cfb_directory.specs.Shown.{table_in}
use Rattle.cfb_directory.proofs.LookupLaws.{storage_at_name, pick_seen}
use Rattle.cfb_directory.proofs.files.Files.storage.Goals as goal

pub returns-in_err-entry-clause-found : goal.returns-in_err-entry-clause-found
returns-in_err-entry-clause-found c = λ units h.
    let f = c.args.self.now in
    rw c.from_residual.ensures (sym (storage_at_name (table_in f) c.args.at.entry units None (f.deep c.args.at.entry) (f.apart c.args.at.entry) (c.in_err-entry.ensures.named units h)))

pub returns-clause-found : goal.returns-clause-found
returns-clause-found c = λ units h.
    let f = c.args.self.now in
    ap (option_map (storage_seen f)) c.as_storage.ensures
    ∙ (pick_seen f c.in_ok-entry.entry
    ∙ sym (storage_at_name (table_in f) c.args.at.entry units (Some c.in_ok-entry.entry) (f.deep c.args.at.entry) (f.apart c.args.at.entry) (c.in_ok-entry.ensures.named units h)))
