use Rattle.std.proofs.Common.{sym, ◌∙◌, ap, None, Some}
use Rattle.std.specs.Option.{option_map}
use Rattle.carrier_model.specs.Lookups.{Found}
use Rattle.cfb_directory.specs.Shown.{table_in}
use Rattle.cfb_directory.proofs.LookupLaws.{stream_at_name, picked_stream}
use Rattle.cfb_directory.proofs.files.Files.stream.Goals as goal

pub returns-in_err-entry : goal.returns-in_err-entry
returns-in_err-entry c = record {
  found = λ units h.
      let f = c.args.self.now in
      rw c.from_residual.ensures (ap (option_map (λ (g : Found). g.stream)) (sym (stream_at_name (table_in f) c.args.at.entry units None (f.deep c.args.at.entry) (f.apart c.args.at.entry) (c.in_err-entry.ensures.named units h))));
}

pub returns : goal.returns
returns c = record {
  found = λ units h.
      let f = c.args.self.now in
      c.as_stream.ensures ∙ (sym (picked_stream (table_in f) c.in_ok-entry.entry)
      ∙ ap (option_map (λ (g : Found). g.stream)) (sym (stream_at_name (table_in f) c.args.at.entry units (Some c.in_ok-entry.entry) (f.deep c.args.at.entry) (f.apart c.args.at.entry) (c.in_ok-entry.ensures.named units h))));
}
