use Rattle.std.proofs.Common.{◌-◌, ◌∙◌, ap, map}
use Rattle.json_model.specs.Properties.{listed_json, bytes_json}
use Rattle.serde_json.specs.Written.{compact_text}
use Rattle.json_writer.proofs.Counted.{counts_as}
use Rattle.tree_json.proofs.write_props.write_parts.Goals as goal

pub returns-clause-json : goal.returns-clause-json
returns-clause-json g c = counts_as _ (ap (λ n. compact_text (listed_json (map (bytes_json n) c.args.list.now))) (c.saturating_sub.ensures ∙ ap (λ n. n - 0x1000) c.number.ensures)) c.write_each.ensures.json
