use Rattle.std.proofs.Common.{◌≡◌, ◌∙◌, sym, ap, length, unwrap_or}
use Rattle.json_model.specs.StoreForms.{last_name}
use Rattle.tree_from_json.specs.Entries.{entry_at, path_to}
use Rattle.tree_from_json.proofs.Shortened.{short_at, last_taken}
use Rattle.tree_from_json.proofs.entries.Entry.placed.Goals as goal

pub returns : goal.returns
returns c =
    let path = c.args.self.path.items in
    let level : c.len-level.result ≡ length path = c.len-level.ensures ∙ c.args.self.path.ok.0 in
    let name : c.unwrap_or-name.result ≡ last_name path =
    c.unwrap_or-name.ensures ∙ (ap (unwrap_or c.pop.result) c.new.ensures ∙ last_taken path c.pop.new.self.items c.pop.result _ _ c.args.self.path.ok.0 c.pop.ensures.items c.pop.ensures.cases) in
    (λ i. entry_at (path_to (level i) (name i)) c.args.self.content) ∙ sym (short_at path c.args.self.content)
