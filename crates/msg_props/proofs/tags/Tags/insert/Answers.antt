use Rattle.std.proofs.Common.{◌≡◌, ◌⊎◌, ℕ, true, List, subst}
use Rattle.msg_props.specs.Scans.{has_tag}
use Rattle.msg_props.proofs.ScanForms.{tag_more}
use Rattle.msg_props.proofs.tags.Tags.insert.Goals as goal

pub returns-clause-tags : goal.returns-clause-tags
returns-clause-tags c t h =
    subst (λ (z : List ℕ). (t ≡ c.args.tag) ⊎ (has_tag z t ≡ true)) c.self.view_is
    (tag_more c.args.tag t c.self.inside.set.keys c.insert.new.self.keys (c.in_ok-insert.ensures.updates.0 t) h)
