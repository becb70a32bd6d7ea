use Rattle.std.proofs.Common.{take_all, sym, ap, ◌∙◌, arith}
use Rattle.std.specs.List.{flat_map}
use Rattle.std.proofs.lemmas.List.Folds.{flat_map-map}
use Rattle.prop_names.specs.declared.names.Guid.{Guid}
use Rattle.msg_nameid.proofs.sets.Sets.bytes.Goals as goal

pub returns : goal.returns
returns c =
    c.loop-set.invariant
    ∙ (ap (flat_map (λ (g : Guid). g.0)) (take_all c.loop-set.set-index c.deref-set-items.result.now (omega arith) ∙ c.deref-set-items.ensures.value)
    ∙ (sym (flat_map-map (λ set. set) (λ (g : Guid). g.0) c.self.inside.list.items) ∙ ap (flat_map (λ set. set)) c.self.view_is))
