use Rattle.std.proofs.Common.{take, ap, sym, subst, ◌∙◌}
use Rattle.std.proofs.lemmas.List.{take-map}
use Rattle.cfb_list.specs.Contents.{children_of, storages_of}
use Rattle.cfb_list.specs.Listed.{Listed, IsSound}
use Rattle.cfb_list.proofs.Added.{seen_with}
use Rattle.cfb_list.proofs.list.FileList.keep_first.Goals as goal

pub invariant_of-self : goal.invariant_of-self
invariant_of-self g c =
    let of = g.B.Blob.bytes in
    subst IsSound (sym (ap (storages_of of) c.truncate.ensures.items ∙ sym (take-map (children_of of) c.args.count c.self.inside.storages.items)))
    (subst (λ (l : Listed). IsSound (take c.args.count l.storages)) (sym c.self.view_is) c.requires)

pub returns : goal.returns
returns g c =
    let of = g.B.Blob.bytes in
    seen_with c.self.inside.root_class (storages_of of c.self.inside.storages.items) _ c.args.self.now (take c.args.count) c.self.view_is (ap (storages_of of) c.truncate.ensures.items ∙ sym (take-map (children_of of) c.args.count c.self.inside.storages.items))
