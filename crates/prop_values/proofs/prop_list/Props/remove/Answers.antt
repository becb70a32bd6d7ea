use Rattle.std.proofs.Common.{◌≡◌, refl}
use Rattle.std.proofs.lemmas.List.Quantifiers.{all_pairs_remove}
use Rattle.std.proofs.lemmas.Option.{slice_get_read}
use Rattle.std.specs.declared.cmp.Ordering.TheVariants.{Less}
use Rattle.carrier_model.specs.Values.{prop_cmp}
use Rattle.prop_values.proofs.prop_list.Props.remove.Goals as goal

pub invariant_of-self : goal.invariant_of-self
invariant_of-self g c = rw c.remove.ensures.items (all_pairs_remove (λ x y. prop_cmp x y ≡ Less) c.self.inside.list.items c.args.at (rw (← c.self.view_is) at c.requires) c.self.invariant)

pub returns-clause-taken : goal.returns-clause-taken
returns-clause-taken g c = slice_get_read _ _ c.args.at c.remove.result refl c.requires (rw c.self.view_is at c.remove.ensures.value)
