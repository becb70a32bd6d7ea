use Rattle.std.proofs.Common.{◌<◌, ◌≤◌, ◌∙◌, length, ap, refl, subst, sym, arith}
use Rattle.std.proofs.lemmas.Option.{slice_get_read}
use Rattle.carrier_model.specs.Values.{prop_cmp}
use Rattle.carrier_model.specs.Sorted.{IsStrictlySorted}
use Rattle.carrier_model.proofs.Ids.{id_at_place, id_at_gap, id_at_end}
use Rattle.prop_values.proofs.prop_list.Props.has_id.Goals as goal

pub returns-in-Ok : goal.returns-in-Ok
returns-in-Ok g c = c.has_id.ensures ∙ id_at_place _ _ _ _ c.in-Ok.ensures.found (slice_get_read c.args.self.now (length c.args.self.now) c.in-Ok.at c.index.result.now refl c.in-Ok.ensures.found.in_range (rw c.self.view_is at c.index.ensures))

pub returns-then-at-len : goal.returns-then-at-len
returns-then-at-len g c =
    let sorted : IsStrictlySorted prop_cmp c.args.self.now = subst (IsStrictlySorted prop_cmp) c.self.view_is c.self.invariant in
    let past : length c.args.self.now ≤ c.in-Err.at = omega (arith, c.len.ensures, ap length c.self.view_is, c.if-at-len.true) in
    sym (id_at_end _ _ _ sorted c.in-Err.ensures.absent past)

pub returns-else-at-len : goal.returns-else-at-len
returns-else-at-len g c =
    let sorted : IsStrictlySorted prop_cmp c.args.self.now = subst (IsStrictlySorted prop_cmp) c.self.view_is c.self.invariant in
    let within : c.in-Err.at < length c.args.self.now = omega (arith, c.len.ensures, ap length c.self.view_is, c.if-at-len.false, c.in-Err.ensures.absent.in_range) in
    c.has_id-in-Err.ensures ∙ id_at_gap _ _ _ _ sorted c.in-Err.ensures.absent (slice_get_read c.args.self.now (length c.args.self.now) c.in-Err.at c.index-in-Err.result.now refl within (rw c.self.view_is at c.index-in-Err.ensures))
