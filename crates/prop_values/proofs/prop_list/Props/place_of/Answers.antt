use Rattle.std.proofs.Common.{◌≡◌, ◌∙◌, ap, arith, length, subst, IfOk, IfErr}
use Rattle.carrier_model.specs.Values.{Prop, prop_cmp}
use Rattle.carrier_model.specs.Places.{IsPlace, IsGap}
use Rattle.carrier_model.proofs.Pairs.{place_of_prop, gap_of_prop}
use Rattle.prop_names.specs.Meaning.{key_of}
use Rattle.prop_values.specs.Meaning.{value_of}
use Rattle.prop_values.proofs.Arriving.{gap_past}
use Rattle.prop_values.proofs.prop_list.Props.place_of.Goals as goal

pub returns-then-is_above-clause-absent : goal.returns-then-is_above-clause-absent
returns-then-is_above-clause-absent g c =
    let count : length c.self.inside.list.items ≡ c.len.result = omega (arith, c.len.ensures, c.deref.ensures.len, ap (length {A = Prop}) c.deref.ensures.value) in
    rw (← c.self.view_is) (subst (IsGap prop_cmp c.self.inside.list.items c.args.prop.now) count (gap_past c.self.inside.list.items c.args.prop.now c.self.invariant (rw c.deref.ensures.value at (c.is_above.ensures c.if-is_above.true))))

pub returns-clause-found : goal.returns-clause-found
returns-clause-found g c =
    let seen : Prop = record { key = key_of c.prop.inside.key; value = value_of g.B.Blob.bytes c.prop.inside.value } in
    subst (λ p. IfOk c.search.result (IsPlace prop_cmp c.args.self.now p)) c.prop.view_is
    (place_of_prop c.args.self.now seen c.number.result c.search.result (c.number.ensures ∙ c.kind.ensures) c.search.ensures.found)

pub returns-clause-absent : goal.returns-clause-absent
returns-clause-absent g c =
    let seen : Prop = record { key = key_of c.prop.inside.key; value = value_of g.B.Blob.bytes c.prop.inside.value } in
    subst (λ p. IfErr c.search.result (IsGap prop_cmp c.args.self.now p)) c.prop.view_is
    (gap_of_prop c.args.self.now seen c.number.result c.search.result (c.number.ensures ∙ c.kind.ensures) c.search.ensures.absent)
