use Rattle.std.proofs.Common.{◌≡◌, ◌∙◌, ap, sym, subst, Some}
use Rattle.carrier_model.specs.Keys.{id}
use Rattle.carrier_model.specs.Values.{Prop, HasPair}
use Rattle.tnef_model.specs.TnefCanonical.{bits_in}
use Rattle.tnef_writer.proofs.FoundIntegers.{integer_there, integer_absent}
use Rattle.tnef_writer.proofs.write_message.integer_or.Goals as goal

pub returns-in-Some : goal.returns-in-Some
returns-in-Some g c =
    let p : Prop = c.get.result.now in
    let same : c.in-Some.ensures.found.0 ≡ p = let e : Some c.in-Some.ensures.found.0 ≡ Some p = sym c.in-Some.ensures.found.1 ∙ c.get.ensures in cc in
    let pair : HasPair (id c.args.id) 0x0003 p = subst (HasPair (id c.args.id) 0x0003) same c.in-Some.ensures.found.2 in
    c.bits_of.ensures ∙ (ap (λ (q : Prop). bits_in q.value) c.behind-props.view_is ∙ sym (integer_there c.args.props.now c.args.id c.args.other c.in-Some.at p c.in-Some.ensures.sorted c.get.ensures pair))

pub returns : goal.returns
returns g c = sym (integer_absent c.args.props.now c.args.id c.args.other c.in-None.ensures.absent)
