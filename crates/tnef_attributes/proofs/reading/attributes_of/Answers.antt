use Rattle.std.proofs.Common.{◌+◌, ℕ, length, ap, ◌∙◌, arith}
use Rattle.tnef_model.specs.Attributes.{attrs}
use Rattle.carrier_model.proofs.Items.{Spells-push, behind-push}
use Rattle.tnef_attributes.specs.Views.{view}
use Rattle.tnef_attributes.proofs.reading.attributes_of.Goals as goal

pub loop-rest-preserved : goal.loop-rest-preserved
loop-rest-preserved c =
    let before = c.loop-rest.attributes in
    let a = view c.in_ok-attribute.attribute in
    rw c.in_ok-push.ensures.ok (record {
      spelled = Spells-push attrs c.args.at c.args.bytes.now before c.loop-rest.rest.now a c.in_ok-attribute.after.now c.loop-rest.place c.loop-rest.invariant.spelled c.loop-rest.invariant.state c.in_ok-attribute.ensures.found;
      state = behind-push attrs c.args.at before a ∙ ap (λ (n : ℕ). n + (11 + length c.in_ok-attribute.attribute.bytes.now)) c.loop-rest.invariant.state;
      room = omega (arith, c.in_ok-attribute.ensures.size);
    })
