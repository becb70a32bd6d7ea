use Rattle.std.proofs.Common.{◌≡◌, ℕ, List, Bool, sym, subst, ◌∙◌, ap}
use Rattle.std.specs.Prelude.{nat_eq}
use Rattle.prop_values.specs.Kinds.{kind_number}
use Rattle.tnef_model.specs.TnefLists.{sized, text}
use Rattle.carrier_model.specs.Kinds.{null_of, without_null}
use Rattle.tnef_props.specs.Steps.{Takes}
use Rattle.tnef_props.proofs.Forms.{seen_takes}
use Rattle.tnef_props.proofs.texts.text.Goals as goal

pub returns-clause-found : goal.returns-clause-found
unfolding text
returns-clause-found c =
    let kind = kind_number c.args.kind in
    let x = c.in_ok-object.object in
    let there : Takes (sized (nat_eq kind 0x001F) 0) c.args.from (x.offset, x.bytes.now) c.in_ok-object.rest = subst (λ (b : Bool). Takes (sized b 0) c.args.from (x.offset, x.bytes.now) c.in_ok-object.rest) c.is_even.ensures c.in_ok-object.ensures.found in
    let bytes : c.without_null.result.now ≡ without_null (null_of kind) x.bytes.now = c.without_null.ensures ∙ ap (λ (n : ℕ). without_null n x.bytes.now) c.null_size.ensures in
    subst (λ (z : List ℕ). Takes (text kind) c.args.from z c.in_ok-object.rest) (sym bytes) (seen_takes (sized (nat_eq kind 0x001F) 0) (λ (p : ℕ × List ℕ). without_null (null_of kind) p.1) c.args.from c.in_ok-object.rest (x.offset, x.bytes.now) there)
