use Rattle.std.proofs.Common.{◌≡◌, ℕ, List, true, false, sym, ◌∙◌}
use Rattle.std.specs.Prelude.{nat_eq, ◌&&◌}
use Rattle.carrier_model.specs.Grammar.{and_then, gives, choice}
use Rattle.tnef_model.specs.TnefLists.{object, one, sized, carried, passed}
use Rattle.tnef_props.proofs.Forms.{then_takes, seen_takes, left_takes, right_takes}
use Rattle.tnef_props.proofs.items.object.Goals as goal

pub returns-then-is_attached-clause-found : goal.returns-then-is_attached-clause-found
unfolding object
returns-then-is_attached-clause-found c =
    let mine : (c.args.in_attachment && nat_eq c.args.tag 0x3701000D) ≡ true = sym c.is_attached.ensures ∙ c.if-is_attached.true in
    let x = c.in_ok-object.object in
    then_takes one (λ (n : ℕ). choice (c.args.in_attachment && nat_eq c.args.tag 0x3701000D) (and_then (sized false 16) (λ x. gives (carried x.0 x.1))) (and_then (sized false 0) (λ x. gives (passed c.args.tag c.args.offset)))) c.args.from c.in_ok-rest.rest c.in_ok-object.rest 1 _ c.in_ok-rest.ensures.found
    (left_takes _ _ _ c.in_ok-rest.rest c.in_ok-object.rest _ mine (seen_takes (sized false 16) (λ (x : ℕ × List ℕ). carried x.0 x.1) c.in_ok-rest.rest c.in_ok-object.rest (x.offset, x.bytes.now) c.in_ok-object.ensures.found))

pub returns-clause-found : goal.returns-clause-found
unfolding object
returns-clause-found c =
    let other : (c.args.in_attachment && nat_eq c.args.tag 0x3701000D) ≡ false = sym c.is_attached.ensures ∙ c.if-is_attached.false in
    let x = c.in_ok-rest-2.field-0-0 in
    then_takes one (λ (n : ℕ). choice (c.args.in_attachment && nat_eq c.args.tag 0x3701000D) (and_then (sized false 16) (λ x. gives (carried x.0 x.1))) (and_then (sized false 0) (λ x. gives (passed c.args.tag c.args.offset)))) c.args.from c.in_ok-rest.rest c.in_ok-rest-2.rest 1 _ c.in_ok-rest.ensures.found
    (right_takes _ _ _ c.in_ok-rest.rest c.in_ok-rest-2.rest _ other (seen_takes (sized false 0) (λ (x : ℕ × List ℕ). passed c.args.tag c.args.offset) c.in_ok-rest.rest c.in_ok-rest-2.rest (x.offset, x.bytes.now) c.in_ok-rest-2.ensures.found))
