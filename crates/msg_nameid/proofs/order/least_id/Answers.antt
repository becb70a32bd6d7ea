use Rattle.std.proofs.Common.{◌≡◌, ◌∙◌, ◌+◌, map, sym, ap, subst, arith}
use Rattle.std.specs.Prelude.{Some}
use Rattle.std.proofs.lemmas.List.{length-map}
use Rattle.std.specs.declared.cmp.Ordering.TheVariants.{Equal}
use Rattle.carrier_model.specs.Keys.{Name, name_cmp}
use Rattle.carrier_model.proofs.Orders.{name_exact}
use Rattle.msg_model.specs.NameMap.{Pair}
use Rattle.prop_names.specs.Meaning.{name_of}
use Rattle.msg_nameid.specs.Maps.{pair_of}
use Rattle.msg_nameid.specs.Orders.{pair_at}
use Rattle.msg_nameid.proofs.OrderLaws.{IsLeastOf, is_equal, is_other, least_of_all, next_differs, next_same}
use Rattle.msg_nameid.proofs.order.least_id.Goals as goal
use Rattle.msg_nameid.proofs.order.least_id.Goals.{then-is_eq, else-is_eq}

pub loop-k-preserved : goal.loop-k-preserved
loop-k-preserved c =
    let pairs = map pair_of c.args.entries.now in
    let name = name_of c.args.name.now in
    let k = c.loop-k.k in
    let e = c.nth-entry.result.now in
    elim c.if-is_eq.branch [
      | then-is_eq w ↦
          let equal : name_cmp (name_of e.name) name ≡ Equal = sym c.order.ensures.order ∙ is_equal c.order.result (sym c.is_eq.ensures ∙ w.if-is_eq.true) in
          let here : pair_at pairs k ≡ (e.id, name) = sym c.nth-entry.ensures ∙ ap (λ (n : Name). (e.id, n)) (name_exact (name_of e.name) name equal) in
          subst (IsLeastOf pairs name (k + 1)) (sym (w.least-is ∙ ap Some w.lower.ensures)) (next_same pairs name k e.id here c.loop-k.least c.loop-k.invariant)
      | else-is_eq w ↦
          let other : name_cmp (pair_at pairs k).1 name ≡ Equal → ⊥ = λ same. is_other c.order.result (sym c.is_eq.ensures ∙ w.if-is_eq.false) (c.order.ensures.order ∙ ap (λ (p : Pair). name_cmp p.1 name) c.nth-entry.ensures ∙ same) in
          subst (IsLeastOf pairs name (k + 1)) (sym w.least-is) (next_differs pairs name k c.loop-k.least other c.loop-k.invariant)
    ]

pub returns : goal.returns
returns c = least_of_all (map pair_of c.args.entries.now) (name_of c.args.name.now) c.loop-k.k c.loop-k.least (omega (arith, length-map c.args.entries.now pair_of, c.loop-k-test.false, c.loop-k.auto.k-end)) c.loop-k.invariant
