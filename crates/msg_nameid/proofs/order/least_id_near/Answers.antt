use Rattle.std.proofs.Common.{◌≡◌, ◌∙◌, map, sym, ap, arith}
use Rattle.std.specs.declared.cmp.Ordering.TheVariants.{Equal}
use Rattle.std.proofs.lemmas.List.{length-map}
use Rattle.carrier_model.specs.Keys.{name_cmp}
use Rattle.msg_model.specs.NameMap.{Pair}
use Rattle.prop_names.specs.Meaning.{name_of}
use Rattle.msg_nameid.specs.Maps.{pair_of}
use Rattle.msg_nameid.specs.Orders.{pair_at}
use Rattle.msg_nameid.proofs.OrderLaws.{none_left, none_there, least_there}
use Rattle.msg_nameid.proofs.order.least_id_near.Goals as goal

pub returns-then-at-entries : goal.returns-then-at-entries
returns-then-at-entries c = none_left (map pair_of c.args.entries.now) c.requires (name_of c.args.name.now) c.count_below-at.result c.count_below-at.ensures (omega (arith, length-map c.args.entries.now pair_of))

pub returns-in-Equal : goal.returns-in-Equal
returns-in-Equal c =
    let name = name_of c.args.name.now in
    let equal : name_cmp (pair_at (map pair_of c.args.entries.now) c.count_below-at.result).1 name ≡ Equal = ap (λ (p : Pair). name_cmp p.1 name) (sym c.nth-entry.ensures) ∙ (sym c.order.ensures.order ∙ c.in-Equal.is) in
    least_there (map pair_of c.args.entries.now) c.requires name c.count_below-at.result c.count_below-at.ensures (omega (arith, length-map c.args.entries.now pair_of)) equal c.nth-entry.result.now.id (ap (λ (p : Pair). p.0) c.nth-entry.ensures)

pub returns-in_default : goal.returns-in_default
returns-in_default c =
    let name = name_of c.args.name.now in
    none_there (map pair_of c.args.entries.now) c.requires name c.count_below-at.result c.count_below-at.ensures (omega (arith, length-map c.args.entries.now pair_of)) (λ e. c.in_default.not-Equal (c.order.ensures.order ∙ (ap (λ (p : Pair). name_cmp p.1 name) c.nth-entry.ensures ∙ e)))
