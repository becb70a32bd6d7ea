use Rattle.std.specs.Prelude.{nat_eq}
use Rattle.std.proofs.lemmas.Bool.{eq-eqb, ne_eqb}
use Rattle.std.proofs.lemmas.Result.{err_from_is_err_and, IfOk-weaker, IfErr-weaker}
use Rattle.tnef_model.specs.TnefLists.{name_number, name_text}
use Rattle.prop_names.specs.Meaning.{name_of}
use Rattle.tnef_props.proofs.Forms.{left_takes, left_refuses, right_takes, right_refuses}
use Rattle.tnef_props.proofs.NameForms.{name_takes, name_refuses, kind_refuses}
use Rattle.tnef_props.proofs.names.name.Goals as goal

pub returns-in_err-kind-clause-fault : goal.returns-in_err-kind-clause-fault
returns-in_err-kind-clause-fault c =
    let p = err_from_is_err_and c.from_residual-in_err-kind.result c.from_residual-in_err-kind.ensures.1 in
    rw (p.1, p.2) (kind_refuses c.in_ok-set.set.0 c.args.from c.in_ok-set.rest c.in_err-kind.field-0.0 c.in_ok-set.ensures.found c.in_err-kind.ensures.fault)

pub returns-then-kind-eq0-clause-found : goal.returns-then-kind-eq0-clause-found
returns-then-kind-eq0-clause-found c =
    let set = c.in_ok-set.set.0 in
    let kind = c.in_ok-kind.kind in
    IfOk-weaker c.name_number.result _ _ (λ x p. name_takes set kind c.args.from c.in_ok-set.rest c.in_ok-kind.rest x.1 (name_of x.0) c.in_ok-set.ensures.found c.in_ok-kind.ensures.found
    (left_takes (nat_eq kind 0) (name_number set) (name_text set) c.in_ok-kind.rest x.1 (name_of x.0) (eq-eqb _ _ c.if-kind-eq0.true) p)) c.name_number.ensures.found

pub returns-then-kind-eq0-clause-fault : goal.returns-then-kind-eq0-clause-fault
returns-then-kind-eq0-clause-fault c =
    let set = c.in_ok-set.set.0 in
    let kind = c.in_ok-kind.kind in
    IfErr-weaker c.name_number.result _ _ (λ s p. name_refuses set kind c.args.from c.in_ok-set.rest c.in_ok-kind.rest s c.in_ok-set.ensures.found c.in_ok-kind.ensures.found
    (left_refuses (nat_eq kind 0) (name_number set) (name_text set) c.in_ok-kind.rest s (eq-eqb _ _ c.if-kind-eq0.true) p)) c.name_number.ensures.fault

pub returns-else-kind-eq0-clause-found : goal.returns-else-kind-eq0-clause-found
returns-else-kind-eq0-clause-found c =
    let set = c.in_ok-set.set.0 in
    let kind = c.in_ok-kind.kind in
    IfOk-weaker c.name_text.result _ _ (λ x p. name_takes set kind c.args.from c.in_ok-set.rest c.in_ok-kind.rest x.1 (name_of x.0) c.in_ok-set.ensures.found c.in_ok-kind.ensures.found
    (right_takes (nat_eq kind 0) (name_number set) (name_text set) c.in_ok-kind.rest x.1 (name_of x.0) (ne_eqb _ _ c.if-kind-eq0.false) p)) c.name_text.ensures.found

pub returns-else-kind-eq0-clause-fault : goal.returns-else-kind-eq0-clause-fault
returns-else-kind-eq0-clause-fault c =
    let set = c.in_ok-set.set.0 in
    let kind = c.in_ok-kind.kind in
    IfErr-weaker c.name_text.result _ _ (λ s p. name_refuses set kind c.args.from c.in_ok-set.rest c.in_ok-kind.rest s c.in_ok-set.ensures.found c.in_ok-kind.ensures.found
    (right_refuses (nat_eq kind 0) (name_number set) (name_text set) c.in_ok-kind.rest s (ne_eqb _ _ c.if-kind-eq0.false) p)) c.name_text.ensures.fault
