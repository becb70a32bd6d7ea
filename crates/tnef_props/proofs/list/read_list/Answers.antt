use Rattle.std.proofs.Common.{◌+◌, ℕ, List, Bool, drop, refl, subst}
use Rattle.std.specs.Option.{option_map}
use Rattle.std.proofs.lemmas.Result.{err_from_is_err_and}
use Rattle.carrier_io.specs.Reads.{OnFault}
use Rattle.carrier_model.specs.Grammar.{Spans}
use Rattle.tnef_model.specs.TnefLists.{PropList, prop_list}
use Rattle.tnef_props.specs.Meaning.{object_of}
use Rattle.tnef_props.specs.ReadLists.{is_attachment}
use Rattle.tnef_props.proofs.ReadForms.{list_alone, list_fault, spans_end}
use Rattle.tnef_props.proofs.list.read_list.Goals as goal

pub returns-in_err-props-clause-fault : goal.returns-in_err-props-clause-fault
returns-in_err-props-clause-fault g c =
    let p = err_from_is_err_and c.from_residual.result c.from_residual.ensures.1 in
    let at = c.args.at + c.args.from in
    let bytes = drop c.args.from c.args.bytes.now in
    let s = c.in_err-props.field-0.0 in
    let here : OnFault ((prop_list (is_attachment c.args.part)).fails at bytes) s =
    subst (λ (z : List ℕ). OnFault ((prop_list (is_attachment c.args.part)).fails at z) s) c.split_at.ensures.back
    (subst (λ (b : Bool). OnFault ((prop_list b).fails at c.split_at.result.1.now) s) c.is_of_attachment-in_attachment.ensures c.in_err-props.ensures.fault) in
    rw (p.1, p.2) (list_fault (is_attachment c.args.part) at bytes s here)

pub returns-clause-found : goal.returns-clause-found
returns-clause-found g c =
    let at = c.args.at + c.args.from in
    let bytes = drop c.args.from c.args.bytes.now in
    let g = c.in_ok-props.ensures.found in
    let b = is_attachment c.args.part in
    let x : PropList = record { props = c.in_ok-props.props; object = option_map object_of c.in_ok-props.object; passed = g.0 } in
    let rest = c.in_ok-props.rest in
    let here : Spans (prop_list b) at bytes x rest.place rest.bytes.now =
    subst (λ (z : List ℕ). Spans (prop_list b) at z x rest.place rest.bytes.now) c.split_at.ensures.back
    (subst (λ (t : Bool). Spans (prop_list t) at c.split_at.result.1.now x rest.place rest.bytes.now) c.is_of_attachment-in_attachment.ensures g.1) in
    record {
      more = g.0;
      spans = spans_end (prop_list b) c.args.bytes.now c.args.from c.args.at x rest.place rest.bytes.now _ c.requires.from refl here;
      alone = list_alone b at bytes x (rest.bytes.now, here.begins);
      passed = g.2;
    }
