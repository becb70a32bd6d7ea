use Rattle.std.proofs.Common.{◌≡◌, ◌<◌, ◌/◌, ◌*◌, ◌%◌, ℕ, length, ap, subst, ◌∙◌, arith}
use Rattle.std.proofs.lemmas.Result.{err_from_is_err_and}
use Rattle.carrier_model.specs.Sectors.{u32_of}
use Rattle.cfb_sectors.specs.Seen.{bytes_of}
use Rattle.msg_model.specs.MsgValues.{step_of}
use Rattle.msg_model.specs.StreamNames.{element_name}
use Rattle.msg_props.specs.Elements.{IsElement}
use Rattle.msg_props.specs.Entries.{streams_in}
use Rattle.msg_props.proofs.ElementForms.{gone_found, gone_lost, gone_refuses, gone_all, gone_some}
use Rattle.msg_props.proofs.PieceForms.{view_small}
use Rattle.msg_props.proofs.ValueForms.{count_small, list_small, size_read}
use Rattle.prop_values.specs.Kinds.{kind_number}
use Rattle.msg_props.proofs.elements.elements.Goals as goal
use Rattle.msg_props.proofs.elements.elements.Goals.{in-Some+in_ok-push-in-Some, in-None}

pub overflow_cast-k : goal.overflow_cast-k
overflow_cast-k c =
    let x = bytes_of c.args.sizes.now in
    let lt : c.loop-k.k < length x / c.length_width-step.result = subst (λ (n : ℕ). c.loop-k.k < n / c.length_width-step.result) c.len.ensures c.loop-k-test.true in
    omega (arith, count_small (length x) c.length_width-step.result c.loop-k.k c.length_width-step.ensures.width lt (view_small c.args.sizes.now))

pub returns-in_err-part-clause-list : goal.returns-in_err-part-clause-list
returns-in_err-part-clause-list c =
    let p = err_from_is_err_and c.from_residual-in_err-part.result c.from_residual-in_err-part.ensures.1 in
    let x = bytes_of c.args.sizes.now in
    let tag = c.args.entry.now.tag in
    let step : c.length_width-step.result ≡ step_of (tag % 0x10000) = c.length_width-step.ensures.step c.args.single c.requires.shape ∙ ap step_of c.requires.kind in
    let near : c.loop-k.k < length x / c.length_width-step.result = subst (λ (n : ℕ). c.loop-k.k < n / c.length_width-step.result) c.len.ensures c.loop-k-test.true in
    let lt : c.loop-k.k < length x / step_of (tag % 0x10000) = subst (λ (n : ℕ). c.loop-k.k < length x / n) step near in
    rw (p.1, p.2) (gone_refuses (kind_number c.args.single) c.args.entry.now.place (streams_in c.args.files.now c.args.at) tag x c.loop-k.k c.loop-k.list c.loop-k.missing c.loop-k.invariant c.u32_at-size.result c.in_err-part.field-0.0 lt c.in_err-part.ensures.fault)

pub loop-k-preserved : goal.loop-k-preserved
loop-k-preserved c =
    let x = bytes_of c.args.sizes.now in
    let tag = c.args.entry.now.tag in
    let step : c.length_width-step.result ≡ step_of (tag % 0x10000) = c.length_width-step.ensures.step c.args.single c.requires.shape ∙ ap step_of c.requires.kind in
    let size : c.u32_at-size.result ≡ u32_of x (step_of (tag % 0x10000) * c.loop-k.k) = size_read c.u32_at-size.result c.length_width-step.result (step_of (tag % 0x10000)) c.loop-k.k x step c.u32_at-size.ensures in
    elim c.match-branch-3.branch [
      | in-Some+in_ok-push-in-Some w ↦
          rw (w.list-is, w.missing-is) (gone_found (kind_number c.args.single) c.args.entry.now.place (streams_in c.args.files.now c.args.at) tag x c.loop-k.k c.loop-k.list c.loop-k.missing c.loop-k.invariant c.u32_at-size.result w.in-Some.part w.push.new.self size (subst (IsElement (kind_number c.args.single) (record { stream = streams_in c.args.files.now c.args.at (element_name tag c.loop-k.k); size = c.u32_at-size.result })) w.in-Some.is c.in_ok-part.ensures.found) w.in_ok-push-in-Some.ensures.ok)
      | in-None w ↦
          rw (w.list-is, w.missing-is) (gone_lost (kind_number c.args.single) c.args.entry.now.place (streams_in c.args.files.now c.args.at) tag x c.loop-k.k c.loop-k.list c.loop-k.missing c.loop-k.invariant c.u32_at-size.result size (subst (IsElement (kind_number c.args.single) (record { stream = streams_in c.args.files.now c.args.at (element_name tag c.loop-k.k); size = c.u32_at-size.result })) w.in-None.is c.in_ok-part.ensures.found))
    ]

pub returns-then-missing-clause-list : goal.returns-then-missing-clause-list
returns-then-missing-clause-list c =
    let x = bytes_of c.args.sizes.now in
    let tag = c.args.entry.now.tag in
    let step : c.length_width-step.result ≡ step_of (tag % 0x10000) = c.length_width-step.ensures.step c.args.single c.requires.shape ∙ ap step_of c.requires.kind in
    let end : c.loop-k.k ≡ c.len.result / c.length_width-step.result = omega (arith, c.loop-k-test.false, c.loop-k.auto.k-end) in
    let all : c.loop-k.k ≡ length x / step_of (tag % 0x10000) = end ∙ ap (λ (n : ℕ). n / c.length_width-step.result) c.len.ensures ∙ ap (λ (n : ℕ). length x / n) step in
    gone_some (kind_number c.args.single) c.args.entry.now.place (streams_in c.args.files.now c.args.at) tag x c.loop-k.k c.loop-k.list c.loop-k.missing c.loop-k.invariant all c.if-missing.true

pub returns-clause-list : goal.returns-clause-list
returns-clause-list c =
    let x = bytes_of c.args.sizes.now in
    let tag = c.args.entry.now.tag in
    let step : c.length_width-step.result ≡ step_of (tag % 0x10000) = c.length_width-step.ensures.step c.args.single c.requires.shape ∙ ap step_of c.requires.kind in
    let end : c.loop-k.k ≡ c.len.result / c.length_width-step.result = omega (arith, c.loop-k-test.false, c.loop-k.auto.k-end) in
    let all : c.loop-k.k ≡ length x / step_of (tag % 0x10000) = end ∙ ap (λ (n : ℕ). n / c.length_width-step.result) c.len.ensures ∙ ap (λ (n : ℕ). length x / n) step in
    gone_all (kind_number c.args.single) c.args.entry.now.place (streams_in c.args.files.now c.args.at) tag x c.loop-k.k c.loop-k.list c.loop-k.missing c.loop-k.invariant all c.if-missing.false

pub returns-clause-few : goal.returns-clause-few
returns-clause-few c =
    let x = bytes_of c.args.sizes.now in
    let end : c.loop-k.k ≡ c.len.result / c.length_width-step.result = omega (arith, c.loop-k-test.false, c.loop-k.auto.k-end) in
    list_small (length x) c.length_width-step.result c.loop-k.k (length c.loop-k.list) c.length_width-step.ensures.width (end ∙ ap (λ (n : ℕ). n / c.length_width-step.result) c.len.ensures) (view_small c.args.sizes.now) c.loop-k.invariant.few
