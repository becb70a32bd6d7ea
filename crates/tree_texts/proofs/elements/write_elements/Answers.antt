use Rattle.std.proofs.Common.{◌<◌, ◌≤◌, length, arith}
use Rattle.prop_values.specs.Meaning.{value_of}
use Rattle.tree_texts.specs.Elements.{elements_of}
use Rattle.tree_texts.proofs.Lists.{next_element, no_element}
use Rattle.tree_texts.proofs.Partly.{partly_ends, partly_more, partly_start, partly_stops}
use Rattle.tree_texts.proofs.elements.write_elements.Goals as goal

pub loop-k-init : goal.loop-k-init
loop-k-init g c = partly_start _ _ _

pub returns-in_err-write_next : goal.returns-in_err-write_next
returns-in_err-write_next g c =
    let texts = elements_of (value_of g.B.Blob.bytes c.args.value.now) in
    let lt : c.loop-k.k < length texts = omega (arith, c.loop-k-test.true, c.element_count-k-end.ensures) in
    partly_stops _ _ (next_element texts c.loop-k.k lt) c.from_residual.ensures.0 c.loop-k.invariant c.in_err-write_next.ensures

pub loop-k-preserved : goal.loop-k-preserved
loop-k-preserved g c =
    let texts = elements_of (value_of g.B.Blob.bytes c.args.value.now) in
    let lt : c.loop-k.k < length texts = omega (arith, c.loop-k-test.true, c.element_count-k-end.ensures) in
    partly_more _ _ (next_element texts c.loop-k.k lt) c.loop-k.invariant c.in_ok-write_next.ensures

pub returns : goal.returns
returns g c =
    let texts = elements_of (value_of g.B.Blob.bytes c.args.value.now) in
    let le : length texts ≤ c.loop-k.k = omega (arith, c.loop-k-test.false, c.element_count-k-end.ensures) in
    partly_ends (no_element texts c.loop-k.k le) c.loop-k.invariant
