use Rattle.std.proofs.Common.{◌≡◌, ℕ, ◌+◌, ◌*◌, List, ◌++◌, length, ap, ◌∙◌, arith}
use Rattle.std.specs.Prelude.{vec_len}
use Rattle.carrier_model.specs.Bytes.{le32, pad4}
use Rattle.msg_nameid.proofs.TextSteps.{zeros_put, unit_put, all_put}
use Rattle.msg_nameid.proofs.gathering.push_units.Goals as goal

pub loop-k-init : goal.loop-k-init
loop-k-init c =
    let units = c.args.units.now in
    let old = c.args.texts.now.items in
    let front = old ++ le32 (2 * length units) in
    let count : c.pad4.result ≡ pad4 (2 * length units) = omega (arith, c.pad4.ensures.multiple, c.pad4.ensures.least) in
    let put : c.extend_from_slice.new.self.items ≡ front = c.in_ok-extend_from_slice.ensures.items ∙ ap (λ (l : List ℕ). old ++ l) c.low_bytes.ensures in
    let long : c.len-first.result ≡ length front = omega (arith, c.len-first.ensures, c.extend_from_slice.new.self.ok.0, ap (length {A = ℕ}) put) in
    (omega (arith, c.in_ok-resize.ensures.len, count), zeros_put front c.extend_from_slice.new.self.items c.resize.new.self.items c.len-first.result (vec_len c.extend_from_slice.new.self) (2 * length units) c.pad4.result (pad4 (2 * length units)) put long c.len-first.ensures count c.in_ok-resize.ensures.items)

pub index_mut-requires : goal.index_mut-requires
index_mut-requires c = omega (arith, c.loop-k.invariant.0, c.loop-k-test.true)

pub index_mut-requires-in-loop-k : goal.index_mut-requires-in-loop-k
index_mut-requires-in-loop-k c = omega (arith, c.loop-k.invariant.0, c.loop-k-test.true)

pub loop-k-preserved : goal.loop-k-preserved
loop-k-preserved c =
    let units = c.args.units.now in
    let front = c.args.texts.now.items ++ le32 (2 * length units) in
    let put : c.extend_from_slice.new.self.items ≡ front = c.in_ok-extend_from_slice.ensures.items ∙ ap (λ (l : List ℕ). c.args.texts.now.items ++ l) c.low_bytes.ensures in
    let first : c.len-first.result ≡ length front = omega (arith, c.len-first.ensures, c.extend_from_slice.new.self.ok.0, ap (length {A = ℕ}) put) in
    (c.loop-k.invariant.0, unit_put front c.loop-k.texts.items units c.le16.result c.len-first.result c.loop-k.k (2 * length units + pad4 (2 * length units)) c.loop-k.invariant.1 first c.le16.ensures c.loop-k-test.true (omega arith))

pub returns : goal.returns
returns c =
    let units = c.args.units.now in
    let at : c.loop-k.k ≡ length units = omega (arith, c.loop-k-test.false, c.loop-k.auto.k-end) in
    all_put c.args.texts.now.items c.loop-k.texts.items units c.loop-k.k (pad4 (2 * length units)) (omega arith) (omega arith) at c.loop-k.invariant.1
