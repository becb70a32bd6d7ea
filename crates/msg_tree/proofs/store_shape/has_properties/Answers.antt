use Rattle.std.proofs.Common.{◌∙◌, ap, sym, arith, drop, ◌+◌}
use Rattle.std.specs.Prelude.{◌||◌}
use Rattle.carrier_model.specs.FileTrees.{files_listed}
use Rattle.carrier_model.specs.Stores.{PROPERTIES}
use Rattle.msg_tree.specs.StoreMeaning.{store_of, member_of}
use Rattle.msg_tree.proofs.StoreSteps.{named_at}
use Rattle.msg_tree.proofs.Streams.{has_from, has_all, has_step, has_none}
use Rattle.msg_tree.proofs.store_shape.has_properties.Goals as goal

pub loop-k-init : goal.loop-k-init
loop-k-init g c = has_all (store_of g.B.Blob.bytes c.args.store.now).members PROPERTIES

pub returns-then-is_list : goal.returns-then-is_list
returns-then-is_list g c =
    let xs = files_listed (store_of g.B.Blob.bytes c.args.store.now).members in
    let m = member_of g.B.Blob.bytes c.member.result.now in
    let at = named_at xs c.loop-k.k c.name.result.now m (omega (arith, c.loop-k-test.true, c.len-k-end.ensures)) c.name.ensures c.member.ensures in
    sym (c.loop-k.invariant ∙ (has_step PROPERTIES xs c.loop-k.k c.name.result.now m at ∙ ap (λ b. b || has_from PROPERTIES (drop (c.loop-k.k + 1) xs)) (sym c.is_list.ensures ∙ c.if-is_list.true)))

pub loop-k-preserved : goal.loop-k-preserved
loop-k-preserved g c =
    let xs = files_listed (store_of g.B.Blob.bytes c.args.store.now).members in
    let m = member_of g.B.Blob.bytes c.member.result.now in
    let at = named_at xs c.loop-k.k c.name.result.now m (omega (arith, c.loop-k-test.true, c.len-k-end.ensures)) c.name.ensures c.member.ensures in
    c.loop-k.invariant ∙ (has_step PROPERTIES xs c.loop-k.k c.name.result.now m at ∙ ap (λ b. b || has_from PROPERTIES (drop (c.loop-k.k + 1) xs)) (sym c.is_list.ensures ∙ c.if-is_list.false))

pub returns : goal.returns
returns g c =
    let xs = files_listed (store_of g.B.Blob.bytes c.args.store.now).members in
    sym (c.loop-k.invariant ∙ has_none PROPERTIES xs c.loop-k.k (omega (arith, c.loop-k-test.false, c.len-k-end.ensures)))
