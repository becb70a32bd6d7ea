use Rattle.std.proofs.Common.{rules, ◌∙◌, ap, sym, arith, drop, flat_map, ◌+◌}
use Rattle.std.specs.Option.{option_map}
use Rattle.carrier_model.specs.Limits.{first_limit, passed_by}
use Rattle.carrier_model.specs.Tree as plain
use Rattle.carrier_model.proofs.Messages.{messages_from, limits_found, limits_later}
use Rattle.carrier_model.proofs.Trees.{depth_at_le}
use Rattle.msg_tree.specs.Limiting.{limit_of}
use Rattle.msg_tree.specs.Meaning.{list_of, attached_of}
use Rattle.msg_tree.specs.declared.messages.Message.{out-Message}
use Rattle.msg_tree.proofs.Unrolled.{depth_out}
use Rattle.msg_tree.proofs.target_limits.+limits.Goals as goal

pub first_passed-passed_at-requires : goal.first_passed-passed_at-requires
first_passed-passed_at-requires g t c κs within =
    let xs = list_of g.B.Blob.bytes (out-Message g.row.B.Denot c.args.message.now).attachments in
    let e = depth_out g.B.Blob.bytes c.args.message.now in
    let le = depth_at_le xs c.loop-k.k _ c.get.ensures in
    (omega (arith, e, le), search rules)

pub first_passed-returns-in-Some-passed_at : goal.first_passed-returns-in-Some-passed_at
first_passed-returns-in-Some-passed_at g t c =
    let xs = list_of g.B.Blob.bytes (out-Message g.row.B.Denot c.args.message.now).attachments in
    let ms = plain.messages_at (attached_of g.B.Blob.bytes c.get.result.now) in
    let ns = plain.messages_below (plain.attachments_from (drop (c.loop-k.k + 1) xs)) in
    let found = sym c.passed_at.ensures ∙ ap (option_map limit_of) c.in-Some-passed_at.is in
    let from = ap (λ l. first_limit (flat_map passed_by l)) (messages_from xs c.loop-k.k _ c.get.ensures) in
    sym (from ∙ limits_found ms ns (limit_of c.in-Some-passed_at.limit) found) ∙ c.loop-k.invariant

pub first_passed-loop-k-preserved : goal.first_passed-loop-k-preserved
first_passed-loop-k-preserved g t c =
    let xs = list_of g.B.Blob.bytes (out-Message g.row.B.Denot c.args.message.now).attachments in
    let ms = plain.messages_at (attached_of g.B.Blob.bytes c.get.result.now) in
    let ns = plain.messages_below (plain.attachments_from (drop (c.loop-k.k + 1) xs)) in
    let none = sym c.passed_at.ensures ∙ ap (option_map limit_of) c.in_default-passed_at.is in
    let from = ap (λ l. first_limit (flat_map passed_by l)) (messages_from xs c.loop-k.k _ c.get.ensures) in
    sym (from ∙ limits_later ms ns none) ∙ c.loop-k.invariant
