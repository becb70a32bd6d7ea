use Rattle.std.proofs.Common.{◌≡◌, ◌∙◌, ◌++◌, Some, ap, sym}
use Rattle.std.specs.Prelude.{filter_map, option_to_list, slice_get}
use Rattle.cfb_directory.specs.Found.{child_seen, children_list, storage_seen}
use Rattle.msg_storage.specs.Numbered.{numbered_child}
use Rattle.msg_storage.proofs.Found.{all_taken, child_taken, numbered_children}
use Rattle.msg_storage.proofs.storages.gather.Goals as goal

pub returns-in-None-clause-seen : goal.returns-in-None-clause-seen
returns-in-None-clause-seen c =
    let below = (storage_seen c.args.files.now c.args.at).children in
    c.loop-k.invariant.seen ∙ (ap (filter_map (numbered_child c.args.prefix.now)) (all_taken (children_list below) c.loop-k.k (sym c.in-None.ensures.found)) ∙ numbered_children c.args.prefix.now below)

pub loop-k-preserved : goal.loop-k-preserved
loop-k-preserved c =
    let prefix = c.args.prefix.now in
    let cs = children_list (storage_seen c.args.files.now c.args.at).children in
    let x = child_seen c.args.files.now c.in-Some.child in
    let at : slice_get cs c.loop-k.k ≡ Some x = sym c.in-Some.ensures.found in
    record {
      seen = c.in_ok-push_numbered-in-Some.ensures.seen ∙ (ap (λ l. l ++ option_to_list (numbered_child prefix x)) c.loop-k.invariant.seen ∙ sym (child_taken prefix cs c.loop-k.k x at));
      there = c.in_ok-push_numbered-in-Some.ensures.there;
    }
