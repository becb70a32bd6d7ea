use Rattle.std.proofs.Common.{◌∙◌, ◌++◌, ◌+◌, ◌∷◌, [], ap, sym, drop, take, length, map}
use Rattle.std.proofs.lemmas.List.{length-set, map-append}
use Rattle.tree_edit.specs.ChunkedLists.{listed}
use Rattle.tree_edit.specs.Opened.{props_of}
use Rattle.tree_edit.proofs.ChunkLists.{next_out}
use Rattle.tree_edit.proofs.open_recipients.open_recipients.Goals as goal

pub loop-k-preserved : goal.loop-k-preserved
loop-k-preserved g c =
    let l = c.loop-k.recipients in
    let x = c.replace-props.result in
    let out = next_out l c.args.recipients c.loop-k.k x c.new.result c.replace-props.ensures.taken c.loop-k.invariant.left in
    record {
      taken = ap (map props_of) c.in_ok-push.ensures ∙ (map-append props_of (listed c.loop-k.rows) (c.new-in-loop-k.result ∷ []) ∙ (ap (λ r. r ++ props_of c.new-in-loop-k.result ∷ []) c.loop-k.invariant.taken ∙ (ap (λ y. take c.loop-k.k c.args.recipients ++ y ∷ []) c.new-in-loop-k.ensures ∙ sym out.0)));
      left = ap (drop (c.loop-k.k + 1)) c.replace-props.ensures.put ∙ out.1;
      count = ap length c.replace-props.ensures.put ∙ (length-set l c.loop-k.k c.new.result ∙ c.loop-k.invariant.count);
    }
