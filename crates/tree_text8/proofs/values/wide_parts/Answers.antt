use Rattle.text8_model.specs.Unicode.{wide_bytes}
use Rattle.tree_text8.specs.Meaning.{plain_page}
use Rattle.tree_text8.proofs.Elements.{made_more, element_good, element_bad}
use Rattle.tree_text8.proofs.values.wide_parts.Goals as goal

pub returns-in-Err-clause-bad : goal.returns-in-Err-clause-bad
returns-in-Err-clause-bad g c = rw c.in_element.ensures (element_bad (plain_page c.args.page) c.args.list.now c.loop-k.k (g.B.Blob.bytes c.get.result.now) c.in-Err.end c.get.ensures c.in-Err.ensures.bad c.loop-k.invariant.good)

pub loop-k-preserved : goal.loop-k-preserved
loop-k-preserved g c = record {
  good = element_good (plain_page c.args.page) c.args.list.now c.loop-k.k (g.B.Blob.bytes c.get.result.now) c.get.ensures c.in-Ok.ensures.ok.0 c.loop-k.invariant.good;
  made = made_more (wide_bytes (plain_page c.args.page)) c.args.list.now c.loop-k.k (g.B.Blob.bytes c.get.result.now) c.loop-k.all _ c.loop-k.invariant.made c.get.ensures (rw (← c.in-Ok.ensures.ok.1) c.in_ok-push-in-Ok.ensures.ok);
}
