use Rattle.msg_nameid.specs.Maps.{pair_of}
use Rattle.prop_names.specs.Meaning.{name_of}
use Rattle.msg_nameid.specs.declared.map.Entry.{Entry}
use Rattle.msg_nameid.proofs.AddedFiles.{gathered_more, gathered_all}
use Rattle.msg_nameid.proofs.map.NameMap.gather.Goals as goal

pub loop-k-preserved : goal.loop-k-preserved
loop-k-preserved c = record {
  value = gathered_more (λ (e : Entry). name_of e.name) c.deref-entry-items.result.now c.loop-k.k c.entry-item.result c.loop-k.streams c.push.new.self c.loop-k-test.true c.entry-item.is c.loop-k.invariant.value c.in_ok-push.ensures.value;
  few = c.in_ok-push.ensures.few;
}

pub returns : goal.returns
returns c = gathered_all (λ p. p.1) pair_of c.self.inside.entries.items c.deref-entry-items.result.now c.args.self.now c.loop-k.k c.loop-k.streams c.loop-k-test.false c.deref-entry-items.ensures.value c.self.view_is c.loop-k.invariant.value
