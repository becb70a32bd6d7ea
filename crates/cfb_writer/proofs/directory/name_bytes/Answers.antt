use Rattle.cfb_writer.proofs.NameBytes.{unit_more}
use Rattle.cfb_writer.proofs.directory.name_bytes.Goals as goal

pub loop-k-preserved : goal.loop-k-preserved
loop-k-preserved c = unit_more c.args.name.now c.loop-k.bytes c.le16-unit.result c.loop-k.k c.loop-k.invariant c.le16-unit.ensures c.loop-k-test.true c.requires
