use Rattle.std.proofs.Common.{◌-◌, sym}
use Rattle.carrier_model.proofs.ViewLaws.{length-content}
use Rattle.cfb_sectors.proofs.view.StreamViewBlob.len.Goals as goal

pub returns : goal.returns
returns c = sym (length-content c.args.self.now.file.now c.args.self.now.each c.args.self.now.starts.items c.args.self.now.len)
