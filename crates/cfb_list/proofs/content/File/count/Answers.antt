use Rattle.std.proofs.Common.{sym}
use Rattle.cfb_list.proofs.Rows.{row_count}
use Rattle.cfb_list.proofs.content.File.count.Goals as goal

pub returns-in-Row : goal.returns-in-Row
returns-in-Row g c = sym (row_count g.B.Blob.bytes c.args.self.now c.in-Row.front c.in-Row.list c.in-Row.zeros c.in-Row.is)
