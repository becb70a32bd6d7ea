use Rattle.msg_nameid.specs.Maps.{names_in}
use Rattle.msg_nameid.proofs.GatheredLaws.{storage_ok}
use Rattle.msg_nameid.proofs.map.NameMap.add_streams.Goals as goal

pub returns-in-Ok : goal.returns-in-Ok
returns-in-Ok g c = storage_ok c.add_gathered.result c.args.files.now c.add_gathered.new.files c.in-Ok.streams (names_in c.args.self.now) c.requires.assigned.sorted c.in-Ok.ensures c.add_gathered.ensures
