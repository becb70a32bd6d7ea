use Rattle.cfb_list.proofs.FilePlaces.{next_place}
use Rattle.cfb_list.proofs.sorting.push_places.Goals as goal

pub loop-number-preserved : goal.loop-number-preserved
loop-number-preserved c =
    next_place c.args.places.now.items c.loop-number.places.items c.push.new.self.items c.args.file c.loop-number.number c.in-Ok.number c.loop-number.invariant c.in_ok-push.ensures.items c.in-Ok.ensures.1
