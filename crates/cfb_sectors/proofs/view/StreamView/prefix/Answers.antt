use Rattle.std.proofs.Common.{◌≡◌, ◌≤◌, true, length, ◌-◌, sym, arith, subst}
use Rattle.carrier_model.specs.Streams.{places_of, lie_below}
use Rattle.carrier_model.proofs.ViewLaws.{length-content, places-take, content-take, within-take}
use Rattle.cfb_sectors.proofs.view.StreamView.prefix.Goals as goal

pub overflow_cast-result : goal.overflow_cast-result
overflow_cast-result c = omega (arith, c.requires, c.args.self.now.small, length-content c.args.self.now.file.now c.args.self.now.each c.args.self.now.starts.items c.args.self.now.len)

pub invariant_of-result-clause-small : goal.invariant_of-result-clause-small
invariant_of-result-clause-small c = omega (arith, c.requires, c.args.self.now.small, length-content c.args.self.now.file.now c.args.self.now.each c.args.self.now.starts.items c.args.self.now.len)

pub invariant_of-result-clause-enough : goal.invariant_of-result-clause-enough
invariant_of-result-clause-enough c = rw c.in_ok-copy_starts.ensures.count (omega (arith, c.requires, c.args.self.now.enough, length-content c.args.self.now.file.now c.args.self.now.each c.args.self.now.starts.items c.args.self.now.len))

pub invariant_of-result-clause-within : goal.invariant_of-result-clause-within
invariant_of-result-clause-within c =
    let few : c.args.len ≤ c.args.self.now.len = omega (arith, c.requires, length-content c.args.self.now.file.now c.args.self.now.each c.args.self.now.starts.items c.args.self.now.len) in
    subst (λ d. lie_below (length c.args.self.now.file.now) (places_of c.args.self.now.each d c.args.len) ≡ true) (sym c.in_ok-copy_starts.ensures.items) (within-take c.args.self.now.each c.args.self.now.starts.items (length c.args.self.now.file.now) c.args.self.now.len c.args.len few c.args.self.now.within)

pub returns-clause-bytes : goal.returns-clause-bytes
returns-clause-bytes c =
    let few : c.args.len ≤ c.args.self.now.len = omega (arith, c.requires, length-content c.args.self.now.file.now c.args.self.now.each c.args.self.now.starts.items c.args.self.now.len) in
    rw c.in_ok-copy_starts.ensures.items (sym (content-take c.args.self.now.file.now c.args.self.now.each c.args.self.now.starts.items c.args.self.now.len c.args.len few))

pub returns-clause-places : goal.returns-clause-places
returns-clause-places c =
    let few : c.args.len ≤ c.args.self.now.len = omega (arith, c.requires, length-content c.args.self.now.file.now c.args.self.now.each c.args.self.now.starts.items c.args.self.now.len) in
    rw c.in_ok-copy_starts.ensures.items (sym (places-take c.args.self.now.each c.args.self.now.starts.items c.args.self.now.len c.args.len few))
