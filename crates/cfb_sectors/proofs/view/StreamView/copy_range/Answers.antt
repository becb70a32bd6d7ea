use Rattle.std.proofs.Common.{◌+◌, ◌-◌, arith}
use Rattle.carrier_model.proofs.ViewLaws.{length-content}
use Rattle.cfb_sectors.specs.Seen.{bytes_of}
use Rattle.cfb_sectors.proofs.PartLaws.{copied_more}
use Rattle.cfb_sectors.proofs.view.StreamView.copy_range.Goals as goal

pub overflow_add-at : goal.overflow_add-at
overflow_add-at c =
    let v = c.args.self.now in
    omega (arith, c.requires, c.loop-done-test.true, v.small, length-content v.file.now v.each v.starts.items v.len)

pub loop-done-preserved : goal.loop-done-preserved
loop-done-preserved c = record {
  inside = omega (arith, c.loop-done-test.true, c.min-count.ensures, c.loop-done.auto.into);
  so_far = copied_more (bytes_of c.args.self.now) c.args.into.now c.loop-done.into c.rest-part.result.now c.copy_from_slice.new.self c.args.at c.loop-done.done c.min-count.result (c.loop-done.done + c.min-count.result - c.loop-done.done) c.copy_from_slice.ensures.after (omega arith) c.loop-done.invariant.so_far (omega (arith, c.requires, c.loop-done-test.true, c.min-count.ensures, c.loop-done.auto.into)) c.rest-part.ensures.bytes (omega (arith, c.min-count.ensures));
}
