use Rattle.std.proofs.Common.{◌*◌, ◌<◌, ◌^◌}
use Rattle.carrier_model.specs.Bytes.{le_number}
use Rattle.cfb_sectors.specs.Seen.{bytes_of}
use Rattle.msg_props.proofs.PieceForms.{piece, mapped_more, pushed}
use Rattle.msg_props.proofs.values.numbers_in.Goals as goal

pub loop-k-preserved : goal.loop-k-preserved
loop-k-preserved c = record {
  list = mapped_more le_number (piece c.args.width (bytes_of c.args.view.now)) c.loop-k.k c.loop-k.list c.push.new.self c.number_at.result c.loop-k.invariant.list c.number_at.ensures.number c.in_ok-push.ensures.ok;
  fit = pushed (λ n. n < 2 ^ (8 * c.args.width)) c.loop-k.list c.push.new.self c.number_at.result c.loop-k.invariant.fit c.number_at.ensures.below c.in_ok-push.ensures.ok;
}
