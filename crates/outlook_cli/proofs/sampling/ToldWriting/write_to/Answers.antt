use Rattle.std.specs.Prelude.{◌++◌, codes}
use Rattle.carrier_io.proofs.Known.{andthen, failing}
use Rattle.job_model.specs.SampleTexts.{bytes_line}
use Rattle.msg_tree.specs.Whole.{plain_of}
use Rattle.text_model.specs.TreeTexts.{count_lines}
use Rattle.outlook_cli.proofs.sampling.ToldWriting.write_to.Goals as goal

pub returns-in_err-write_count : goal.returns-in_err-write_count
returns-in_err-write_count g c =
    let s = c.args.self.now in
    failing (count_lines (plain_of s.tree.now) ++ (bytes_line (codes "tnef") s.trip.now.tnef.items ++ (bytes_line (codes "envelope") s.trip.now.envelope.items ++ bytes_line (codes "msg") s.trip.now.msg.items))) c.from_residual.ensures.0 (rw c.from.ensures at c.in_err-write_count.ensures)

pub returns-in_err-write_counts : goal.returns-in_err-write_counts
returns-in_err-write_counts g c =
    let s = c.args.self.now in
    andthen (rw c.from.ensures at c.in_ok-write_count.ensures) (failing (bytes_line (codes "tnef") s.trip.now.tnef.items ++ (bytes_line (codes "envelope") s.trip.now.envelope.items ++ bytes_line (codes "msg") s.trip.now.msg.items)) c.from_residual-in_err-write_counts.ensures.0 c.in_err-write_counts.ensures)

pub returns-in_err-write_form : goal.returns-in_err-write_form
returns-in_err-write_form g c =
    let s = c.args.self.now in
    andthen (rw c.from.ensures at c.in_ok-write_count.ensures) (andthen c.in_ok-write_counts.ensures (failing (bytes_line (codes "envelope") s.trip.now.envelope.items ++ bytes_line (codes "msg") s.trip.now.msg.items) c.from_residual-in_err-write_form.ensures.0 (rw c.deref.ensures.value at c.in_err-write_form.ensures)))

pub returns-in_err-write_form-2 : goal.returns-in_err-write_form-2
returns-in_err-write_form-2 g c =
    let s = c.args.self.now in
    andthen (rw c.from.ensures at c.in_ok-write_count.ensures) (andthen c.in_ok-write_counts.ensures (andthen (rw c.deref.ensures.value at c.in_ok-write_form.ensures) (failing (bytes_line (codes "msg") s.trip.now.msg.items) c.from_residual-in_err-write_form-2.ensures.0 (rw c.deref-2.ensures.value at c.in_err-write_form-2.ensures))))

pub returns : goal.returns
returns g c = andthen (rw c.from.ensures at c.in_ok-write_count.ensures) (andthen c.in_ok-write_counts.ensures (andthen (rw c.deref.ensures.value at c.in_ok-write_form.ensures) (andthen (rw c.deref-2.ensures.value at c.in_ok-write_form-2.ensures) (rw c.deref-3.ensures.value at c.write_form-3.ensures))))
