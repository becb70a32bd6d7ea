use Rattle.std.proofs.Common.{◌++◌, length, ap, ◌∙◌}
use Rattle.std.specs.Prelude.{codes}
use Rattle.carrier_io.proofs.Known.{andthen, failing}
use Rattle.carrier_model.specs.Totals.{capped, all_recipients, all_attachments, all_properties}
use Rattle.carrier_model.specs.Tree.{depth, names_of}
use Rattle.text_model.specs.TreeTexts.{line, counted}
use Rattle.msg_tree.specs.Whole.{plain_of}
use Rattle.tree_texts.proofs.check.write_counts.Goals as goal

pub returns-in_err-write_count : goal.returns-in_err-write_count
returns-in_err-write_count g c =
    let t = plain_of c.args.tree.now in
    failing (line 0 (counted (codes "recipients") (capped (all_recipients t))) ++ (line 0 (counted (codes "attachments") (capped (all_attachments t))) ++ (line 0 (counted (codes "properties") (capped (all_properties t))) ++ (line 0 (counted (codes "names") (length (names_of t))) ++ (line 0 (counted (codes "depth") (depth t))))))) c.from_residual.ensures.0 (rw c.counts-totals.ensures.messages at c.in_err-write_count.ensures)

pub returns-in_err-write_count-2 : goal.returns-in_err-write_count-2
returns-in_err-write_count-2 g c =
    let t = plain_of c.args.tree.now in
    andthen (rw c.counts-totals.ensures.messages at c.in_ok-write_count.ensures) (failing (line 0 (counted (codes "attachments") (capped (all_attachments t))) ++ (line 0 (counted (codes "properties") (capped (all_properties t))) ++ (line 0 (counted (codes "names") (length (names_of t))) ++ (line 0 (counted (codes "depth") (depth t)))))) c.from_residual-in_err-write_count-2.ensures.0 (rw c.counts-totals.ensures.recipients at c.in_err-write_count-2.ensures))

pub returns-in_err-write_count-3 : goal.returns-in_err-write_count-3
returns-in_err-write_count-3 g c =
    let t = plain_of c.args.tree.now in
    andthen (rw c.counts-totals.ensures.messages at c.in_ok-write_count.ensures) (andthen (rw c.counts-totals.ensures.recipients at c.in_ok-write_count-2.ensures) (failing (line 0 (counted (codes "properties") (capped (all_properties t))) ++ (line 0 (counted (codes "names") (length (names_of t))) ++ (line 0 (counted (codes "depth") (depth t))))) c.from_residual-in_err-write_count-3.ensures.0 (rw c.counts-totals.ensures.attachments at c.in_err-write_count-3.ensures)))

pub returns-in_err-write_count-4 : goal.returns-in_err-write_count-4
returns-in_err-write_count-4 g c =
    let t = plain_of c.args.tree.now in
    andthen (rw c.counts-totals.ensures.messages at c.in_ok-write_count.ensures) (andthen (rw c.counts-totals.ensures.recipients at c.in_ok-write_count-2.ensures) (andthen (rw c.counts-totals.ensures.attachments at c.in_ok-write_count-3.ensures) (failing (line 0 (counted (codes "names") (length (names_of t))) ++ (line 0 (counted (codes "depth") (depth t)))) c.from_residual-in_err-write_count-4.ensures.0 (rw c.counts-totals.ensures.properties at c.in_err-write_count-4.ensures))))

pub returns-in_err-write_count-5 : goal.returns-in_err-write_count-5
returns-in_err-write_count-5 g c =
    let t = plain_of c.args.tree.now in
    let names = c.len.ensures ∙ ap length c.requires in
    andthen (rw c.counts-totals.ensures.messages at c.in_ok-write_count.ensures) (andthen (rw c.counts-totals.ensures.recipients at c.in_ok-write_count-2.ensures) (andthen (rw c.counts-totals.ensures.attachments at c.in_ok-write_count-3.ensures) (andthen (rw c.counts-totals.ensures.properties at c.in_ok-write_count-4.ensures) (failing (line 0 (counted (codes "depth") (depth t))) c.from_residual-in_err-write_count-5.ensures.0 (rw names at c.in_err-write_count-5.ensures)))))

pub returns : goal.returns
returns g c =
    let names = c.len.ensures ∙ ap length c.requires in
    andthen (rw c.counts-totals.ensures.messages at c.in_ok-write_count.ensures) (andthen (rw c.counts-totals.ensures.recipients at c.in_ok-write_count-2.ensures) (andthen (rw c.counts-totals.ensures.attachments at c.in_ok-write_count-3.ensures) (andthen (rw c.counts-totals.ensures.properties at c.in_ok-write_count-4.ensures) (andthen (rw names at c.in_ok-write_count-5.ensures) (rw c.counts-totals.ensures.depth at c.write_count-6.ensures)))))
