use Rattle.tnef_props.proofs.writing_values.append_tagged_number.Goals as goal

pub returns-then-wide : goal.returns-then-wide
returns-then-wide g c = rw c.if-wide.true (rw (c.le16-kind.ensures, c.le16-id.ensures, c.le64-number.ensures) at c.append_array.ensures)
