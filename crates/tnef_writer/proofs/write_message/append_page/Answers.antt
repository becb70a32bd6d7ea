use Rattle.tnef_writer.proofs.write_message.append_page.Goals as goal

pub returns : goal.returns
returns g c = rw (c.le32-page.ensures, c.integer_or.ensures) at c.append_attribute.ensures
