use Rattle.cfb_writer.proofs.header.append_counts.Goals as goal

pub returns : goal.returns
returns g c = rw (c.le32.ensures, c.le32-2.ensures, c.le32-3.ensures, c.le32-4.ensures, c.le32-5.ensures, c.le32-6.ensures, c.le32-7.ensures, c.le32-8.ensures, c.le32-9.ensures, c.front.ensures, c.directory_field.ensures, c.directory_start.ensures, c.start_or_end.ensures, c.start_or_end-2.ensures, c.mini_fat_start.ensures) at c.append_parts.ensures
