use Rattle.cfb_writer.proofs.directory.append_root.Goals as goal

pub returns : goal.returns
returns g c = rw (c.top.ensures, c.root_class.ensures, c.start_or_end.ensures, c.mini_stream_start.ensures) at c.append_fields.ensures
