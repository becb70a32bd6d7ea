use Rattle.carrier_io.proofs.gather.handed_back.Given as goal

abbrev pub ghosts-gathered : goal.ghosts-gathered
ghosts-gathered g a = record { name = a.device.ghost_name; begun = g.W.Sink.held a.device.now; count = g.W.Sink.faults a.device.now }
