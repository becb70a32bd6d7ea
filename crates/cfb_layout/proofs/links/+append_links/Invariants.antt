use Rattle.std.proofs.Common.{length}
use Rattle.cfb_layout.proofs.links.+append_links.Given as goal

abbrev pub decreases-append_links : goal.decreases-append_links
decreases-append_links l = length l.numbers.now
