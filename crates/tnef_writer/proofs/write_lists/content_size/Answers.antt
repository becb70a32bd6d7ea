use Rattle.std.proofs.Common.{None, refl}
use Rattle.tnef_writer.proofs.write_lists.content_size.Goals as goal

pub returns-in-ListOf : goal.returns-in-ListOf
returns-in-ListOf g c = λ names. rw c.in-ListOf.is (c.list_size.ensures names None refl)
