use Rattle.std.proofs.Common.{sym, ◌∙◌, Some}
use Rattle.cfb_directory.proofs.NameLaws.{updated}
use Rattle.cfb_directory.proofs.names.NameIndex.insert.Goals as goal

pub returns-in-None : goal.returns-in-None
returns-in-None c =
    rw (← c.in_ok-key.ensures) (sym c.in_ok-insert.ensures.old ∙ c.in-None.is, λ q. updated (λ k. k.items) c.in_ok-key.key.items c.args.self.now.ids c.insert.new.self (Some c.args.id) c.in_ok-insert.ensures.updates q)
