use Rattle.std.proofs.Common.{rules, ◌≡◌, ◌≤◌, ◌+◌, ◌++◌, length, take, ap, ◌∙◌}
use Rattle.std.proofs.lemmas.Slice.{take-put_mid}
use Rattle.carrier_io.proofs.Gathered.{told-longer}
use Rattle.carrier_io.proofs.gather.Gatherer.keep.Goals as goal

pub returns-clause-told : goal.returns-clause-told
returns-clause-told g c =
    let old = c.args.self.now in
    let fits : old.len ≤ length old.page = search rules in
    let same : c.copy_from_slice.new.self ≡ c.args.piece.now = search rules in
    let end : old.len + length c.args.piece.now ≡ old.len + length c.copy_from_slice.new.self = search rules in
    told-longer _ _ _ (take old.len old.page) _ c.args.piece.now (take-put_mid old.len _ old.page c.copy_from_slice.new.self _ end fits ∙ ap (λ l. take old.len old.page ++ l) same)
