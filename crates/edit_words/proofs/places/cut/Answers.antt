use Rattle.std.proofs.Common.{Some, None, arith}
use Rattle.std.proofs.lemmas.Str.Pattern.{split_parts}
use Rattle.edit_words.proofs.Cuts.{split-Lacks, split-at}
use Rattle.edit_words.proofs.places.cut.Goals as goal

pub returns-in-Some-clause-split : goal.returns-in-Some-clause-split
returns-in-Some-clause-split c =
    let parts = split_parts 0x2F c.args.text.now (Some (c.in-Some.before, c.in-Some.after)) c.in-Some.ensures.cases (omega arith) in
    rw parts.0 (split-at 0x2F _ _ parts.1)

pub returns-in-None-clause-split : goal.returns-in-None-clause-split
returns-in-None-clause-split c =
    let lacks = split_parts 0x2F c.args.text.now None c.in-None.ensures.cases (omega arith) in
    split-Lacks 0x2F _ lacks
