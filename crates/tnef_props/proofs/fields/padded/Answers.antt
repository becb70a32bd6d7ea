use Rattle.std.proofs.Common.{ℕ, List}
use Rattle.carrier_model.specs.Grammar.{and_then, gives}
use Rattle.tnef_model.specs.TnefLists.{raw}
use Rattle.carrier_model.specs.Bytes.{pad4}
use Rattle.tnef_props.proofs.Forms.{then_takes, seen_takes}
use Rattle.tnef_props.proofs.fields.padded.Goals as goal

pub returns-clause-found : goal.returns-clause-found
returns-clause-found c =
    let n = c.args.n in
    let skipped = c.in_ok-rest.ensures.found in
    then_takes (raw n) (λ (x : List ℕ). and_then (raw (pad4 n)) (λ padding. gives x)) c.args.from c.in_ok-bytes.rest c.in_ok-rest.rest c.in_ok-bytes.bytes.now c.in_ok-bytes.bytes.now c.in_ok-bytes.ensures.found
    (seen_takes (raw (pad4 n)) (λ padding. c.in_ok-bytes.bytes.now) c.in_ok-bytes.rest c.in_ok-rest.rest skipped.0 skipped.1)
