use Rattle.std.proofs.Common.{◌≡◌, ℕ, List, length, true, arith}
use Rattle.std.specs.Prelude.{nat_le}
use Rattle.std.proofs.lemmas.Bool.{le-leb}
use Rattle.carrier_model.specs.Keys.{texted}
use Rattle.carrier_model.specs.Reasons.{BAD_NAME_SIZE}
use Rattle.carrier_model.specs.Grammar.{and_then, gives, such}
use Rattle.tnef_model.specs.TnefLists.{name_units, name_text, raw}
use Rattle.carrier_model.specs.Bytes.{pad4}
use Rattle.tnef_props.proofs.Forms.{then_takes, such_takes, seen_takes}
use Rattle.tnef_props.proofs.names.name_text.Goals as goal

pub returns-clause-found : goal.returns-clause-found
unfolding name_text
returns-clause-found c =
    let ok = λ (t : ℕ × List ℕ). nat_le (length t.1) 255 in
    let few : nat_le (length c.in_ok-units.units) 255 ≡ true = le-leb (length c.in_ok-units.units) 255 (omega arith) in
    let skipped = c.in_ok-rest.ensures.found in
    rw c.in_ok-of_text.ensures (then_takes (such name_units ok BAD_NAME_SIZE) (λ (t : ℕ × List ℕ). and_then (raw (pad4 t.0)) (λ padding. gives (texted c.args.set.0 t.1))) c.args.from c.in_ok-units.rest c.in_ok-rest.rest (c.in_ok-units.n, c.in_ok-units.units) _
    (such_takes name_units ok BAD_NAME_SIZE c.args.from c.in_ok-units.rest (c.in_ok-units.n, c.in_ok-units.units) c.in_ok-units.ensures.found few)
    (seen_takes (raw (pad4 c.in_ok-units.n)) (λ padding. texted c.args.set.0 c.in_ok-units.units) c.in_ok-units.rest c.in_ok-rest.rest skipped.0 skipped.1))
