use Rattle.std.proofs.Common.{rules, ◌≡◌, ◌∙◌, ◌++◌, ℕ, List, ap, sym}
use Rattle.std.specs.Prelude.{None}
use Rattle.json_writer.specs.Decoded.{text_left}
use Rattle.json_writer.specs.Plain.{ArePlain}
use Rattle.json_writer.proofs.buffers.put_few.Goals as goal

pub returns-then-are_plain-clause-text : goal.returns-then-are_plain-clause-text
returns-then-are_plain-clause-text c more =
    let u = c.args.decoder.now in
    let whole : u.low ≡ None = search rules in
    let none : u.high ≡ None = search rules in
    let plain : ArePlain c.args.bytes.now = search rules in
    plain u (record { low = whole; high = none }) more ∙ ap (λ (z : List ℕ). z ++ text_left u more) (sym c.put_plain.ensures.text)
