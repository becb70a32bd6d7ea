use Rattle.mime_envelope.proofs.Readings.{carries, codes_nothing}
use Rattle.mime_envelope.proofs.reading.payload.Goals as goal

pub returns-in-Some-clause-value : goal.returns-in-Some-clause-value
returns-in-Some-clause-value c =
    let coded = rw c.in-Some.is at c.in_ok-payload.ensures.value in
    carries c.args.bytes.now _ _ c.in-Some.payload.items c.in_ok-part.ensures.value coded.0 coded.1 coded.2

pub returns-clause-value : goal.returns-clause-value
returns-clause-value c =
    let none = rw c.in-None.is at c.in_ok-payload.ensures.value in
    codes_nothing c.args.bytes.now _ _ c.in_ok-part.ensures.value none
