use Rattle.tree_from_json.proofs.Hex.{guid_found}
use Rattle.tree_from_json.proofs.read_digits.read_guid.Goals as goal

pub returns-in-Some : goal.returns-in-Some
returns-in-Some c = guid_found _ c.in_ok-text.text.now _ c.in_ok-text.ensures (rw c.as_bytes.ensures.value at c.in-Some.ensures)
