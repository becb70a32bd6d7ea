-- The sixteen bytes of a set.
use Rattle.std.proofs.Common.{◌≡◌, ℕ, List, length, true, false, Some, None}
use Rattle.std.specs.Prelude.{Bool, Ok, ◌&&◌, ◌==◌, if◌then◌else◌}
use Rattle.serde_json.specs.Data.{Data}
use Rattle.carrier_model.specs.HexDigits.{is_hex, bytes_in, guid_of}
use Rattle.json_model.specs.Digits.{read_guid}
use Rattle.json_model.specs.Faults.{◌>>=◌, check, digits}
use Rattle.json_model.specs.Parts.{string_at}

pub guid_found : (v : Data) (s set : List ℕ) → string_at v ≡ Ok s → Some set ≡ guid_of s → read_guid v ≡ Ok set
guid_found v s set e h = rw e (by (is_hex s && (length s == 32)) h)
  where
    by : (b : Bool) → Some set ≡ (if b then Some (bytes_in s) else None) → (check b digits >>= (λ whole. Ok (bytes_in s))) ≡ Ok set
    by true is = cc
    by false is = absurd cc
