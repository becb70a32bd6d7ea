-- What each job writes, and the limits of what it writes. [MS-OXMSG 2.2, MS-OXTNEF 2.1.3, RFC 2045, MS-CFB 2.2]
use Rattle.std.specs.Prelude.{◌≡◌, ℕ, List, [], ◌++◌, length, nat_lt, Option}
use Rattle.job_model.specs.Commands.{Job, to_msg, to_msg4, to_tnef, wrap, unwrap}
use Rattle.mail_model.specs.Envelope.{Envelope}
use Rattle.mail_model.specs.EnvelopeText.{envelope_of}
use Rattle.carrier_model.specs.Bytes.{MOST_BYTES}
use Rattle.msg_model.specs.WrittenMsg.{msg_of, msg4_of}
use Rattle.carrier_model.specs.Limits.{Limit, too_large, where_passed, msg_limits, tnef_limits, first_limit}
use Rattle.tnef_model.specs.TnefCanonical.{tnef_of}
use Rattle.carrier_model.specs.Totals.{capped}
use Rattle.carrier_model.specs.Tree.{Message}

-- The bytes that a job writes for the tree t of the bytes b. What a mail carries is taken out as it stands.
abbrev pub IsResult : Job → Message → List ℕ → List ℕ → Type 0
IsResult to_msg t b w = w ≡ msg_of t
IsResult to_msg4 t b w = w ≡ msg4_of t
IsResult to_tnef t b w = w ≡ tnef_of t
IsResult wrap t b w = w ≡ envelope_of b
IsResult unwrap t b w = Envelope b w

abbrev pub passed_size : List ℕ → List Limit
passed_size w = where_passed (nat_lt MOST_BYTES (length w)) (too_large (capped (length w)))

-- the limits that a job passes, in the order in which they count; what is taken out of a mail is never too large
abbrev pub limits_of : Job → Message → List ℕ → List Limit
limits_of to_msg t b = msg_limits t ++ passed_size (msg_of t)
limits_of to_msg4 t b = msg_limits t ++ passed_size (msg4_of t)
limits_of to_tnef t b = tnef_limits t ++ passed_size (tnef_of t)
limits_of wrap t b = passed_size (envelope_of b)
limits_of unwrap t b = []

abbrev pub passed_limit : Job → Message → List ℕ → Option Limit
passed_limit job t b = first_limit (limits_of job t b)
