-- What is made anew for a message that was accepted carries it, and no other.
use Rattle.std.proofs.Common.{◌≡◌, ℕ, ◌≤◌, List, [], length, Bool, true, false, refl, None}
use Rattle.carrier_model.specs.Bytes.{AllBytes, MOST_BYTES}
use Rattle.carrier_model.specs.Limits.{first_limit, msg_limits}
use Rattle.carrier_model.specs.Meanings.{Meaning}
use Rattle.carrier_model.specs.Sectors.{is_size}
use Rattle.carrier_model.specs.Tree.{GREATEST_LEVEL}
use Rattle.carrier_model.specs.Trees.{IsTree}
use Rattle.std.specs.Prelude.{IsTrue, ◌++◌}
use Rattle.job_model.specs.Acceptance.{Accepts, Carries, MessageBy}
use Rattle.job_model.specs.Signatures.{is_compound}
use Rattle.job_model.specs.Commands.{to_msg, to_msg4, to_tnef}
use Rattle.job_model.specs.Targets.{passed_limit, passed_size}
use Rattle.job_model.proofs.WithinLimits.{within, tree_within}
use Rattle.msg_model.specs.MsgMessage.{MsgCarrier}
use Rattle.msg_model.specs.WrittenMsg.{msg_in, msg_of, msg4_of}
use Rattle.msg_model.proofs.MsgMessage.{carriers_exact}
use Rattle.msg_model.proofs.ReadMsgMessage.{msg_is_tree}
use Rattle.msg_model.proofs.WrittenTop.{canonical_carries}
use Rattle.msg_model.proofs.WrittenFile.{found}
use Rattle.tnef_model.specs.TnefCanonical.{tnef_of}
use Rattle.tnef_model.proofs.ReadTnef.{carrier_is_tree}
use Rattle.tnef_model.proofs.TnefMessage.{message_exact}

-- a message that bytes carry in either form is a tree
pub is_tree : (compound : Bool) (b : List ℕ) (m : Meaning) → AllBytes b → length b ≤ MOST_BYTES → MessageBy compound b m → IsTree m.message
is_tree true b m all few p = msg_is_tree b m.message m.passed all few p
is_tree false b m all few p = carrier_is_tree b m.message m.passed all few p

-- with nothing passed over
abbrev bare : Meaning → Meaning
bare m = record { message = m.message; passed = [] }

file_carries : (z : ℕ) (m : Meaning) → IsTrue (is_size z) → IsTree m.message → first_limit (msg_limits m.message ++ passed_size (msg_in z m.message)) ≡ None → MsgCarrier (msg_in z m.message) m.message []
file_carries z m size tree none = let w = within z m.message none in canonical_carries z m.message tree w.0 w.1 (found z m.message size tree w.0 w.1 w.2)

file_alone : (z : ℕ) (m other : Meaning) → IsTrue (is_size z) → IsTree m.message → first_limit (msg_limits m.message ++ passed_size (msg_in z m.message)) ≡ None → MsgCarrier (msg_in z m.message) other.message other.passed → other ≡ bare m
file_alone z m other size tree none c = (carriers_exact (msg_in z m.message) (within z m.message none).2).one (bare m) other (file_carries z m size tree none) c

pub to_msg_carries : (b : List ℕ) (m : Meaning) → AllBytes b → Accepts to_msg b m → passed_limit to_msg m.message b ≡ None → Carries to_msg (msg_of m.message) m
to_msg_carries b m all a none =
    let tree = is_tree (is_compound b) b m all a.0 a.1 in
    record { carried = file_carries 512 m refl tree none; only = λ other c. file_alone 512 m other refl tree none c }

pub to_msg4_carries : (b : List ℕ) (m : Meaning) → AllBytes b → Accepts to_msg4 b m → passed_limit to_msg4 m.message b ≡ None → Carries to_msg4 (msg4_of m.message) m
to_msg4_carries b m all a none =
    let tree = is_tree (is_compound b) b m all a.0 a.1 in
    record { carried = file_carries 4096 m refl tree none; only = λ other c. file_alone 4096 m other refl tree none c }

pub to_tnef_carries : (b : List ℕ) (m : Meaning) → AllBytes b → Accepts to_tnef b m → passed_limit to_tnef m.message b ≡ None → Carries to_tnef (tnef_of m.message) m
to_tnef_carries b m all a none =
    let tree = is_tree (is_compound b) b m all a.0 a.1 in
    let means = tree_within m.message b tree none in
    record { carried = means; only = λ other c. (message_exact GREATEST_LEVEL 0 (tnef_of m.message)).one (bare m) other means c }
