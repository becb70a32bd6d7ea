-- The file of a message holds what it is laid out of.
use Rattle.std.proofs.Common.{ℕ, refl}
use Rattle.std.specs.Prelude.{◌≤◌, IsTrue, length}
use Rattle.carrier_model.specs.Layout.{MESSAGE_CLASS}
use Rattle.carrier_model.specs.LayoutHolds.{HoldsLaidOut}
use Rattle.msg_model.specs.ReadBack.{HasFewParts}
use Rattle.carrier_model.specs.Sectors.{is_size}
use Rattle.carrier_model.specs.Bytes.{MOST_BYTES}
use Rattle.carrier_model.specs.Tree.{Message, names_of}
use Rattle.carrier_model.specs.Trees.{IsTree}
use Rattle.msg_model.specs.WrittenMsg.{files_of, msg_in}
use Rattle.carrier_model.proofs.LaidSorted.{layouts-found}
use Rattle.carrier_model.proofs.LaidStreamsFit.{streams-fit}
use Rattle.carrier_model.proofs.Sizes.{size_of}
use Rattle.msg_model.proofs.WrittenFits.{may_be_written}

pub found : (z : ℕ) (t : Message) → IsTrue (is_size z) → IsTree t → length (names_of t) ≤ 32000 → HasFewParts t → length (msg_in z t) ≤ MOST_BYTES → HoldsLaidOut z MESSAGE_CLASS (files_of t)
found z t size tree few parts short = layouts-found z (size_of z size) MESSAGE_CLASS (files_of t) refl (may_be_written t tree few parts (streams-fit z (size_of z size) MESSAGE_CLASS (files_of t) short)) short
