-- The message of an attachment, one level down.
use Rattle.std.proofs.Common.{◌≡◌, ℕ, zero, suc, ◌-◌, List, refl, arith}
use Rattle.carrier_model.specs.Files.{Files}
use Rattle.msg_model.specs.MsgMessage.{message_in}
use Rattle.msg_model.specs.MsgProps.{embedded_message}
use Rattle.msg_model.specs.NameMap.{Pair}
use Rattle.msg_storage.specs.Levels.{inner_at}

pub inner_below : (n : ℕ) (pairs : List Pair) (place : ℕ) (below : Files) → (n ≡ 0 → ⊥) → inner_at n pairs place below ≡ message_in (n - 1) pairs embedded_message below
inner_below zero pairs place below some = absurd (some refl)
inner_below (suc k) pairs place below some = let e : suc k - 1 ≡ k = omega arith in rw e refl
