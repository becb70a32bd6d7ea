-- What the bytes of an Object begin with.
use Rattle.std.specs.Prelude.{◌≡◌, ℕ, ◌≤◌, true, false, List, length}
use Rattle.tnef_model.specs.TnefMessage.{IID_MESSAGE, IID_STORAGE, has_id}
use Rattle.tnef_message.specs.declared.interfaces.Interface.{Interface}
use Rattle.tnef_message.specs.declared.interfaces.Interface.TheVariants.{Message, Storage}

-- the id of a message's interface, or else that of a store's
abbrev pub IsInterface : List ℕ → Interface → Type 0
IsInterface bytes Message = (has_id IID_MESSAGE bytes ≡ true) × (16 ≤ length bytes)
IsInterface bytes Storage = (has_id IID_MESSAGE bytes ≡ false) × (has_id IID_STORAGE bytes ≡ true) × (16 ≤ length bytes)
