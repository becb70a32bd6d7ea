use Rattle.std.proofs.Common.{◌≡◌, ◌⊎◌, inl, inr, refl, List}
use Rattle.std.specs.Prelude.{Result, Ok, Err}
use Rattle.carrier_model.specs.Tree.{Message}
use Rattle.edit_model.specs.Edits.{Edit, EditFault, edited_tree, Makes, IsFirstFault}
use Rattle.edit_model.proofs.Made.{made_sound, made_only, fault_sound, fault_only}
use Rattle.edit_model.proofs.edit_laws.edits_are_exact.Goals as goal

ok_same : (r : Result Message EditFault) (u v : Message) → r ≡ Ok u → r ≡ Ok v → v ≡ u
ok_same r u v h k = cc

err_same : (r : Result Message EditFault) (g h : EditFault) → r ≡ Err g → r ≡ Err h → h ≡ g
err_same r g h a b = cc

never : (r : Result Message EditFault) (u : Message) (g : EditFault) → r ≡ Ok u → r ≡ Err g → ⊥
never r u g a b = cc

cases : (es : List Edit) (t : Message) (r : Result Message EditFault) → edited_tree es t ≡ r → ((u : Message) × Makes es t u) ⊎ ((g : EditFault) × IsFirstFault es t g)
cases es t (Ok u) is = inl (u, made_sound 0 es t u is)
cases es t (Err g) is = inr (g, fault_sound es t g is)

pub returns-clause-done : goal.returns-clause-done
returns-clause-done c = λ es t u. (made_sound 0 es t u, made_only 0 es t u)

pub returns-clause-fault : goal.returns-clause-fault
returns-clause-fault c = λ es t g. (fault_sound es t g, fault_only es t g)

pub returns-clause-either : goal.returns-clause-either
returns-clause-either c = λ es t. cases es t (edited_tree es t) refl

pub returns-clause-one : goal.returns-clause-one
returns-clause-one c = λ es t u v a b. ok_same (edited_tree es t) u v (made_only 0 es t u a) (made_only 0 es t v b)

pub returns-clause-single : goal.returns-clause-single
returns-clause-single c = λ es t g h a b. err_same (edited_tree es t) g h (fault_only es t g a) (fault_only es t h b)

pub returns-clause-apart : goal.returns-clause-apart
returns-clause-apart c = λ es t u g a b. never (edited_tree es t) u g (made_only 0 es t u a) (fault_only es t g b)
