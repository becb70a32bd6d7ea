-- The members of a property, one after another.
use Rattle.std.proofs.Common.{◌≡◌, ℕ, true, refl}
use Rattle.std.specs.Prelude.{Result, Ok, Err, codes}
use Rattle.serde_json.specs.Data.{Data}
use Rattle.carrier_model.specs.Keys.{Key}
use Rattle.carrier_model.specs.Values.{Value, Prop}
use Rattle.json_model.specs.Faults.{under}
use Rattle.json_model.specs.Parts.{has_members, member_at}
use Rattle.json_model.specs.Properties.{PROPERTY, read_kind, read_key, read_value, read_prop}
use Rattle.tree_from_json.specs.Ends.{Reads}
use Rattle.tree_from_json.specs.declared.read_ends.ReadEnd.{ReadEnd}
use Rattle.tree_from_json.specs.declared.read_ends.ReadEnd.TheVariants as ends

-- the kind and the key of a property, and the value of its third member
pub record IsBegun (v : Data) (n : ℕ) (key : Key) (last : Data) : Type 0 where
  pub kind_at : Data
  pub key_at : Data
  pub members : has_members PROPERTY v ≡ true
  pub kind_there : member_at (codes "kind") v ≡ Ok kind_at
  pub kind : under 1 (read_kind kind_at) ≡ Ok n
  pub key_there : member_at (codes "key") v ≡ Ok key_at
  pub key_is : under 0 (read_key key_at) ≡ Ok key
  pub value_there : member_at (codes "value") v ≡ Ok last

pub prop_ok : (v : Data) (n : ℕ) (key : Key) (last : Data) (value : Value) → IsBegun v n key last → under 2 (read_value n last) ≡ Ok value → read_prop v ≡ Ok (record { key = key; value = value })
prop_ok v n key last value b h = rw (b.members, b.kind_there, b.kind, b.key_there, b.key_is, b.value_there, h) refl

pub prop_err : {X Y : Type 0} (see : X → Value) (other : Y → Prop) (v : Data) (n : ℕ) (key : Key) (last : Data) (e : ReadEnd) (out : Result Y ReadEnd)
    → IsBegun v n key last → Reads see (under 2 (read_value n last)) (Err e) → out ≡ Err e → Reads other (read_prop v) out
prop_err see other v n key last (ends.Fault f) out b h is = rw (is, b.members, b.kind_there, b.kind, b.key_there, b.key_is, b.value_there, h) refl
prop_err see other v n key last ends.NoMemory out b h is = rw is tt
