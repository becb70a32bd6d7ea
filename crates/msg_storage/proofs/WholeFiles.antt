-- The message of all files of a .msg.
use Rattle.std.proofs.Common.{◌≡◌, List, true, false, Option, Some, None, Result, Ok, Err, refl, ap}
use Rattle.std.specs.Prelude.{is_some}
use Rattle.std.specs.Option.{option_map}
use Rattle.std.specs.String.{IsUtf16Of}
use Rattle.carrier_io.specs.declared.reasons.Stop.{Stop}
use Rattle.carrier_io.specs.declared.reasons.Stop.TheVariants as stops
use Rattle.carrier_io.specs.Reads.{Gives, Reads}
use Rattle.carrier_io.specs.Reasons.{fault_of}
use Rattle.carrier_model.specs.Files.{Files}
use Rattle.carrier_model.specs.Kinds.{ATTACHED_OBJECT}
use Rattle.carrier_model.specs.Meanings.{Meaning}
use Rattle.carrier_model.specs.Outcomes.{◌>>=◌}
use Rattle.carrier_model.specs.Stores.{PROPERTIES}
use Rattle.carrier_model.specs.Trail.{Fault}
use Rattle.carrier_model.specs.Tree.{GREATEST_LEVEL}
use Rattle.msg_model.specs.MsgMessage.{FilesMean, files_meaning, message_in, name_streams}
use Rattle.msg_model.specs.MsgProps.{top}
use Rattle.msg_model.specs.NameMap.{Pair, pairs_of}
use Rattle.msg_model.specs.StreamNames.{value_name}
use Rattle.msg_model.proofs.MsgMessage.{files_meaning-only, files_meaning-sound}

pub names_stop : (root : Files) (g : Fault) → pairs_of (name_streams root) ≡ Err g → files_meaning root ≡ Err g
unfolding files_meaning
names_stop root g e = ap (λ r. r >>= λ pairs. message_in GREATEST_LEVEL pairs top root) e

pub names_known : (root : Files) (pairs : List Pair) → pairs_of (name_streams root) ≡ Ok pairs → files_meaning root ≡ message_in GREATEST_LEVEL pairs top root
unfolding files_meaning
names_known root pairs e = ap (λ r. r >>= λ pairs. message_in GREATEST_LEVEL pairs top root) e

-- ---- both sides

apart : {A : Type 0} (r : Result A Fault) (x : A) (g : Fault) → r ≡ Ok x → r ≡ Err g → ⊥
apart r x g h k = absurd (cc)

same_value : {A : Type 0} (r : Result A Fault) (x y : A) → r ≡ Ok x → r ≡ Ok y → y ≡ x
same_value r x y h k = cc

same_fault : {A : Type 0} (r : Result A Fault) (g h : Fault) → r ≡ Err g → r ≡ Err h → h ≡ g
same_fault r g h a b = cc

pub both_sides : {X : Type 0} (view : X → Meaning) (r : Result X Stop) (s : Files) → Gives view r (files_meaning s) → Reads view r (FilesMean s) (λ g. files_meaning s ≡ Err g)
both_sides view (Ok x) s h = record {
  found = files_meaning-sound s (view x) h;
  only = λ y m. same_value (files_meaning s) (view x) y h (files_meaning-only s y m);
  faultless = λ g k. apart (files_meaning s) (view x) g h k;
}
both_sides view (Err (stops.Fault g)) s h = record {
  is_first = h;
  only = λ k e. same_fault (files_meaning s) (fault_of g) k h e;
  meaningless = λ y m. apart (files_meaning s) y (fault_of g) (files_meaning-only s y m) h;
}
both_sides view (Err stops.NoMemory) s h = tt

-- ---- names

-- the names' characters are of one unit and of one byte each
pub properties_text : IsUtf16Of PROPERTIES PROPERTIES
unfolding lib.Utf8.encode
properties_text = (PROPERTIES, refl, refl)

pub object_text : IsUtf16Of (value_name ATTACHED_OBJECT) (value_name ATTACHED_OBJECT)
unfolding lib.Utf8.encode
object_text = (value_name ATTACHED_OBJECT, refl, refl)

pub none_there : {A B : Type 0} (f : A → B) (o : Option A) → None ≡ option_map f o → is_some o ≡ false
none_there f None e = refl
none_there f (Some x) e = absurd cc

pub some_there : {A B : Type 0} (f : A → B) (o : Option A) (y : B) → Some y ≡ option_map f o → is_some o ≡ true
some_there f None y e = absurd cc
some_there f (Some x) y e = refl
