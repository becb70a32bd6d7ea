-- What was answered of a whole file, against the store that it is.
use Rattle.std.proofs.Common.{◌≡◌, ◌∙◌, ap, refl, sym, subst, ℕ, ◌+◌, ◌≤◌, ◌<◌, ◌^◌, not, List, length, Option, Some, None, Result, Ok, Err, arith}
use Rattle.std.specs.Prelude.{is_some}
use Rattle.std.specs.Option.{option_map}
use Rattle.std.specs.String.{IsUtf16Of}
use Rattle.carrier_io.specs.declared.reasons.Stop.{Stop}
use Rattle.carrier_io.specs.Reads.{Fails, Gives, MeansOnly, FaultOnly}
use Rattle.carrier_model.specs.Bytes.{MOST_BYTES}
use Rattle.carrier_model.specs.FileTrees.{Store}
use Rattle.carrier_model.specs.Files.{Files, open_file}
use Rattle.carrier_model.specs.Lookups.{Found, size_place, size_place_at, stream_named}
use Rattle.carrier_model.specs.Outcomes.{◌>>=◌, check, moved}
use Rattle.carrier_model.specs.Reasons.{STORE_IS_MESSAGE}
use Rattle.carrier_model.specs.Stores.{PROPERTIES, store_in, store_file, IsStoreFile}
use Rattle.carrier_model.specs.Trail.{Fault}
use Rattle.carrier_model.proofs.FaultPlaces.{store_fault_low}
use Rattle.carrier_model.proofs.StoreLaws.{store_file-sound, store_file-exact}
use Rattle.ole_stores.proofs.Sides.{fails_with}

-- what stands behind the opened file
abbrev behind_open : Files → Result Store Fault
behind_open root = check (not (is_some (stream_named root.children PROPERTIES))) STORE_IS_MESSAGE (size_place_at (stream_named root.children PROPERTIES)) >>= λ no_message. store_in root

opened : (b : List ℕ) (root : Files) → open_file b ≡ Ok root → store_file b ≡ behind_open root
unfolding store_file
opened b root e = ap (λ r. r >>= behind_open) e

pub file_stops : (b : List ℕ) (e : Stop) → Fails e (open_file b) → Fails e (store_file b)
unfolding store_file
file_stops b e h = fails_with e (open_file b) (store_file b) (λ g f. ap (λ r. r >>= behind_open) f) h

pub is_message : (b : List ℕ) (root : Files) (place : ℕ) → open_file b ≡ Ok root → Some place ≡ option_map size_place (stream_named root.children PROPERTIES) → store_file b ≡ Err (STORE_IS_MESSAGE, place)
is_message b root place e at = opened b root e ∙ by (stream_named root.children PROPERTIES) at
  where
    by : (o : Option Found) → Some place ≡ option_map size_place o → (check (not (is_some o)) STORE_IS_MESSAGE (size_place_at o) >>= λ no_message. store_in root) ≡ Err (STORE_IS_MESSAGE, place)
    by None h = absurd cc
    by (Some f) h = let same : place ≡ size_place f = cc in ap (λ (p : ℕ). Err (STORE_IS_MESSAGE, p)) (sym same)

pub is_store : {X : Type 0} (view : X → Store) (r : Result X Stop) (b : List ℕ) (root : Files) → open_file b ≡ Ok root → None ≡ option_map size_place (stream_named root.children PROPERTIES) → Gives view r (store_in root) → Gives view r (store_file b)
is_store view r b root e none h = subst (Gives view r) (sym (opened b root e ∙ by (stream_named root.children PROPERTIES) none)) h
  where
    by : (o : Option Found) → None ≡ option_map size_place o → (check (not (is_some o)) STORE_IS_MESSAGE (size_place_at o) >>= λ no_message. store_in root) ≡ store_in root
    by None h = refl
    by (Some f) h = absurd cc

pub fault_fits : (b : List ℕ) (at : ℕ) (g : Fault) → at + length b ≤ 268435456 → store_file b ≡ Err g → at + g.1 < 2 ^ 64
fault_fits b at g room e = omega (arith, room, store_fault_low b g e)

moved_back : (at : ℕ) (r : Result Store Fault) (x : Store) → moved at r ≡ Ok x → r ≡ Ok x
moved_back at (Ok y) x e = e
moved_back at (Err g) x e = absurd cc

pub found_only : (b : List ℕ) (at : ℕ) (x : Store) → length b ≤ MOST_BYTES → store_file b ≡ Ok x → MeansOnly (IsStoreFile b) (λ g. moved at (store_file b) ≡ Err g) x
found_only b at x few e =
    let means = store_file-sound b x few e in
    record {
      found = means;
      only = λ y m. (store_file-exact at b).one x y means m;
      faultless = λ g f. (store_file-exact at b).apart x g means f;
    }

pub fault_only : (b : List ℕ) (at : ℕ) (g : Fault) → moved at (store_file b) ≡ Err g → FaultOnly (IsStoreFile b) (λ g. moved at (store_file b) ≡ Err g) g
fault_only b at g e = record {
  is_first = e;
  only = λ h f. (store_file-exact at b).single g h e f;
  meaningless = λ y m. (store_file-exact at b).apart y g m e;
}

-- the name's characters are of one unit and of one byte each
pub properties_text : IsUtf16Of PROPERTIES PROPERTIES
unfolding lib.Utf8.encode
properties_text = (PROPERTIES, refl, refl)
