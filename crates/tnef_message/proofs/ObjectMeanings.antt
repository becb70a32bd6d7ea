-- Objects of attachments, by the interface whose id they begin with.
use Rattle.std.proofs.Common.{◌≡◌, ℕ, suc, ◌+◌, Bool, true, false, List, drop, Err, refl, sym, subst}
use Rattle.carrier_model.specs.FileTrees.{Store}
use Rattle.carrier_model.specs.Grammar.{Whole}
use Rattle.carrier_model.specs.Outcomes.{moved}
use Rattle.carrier_model.specs.Reasons.{BAD_INTERFACE, TOO_DEEP}
use Rattle.carrier_model.specs.Stores.{store_file, IsStoreFile}
use Rattle.tnef_model.specs.TnefMessage as plain
use Rattle.carrier_model.specs.Meanings as meanings
use Rattle.carrier_model.specs.Meanings.{Meaning, Held, held_store}
use Rattle.tnef_model.specs.TnefMessage.{has_id, by_interface, IID_MESSAGE, IID_STORAGE, message_within}
use Rattle.carrier_model.specs.Trail.{Fault}
use Rattle.tnef_message.specs.Contents.{inner_at, objects_at}

-- what an Object means whose interface is known
by_message : (w : Whole Held) (m s : Bool) → m ≡ true → by_interface w m s ≡ w
by_message w true s e = refl
by_message w false s e = absurd cc

by_store : (w : Whole Held) (m s : Bool) → m ≡ false → s ≡ true → by_interface w m s ≡ plain.behind_interface held_store plain.store_whole
by_store w false true e f = refl
by_store w false false e f = absurd cc
by_store w true s e f = absurd cc

by_none : (w : Whole Held) (m s : Bool) → m ≡ false → s ≡ false → by_interface w m s ≡ plain.refused BAD_INTERFACE
by_none w false false e f = refl
by_none w false true e f = absurd cc
by_none w true s e f = absurd cc

module _ (levels at : ℕ) (bytes : List ℕ) where
  pub message_means : (h : Held) → has_id IID_MESSAGE bytes ≡ true → (inner_at levels).means at bytes h → (objects_at levels).means at bytes h
  message_means h e p = subst (λ (w : Whole Held). w.means at bytes h) (sym (by_message (inner_at levels) (has_id IID_MESSAGE bytes) (has_id IID_STORAGE bytes) e)) p

  pub message_fails : (g : Fault) → has_id IID_MESSAGE bytes ≡ true → (inner_at levels).fails at bytes g → (objects_at levels).fails at bytes g
  message_fails g e p = subst (λ (w : Whole Held). w.fails at bytes g) (sym (by_message (inner_at levels) (has_id IID_MESSAGE bytes) (has_id IID_STORAGE bytes) e)) p

  pub store_means : (x : Store) → has_id IID_MESSAGE bytes ≡ false → has_id IID_STORAGE bytes ≡ true → IsStoreFile (drop 16 bytes) x → (objects_at levels).means at bytes (held_store x)
  store_means x e f is = subst (λ (w : Whole Held). w.means at bytes (held_store x)) (sym (by_store (inner_at levels) (has_id IID_MESSAGE bytes) (has_id IID_STORAGE bytes) e f)) (x, is, refl)

  pub store_fails : (g : Fault) → has_id IID_MESSAGE bytes ≡ false → has_id IID_STORAGE bytes ≡ true → moved (at + 16) (store_file (drop 16 bytes)) ≡ Err g → (objects_at levels).fails at bytes g
  store_fails g e f p = subst (λ (w : Whole Held). w.fails at bytes g) (sym (by_store (inner_at levels) (has_id IID_MESSAGE bytes) (has_id IID_STORAGE bytes) e f)) p

  pub other_fails : (g : Fault) → has_id IID_MESSAGE bytes ≡ false → has_id IID_STORAGE bytes ≡ false → g ≡ (BAD_INTERFACE, at) → (objects_at levels).fails at bytes g
  other_fails g e f p = subst (λ (w : Whole Held). w.fails at bytes g) (sym (by_none (inner_at levels) (has_id IID_MESSAGE bytes) (has_id IID_STORAGE bytes) e f)) p

  -- a message, where levels are left
  pub inner_means : (n : ℕ) (m : Meaning) → levels ≡ suc n → (message_within n).means (at + 16) (drop 16 bytes) m → (inner_at levels).means at bytes (meanings.held_message m)
  inner_means n m e p = subst (λ (k : ℕ). (inner_at k).means at bytes (meanings.held_message m)) (sym e) (m, p, refl)

  pub inner_fails : (n : ℕ) (g : Fault) → levels ≡ suc n → (message_within n).fails (at + 16) (drop 16 bytes) g → (inner_at levels).fails at bytes g
  inner_fails n g e p = subst (λ (k : ℕ). (inner_at k).fails at bytes g) (sym e) p

  pub inner_deep : levels ≡ 0 → (inner_at levels).fails at bytes (TOO_DEEP, at)
  inner_deep e = subst (λ (k : ℕ). (inner_at k).fails at bytes (TOO_DEEP, at)) (sym e) refl
