-- Words that are no edit: behind a word that is no verb, or of another number than stand behind the verb.
use Rattle.std.proofs.Common.{◌≡◌, ℕ, List, [], ◌∷◌, ◌<◌, length, refl, sym, arith, Some, None}
use Rattle.std.specs.Prelude.{Option, codes, bytes_eq, false, String, string_bytes}
use Rattle.std.specs.declared.alloc.Global.{Global}
use Rattle.std.proofs.lemmas.List.{length-map}
use Rattle.edit_model.specs.EditWords.{drop_of, message_of, place_number, edit_of, words_behind}
use Rattle.edit_words.specs.Meaning.{texts}
use Rattle.edit_words.specs.Verbs.{word_of, IsNoVerb}
use Rattle.edit_words.specs.declared.verbs.Verb.{Verb}
use Rattle.edit_words.specs.declared.verbs.Verb.TheVariants as verbs

none_dropped : (verb m n : List ℕ) → bytes_eq verb (codes "drop-recipient") ≡ false → bytes_eq verb (codes "drop-attachment") ≡ false → drop_of verb m n ≡ None
none_dropped verb m n r a = by (message_of m) (place_number n) refl refl
  where
    by : (x : Option (List ℕ)) (y : Option ℕ) → message_of m ≡ x → place_number n ≡ y → drop_of verb m n ≡ None
    by None y p q = rw p refl
    by (Some path) None p q = rw (p, q) refl
    by (Some path) (Some k) p q = rw (p, q, r, a) refl

pub no_edit : (verb : List ℕ) (words : List (List ℕ)) → IsNoVerb verb → edit_of verb words ≡ None
no_edit verb [] h = refl
no_edit verb (message ∷ []) h = rw h.add_recipient refl
no_edit verb (message ∷ n ∷ []) h = none_dropped verb message n h.drop_recipient h.drop_attachment
no_edit verb (place ∷ key ∷ kind ∷ []) h = rw h.remove refl
no_edit verb (place ∷ key ∷ kind ∷ value ∷ []) h = rw h.set refl
no_edit verb (place ∷ key ∷ kind ∷ value ∷ more ∷ others) h = refl

pub other_count : (verb : Verb) (words : List (List ℕ)) → (length words ≡ words_behind (word_of verb) → ⊥) → edit_of (word_of verb) words ≡ None
other_count verb [] other = refl
other_count verbs.Set (message ∷ []) other = refl
other_count verbs.Remove (message ∷ []) other = refl
other_count verbs.AddRecipient (message ∷ []) other = absurd (other refl)
other_count verbs.DropRecipient (message ∷ []) other = refl
other_count verbs.DropAttachment (message ∷ []) other = refl
other_count verbs.Set (message ∷ n ∷ []) other = none_dropped (word_of verbs.Set) message n refl refl
other_count verbs.Remove (message ∷ n ∷ []) other = none_dropped (word_of verbs.Remove) message n refl refl
other_count verbs.AddRecipient (message ∷ n ∷ []) other = none_dropped (word_of verbs.AddRecipient) message n refl refl
other_count verbs.DropRecipient (message ∷ n ∷ []) other = absurd (other refl)
other_count verbs.DropAttachment (message ∷ n ∷ []) other = absurd (other refl)
other_count verbs.Set (place ∷ key ∷ kind ∷ []) other = refl
other_count verbs.Remove (place ∷ key ∷ kind ∷ []) other = absurd (other refl)
other_count verbs.AddRecipient (place ∷ key ∷ kind ∷ []) other = refl
other_count verbs.DropRecipient (place ∷ key ∷ kind ∷ []) other = refl
other_count verbs.DropAttachment (place ∷ key ∷ kind ∷ []) other = refl
other_count verbs.Set (place ∷ key ∷ kind ∷ value ∷ []) other = absurd (other refl)
other_count verbs.Remove (place ∷ key ∷ kind ∷ value ∷ []) other = refl
other_count verbs.AddRecipient (place ∷ key ∷ kind ∷ value ∷ []) other = refl
other_count verbs.DropRecipient (place ∷ key ∷ kind ∷ value ∷ []) other = refl
other_count verbs.DropAttachment (place ∷ key ∷ kind ∷ value ∷ []) other = refl
other_count verb (place ∷ key ∷ kind ∷ value ∷ more ∷ others) other = refl

pub too_few : (verb : Verb) (words : List (String Global)) (count : ℕ) → words_behind (word_of verb) ≡ count → length words < count → None ≡ edit_of (word_of verb) (texts words)
too_few verb words count is few = sym (other_count verb (texts words) (λ same. omega (arith, same, is, few, length-map words string_bytes)))

pub too_many : (verb : Verb) (words : List (String Global)) (count : ℕ) → words_behind (word_of verb) ≡ count → count < length words → None ≡ edit_of (word_of verb) (texts words)
too_many verb words count is many = sym (other_count verb (texts words) (λ same. omega (arith, same, is, many, length-map words string_bytes)))
