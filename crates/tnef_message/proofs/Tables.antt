-- The lists of recipients, read one behind the other.
use Rattle.std.proofs.Common.{◌≡◌, inl, ℕ, zero, suc, ◌+◌, ◌<◌, ◌≤◌, Bool, false, List, [], ◌∷◌, ◌++◌, length, map, take, drop, refl, sym, ap, subst, ◌∙◌, append_assoc, arith}
use Rattle.std.specs.Int.{w32, from_le_bytes}
use Rattle.std.specs.List.{flat_map}
use Rattle.std.proofs.lemmas.Grind.{flat_map-append}
use Rattle.std.proofs.lemmas.List.{append-nil, map-append, length-drop}
use Rattle.carrier_io.specs.Reads.{OnFault, FaultOnly}
use Rattle.carrier_io.specs.declared.reasons.Stop.{Stop}
use Rattle.carrier_io.proofs.Sides.{on_fault}
use Rattle.carrier_model.specs.Grammar.{Form, Spans, Means, repeat}
use Rattle.carrier_model.specs.Reasons.{LIST_TRUNCATED}
use Rattle.carrier_model.specs.Bytes.{le_number}
use Rattle.tnef_model.specs.TnefLists.{raw, word, many, PropList, prop_list, recipient_lists}
use Rattle.carrier_model.specs.Values.{Prop}
use Rattle.carrier_model.proofs.Reading.{Continues, continues_then, continues_on, continues_repeat, fails_repeat, spans_field, spans_repeat, spans_seen}

number_le : (b : List ℕ) → 4 ≤ length b → from_le_bytes w32 (take 4 (drop 0 b)) ≡ le_number (take 4 b)
number_le [] e = absurd (omega arith)
number_le (a ∷ []) e = absurd (omega arith)
number_le (a ∷ b ∷ []) e = absurd (omega arith)
number_le (a ∷ b ∷ c ∷ []) e = absurd (omega arith)
number_le (a ∷ b ∷ c ∷ d ∷ more) e = omega arith

abbrev pub row : List PropList → Form PropList
row before = prop_list false

-- so many lists were read, and what was passed over in them
pub record Rows (at : ℕ) (bytes : List ℕ) (count k : ℕ) (recipients : List (List Prop)) (old now : List (Bool × ℕ × ℕ)) (from : ℕ) : Type 0 where
  pub all : List PropList
  pub left : ℕ
  pub sum : left + k ≡ count
  pub within : from ≤ length bytes
  pub goes : Continues recipient_lists at bytes (repeat left row all) (at + from) (drop from bytes)
  pub recipients_are : recipients ≡ map (λ l. l.props) all
  pub passed_are : now ≡ old ++ flat_map (λ l. l.passed) all

pub no_count : (at : ℕ) (bytes : List ℕ) → length bytes < 4 → recipient_lists.fails at bytes (LIST_TRUNCATED, at)
unfolding recipient_lists many
no_count at bytes lt = inl (inl (lt, refl))

pub rows_none : (at count : ℕ) (bytes : List ℕ) (old : List (Bool × ℕ × ℕ)) → 4 ≤ length bytes → count ≡ from_le_bytes w32 (take 4 (drop 0 bytes)) → Rows at bytes count 0 [] old old 4
unfolding recipient_lists many
rows_none at count bytes old le e =
    let front : Spans word at bytes (le_number (take 4 bytes)) (at + 4) (drop 4 bytes) = spans_seen (raw 4) le_number at bytes (take 4 bytes) (at + 4) (drop 4 bytes) (spans_field 4 LIST_TRUNCATED at bytes (take 4 bytes) (drop 4 bytes) (at + 4) le refl refl refl) in
    let counted : Spans word at bytes count (at + 4) (drop 4 bytes) = subst (λ (n : ℕ). Spans word at bytes n (at + 4) (drop 4 bytes)) (sym (e ∙ number_le bytes le)) front in
    record {
      all = [];
      left = count;
      sum = omega arith;
      within = le;
      goes = continues_then word (λ n. repeat n row []) at bytes count (at + 4) (drop 4 bytes) counted;
      recipients_are = refl;
      passed_are = sym (append-nil old);
    }

-- a list ends within the bytes
end_within : (at from end : ℕ) (bytes : List ℕ) → from ≤ length bytes → (at + end) + length (drop end bytes) ≡ (at + from) + length (drop from bytes) → end ≤ length bytes
end_within at from end bytes le e = omega (arith, length-drop end bytes, length-drop from bytes)

module _ (at : ℕ) (bytes : List ℕ) (count k : ℕ) (recipients : List (List Prop)) (old now : List (Bool × ℕ × ℕ)) (from : ℕ) (r : Rows at bytes count k recipients old now from) (lt : k < count) where
  pub rows_more : (l : PropList) (end : ℕ) (recipients' : List (List Prop)) (now' : List (Bool × ℕ × ℕ)) → Spans (prop_list false) (at + from) (drop from bytes) l (at + end) (drop end bytes) → recipients' ≡ recipients ++ l.props ∷ [] → now' ≡ now ++ l.passed
      → Rows at bytes count (k + 1) recipients' old now' end
  rows_more l end recipients' now' s re ne = by r.left r.sum r.goes
    where
      by : (left : ℕ) → left + k ≡ count → Continues recipient_lists at bytes (repeat left row r.all) (at + from) (drop from bytes) → Rows at bytes count (k + 1) recipients' old now' end
      by zero sum goes = absurd (omega arith)
      by (suc left) sum goes = record {
        all = r.all ++ l ∷ [];
        left = left;
        sum = omega arith;
        within = end_within at from end bytes r.within s.place;
        goes = continues_on recipient_lists at bytes (repeat (suc left) row r.all) (at + from) (drop from bytes) (repeat left row (r.all ++ l ∷ [])) (at + end) (drop end bytes) goes (continues_repeat left row r.all (at + from) (drop from bytes) l (at + end) (drop end bytes) s);
        recipients_are = re ∙ ap (λ (z : List (List Prop)). z ++ l.props ∷ []) r.recipients_are ∙ sym (map-append (λ (l : PropList). l.props) r.all (l ∷ []));
        passed_are = ne ∙ ap (λ (z : List (Bool × ℕ × ℕ)). z ++ l.passed) r.passed_are ∙ append_assoc old (flat_map (λ (l : PropList). l.passed) r.all) l.passed
            ∙ ap (λ (z : List (Bool × ℕ × ℕ)). old ++ z) (ap (λ (z : List (Bool × ℕ × ℕ)). flat_map (λ (l : PropList). l.passed) r.all ++ z) (sym (append-nil l.passed)) ∙ sym (flat_map-append (λ (l : PropList). l.passed) r.all (l ∷ [])));
      }

  pub rows_fault : (g : ℕ × ℕ) → (prop_list false).fails (at + from) (drop from bytes) g → recipient_lists.fails at bytes g
  rows_fault g p = by r.left r.sum r.goes
    where
      by : (left : ℕ) → left + k ≡ count → Continues recipient_lists at bytes (repeat left row r.all) (at + from) (drop from bytes) → recipient_lists.fails at bytes g
      by zero sum goes = absurd (omega arith)
      by (suc left) sum goes = goes.bad g (fails_repeat left row r.all (at + from) (drop from bytes) g p)

  pub rows_stop : (s : Stop) → OnFault (FaultOnly (Means (prop_list false) (at + from) (drop from bytes)) ((prop_list false).fails (at + from) (drop from bytes))) s → OnFault (recipient_lists.fails at bytes) s
  rows_stop s p = on_fault (FaultOnly (Means (prop_list false) (at + from) (drop from bytes)) ((prop_list false).fails (at + from) (drop from bytes))) (recipient_lists.fails at bytes) (λ g f. rows_fault g f.is_first) s p

pub rows_all : (at : ℕ) (bytes : List ℕ) (count k : ℕ) (recipients : List (List Prop)) (old now : List (Bool × ℕ × ℕ)) (from : ℕ) → (r : Rows at bytes count k recipients old now from) → k ≡ count
    → (lists : List PropList) × Means recipient_lists at bytes lists × (recipients ≡ map (λ l. l.props) lists) × (now ≡ old ++ flat_map (λ l. l.passed) lists)
rows_all at bytes count k recipients old now from r e = by r.left r.sum r.goes
  where
    by : (left : ℕ) → left + k ≡ count → Continues recipient_lists at bytes (repeat left row r.all) (at + from) (drop from bytes)
        → (lists : List PropList) × Means recipient_lists at bytes lists × (recipients ≡ map (λ l. l.props) lists) × (now ≡ old ++ flat_map (λ l. l.passed) lists)
    by zero sum goes = (r.all, (drop from bytes, (goes.ok r.all (at + from) (drop from bytes) (spans_repeat row r.all (at + from) (drop from bytes))).begins), r.recipients_are, r.passed_are)
    by (suc left) sum goes = absurd (omega arith)
