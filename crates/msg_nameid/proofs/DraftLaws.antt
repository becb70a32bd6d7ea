-- What entries give, and a draft of it.
use Rattle.std.proofs.Common.{◌≡◌, ℕ, ◌+◌, ◌<◌, ◌≤◌, Bool, true, false, not, List, [], ◌∷◌, ◌++◌, map, refl, sym, ap, ◌∙◌}
use Rattle.std.specs.Prelude.{filter_map, nat_eq, nat_le, ◌||◌, Option, Result, Ok, Err}
use Rattle.std.specs.List.{range_with_len}
use Rattle.std.proofs.lemmas.Bool.{le-leb, not_from_false, lt-leb}
use Rattle.std.proofs.lemmas.List.{map-append}
use Rattle.std.proofs.lemmas.List.Elements.{filter_map-append}
use Rattle.carrier_io.specs.declared.reasons.Stop.{Stop}
use Rattle.carrier_io.specs.declared.reasons.Stop.TheVariants as stops
use Rattle.carrier_io.specs.Reads.{Gives, Reads}
use Rattle.carrier_io.specs.Reasons.{fault_of}
use Rattle.carrier_model.specs.Chains.{member}
use Rattle.carrier_model.specs.Keys.{Name}
use Rattle.carrier_model.specs.Outcomes.{◌>>=◌, mapped}
use Rattle.carrier_model.specs.Reasons.{BAD_PROPERTY_INDEX, DOUBLE_ID}
use Rattle.carrier_model.specs.Streams.{Stream}
use Rattle.carrier_model.specs.Trail.{Fault}
use Rattle.carrier_model.specs.Turns.{in_turn}
use Rattle.carrier_model.proofs.Turns.{bind_from, check_from}
use Rattle.carrier_model.proofs.TurnSteps.{upto-push, upto-fault}
use Rattle.msg_model.specs.NameMap.{NameStreams, NameEntry, name_entry, name_entries, property_index, Given, named_by, is_new_index, given_by, Pair, pair_in, pairs_of, NamePairs}
use Rattle.msg_model.proofs.NameMap.{pairs_of-sound, pairs_of-only}
use Rattle.msg_nameid.proofs.NameLaws.{check_fails}
use Rattle.msg_nameid.specs.Drafts.{pairs_in, IsWhole, IsDraftOf}
use Rattle.msg_nameid.specs.Tables.{slot_at, is_taken}
use Rattle.msg_nameid.specs.declared.drafts.Draft.{Draft}

abbrev pub indexes : List Given → List ℕ
indexes = map (λ g. g.index)

-- ---- one entry

module _ (s : NameStreams) (given : List Given) (e : NameEntry) where
  pub index_fails : 0x7FFF < property_index e → given_by s given e ≡ Err (BAD_PROPERTY_INDEX, e.place)
  unfolding given_by
  index_fails high = check_fails (nat_le (property_index e) 0x7FFF) BAD_PROPERTY_INDEX e.place _ (lt-leb _ _ high)

  pub double_fails : property_index e ≤ 0x7FFF → member (property_index e) (indexes given) ≡ true → given_by s given e ≡ Err (DOUBLE_ID, e.place)
  unfolding given_by
  double_fails low double =
      check_from (nat_le (property_index e) 0x7FFF) BAD_PROPERTY_INDEX e.place _ (le-leb _ _ low)
      ∙ check_fails (is_new_index given e) DOUBLE_ID e.place _ (ap not double)

  module _ (low : property_index e ≤ 0x7FFF) (new : member (property_index e) (indexes given) ≡ false) where
    pub name_fails : (g : Fault) → named_by s e ≡ Err g → given_by s given e ≡ Err g
    unfolding given_by
    name_fails g h =
        check_from (nat_le (property_index e) 0x7FFF) BAD_PROPERTY_INDEX e.place _ (le-leb _ _ low)
        ∙ (check_from (is_new_index given e) DOUBLE_ID e.place _ (not_from_false _ new)
        ∙ ap (λ r. r >>= λ name. Ok (record { index = property_index e; name = name })) h)

    pub name_gives : (o : Option Name) → named_by s e ≡ Ok o → given_by s given e ≡ Ok (record { index = property_index e; name = o })
    unfolding given_by
    name_gives o h =
        check_from (nat_le (property_index e) 0x7FFF) BAD_PROPERTY_INDEX e.place _ (le-leb _ _ low)
        ∙ (check_from (is_new_index given e) DOUBLE_ID e.place _ (not_from_false _ new)
        ∙ bind_from (named_by s e) _ o h)

-- ---- a draft with what one entry more gave

or_swap : (a b c : Bool) → (a || (b || c)) ≡ (b || (a || c))
or_swap true true c = refl
or_swap true false c = refl
or_swap false b c = refl

member-push : (k i : ℕ) (xs : List ℕ) → member k (xs ++ i ∷ []) ≡ (nat_eq k i || member k xs)
member-push k i [] = refl
member-push k i (x ∷ xs) = ap (λ (b : Bool). nat_eq k x || b) (member-push k i xs) ∙ or_swap (nat_eq k x) (nat_eq k i) (member k xs)

-- with the pair that it has, if it has one
pub draft_more : (old new : Draft) (given : List Given) (g : Given) → IsDraftOf old given → pairs_in new ≡ pairs_in old ++ filter_map pair_in (g ∷ []) → ((k : ℕ) → is_taken (slot_at new.slots k) ≡ (nat_eq k g.index || is_taken (slot_at old.slots k))) → IsDraftOf new (given ++ g ∷ [])
draft_more old new given g d pairs taken = record {
  pairs = pairs ∙ (ap (λ (l : List Pair). l ++ filter_map pair_in (g ∷ [])) d.pairs ∙ sym (filter_map-append pair_in given (g ∷ [])));
  taken = λ k. taken k ∙ (ap (λ (b : Bool). nat_eq k g.index || b) (d.taken k) ∙ (sym (member-push k g.index (indexes given)) ∙ ap (member k) (sym (map-append (λ (x : Given). x.index) given (g ∷ [])))));
}

-- ---- all entries

-- the first k entries were read
pub record ReadTo (s : NameStreams) (d : Draft) (k : ℕ) : Type 0 where
  pub given : List Given
  pub read : in_turn (given_by s) [] (map (name_entry s.entries) (range_with_len 0 k)) ≡ Ok given
  pub draft : IsDraftOf d given
  pub whole : IsWhole d

pub read_none : (s : NameStreams) (d : Draft) → IsWhole d → IsDraftOf d [] → ReadTo s d 0
unfolding in_turn
read_none s d whole draft = record { given = []; read = refl; draft = draft; whole = whole }

pub read_more : (s : NameStreams) (old new : Draft) (k : ℕ) (r : ReadTo s old k) → IsWhole new → (g : Given) × (given_by s r.given (name_entry s.entries k) ≡ Ok g) × IsDraftOf new (r.given ++ g ∷ []) → ReadTo s new (k + 1)
read_more s old new k r whole (g, is, draft) = record {
  given = r.given ++ g ∷ [];
  read = upto-push (given_by s) (name_entry s.entries) k r.given g r.read is;
  draft = draft;
  whole = whole;
}

pub read_stops : (s : NameStreams) (d : Draft) (k n : ℕ) (r : ReadTo s d k) (g : Fault) → k < n → map (name_entry s.entries) (range_with_len 0 n) ≡ name_entries s.entries → given_by s r.given (name_entry s.entries k) ≡ Err g → pairs_of s ≡ Err g
unfolding pairs_of
read_stops s d k n r g lt all h = ap (λ l. mapped (filter_map pair_in) (in_turn (given_by s) [] l)) (sym all) ∙ ap (mapped (filter_map pair_in)) (upto-fault (given_by s) (name_entry s.entries) k n r.given g lt r.read h)

pub read_all : (s : NameStreams) (d : Draft) (k : ℕ) (r : ReadTo s d k) → map (name_entry s.entries) (range_with_len 0 k) ≡ name_entries s.entries → pairs_of s ≡ Ok (pairs_in d)
unfolding pairs_of
read_all s d k r all = ap (λ l. mapped (filter_map pair_in) (in_turn (given_by s) [] l)) (sym all) ∙ (ap (mapped (filter_map pair_in)) r.read ∙ ap Ok (sym r.draft.pairs))

-- ---- both sides

apart : {A : Type 0} (r : Result A Fault) (x : A) (g : Fault) → r ≡ Ok x → r ≡ Err g → ⊥
apart r x g h k = absurd (cc)

same_value : {A : Type 0} (r : Result A Fault) (x y : A) → r ≡ Ok x → r ≡ Ok y → y ≡ x
same_value r x y h k = cc

same_fault : {A : Type 0} (r : Result A Fault) (g h : Fault) → r ≡ Err g → r ≡ Err h → h ≡ g
same_fault r g h a b = cc

pub both_sides : {X : Type 0} (view : X → List Pair) (r : Result X Stop) (s : NameStreams) → Gives view r (pairs_of s) → Reads view r (NamePairs s) (λ g. pairs_of s ≡ Err g)
both_sides view (Ok x) s h = record {
  found = pairs_of-sound s (view x) h;
  only = λ y m. same_value (pairs_of s) (view x) y h (pairs_of-only s y m);
  faultless = λ g k. apart (pairs_of s) (view x) g h k;
}
both_sides view (Err (stops.Fault g)) s h = record {
  is_first = h;
  only = λ k e. same_fault (pairs_of s) (fault_of g) k h e;
  meaningless = λ y m. apart (pairs_of s) y (fault_of g) (pairs_of-only s y m) h;
}
both_sides view (Err stops.NoMemory) s h = tt

-- streams without entries name nothing
pub none_named : (guids texts : Stream) → pairs_of (record { guids = guids; entries = record { bytes = []; places = [] }; texts = texts }) ≡ Ok []
unfolding pairs_of in_turn
none_named guids texts = refl
