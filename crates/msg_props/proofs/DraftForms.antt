-- One entry more in a draft, and the list that a draft is.
use Rattle.std.proofs.Common.{◌≡◌, Bool, true, false, ℕ, ◌+◌, ◌<◌, ◌≤◌, List, [], ◌∷◌, ◌++◌, length, drop, Option, Some, None, Result, Ok, Err, refl, sym, ap, subst, ◌∙◌}
use Rattle.std.specs.Prelude.{filter_map, take, nat_le, IfOk, IfErr}
use Rattle.std.specs.Option.{option_map}
use Rattle.std.proofs.lemmas.Bool.{le-leb, lt-leb}
use Rattle.std.proofs.lemmas.List.{append-nil, drop_at}
use Rattle.carrier_io.specs.Reads.{Fails, Gives, OnFault}
use Rattle.carrier_io.specs.Reasons.{fault_of}
use Rattle.carrier_io.specs.declared.reasons.Stop.{Stop}
use Rattle.carrier_io.specs.declared.reasons.Stop.TheVariants as stops
use Rattle.carrier_model.specs.Lookups.{Found, size_place, size_place_at}
use Rattle.carrier_model.specs.Meanings.{Passed}
use Rattle.carrier_model.specs.Outcomes.{◌>>=◌, check}
use Rattle.carrier_model.specs.Reasons.{BAD_PROP_STREAM, DUPLICATE_PROPERTY, MISSING_PROPERTIES}
use Rattle.carrier_model.specs.Stores.{PROPERTIES}
use Rattle.carrier_model.specs.Streams.{Stream}
use Rattle.carrier_model.specs.Trail.{Fault}
use Rattle.carrier_model.specs.Turns.{found}
use Rattle.msg_model.specs.MsgProps.{Part, Item, kept, passed, embedding, item_of, passed_in, head_size, prop_entries, props_of, section_of}
use Rattle.msg_model.specs.MsgValues.{Streams, PropEntry}
use Rattle.msg_model.specs.NameMap.{Pair}
use Rattle.msg_props.specs.Scans.{items_of, IsEmpty, IsWith, IsSecond, IsScanned, DoublesFail}
use Rattle.msg_props.specs.Sections.{passed_by, PassedAtFront, PassedOfFirst, IsSectionOf, section_seen}
use Rattle.msg_props.specs.declared.reading.Draft.{Draft}
use Rattle.msg_props.specs.declared.reading.Section.{Section}
use Rattle.msg_props.proofs.NameForms.{there, nowhere}
use Rattle.msg_props.proofs.ScanForms.{Scanned, scanned_none, scanned_fault, passed_of_first, second_tag, second_embedding, kept_more, passed_more, embedding_more, upto}
use Rattle.prop_values.specs.Arrivals.{AreDifferent, AreMarksOf, Came, IsDoubleWith}

on_stop : (p q : Fault → Type 0) → ((g : Fault) → p g → q g) → (s : Stop) → OnFault p s → OnFault q s
on_stop p q f (stops.Fault g) h = f (fault_of g) h
on_stop p q f stops.NoMemory h = tt

pub fails_as : {A B : Type 0} (r : Result A Fault) (q : Result B Fault) → ((g : Fault) → r ≡ Err g → q ≡ Err g) → (s : Stop) → Fails s r → Fails s q
fails_as r q f (stops.Fault g) h = f (fault_of g) h
fails_as r q f stops.NoMemory h = tt

module _ (part : Part) (pairs : List Pair) (streams : Streams) (entry : ℕ → PropEntry) (n : ℕ) where
  pub record Filled (k : ℕ) (d : Draft) (old now : List Passed) : Type 0 where
    pub marks : List ℕ
    pub are_marks : AreMarksOf d.arrivals marks
    pub scanned : Scanned part pairs streams entry n k d.arrivals.props marks d.embedded d.tags old now

  pub filled_none : (d : Draft) (old : List Passed) → IsEmpty d → Filled 0 d old old
  filled_none d old e = record { marks = []; are_marks = e.1; scanned = scanned_none part pairs streams entry n d.arrivals.props d.embedded d.tags old e.0 e.2 e.3 }

  module _ (k : ℕ) (d : Draft) (old now : List Passed) (f : Filled k d old now) where
    pub filled_fail : DoublesFail (items_of part pairs streams (upto entry n)) d.arrivals
    filled_fail = record { marks = f.marks; are_marks = f.are_marks; fail = f.scanned.doubles }

    pub filled_kept : k ≤ n → PassedOfFirst part (upto entry n) old now
    filled_kept le = passed_of_first part pairs streams entry n k d.arrivals.props f.marks d.embedded d.tags old now f.scanned le

    pub filled_all : k ≡ n → IsScanned (items_of part pairs streams (upto entry n)) d old now
    filled_all e = record {
      items = f.scanned.items;
      turn = λ different. subst (λ (m : ℕ). items_of part pairs streams (upto entry m) ≡ Ok f.scanned.items) e (f.scanned.turn different);
      props = f.scanned.props_are;
      embedded = f.scanned.embedded_is;
      passed = f.scanned.passed_are;
    }

    module _ (lt : k < n) where
      pub item_refuses : (s : Stop) → Fails s (item_of part pairs streams (entry k)) → AreDifferent d.arrivals.props → Fails s (items_of part pairs streams (upto entry n))
      item_refuses s h different = fails_as (item_of part pairs streams (entry k)) (items_of part pairs streams (upto entry n))
          (λ g e. scanned_fault part pairs streams entry n k d.arrivals.props f.marks d.embedded d.tags old now f.scanned lt g e different) s h

      pub item_added : (d' : Draft) (now' : List Passed) (x : Item) → item_of part pairs streams (entry k) ≡ Ok x → IsWith x (entry k) d d' → now' ≡ now ++ filter_map passed_in (x ∷ []) → Filled (k + 1) d' old now'
      item_added d' now' (kept p) h w m = record {
        marks = f.marks ++ (entry k).place ∷ [];
        are_marks = w.1 f.marks f.are_marks;
        scanned = kept_more part pairs streams entry n k d.arrivals.props f.marks d.embedded d.tags old now f.scanned lt p d'.arrivals.props (f.marks ++ (entry k).place ∷ []) d'.embedded d'.tags now' h w.0 refl w.2 w.3 m;
      }
      item_added d' now' (passed tag place) h w m = record {
        marks = f.marks;
        are_marks = subst (λ (c : Came). AreMarksOf c f.marks) (sym w.0) f.are_marks;
        scanned = passed_more part pairs streams entry n k d.arrivals.props f.marks d.embedded d.tags old now f.scanned lt tag place d'.arrivals.props d'.embedded d'.tags now' h (ap (λ (c : Came). c.props) w.0) w.1 w.2 m;
      }
      item_added d' now' (embedding place) h w m = record {
        marks = f.marks;
        are_marks = subst (λ (c : Came). AreMarksOf c f.marks) (sym w.0) f.are_marks;
        scanned = embedding_more part pairs streams entry n k d.arrivals.props f.marks d.embedded d.tags old now f.scanned lt place d'.arrivals.props d'.embedded d'.tags now' h (ap (λ (c : Came). c.props) w.0) w.1 w.2 w.3 m;
      }

      second_fails : (x : Item) → item_of part pairs streams (entry k) ≡ Ok x → IsSecond x (entry k) d → AreDifferent d.arrivals.props → items_of part pairs streams (upto entry n) ≡ Err (DUPLICATE_PROPERTY, (entry k).place)
      second_fails (kept p) h w different = second_tag part pairs streams entry n k d.arrivals.props f.marks d.embedded d.tags old now f.scanned lt p h w different
      second_fails (passed tag place) h w different = absurd w
      second_fails (embedding place) h w different = second_embedding part pairs streams entry n k d.arrivals.props f.marks d.embedded d.tags old now f.scanned lt place h w different

      pub second_refuses : (x : Item) (s : Stop) → item_of part pairs streams (entry k) ≡ Ok x → OnFault (λ g. (g ≡ (DUPLICATE_PROPERTY, (entry k).place)) × IsSecond x (entry k) d) s → AreDifferent d.arrivals.props → Fails s (items_of part pairs streams (upto entry n))
      second_refuses x (stops.Fault g) h p different = second_fails x h p.1 different ∙ ap Err (sym p.0)
      second_refuses x stops.NoMemory h p different = tt

      -- the same with the entry as it was read
      module _ (e : PropEntry) (is : e ≡ entry k) where
        pub entry_refuses : (s : Stop) → Fails s (item_of part pairs streams e) → AreDifferent d.arrivals.props → Fails s (items_of part pairs streams (upto entry n))
        entry_refuses s h different = item_refuses s (subst (λ (z : PropEntry). Fails s (item_of part pairs streams z)) is h) different

        pub entry_added : (d' : Draft) (now' : List Passed) (x : Item) → item_of part pairs streams e ≡ Ok x → IsWith x e d d' → now' ≡ now ++ filter_map passed_in (x ∷ []) → Filled (k + 1) d' old now'
        entry_added d' now' x h w m = item_added d' now' x (subst (λ (z : PropEntry). item_of part pairs streams z ≡ Ok x) is h) (subst (λ (z : PropEntry). IsWith x z d d') is w) m

        pub entry_doubled : (x : Item) (s : Stop) → item_of part pairs streams e ≡ Ok x → OnFault (λ g. (g ≡ (DUPLICATE_PROPERTY, e.place)) × IsSecond x e d) s → AreDifferent d.arrivals.props → Fails s (items_of part pairs streams (upto entry n))
        entry_doubled x s h p different = second_refuses x s (subst (λ (z : PropEntry). item_of part pairs streams z ≡ Ok x) is h) (subst (λ (z : PropEntry). OnFault (λ g. (g ≡ (DUPLICATE_PROPERTY, z.place)) × IsSecond x z d) s) is p) different

-- the same properties
pub fail_kept : (read : Result (List Item) Fault) (old new : Came) → new ≡ old → DoublesFail read old → DoublesFail read new
fail_kept read old new e f = subst (DoublesFail read) (sym e) f

-- the first double of the properties that came is the fault, where its mark says
pub double_fails : (read : Result (List Item) Fault) (c : Came) (mark : ℕ) → DoublesFail read c → ((marks : List ℕ) → AreMarksOf c marks → IsDoubleWith c.props marks mark) → read ≡ Err (DUPLICATE_PROPERTY, mark)
double_fails read c mark f refused = by (refused f.marks f.are_marks)
  where
    by : IsDoubleWith c.props f.marks mark → read ≡ Err (DUPLICATE_PROPERTY, mark)
    by d =
        let here = f.fail d.place d.first in
        let same : Some here.place ≡ Some mark = sym here.here ∙ d.here in
        let e : here.place ≡ mark = cc in
        here.fault ∙ ap (λ (m : ℕ). Err (DUPLICATE_PROPERTY, m)) e

-- ---- whole lists

module _ (part : Part) (pairs : List Pair) (place : ℕ) (streams : Streams) where
  pub list_missing : None ≡ option_map (λ f. f.stream) (streams PROPERTIES) → props_of part pairs place streams ≡ Err (MISSING_PROPERTIES, place)
  unfolding props_of
  list_missing e = ap (λ (o : Option Found). found o (MISSING_PROPERTIES, place) >>= λ f. check (nat_le (head_size part) (length f.stream.bytes)) BAD_PROP_STREAM (size_place f) >>= λ headed. items_of part pairs streams (prop_entries part f.stream) >>= λ items. Ok (section_of items)) (nowhere (streams PROPERTIES) e)

  list_behind : (s : Stream) → Some s ≡ option_map (λ f. f.stream) (streams PROPERTIES) → head_size part ≤ length s.bytes → props_of part pairs place streams ≡ (items_of part pairs streams (prop_entries part s) >>= λ items. Ok (section_of items))
  unfolding props_of
  list_behind s e le =
      let (f, is, same) = there (streams PROPERTIES) s e in
      let headed : nat_le (head_size part) (length f.stream.bytes) ≡ true = le-leb _ _ (subst (λ (t : Stream). head_size part ≤ length t.bytes) same le) in
      ap (λ (o : Option Found). found o (MISSING_PROPERTIES, place) >>= λ f. check (nat_le (head_size part) (length f.stream.bytes)) BAD_PROP_STREAM (size_place f) >>= λ headed. items_of part pairs streams (prop_entries part f.stream) >>= λ items. Ok (section_of items)) is
      ∙ (ap (λ (b : Bool). check b BAD_PROP_STREAM (size_place f) >>= λ headed. items_of part pairs streams (prop_entries part f.stream) >>= λ items. Ok (section_of items)) headed
      ∙ ap (λ (t : Stream). items_of part pairs streams (prop_entries part t) >>= λ items. Ok (section_of items)) (sym same))

  pub list_short : (s : Stream) → Some s ≡ option_map (λ f. f.stream) (streams PROPERTIES) → length s.bytes < head_size part → props_of part pairs place streams ≡ Err (BAD_PROP_STREAM, size_place_at (streams PROPERTIES))
  unfolding props_of
  list_short s e lt =
      let (f, is, same) = there (streams PROPERTIES) s e in
      let short : nat_le (head_size part) (length f.stream.bytes) ≡ false = lt-leb _ _ (subst (λ (t : Stream). length t.bytes < head_size part) same lt) in
      ap (λ (o : Option Found). found o (MISSING_PROPERTIES, place) >>= λ f. check (nat_le (head_size part) (length f.stream.bytes)) BAD_PROP_STREAM (size_place f) >>= λ headed. items_of part pairs streams (prop_entries part f.stream) >>= λ items. Ok (section_of items)) is
      ∙ (ap (λ (b : Bool). check b BAD_PROP_STREAM (size_place f) >>= λ headed. items_of part pairs streams (prop_entries part f.stream) >>= λ items. Ok (section_of items)) short
      ∙ ap (λ (o : Option Found). Err (BAD_PROP_STREAM, size_place_at o)) (sym is))

  -- what was read of a list, as the whole gives it
  pub list_gives : (s : Stream) (old new : List Passed) (r : Result Section Stop) → Some s ≡ option_map (λ f. f.stream) (streams PROPERTIES) → head_size part ≤ length s.bytes
      → IfOk r (IsSectionOf (items_of part pairs streams (prop_entries part s)) old new) → IfErr r (λ stop. Fails stop (items_of part pairs streams (prop_entries part s))) → Gives (section_seen old new) r (props_of part pairs place streams)
  list_gives s old new (Ok y) e le ok err =
      let behind : drop (length old) new ≡ filter_map passed_in ok.items = ap (drop (length old)) ok.passed ∙ drop_at old (filter_map passed_in ok.items) (length old) refl in
      let whole : section_of ok.items ≡ section_seen old new y = sym (λ i. record { props = ok.props i; embedded = ok.embedded i; passed = behind i }) in
      list_behind s e le ∙ (ap (λ (r : Result (List Item) Fault). r >>= λ items. Ok (section_of items)) ok.turn ∙ ap Ok whole)
  list_gives s old new (Err stop) e le ok err =
      fails_as (items_of part pairs streams (prop_entries part s)) (props_of part pairs place streams) (λ g h. list_behind s e le ∙ ap (λ (r : Result (List Item) Fault). r >>= λ items. Ok (section_of items)) h) stop err

pub front_kept : (part : Part) (o : Option Found) (s : Stream) (old new : List Passed) → Some s ≡ option_map (λ f. f.stream) o → PassedOfFirst part (prop_entries part s) old new → PassedAtFront part o old new
front_kept part o s old new e p =
    let (f, is, same) = there o s e in
    subst (λ (q : Option Found). PassedAtFront part q old new) (sym is)
    (record { k = p.k; passed = p.passed ∙ ap (λ (t : Stream). old ++ filter_map (passed_by part) (take p.k (prop_entries part t))) same })

pub nothing_passed : (part : Part) (o : Option Found) (old : List Passed) → PassedAtFront part o old old
nothing_passed part o old = record { k = 0; passed = sym (append-nil old) }

pub added_front : (part : Part) (o : Option Found) (old new : List Passed) → PassedAtFront part o old new → (more : List Passed) × (new ≡ old ++ more)
added_front part o old new p = (_, p.passed)
