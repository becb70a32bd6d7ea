-- The entries of a list as a loop reads them.
use Rattle.std.proofs.Common.{◌≡◌, ◌⊎◌, inl, inr, ℕ, ◌+◌, ◌<◌, ◌≤◌, ◌-◌, ◌%◌, ◌/◌, Bool, true, false, cond, List, [], ◌∷◌, ◌++◌, length, get_or, map, take, Option, Some, None, Result, Ok, Err, refl, sym, ap, subst, ◌∙◌, append_assoc, length-append, arith}
use Rattle.std.specs.Prelude.{filter_map, nat_lt, is_some, ◌||◌, ◌&&◌, ◌==◌, if◌then◌else◌}
use Rattle.std.specs.List.{list_any, cons_option, range_with_len}
use Rattle.std.specs.Ordering.{nat_cmp, is_eq}
use Rattle.std.specs.declared.cmp.Ordering.{Ordering}
use Rattle.std.specs.declared.cmp.Ordering.TheVariants.{Less, Equal, Greater}
use Rattle.std.proofs.lemmas.Cmp.{tied_itself}
use Rattle.std.proofs.lemmas.Bool.{eqb-true}
use Rattle.std.proofs.lemmas.List.{append-nil, get_or_append_left, get_or-append-add}
use Rattle.std.proofs.lemmas.List.FromFn.{take-map-range_with_len}
use Rattle.std.proofs.lemmas.List.Elements.{filter_map-append}
use Rattle.std.proofs.lemmas.List.Folds.{Any-from_list_any, list_any-from_Any}
use Rattle.std.proofs.lemmas.Option.{slice_get_within}
use Rattle.carrier_model.specs.Keys.{Key, Name, id, named}
use Rattle.carrier_model.specs.Kinds.{OBJECT, ATTACHED_OBJECT, bits_of, is_number_kind, is_numbers_kind, is_kind}
use Rattle.carrier_model.specs.Lists.{first_of_list}
use Rattle.carrier_model.specs.Meanings.{Passed}
use Rattle.carrier_model.specs.Outcomes.{◌>>=◌, check, mapped}
use Rattle.carrier_model.specs.Reasons.{DUPLICATE_PROPERTY, UNKNOWN_TYPE, UNMAPPED_ID, MISSING_STREAM, BAD_ELEMENT}
use Rattle.carrier_model.specs.Sorted.{choose}
use Rattle.carrier_model.specs.Trail.{Fault}
use Rattle.carrier_model.specs.Turns.{in_turn, found}
use Rattle.carrier_model.specs.Bytes.{le_number}
use Rattle.carrier_model.specs.Lookups.{Found, size_place}
use Rattle.carrier_model.specs.Values.{Prop, Value, number, guid, bytes, numbers, guids, parts, number_widths, width_in, is_bytes_kind, prop_cmp, kind_of, with_pair}
use Rattle.carrier_model.proofs.Orders.{prop_total}
use Rattle.carrier_model.proofs.Turns.{bind_from, bind_ok, check_ok, check_from, mapped_ok}
use Rattle.carrier_model.proofs.TurnSteps.{upto-push, upto-fault}
use Rattle.msg_model.specs.MsgProps.{Part, is_attachment, is_passed_kind, Item, kept, passed, embedding, item_of, prop_of, key_of, is_double, is_new, next_item, prop_in, passed_in, embedding_in}
use Rattle.msg_model.specs.MsgValues.{Streams, PropEntry, kind_in, id_in, pieces_of, step_of, elements_of, parts_of, streamed_value, stored_value, value_of}
use Rattle.msg_model.specs.NameMap.{Pair, name_for}
use Rattle.msg_model.specs.StreamNames.{value_name}
use Rattle.msg_props.specs.Scans.{items_of, has_tag, IsTagged, IsDoubleFault, FirstDoubleFails}
use Rattle.msg_props.specs.Sections.{passed_by, PassedOfFirst}
use Rattle.msg_props.proofs.Doubles.{slice_get-append, slice_get-seam, different_front, different_last, first_double_push}
use Rattle.msg_props.proofs.PieceForms.{upto_more}
use Rattle.prop_values.specs.Arrivals.{AreDifferent, IsFirstDouble}
use Rattle.prop_values.specs.Ends.{HasPairOf}

abbrev is_equal : Ordering → Bool
is_equal o = choose o false true false

double_prop : (l : List Item) (p : Prop) → list_any (is_double (kept p)) l ≡ list_any (λ q. is_equal (prop_cmp q p)) (filter_map prop_in l)
double_prop [] p = refl
double_prop (kept q ∷ l) p = ap (λ (b : Bool). is_equal (prop_cmp q p) || b) (double_prop l p)
double_prop (passed t place ∷ l) p = double_prop l p
double_prop (embedding place ∷ l) p = double_prop l p

double_embedding : (l : List Item) (place : ℕ) → list_any (is_double (embedding place)) l ≡ is_some (first_of_list (filter_map embedding_in l))
double_embedding [] place = refl
double_embedding (kept q ∷ l) place = double_embedding l place
double_embedding (passed t other ∷ l) place = double_embedding l place
double_embedding (embedding other ∷ l) place = refl

double_passed : (l : List Item) (t place : ℕ) → list_any (is_double (passed t place)) l ≡ false
double_passed [] t place = refl
double_passed (x ∷ l) t place = double_passed l t place

is_equal_of : (o : Ordering) → o ≡ Equal → is_equal o ≡ true
is_equal_of o e = rw e refl

equal_of : (o : Ordering) → is_equal o ≡ true → o ≡ Equal
equal_of Less e = absurd cc
equal_of Equal e = refl
equal_of Greater e = absurd cc

first-push : {A : Type 0} (l : List A) (x : A) → first_of_list l ≡ None → first_of_list (l ++ x ∷ []) ≡ Some x
first-push [] x e = refl
first-push (y ∷ l) x e = absurd cc

fm-none : {A B : Type 0} (h : A → Option B) (l : List A) (x : A) → h x ≡ None → filter_map h (l ++ x ∷ []) ≡ filter_map h l
fm-none {A} {B} h l x e = filter_map-append h l (x ∷ []) ∙ ap (λ (o : Option B). filter_map h l ++ cons_option o []) e ∙ append-nil (filter_map h l)

fm-same : {A B C : Type 0} (h : A → Option C) (i : B → Option C) (l : List A) (m : List B) (x : A) (y : B) → filter_map h l ≡ filter_map i m → h x ≡ i y → filter_map h (l ++ x ∷ []) ≡ filter_map i (m ++ y ∷ [])
fm-same {A} {B} {C} h i l m x y e f =
    filter_map-append h l (x ∷ []) ∙ (ap (λ (z : List C). z ++ cons_option (h x) []) e ∙ ap (λ (o : Option C). filter_map i m ++ cons_option o []) f) ∙ sym (filter_map-append i m (y ∷ []))

-- ---- properties of one tag are the same

abbrev the_ok : {A : Type 0} → A → Result A Fault
the_ok x = Ok x

given : {A : Type 0} (x y : A) → the_ok x ≡ the_ok y → y ≡ x
given x y e = cc

cond_ok : {A : Type 0} (b : Bool) (P : A → Type 0) (x y : Result A Fault) (v : A) → (b ≡ true → x ≡ Ok v → P v) → (b ≡ false → y ≡ Ok v → P v) → cond b x y ≡ Ok v → P v
cond_ok true P x y v f g h = f refl h
cond_ok false P x y v f g h = g refl h

same_pair : (p q : Prop) → p.key ≡ q.key → kind_of p.value ≡ kind_of q.value → prop_cmp p q ≡ Equal
same_pair p q e f =
    let pair : Key → ℕ → Ordering = λ k n. prop_cmp p (with_pair k n) in
    ap (λ (k : Key). pair k (kind_of q.value)) (sym e) ∙ (ap (pair p.key) (sym f) ∙ tied_itself prop_total p)

streamed_kind : (streams : Streams) (e : PropEntry) (x : List ℕ) (v : Value) → streamed_value streams e x ≡ Ok v → kind_of v ≡ kind_in e
unfolding streamed_value
streamed_kind streams e x v h =
    cond_ok (kind_in e == 0x0048) (λ v. kind_of v ≡ kind_in e) _ _ v (λ t g. ap kind_of (given (guid x) v g) ∙ sym (eqb-true _ _ t)) (λ t.
    cond_ok (is_bytes_kind (kind_in e)) (λ v. kind_of v ≡ kind_in e) _ _ v (λ u g. ap kind_of (given (bytes (kind_in e) x) v g)) (λ u.
    cond_ok (is_numbers_kind (kind_in e)) (λ v. kind_of v ≡ kind_in e) _ _ v (λ w g. ap kind_of (given (numbers (kind_in e) (map le_number (pieces_of (step_of (kind_in e)) x))) v g)) (λ w.
    cond_ok (kind_in e == 0x1048) (λ v. kind_of v ≡ kind_in e) _ _ v (λ y g. ap kind_of (given (guids (pieces_of 16 x)) v g) ∙ sym (eqb-true _ _ y)) (λ y g.
    let (list, there, is) = mapped_ok (parts (kind_in e)) (parts_of (kind_in e - 0x1000) e.place (elements_of streams e.tag x)) v g in ap kind_of is)))) h

stored_kind : (streams : Streams) (e : PropEntry) (f : Option Found) (v : Value) → stored_value streams e f ≡ Ok v → kind_of v ≡ kind_in e
unfolding stored_value
stored_kind streams e None v h = streamed_kind streams e [] v (check_ok _ MISSING_STREAM e.place (λ _. streamed_value streams e []) v h).1
stored_kind streams e (Some f) v h = streamed_kind streams e f.stream.bytes v (check_ok _ BAD_ELEMENT (size_place f) (λ _. streamed_value streams e f.stream.bytes) v h).1

value_kind : (streams : Streams) (e : PropEntry) (v : Value) → value_of streams e ≡ Ok v → kind_of v ≡ kind_in e
unfolding value_of
value_kind streams e v h = cond_ok (is_number_kind (kind_in e)) (λ v. kind_of v ≡ kind_in e) _ _ v (λ t g. ap kind_of (given (number (kind_in e) (bits_of (kind_in e) (take (width_in number_widths (kind_in e)) e.field))) v g)) (λ t g. stored_kind streams e (streams (value_name e.tag)) v g) h

abbrev key_at : List Pair → ℕ → ℕ → Result Key Fault
key_at pairs n place = if nat_lt n 0x8000 then Ok (id n) else mapped named (found (name_for pairs n) (UNMAPPED_ID, place))

key_once : (pairs : List Pair) (n place other : ℕ) (k l : Key) → key_at pairs n place ≡ Ok k → key_at pairs n other ≡ Ok l → k ≡ l
key_once pairs n place other k l = by (nat_lt n 0x8000) (name_for pairs n)
  where
    by : (b : Bool) (o : Option Name) → cond b (Ok (id n)) (mapped named (found o (UNMAPPED_ID, place))) ≡ Ok k → cond b (Ok (id n)) (mapped named (found o (UNMAPPED_ID, other))) ≡ Ok l → k ≡ l
    by true o h g = cc
    by false None h g = absurd cc
    by false (Some x) h g = cc

key_is : (pairs : List Pair) (e : PropEntry) → key_of pairs e ≡ key_at pairs (id_in e) e.place
unfolding key_of
key_is pairs e = refl

module _ (pairs : List Pair) (streams : Streams) where
  prop_parts : (e : PropEntry) (p : Prop) → prop_of pairs streams e ≡ Ok p → (key_of pairs e ≡ Ok p.key) × (kind_of p.value ≡ kind_in e)
  unfolding prop_of
  prop_parts e p h =
      let known = check_ok (is_kind (kind_in e)) UNKNOWN_TYPE e.place _ p h in
      let (key, there, rest) = bind_ok (key_of pairs e) _ p known.1 in
      let (value, read, is) = bind_ok (value_of streams e) _ p rest in
      let same : p ≡ record { key = key; value = value } = cc in
      (there ∙ ap Ok (sym (ap (λ (q : Prop). q.key) same)), ap (λ (q : Prop). kind_of q.value) same ∙ value_kind streams e value read)

  pub same_tag : (e f : PropEntry) (p q : Prop) → e.tag ≡ f.tag → prop_of pairs streams e ≡ Ok p → prop_of pairs streams f ≡ Ok q → prop_cmp p q ≡ Equal
  same_tag e f p q t h g =
      let one = prop_parts e p h in
      let other = prop_parts f q g in
      let first : key_at pairs (f.tag / 0x10000) e.place ≡ Ok p.key = subst (λ (n : ℕ). key_at pairs (n / 0x10000) e.place ≡ Ok p.key) t (sym (key_is pairs e) ∙ one.0) in
      same_pair p q (key_once pairs (f.tag / 0x10000) e.place f.place p.key q.key first (sym (key_is pairs f) ∙ other.0)) (one.1 ∙ ap (λ (n : ℕ). n % 0x10000) t ∙ sym other.1)

  module _ (part : Part) where
    pub kept_prop : (e : PropEntry) (p : Prop) → item_of part pairs streams e ≡ Ok (kept p) → prop_of pairs streams e ≡ Ok p
    unfolding item_of
    kept_prop e p h = by (is_attachment part && (e.tag == ATTACHED_OBJECT)) ((kind_in e == OBJECT) || is_passed_kind (kind_in e)) (prop_of pairs streams e) h
      where
        by : (a b : Bool) (r : Result Prop Fault) → cond a (Ok (embedding e.place)) (cond b (Ok (passed e.tag e.place)) (mapped kept r)) ≡ Ok (kept p) → r ≡ Ok p
        by true b r g = absurd cc
        by false true r g = absurd cc
        by false false (Err f) g = absurd cc
        by false false (Ok q) g = let same : kept q ≡ kept p = cc in cc

    pub passed_same : (e : PropEntry) (x : Item) → item_of part pairs streams e ≡ Ok x → passed_in x ≡ passed_by part e
    unfolding item_of
    passed_same e x h = by (is_attachment part && (e.tag == ATTACHED_OBJECT)) ((kind_in e == OBJECT) || is_passed_kind (kind_in e)) (prop_of pairs streams e) h
      where
        by : (a b : Bool) (r : Result Prop Fault) → cond a (Ok (embedding e.place)) (cond b (Ok (passed e.tag e.place)) (mapped kept r)) ≡ Ok x → passed_in x ≡ cond a None (cond b (Some (false, e.tag, e.place)) None)
        by true b r g = ap passed_in (given (embedding e.place) x g)
        by false true r g = ap passed_in (given (passed e.tag e.place) x g)
        by false false (Err f) g = absurd cc
        by false false (Ok q) g = ap passed_in (given (kept q) x g)

    next_ok : (before : List Item) (e : PropEntry) (x : Item) → item_of part pairs streams e ≡ Ok x → list_any (is_double x) before ≡ false → next_item part pairs streams before e ≡ Ok x
    unfolding next_item
    next_ok before e x h new =
        let t : is_new before x ≡ true = rw new refl in
        bind_from (item_of part pairs streams e) _ x h ∙ check_from (is_new before x) DUPLICATE_PROPERTY e.place _ t

    next_fault : (before : List Item) (e : PropEntry) (g : Fault) → item_of part pairs streams e ≡ Err g → next_item part pairs streams before e ≡ Err g
    unfolding next_item
    next_fault before e g h = ap (λ (r : Result Item Fault). r >>= λ x. (check (is_new before x) DUPLICATE_PROPERTY e.place >>= λ new. Ok x)) h

    next_double : (before : List Item) (e : PropEntry) (x : Item) → item_of part pairs streams e ≡ Ok x → list_any (is_double x) before ≡ true → next_item part pairs streams before e ≡ Err (DUPLICATE_PROPERTY, e.place)
    unfolding next_item
    next_double before e x h old =
        let t : is_new before x ≡ false = rw old refl in
        bind_from (item_of part pairs streams e) _ x h ∙ ap (λ (b : Bool). check b DUPLICATE_PROPERTY e.place >>= λ new. Ok x) t

pair_before : (ps : List Prop) (p q : Prop) → HasPairOf ps q → HasPairOf (ps ++ p ∷ []) q
pair_before ps p q (i, r, lt, e, same) = (i, r, omega (arith, lt, length-append ps (p ∷ [])), get_or_append_left ps (p ∷ []) r i lt ∙ e, same)

pair_last : (ps : List Prop) (p q : Prop) → prop_cmp p q ≡ Equal → HasPairOf (ps ++ p ∷ []) q
pair_last ps p q same = (length ps, p, omega (arith, length-append ps (p ∷ [])), subst (λ (n : ℕ). get_or (ps ++ p ∷ []) n p ≡ p) (omega arith) (get_or-append-add ps (p ∷ []) 0 p), same)

-- ---- the list as it grows

double_fault_more : (read : Result (List Item) Fault) (marks more : List ℕ) (k : ℕ) → IsDoubleFault read marks k → IsDoubleFault read (marks ++ more) k
double_fault_more read marks more k d = record { place = d.place; here = slice_get-append marks more k (slice_get_within marks k d.place d.here) ∙ d.here; fault = d.fault }

-- the entries up to a number
abbrev pub upto : (ℕ → PropEntry) → ℕ → List PropEntry
upto entry k = map entry (range_with_len 0 k)

module _ (part : Part) (pairs : List Pair) (streams : Streams) (entry : ℕ → PropEntry) (n : ℕ) where
  pub record Scanned (k : ℕ) (arrivals : List Prop) (marks : List ℕ) (embedded : Option ℕ) (tags : List ℕ) (old now : List Passed) : Type 0 where
    pub items : List Item
    pub turn : AreDifferent arrivals → items_of part pairs streams (upto entry k) ≡ Ok items
    pub props_are : arrivals ≡ filter_map prop_in items
    pub embedded_is : embedded ≡ first_of_list (filter_map embedding_in items)
    pub passed_are : now ≡ old ++ filter_map passed_in items
    pub passed_by_all : filter_map passed_in items ≡ filter_map (passed_by part) (upto entry k)
    pub each_marked : length marks ≡ length arrivals
    pub doubles : FirstDoubleFails (items_of part pairs streams (upto entry n)) arrivals marks
    pub tagged : (t : ℕ) → has_tag tags t ≡ true → (e : PropEntry) (p : Prop) → e.tag ≡ t → prop_of pairs streams e ≡ Ok p → HasPairOf arrivals p

  pub scanned_none : (arrivals : List Prop) (embedded : Option ℕ) (tags : List ℕ) (old : List Passed) → arrivals ≡ [] → embedded ≡ None → tags ≡ [] → Scanned 0 arrivals [] embedded tags old old
  unfolding in_turn
  scanned_none arrivals embedded tags old a b c = record {
    items = [];
    turn = λ d. refl;
    props_are = a;
    embedded_is = b;
    passed_are = sym (append-nil old);
    passed_by_all = refl;
    each_marked = omega (arith, ap length a);
    doubles = λ k f. absurd (omega (arith, f.in_range, ap length a));
    tagged = λ t h. absurd (let no : has_tag [] t ≡ true = subst (λ (z : List ℕ). has_tag z t ≡ true) c h in cc);
  }

  module _ (k : ℕ) (arrivals : List Prop) (marks : List ℕ) (embedded : Option ℕ) (tags : List ℕ) (old now : List Passed) (g : Scanned k arrivals marks embedded tags old now) where
    pub passed_of_first : k ≤ n → PassedOfFirst part (upto entry n) old now
    passed_of_first le = record {
      k = k;
      passed = g.passed_are ∙ ap (λ (z : List Passed). old ++ z) (g.passed_by_all ∙ ap (filter_map (passed_by part)) (sym (take-map-range_with_len entry 0 n k le)));
    }

    module _ (lt : k < n) where
      pub scanned_fault : (f : Fault) → item_of part pairs streams (entry k) ≡ Err f → AreDifferent arrivals → items_of part pairs streams (upto entry n) ≡ Err f
      scanned_fault f h d = upto-fault (next_item part pairs streams) entry k n g.items f lt (g.turn d) (next_fault pairs streams part g.items (entry k) f h)

      scanned_double : (x : Item) → item_of part pairs streams (entry k) ≡ Ok x → list_any (is_double x) g.items ≡ true → AreDifferent arrivals → items_of part pairs streams (upto entry n) ≡ Err (DUPLICATE_PROPERTY, (entry k).place)
      scanned_double x h e d = upto-fault (next_item part pairs streams) entry k n g.items (DUPLICATE_PROPERTY, (entry k).place) lt (g.turn d) (next_double pairs streams part g.items (entry k) x h e)

      scanned_more : (x : Item) (arrivals' : List Prop) (marks' : List ℕ) (embedded' : Option ℕ) (tags' : List ℕ) (now' : List Passed) → item_of part pairs streams (entry k) ≡ Ok x
          → (AreDifferent arrivals' → AreDifferent arrivals × (list_any (is_double x) g.items ≡ false))
          → arrivals' ≡ filter_map prop_in (g.items ++ x ∷ []) → embedded' ≡ first_of_list (filter_map embedding_in (g.items ++ x ∷ [])) → now' ≡ old ++ filter_map passed_in (g.items ++ x ∷ [])
          → length marks' ≡ length arrivals' → FirstDoubleFails (items_of part pairs streams (upto entry n)) arrivals' marks'
          → ((t : ℕ) → has_tag tags' t ≡ true → (e : PropEntry) (p : Prop) → e.tag ≡ t → prop_of pairs streams e ≡ Ok p → HasPairOf arrivals' p)
          → Scanned (k + 1) arrivals' marks' embedded' tags' old now'
      scanned_more x arrivals' marks' embedded' tags' now' h apart a b c m f t = record {
        items = g.items ++ x ∷ [];
        turn = λ d. upto-push (next_item part pairs streams) entry k g.items x (g.turn (apart d).0) (next_ok pairs streams part g.items (entry k) x h (apart d).1);
        props_are = a;
        embedded_is = b;
        passed_are = c;
        passed_by_all = fm-same passed_in (passed_by part) g.items (upto entry k) x (entry k) g.passed_by_all (passed_same pairs streams part (entry k) x h) ∙ ap (filter_map (passed_by part)) (sym (upto_more entry k));
        each_marked = m;
        doubles = f;
        tagged = t;
      }

      same_props : (x : Item) → prop_in x ≡ None → arrivals ≡ filter_map prop_in (g.items ++ x ∷ [])
      same_props x e = g.props_are ∙ sym (fm-none prop_in g.items x e)

      same_embedded : (x : Item) → embedding_in x ≡ None → embedded ≡ first_of_list (filter_map embedding_in (g.items ++ x ∷ []))
      same_embedded x e = g.embedded_is ∙ ap first_of_list (sym (fm-none embedding_in g.items x e))

      same_passed : (x : Item) → passed_in x ≡ None → now ≡ old ++ filter_map passed_in (g.items ++ x ∷ [])
      same_passed x e = g.passed_are ∙ ap (λ (z : List Passed). old ++ z) (sym (fm-none passed_in g.items x e))

      same_doubles : (arrivals' : List Prop) → arrivals' ≡ arrivals → FirstDoubleFails (items_of part pairs streams (upto entry n)) arrivals' marks
      same_doubles arrivals' e j d = g.doubles j (subst (λ (z : List Prop). IsFirstDouble z j) e d)

      same_tagged : (arrivals' : List Prop) (tags' : List ℕ) → arrivals' ≡ arrivals → tags' ≡ tags → (t : ℕ) → has_tag tags' t ≡ true → (e : PropEntry) (p : Prop) → e.tag ≡ t → prop_of pairs streams e ≡ Ok p → HasPairOf arrivals' p
      same_tagged arrivals' tags' a b t h e p is read = subst (λ (z : List Prop). HasPairOf z p) (sym a) (g.tagged t (subst (λ (z : List ℕ). has_tag z t ≡ true) b h) e p is read)

      pair_there : (p : Prop) → list_any (is_double (kept p)) g.items ≡ list_any (λ q. is_equal (prop_cmp q p)) arrivals
      pair_there p = double_prop g.items p ∙ sym (ap (list_any (λ q. is_equal (prop_cmp q p))) g.props_are)

      kept_double : (p : Prop) → item_of part pairs streams (entry k) ≡ Ok (kept p) → HasPairOf arrivals p → AreDifferent arrivals → items_of part pairs streams (upto entry n) ≡ Err (DUPLICATE_PROPERTY, (entry k).place)
      kept_double p h (i, q, lt, e, same) = scanned_double (kept p) h (pair_there p ∙ list_any-from_Any (λ q. is_equal (prop_cmp q p)) arrivals (i, q, lt, e, is_equal_of (prop_cmp q p) same))

      pub second_tag : (p : Prop) → item_of part pairs streams (entry k) ≡ Ok (kept p) → has_tag tags (entry k).tag ≡ true → AreDifferent arrivals → items_of part pairs streams (upto entry n) ≡ Err (DUPLICATE_PROPERTY, (entry k).place)
      second_tag p h there = kept_double p h (g.tagged (entry k).tag there (entry k) p refl (kept_prop pairs streams part (entry k) p h))

      pub second_embedding : (place : ℕ) → item_of part pairs streams (entry k) ≡ Ok (embedding place) → is_some embedded ≡ true → AreDifferent arrivals → items_of part pairs streams (upto entry n) ≡ Err (DUPLICATE_PROPERTY, (entry k).place)
      second_embedding place h e = scanned_double (embedding place) h (double_embedding g.items place ∙ sym (ap is_some g.embedded_is) ∙ e)

      pub kept_more : (p : Prop) (arrivals' : List Prop) (marks' : List ℕ) (embedded' : Option ℕ) (tags' : List ℕ) (now' : List Passed) → item_of part pairs streams (entry k) ≡ Ok (kept p)
          → arrivals' ≡ arrivals ++ p ∷ [] → marks' ≡ marks ++ (entry k).place ∷ [] → embedded' ≡ embedded → IsTagged tags tags' (entry k).tag → now' ≡ now ++ [] → Scanned (k + 1) arrivals' marks' embedded' tags' old now'
      kept_more p arrivals' marks' embedded' tags' now' h e f o t m =
          scanned_more (kept p) arrivals' marks' embedded' tags' now' h apart
          (e ∙ ap (λ (z : List Prop). z ++ p ∷ []) g.props_are ∙ sym (filter_map-append prop_in g.items (kept p ∷ [])))
          (o ∙ same_embedded (kept p) refl)
          (m ∙ append-nil now ∙ same_passed (kept p) refl)
          (omega (arith, ap length e, ap length f, length-append arrivals (p ∷ []), length-append marks ((entry k).place ∷ []), g.each_marked))
          doubles
          tagged
        where
          there : list_any (λ q. is_equal (prop_cmp q p)) arrivals ≡ true → HasPairOf arrivals p
          there f = let (i, q, h, e, same) = Any-from_list_any (λ q. is_equal (prop_cmp q p)) arrivals f in (i, q, h, e, equal_of (prop_cmp q p) same)

          none : (HasPairOf arrivals p → ⊥) → (b : Bool) → list_any (λ q. is_equal (prop_cmp q p)) arrivals ≡ b → b ≡ false
          none fresh false f = refl
          none fresh true f = absurd (fresh (there f))

          apart : AreDifferent arrivals' → AreDifferent arrivals × (list_any (is_double (kept p)) g.items ≡ false)
          apart d =
              let h = subst AreDifferent e d in
              (different_front arrivals p h, pair_there p ∙ none (different_last arrivals p h) (list_any (λ q. is_equal (prop_cmp q p)) arrivals) refl)

          doubles : FirstDoubleFails (items_of part pairs streams (upto entry n)) arrivals' marks'
          doubles j d = subst (λ (z : List ℕ). IsDoubleFault (items_of part pairs streams (upto entry n)) z j) (sym f) (elim (first_double_push arrivals p j (subst (λ (z : List Prop). IsFirstDouble z j) e d)) [
            | inl earlier ↦ double_fault_more (items_of part pairs streams (upto entry n)) marks ((entry k).place ∷ []) j (g.doubles j earlier)
            | inr last ↦ record { place = (entry k).place; here = slice_get-seam marks (entry k).place j (last.0 ∙ sym g.each_marked); fault = kept_double p h last.2 last.1 }
          ])

          tagged : (t : ℕ) → has_tag tags' t ≡ true → (e : PropEntry) (q : Prop) → e.tag ≡ t → prop_of pairs streams e ≡ Ok q → HasPairOf arrivals' q
          tagged u there d q is read = subst (λ (z : List Prop). HasPairOf z q) (sym e) (elim (t u there) [
            | inl same ↦ pair_last arrivals p q (same_tag pairs streams (entry k) d p q (sym same ∙ sym is) (kept_prop pairs streams part (entry k) p h) read)
            | inr before ↦ pair_before arrivals p q (g.tagged u before d q is read)
          ])

      pub passed_more : (tag place : ℕ) (arrivals' : List Prop) (embedded' : Option ℕ) (tags' : List ℕ) (now' : List Passed) → item_of part pairs streams (entry k) ≡ Ok (passed tag place)
          → arrivals' ≡ arrivals → embedded' ≡ embedded → tags' ≡ tags → now' ≡ now ++ (false, tag, place) ∷ [] → Scanned (k + 1) arrivals' marks embedded' tags' old now'
      passed_more tag place arrivals' embedded' tags' now' h e o t m =
          scanned_more (passed tag place) arrivals' marks embedded' tags' now' h (λ d. (subst AreDifferent e d, double_passed g.items tag place))
          (e ∙ same_props (passed tag place) refl)
          (o ∙ same_embedded (passed tag place) refl)
          (m ∙ ap (λ (z : List Passed). z ++ (false, tag, place) ∷ []) g.passed_are ∙ append_assoc old (filter_map passed_in g.items) ((false, tag, place) ∷ []) ∙ ap (λ (z : List Passed). old ++ z) (sym (filter_map-append passed_in g.items (passed tag place ∷ []))))
          (omega (arith, ap length e, g.each_marked))
          (same_doubles arrivals' e)
          (same_tagged arrivals' tags' e t)

      pub embedding_more : (place : ℕ) (arrivals' : List Prop) (embedded' : Option ℕ) (tags' : List ℕ) (now' : List Passed) → item_of part pairs streams (entry k) ≡ Ok (embedding place)
          → arrivals' ≡ arrivals → embedded ≡ None → embedded' ≡ Some place → tags' ≡ tags → now' ≡ now ++ [] → Scanned (k + 1) arrivals' marks embedded' tags' old now'
      embedding_more place arrivals' embedded' tags' now' h e o o' t m =
          scanned_more (embedding place) arrivals' marks embedded' tags' now' h (λ d. (subst AreDifferent e d, double_embedding g.items place ∙ sym (ap is_some g.embedded_is) ∙ ap is_some o))
          (e ∙ same_props (embedding place) refl)
          (o' ∙ sym (ap first_of_list (filter_map-append embedding_in g.items (embedding place ∷ [])) ∙ first-push (filter_map embedding_in g.items) place (sym g.embedded_is ∙ o)))
          (m ∙ append-nil now ∙ same_passed (embedding place) refl)
          (omega (arith, ap length e, g.each_marked))
          (same_doubles arrivals' e)
          (same_tagged arrivals' tags' e t)

-- ---- tags

equal_tags : (m n : ℕ) → is_eq (nat_cmp m n) ≡ true → m ≡ n
equal_tags m n = by (nat_lt m n) (m == n) refl
  where
    by : (a b : Bool) → (m == n) ≡ b → is_eq (cond a Less (cond b Equal Greater)) ≡ true → m ≡ n
    by true b e h = absurd cc
    by false true e h = eqb-true _ _ e
    by false false e h = absurd cc

pub tag_more : (tag t : ℕ) (old new : List ℕ) → has_tag new t ≡ cond (is_eq (nat_cmp tag t)) true (has_tag old t) → has_tag new t ≡ true → (t ≡ tag) ⊎ (has_tag old t ≡ true)
tag_more tag t old new e h = by (is_eq (nat_cmp tag t)) refl (sym e ∙ h)
  where
    by : (b : Bool) → is_eq (nat_cmp tag t) ≡ b → cond b true (has_tag old t) ≡ true → (t ≡ tag) ⊎ (has_tag old t ≡ true)
    by true f g = inl (sym (equal_tags tag t f))
    by false f g = inr g
