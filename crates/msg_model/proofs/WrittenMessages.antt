-- The message that is written to a .msg file is read back.
use Rattle.std.proofs.Common.{◌≡◌, ℕ, zero, suc, ◌+◌, ◌≤◌, Bool, true, false, List, [], ◌∷◌, ◌++◌, length, map, replicate, Option, Some, None, Result, Ok, Err, refl, sym, ap, subst, ◌∙◌, arith}
use Rattle.std.specs.Prelude.{Contains, filter_map, is_some}
use Rattle.std.specs.List.{AllByRecursion, AllZip, flat_map}
use Rattle.std.proofs.lemmas.List.{append-nil}
use Rattle.carrier_model.specs.Trail.{Fault}
use Rattle.carrier_model.specs.Outcomes.{mapped}
use Rattle.carrier_model.specs.Reasons.{TOO_DEEP, MISSING_STORAGE}
use Rattle.carrier_model.specs.Turns.{each, found}
use Rattle.carrier_model.specs.FileTrees.{FileTree, sorted, NO_CLASS}
use Rattle.carrier_model.specs.Files.{Files}
use Rattle.carrier_model.specs.Lookups.{stream_named, storage_named}
use Rattle.carrier_model.specs.Keys.{Name, Key, id, named}
use Rattle.carrier_model.specs.Values.{Prop}
use Rattle.carrier_model.specs.Trees.{IsPropList, HasPropLists, HavePropLists, BodyHasPropLists}
use Rattle.carrier_model.specs.Tree.{Message, message, Attachments, no_more, attached, Body, nothing, embedded, stored, Attached, attachments_from, listed, depth, depth_in, depth_of_body, names_in, names_in_props, names_below, names_in_body, name_in}
use Rattle.carrier_model.specs.Meanings.{held_message, held_store}
use Rattle.msg_model.specs.NameMap.{Pair, pairs_from}
use Rattle.msg_model.specs.MsgProps.{Part, embedded_message, recipient, attachment, head_size, is_attachment, Section}
use Rattle.msg_model.specs.StreamNames.{RECIPIENT_NAME, ATTACHMENT_NAME, value_name}
use Rattle.msg_model.specs.MsgMessage.{numbered, list_in, Carried, meaning_of, Inner, held_by, held_in, body_in, attachment_in, message_with, message_in}
use Rattle.msg_model.specs.WrittenMsg.{OBJECT_TAG, list_files, body_files, message_files, head_of}
use Rattle.carrier_model.specs.Stores.{PROPERTIES, bare, IsStore}
use Rattle.msg_model.specs.ReadBack.{NamesAmong, IsReadAs, HasFewParts, HaveFewParts, BodyHasFewParts}
use Rattle.carrier_model.proofs.StoreLaws.{store_in-only}
use Rattle.carrier_model.proofs.StoreWritten.{found_store, found_no_message}
use Rattle.carrier_model.proofs.Turns.{bind_from, each-only}
use Rattle.msg_model.proofs.WrittenLists.{list_read}
use Rattle.carrier_model.proofs.FoundChildren.{Entry, folder, entries, FoundAs, found_as, Apart, storage_found}
use Rattle.msg_model.proofs.WrittenChildren.{numbered_entry, numbers, numbered_found, Counting}
use Rattle.carrier_model.proofs.TreeParts.{from_listed}
use Rattle.msg_model.proofs.WrittenValues.{every_of}
use Rattle.msg_model.proofs.WrittenTrees
use Rattle.msg_model.proofs.WrittenTrees.{in_left, in_right}

-- ---- names

-- the names of a list are among others
abbrev pub In : List Name → List Name → Type 0
In names own = (name : Name) → Contains own name → Contains names name

pub in_front : (names one other : List Name) → In names (one ++ other) → In names one
in_front names one other h name c = h name (in_left one other name c)

pub in_back : (names one other : List Name) → In names (one ++ other) → In names other
in_back names one other h name c = h name (in_right one other name c)

pub own_known : (names : List Name) (props : List Prop) (rs : List (List Prop)) (all : Attachments) → In names (names_in (message props rs all)) → In names (names_in_props props)
own_known names props rs all h = in_front names (names_in_props props) (flat_map names_in_props rs) (in_front names (names_in_props props ++ flat_map names_in_props rs) (names_below all) h)

pub recipients_known : (names : List Name) (props : List Prop) (rs : List (List Prop)) (all : Attachments) → In names (names_in (message props rs all)) → In names (flat_map names_in_props rs)
recipients_known names props rs all h = in_back names (names_in_props props) (flat_map names_in_props rs) (in_front names (names_in_props props ++ flat_map names_in_props rs) (names_below all) h)

pub below_known : (names : List Name) (props : List Prop) (rs : List (List Prop)) (all : Attachments) → In names (names_in (message props rs all)) → In names (names_below all)
below_known names props rs all h = in_back names (names_in_props props ++ flat_map names_in_props rs) (names_below all) h

key_named : (k : Key) (name : Name) → k ≡ named name → name_in k ≡ name ∷ []
key_named (id n) name e = absurd cc
key_named (named x) name e = let same : x ≡ name = cc in ap (λ y. y ∷ []) same

pub among : (names : List Name) (props : List Prop) → In names (names_in_props props) → NamesAmong names props
among names [] h p name (i, lt, q) e = absurd (omega (arith, lt))
among names (x ∷ props) h p name (zero, lt, q) e =
    let there : Contains (name_in x.key) name = subst (λ (l : List Name). Contains l name) (sym (key_named x.key name (ap (λ (y : Prop). y.key) q ∙ e))) (zero, omega arith, refl) in
    h name (in_left (name_in x.key) (names_in_props props) name there)
among names (x ∷ props) h p name (suc i, lt, q) e = among names props (in_back names (name_in x.key) (names_in_props props) h) p name (i, omega (arith, lt), q) e

-- ---- one list

plain : List Prop → Option ℕ → Section
plain props o = record { props = props; embedded = o; passed = [] }

abbrev Gives : Result Section Fault → List Prop → Option ℕ → Type 0
Gives r props object = (o : Option ℕ) × ((is_some o ≡ is_some object) × (r ≡ Ok (record { props = props; embedded = o; passed = [] })))

gives : (r : Result Section Fault) (props : List Prop) (object : Option ℕ) → IsReadAs r props object → Gives r props object
gives r props object h =
    let same : h.section ≡ record { props = props; embedded = h.section.embedded; passed = [] } = λ i. record { props = h.props_are i; embedded = h.section.embedded; passed = h.passed i } in
    (h.section.embedded, (h.embedded, h.read ∙ ap Ok same))

no_place : (o : Option ℕ) → is_some o ≡ false → o ≡ None
no_place None e = refl
no_place (Some x) e = absurd cc

some_place : (o : Option ℕ) → is_some o ≡ true → (place : ℕ) × (o ≡ Some place)
some_place None e = absurd cc
some_place (Some x) e = (x, refl)

module _ (names : List Name) (few : length names ≤ 32000) where
  abbrev pairs : List Pair
  pairs = pairs_from 0 names

  -- the list of a storage whose children are a list and others
  list_given : (s : Files) (f : FileTree) (part : Part) (head : List ℕ) (props : List Prop) (object : Option ℕ) (before after : List Entry) → FoundAs s.children f → Apart f → length head ≡ head_size part → (is_some object ≡ true → is_attachment part ≡ true) → IsPropList props → NamesAmong names props
      → entries f ≡ before ++ (WrittenTrees.list_entries names head props object ++ after) → Gives (list_in part (pairs_from 0 names) s) props object
  list_given s f part head props object before after h d long inside good known e =
      gives (list_in part (pairs_from 0 names) s) props object (list_read part names s.place (stream_named s.children) props object few good known (WrittenTrees.list_there s.children f part names head props object before after h d long inside e))

  -- ---- recipients

  recipient_given : (s : Files) (props : List Prop) → IsPropList props → NamesAmong names props → bare s.children ≡ sorted (list_files names (replicate 8 0) props None) → list_in recipient (pairs_from 0 names) s ≡ Ok (record { props = props; embedded = None; passed = [] })
  recipient_given s props good known e =
      let f : FileTree = list_files names (replicate 8 0) props None in
      let (o, (none, is)) = list_given s f recipient (replicate 8 0) props None [] [] (found_as s.children f e) (WrittenTrees.recipient_apart names (replicate 8 0) props None (WrittenTrees.all_ready names props few good known) good.sorted) refl (λ q. absurd cc) good known (sym (append-nil (entries f))) in
      is ∙ ap (λ p. Ok (record { props = props; embedded = p; passed = [] })) (no_place o none)

  abbrev sections : List (List Prop) → List Section
  sections rs = map (λ props. record { props = props; embedded = None; passed = [] }) rs

  recipients_given : (ss : List Files) (i : ℕ) (rs : List (List Prop)) → AllByRecursion IsPropList rs → In names (flat_map names_in_props rs) → AllZip (λ (r : Files) inside. bare r.children ≡ sorted inside) ss (map (λ p. p.1) (WrittenTrees.recipients_from names i rs)) → AllZip (λ r l. list_in recipient (pairs_from 0 names) r ≡ Ok l) ss (sections rs)
  recipients_given [] i [] good known z = tt
  recipients_given [] i (r ∷ rs) good known z = absurd z
  recipients_given (s ∷ ss) i [] good known z = absurd z
  recipients_given (s ∷ ss) i (r ∷ rs) good known z = (
    recipient_given s r good.0 (among names r (in_front names (names_in_props r) (flat_map names_in_props rs) known)) z.0,
    recipients_given ss (i + 1) rs good.1 (in_back names (names_in_props r) (flat_map names_in_props rs) known) z.1,
  )

  -- ---- attachments

  -- what is known of a message that may be embedded
  pub record Fine (n : ℕ) (t : Message) : Type 0 where
    pub levels : depth t ≤ n
    pub lists : HasPropLists t
    pub parts : HasFewParts t
    pub known : In names (names_in t)

  abbrev BodyFine : ℕ → Body → Type 0
  BodyFine n nothing = Unit {0}
  BodyFine n (embedded t) = (m : ℕ) × ((n ≡ suc m) × Fine m t)
  BodyFine n (stored x) = IsStore x

  message_listed : (n : ℕ) (t : Message) → Fine n t → (s : Files) → bare s.children ≡ sorted (message_files names false t) → is_some (stream_named s.children PROPERTIES) ≡ true
  message_listed n (message props rs all) fine s e =
      let f : FileTree = message_files names false (message props rs all) in
      let good : IsPropList props = fine.lists.0 in
      let known : NamesAmong names props = among names props (own_known names props rs all fine.known) in
      let d : Apart f = WrittenTrees.message_apart names false props rs all (WrittenTrees.all_ready names props few good known) good.sorted fine.parts.0 fine.parts.1 in
      let there = WrittenTrees.list_there s.children f embedded_message names (head_of false (length rs) (length (listed all))) props None [] (WrittenTrees.rest_entries names rs all) (found_as s.children f e) d refl (λ q. absurd cc) (WrittenTrees.message_entries names false props rs all) in
      ap is_some there.list.there

  module _ (n : ℕ) (inner : Inner) (deep : (m : ℕ) → n ≡ suc m → (t : Message) → Fine m t → (place : ℕ) (s : Files) → bare s.children ≡ sorted (message_files names false t) → inner place s ≡ Ok (record { message = t; passed = [] })) where
    abbrev given : List Prop → Body → Carried
    given props body = record { attached = (props, body); passed = [] }

    attachment_given : (s : Files) (props : List Prop) (body : Body) → IsPropList props → NamesAmong names props → BodyFine n body → bare s.children ≡ sorted (WrittenTrees.attachment_tree names props body) → attachment_in (pairs_from 0 names) inner s ≡ Ok (record { attached = (props, body); passed = [] })
    unfolding attachment_in body_in held_in
    attachment_given s props nothing good known fine e =
        let f : FileTree = WrittenTrees.attachment_tree names props nothing in
        let d : Apart f = WrittenTrees.attachment_apart names props nothing (WrittenTrees.all_ready names props few good known) good.sorted in
        let (o, (none, is)) = list_given s f attachment (replicate 8 0) props None [] [] (found_as s.children f e) d refl (λ q. refl) good known (WrittenTrees.attachment_entries names props nothing) in
        bind_from (list_in attachment (pairs_from 0 names) s) _ (record { props = props; embedded = None; passed = [] }) (is ∙ ap (λ p. Ok (record { props = props; embedded = p; passed = [] })) (no_place o none))
    attachment_given s props (embedded t) good known (m, (more, fine)) e =
        let f : FileTree = WrittenTrees.attachment_tree names props (embedded t) in
        let d : Apart f = WrittenTrees.attachment_apart names props (embedded t) (WrittenTrees.all_ready names props few good known) good.sorted in
        let h = found_as s.children f e in
        let own : List Entry = WrittenTrees.list_entries names (replicate 8 0) props (Some 1) in
        let (o, (some, is)) = list_given s f attachment (replicate 8 0) props (Some 1) [] (entries (body_files names (embedded t))) h d refl (λ q. refl) good known (WrittenTrees.attachment_entries names props (embedded t)) in
        let (place, there) = some_place o some in
        let put : Contains (entries f) (folder (value_name OBJECT_TAG) NO_CLASS (message_files names false t)) = subst (λ (l : List Entry). Contains l (folder (value_name OBJECT_TAG) NO_CLASS (message_files names false t))) (sym (WrittenTrees.attachment_entries names props (embedded t))) (in_right own (entries (body_files names (embedded t))) (folder (value_name OBJECT_TAG) NO_CLASS (message_files names false t)) (zero, omega arith, refl)) in
        let st = storage_found s.children f h d (value_name OBJECT_TAG) NO_CLASS (message_files names false t) put in
        bind_from (list_in attachment (pairs_from 0 names) s) _ (record { props = props; embedded = Some place; passed = [] }) (is ∙ ap (λ p. Ok (record { props = props; embedded = p; passed = [] })) there)
        ∙ bind_from (body_in inner s (Some place)) _ (Some (held_message (record { message = t; passed = [] }))) (ap (mapped Some) (
        bind_from (found (storage_named s.children (value_name OBJECT_TAG)) (MISSING_STORAGE, place)) _ st.s (ap (λ x. found x (MISSING_STORAGE, place)) st.there)
        ∙ (ap (λ b. held_by inner b place st.s) (message_listed m t fine st.s st.holds)
        ∙ ap (mapped held_message) (deep m more t fine place st.s st.holds))))
    attachment_given s props (stored x) good known fine e =
        let f : FileTree = WrittenTrees.attachment_tree names props (stored x) in
        let d : Apart f = WrittenTrees.attachment_apart names props (stored x) (WrittenTrees.all_ready names props few good known) good.sorted in
        let h = found_as s.children f e in
        let own : List Entry = WrittenTrees.list_entries names (replicate 8 0) props (Some 4) in
        let (o, (some, is)) = list_given s f attachment (replicate 8 0) props (Some 4) [] (entries (body_files names (stored x))) h d refl (λ q. refl) good known (WrittenTrees.attachment_entries names props (stored x)) in
        let (place, there) = some_place o some in
        let put : Contains (entries f) (folder (value_name OBJECT_TAG) x.class x.members) = subst (λ (l : List Entry). Contains l (folder (value_name OBJECT_TAG) x.class x.members)) (sym (WrittenTrees.attachment_entries names props (stored x))) (in_right own (entries (body_files names (stored x))) (folder (value_name OBJECT_TAG) x.class x.members) (zero, omega arith, refl)) in
        let st = storage_found s.children f h d (value_name OBJECT_TAG) x.class x.members put in
        bind_from (list_in attachment (pairs_from 0 names) s) _ (record { props = props; embedded = Some place; passed = [] }) (is ∙ ap (λ p. Ok (record { props = props; embedded = p; passed = [] })) there)
        ∙ bind_from (body_in inner s (Some place)) _ (Some (held_store x)) (ap (mapped Some) (
        bind_from (found (storage_named s.children (value_name OBJECT_TAG)) (MISSING_STORAGE, place)) _ st.s (ap (λ y. found y (MISSING_STORAGE, place)) st.there)
        ∙ (ap (λ b. held_by inner b place st.s) (found_no_message st.s x fine st.holds)
        ∙ ap (mapped held_store) (store_in-only st.s x (found_store st.s x fine st.class_is st.holds)))))

    abbrev givens : List Attached → List Carried
    givens l = map (λ a. record { attached = a; passed = [] }) l

    body_fine : (body : Body) → depth_of_body body ≤ n → BodyHasPropLists body → BodyHasFewParts body → In names (names_in_body body) → BodyFine n body
    body_fine nothing levels lists parts known = tt
    body_fine (stored x) levels lists parts known = lists
    body_fine (embedded t) levels lists parts known = by n refl
      where
        by : (k : ℕ) → n ≡ k → BodyFine n (embedded t)
        by zero e = absurd (omega (arith, levels, e))
        by (suc m) e = (m, (e, record { levels = omega (arith, levels, e); lists = lists; parts = parts; known = known }))

    attachments_given : (ss : List Files) (i : ℕ) (all : Attachments) → depth_in all ≤ n → HavePropLists all → HaveFewParts all → In names (names_below all) → AllZip (λ (r : Files) inside. bare r.children ≡ sorted inside) ss (map (λ p. p.1) (WrittenTrees.trees_from names i all)) → AllZip (λ r a. attachment_in (pairs_from 0 names) inner r ≡ Ok a) ss (givens (listed all))
    attachments_given [] i no_more levels lists parts known z = tt
    attachments_given [] i (attached props body others) levels lists parts known z = absurd z
    attachments_given (s ∷ ss) i no_more levels lists parts known z = absurd z
    attachments_given (s ∷ ss) i (attached props body others) levels lists parts known z =
        let both : In names (names_in_props props ++ names_in_body body) = in_front names (names_in_props props ++ names_in_body body) (names_below others) known in (
          attachment_given s props body lists.0 (among names props (in_front names (names_in_props props) (names_in_body body) both))
              (body_fine body (omega (arith, levels)) lists.1.0 parts.0 (in_back names (names_in_props props) (names_in_body body) both)) z.0,
          attachments_given ss (i + 1) others (omega (arith, levels)) lists.1.1 parts.1 (in_back names (names_in_props props ++ names_in_body body) (names_below others) known) z.1,
        )

    section_props : (rs : List (List Prop)) → map (λ (l : Section). l.props) (sections rs) ≡ rs
    section_props [] = refl
    section_props (r ∷ rs) = ap (λ z. r ∷ z) (section_props rs)

    section_passed : (rs : List (List Prop)) → flat_map (λ (l : Section). l.passed) (sections rs) ≡ []
    section_passed [] = refl
    section_passed (r ∷ rs) = section_passed rs

    given_attached : (l : List Attached) → map (λ (a : Carried). a.attached) (givens l) ≡ l
    given_attached [] = refl
    given_attached (a ∷ l) = ap (λ z. a ∷ z) (given_attached l)

    given_passed : (l : List Attached) → flat_map (λ (a : Carried). a.passed) (givens l) ≡ []
    given_passed [] = refl
    given_passed (a ∷ l) = given_passed l

    -- a message, whose children stand behind others that have no number
    message_given : (part : Part) (b : Bool) (props : List Prop) (rs : List (List Prop)) (all : Attachments) (s : Files) (f : FileTree) (before : List Entry) → ((i j : ℕ) → length (head_of b i j) ≡ head_size part) → Fine n (message props rs all)
        → FoundAs s.children f → Apart f → entries f ≡ before ++ entries (message_files names b (message props rs all)) → filter_map (numbered_entry RECIPIENT_NAME) before ≡ [] → filter_map (numbered_entry ATTACHMENT_NAME) before ≡ []
        → message_with (pairs_from 0 names) inner part s ≡ Ok (record { message = message props rs all; passed = [] })
    unfolding message_with
    message_given part b props rs all s f before long fine h d e no_recipient no_attachment =
        let head : List ℕ = head_of b (length rs) (length (listed all)) in
        let good : IsPropList props = fine.lists.0 in
        let known : NamesAmong names props = among names props (own_known names props rs all fine.known) in
        let whole : entries f ≡ before ++ (WrittenTrees.list_entries names head props None ++ WrittenTrees.rest_entries names rs all) = e ∙ ap (λ z. before ++ z) (WrittenTrees.message_entries names b props rs all) in
        let (o, (none, own)) = list_given s f part head props None before (WrittenTrees.rest_entries names rs all) h d (long (length rs) (length (listed all))) (λ q. absurd cc) good known whole in
        let recipient_list : numbers RECIPIENT_NAME f ≡ WrittenTrees.recipients_from names 0 rs = ap (filter_map (numbered_entry RECIPIENT_NAME)) whole ∙ WrittenTrees.message_recipients names before head props rs all no_recipient fine.parts.0 in
        let attachment_list : numbers ATTACHMENT_NAME f ≡ WrittenTrees.trees_from names 0 all = ap (filter_map (numbered_entry ATTACHMENT_NAME)) whole ∙ WrittenTrees.message_attachments names before head props rs all no_attachment fine.parts.1 in
        let rz = subst (λ l. AllZip (λ (r : Files) inside. bare r.children ≡ sorted inside) (numbered RECIPIENT_NAME s) (map (λ p. p.1) l)) recipient_list (numbered_found RECIPIENT_NAME s f h (subst (Counting 0) (sym recipient_list) (WrittenTrees.recipients_count names 0 rs))) in
        let az = subst (λ l. AllZip (λ (r : Files) inside. bare r.children ≡ sorted inside) (numbered ATTACHMENT_NAME s) (map (λ p. p.1) l)) attachment_list (numbered_found ATTACHMENT_NAME s f h (subst (Counting 0) (sym attachment_list) (WrittenTrees.trees_count names 0 all))) in
        let recipients_read = each-only (list_in recipient (pairs_from 0 names)) (numbered RECIPIENT_NAME s) (sections rs) (recipients_given (numbered RECIPIENT_NAME s) 0 rs (every_of IsPropList IsPropList (λ x g. g) rs fine.lists.1.0) (recipients_known names props rs all fine.known) rz) in
        let attachments_read = each-only (attachment_in (pairs_from 0 names) inner) (numbered ATTACHMENT_NAME s) (givens (listed all)) (attachments_given (numbered ATTACHMENT_NAME s) 0 all fine.levels fine.lists.1.1 fine.parts.2 (below_known names props rs all fine.known) az) in
        let meaning : meaning_of (record { props = props; embedded = None; passed = [] }) (sections rs) (givens (listed all)) ≡ record { message = message props rs all; passed = [] } =
        λ i. record { message = message props (section_props rs i) ((ap attachments_from (given_attached (listed all)) ∙ from_listed all) i); passed = section_passed rs i ++ given_passed (listed all) i } in
        bind_from (list_in part (pairs_from 0 names) s) _ (record { props = props; embedded = None; passed = [] }) (own ∙ ap (λ p. Ok (record { props = props; embedded = p; passed = [] })) (no_place o none))
        ∙ (bind_from (each (list_in recipient (pairs_from 0 names)) (numbered RECIPIENT_NAME s)) _ (sections rs) recipients_read
        ∙ (bind_from (each (attachment_in (pairs_from 0 names) inner) (numbered ATTACHMENT_NAME s)) _ (givens (listed all)) attachments_read
        ∙ ap Ok meaning))

  -- the names of a message's children are apart
  fine_apart : (n : ℕ) (t : Message) → Fine n t → Apart (message_files names false t)
  fine_apart n (message props rs all) fine =
      let good : IsPropList props = fine.lists.0 in
      WrittenTrees.message_apart names false props rs all (WrittenTrees.all_ready names props few good (among names props (own_known names props rs all fine.known))) good.sorted fine.parts.0 fine.parts.1

  -- a message with its levels
  pub message_read : (n : ℕ) (part : Part) (b : Bool) (t : Message) (s : Files) (f : FileTree) (before : List Entry) → ((i j : ℕ) → length (head_of b i j) ≡ head_size part) → Fine n t
      → FoundAs s.children f → Apart f → entries f ≡ before ++ entries (message_files names b t) → filter_map (numbered_entry RECIPIENT_NAME) before ≡ [] → filter_map (numbered_entry ATTACHMENT_NAME) before ≡ []
      → message_in n (pairs_from 0 names) part s ≡ Ok (record { message = t; passed = [] })
  unfolding message_in
  message_read zero part b (message props rs all) s f before long fine h d e r a =
      message_given zero (λ place below. Err (TOO_DEEP, place)) (λ m q. absurd (omega (arith, q))) part b props rs all s f before long fine h d e r a
  message_read (suc n) part b (message props rs all) s f before long fine h d e r a =
      message_given (suc n) (λ place below. message_in n (pairs_from 0 names) embedded_message below)
      (λ m q t inside place below holds. (let same : m ≡ n = omega (arith, q) in let under : Fine n t = subst (λ k. Fine k t) same inside in message_read n embedded_message false t below (message_files names false t) [] (λ i j. refl) under (found_as below.children (message_files names false t) holds) (fine_apart n t under) refl refl refl))
      part b props rs all s f before long fine h d e r a
