-- The tree that a value means is read.
use Rattle.std.proofs.Common.{◌≡◌, ℕ, zero, suc, inl, inr, ◌<◌, ◌≤◌, List, [], ◌∷◌, ◌++◌, false, Some, refl, ap, sym, subst, ◌∙◌, arith}
use Rattle.std.specs.Prelude.{codes, Result, Ok, Err}
use Rattle.std.proofs.lemmas.List.{append-nil, append_assoc}
use Rattle.serde_json.specs.Data.{Data, Items, no_items, item}
use Rattle.serde_json.specs.Read.{read}
use Rattle.carrier_model.specs.Tree.{Message, message, Attachments, no_more, attached, nothing, embedded, stored, Attached, attachments_from, listed, depth, depth_in, GREATEST_LEVEL}
use Rattle.carrier_model.specs.Trees.{IsPropList, HasPropLists, HavePropLists}
use Rattle.json_model.specs.Faults.{JsonFault}
use Rattle.json_model.specs.JsonMeanings.{HasMembers, PropsMean, MessageMeans, AttachmentsMean, JsonMeans, TextMeansTree, FirstJsonFault}
use Rattle.json_model.specs.MessageForms.{EMBEDDING, STORING, read_attachment, read_within, read_json}
use Rattle.json_model.specs.Parts.{has_members, in_turn}
use Rattle.json_model.specs.Properties.{read_props}
use Rattle.json_model.proofs.Complete.{each_read}
use Rattle.json_model.proofs.CompleteProps.{props_read}
use Rattle.json_model.proofs.CompleteStores.{store_read}
use Rattle.json_model.proofs.Keys.{not_members_second, not_one, firsts_differ}
use Rattle.json_model.proofs.Meant.{by_turns}

relisted : (a : Attachments) → attachments_from (listed a) ≡ a
relisted no_more = refl
relisted (attached props body others) = ap (attached props body) (relisted others)

not_embedding : (v : Data) → HasMembers STORING v → has_members EMBEDDING v ≡ false
not_embedding v h =
    not_members_second v (codes "message") (codes "properties") (codes "properties") (codes "store") h
    (firsts_differ (codes "message") (codes "properties") 109 112 refl refl (λ e. absurd (omega (arith, e))))
    (firsts_differ (codes "store") (codes "message") 115 109 refl refl (λ e. absurd (omega (arith, e))))
    (firsts_differ (codes "store") (codes "properties") 115 112 refl refl (λ e. absurd (omega (arith, e))))

mutual
  message_read : (levels : ℕ) (v : Data) (t : Message) → MessageMeans v t → HasPropLists t → depth t < levels → read_within levels v ≡ Ok t
  message_read zero v (message props recipients attachments) h is lt = absurd (omega (arith, lt))
  message_read (suc n) v (message props recipients attachments) (whole, (a, at, (ds, list, h)), (b, to, own), (c, by, who)) is lt =
      let all : in_turn (λ before. read_attachment (read_within n)) [] ds ≡ Ok (listed attachments) = attachments_read n [] ds attachments h is.1.1 (omega (arith, lt)) in
      rw (whole, at, list, all, to, props_read b props own is.0, by, each_read read_props PropsMean IsPropList props_read c recipients who (by_turns IsPropList recipients is.1.0))
      (ap (λ x. Ok (message props recipients x)) (relisted attachments))

  attachments_read : (n : ℕ) (before : List Attached) (ds : Items) (a : Attachments) → AttachmentsMean ds a → HavePropLists a → depth_in a ≤ n → in_turn (λ before. read_attachment (read_within n)) before ds ≡ Ok (before ++ listed a)
  attachments_read n before no_items no_more h is lt = ap Ok (sym (append-nil before))
  attachments_read n before no_items (attached props body others) h is lt = absurd h
  attachments_read n before (item d ds) no_more h is lt = absurd h
  attachments_read n before (item d ds) (attached props nothing others) ((b, to, own), plain, h) is lt =
      rw (plain, to, props_read b props own is.0) (attachments_read n (before ++ (props, nothing) ∷ []) ds others h is.1.1 (omega (arith, lt)) ∙ ap Ok (append_assoc before ((props, nothing) ∷ []) (listed others)))
  attachments_read n before (item d ds) (attached props (embedded inner) others) ((b, to, own), (whole, (a, at, means)), h) is lt =
      rw (not_one d (codes "properties") (codes "message") (codes "properties") whole, whole, at, message_read n a inner means is.1.0 (omega (arith, lt)), to, props_read b props own is.0)
      (attachments_read n (before ++ (props, embedded inner) ∷ []) ds others h is.1.1 (omega (arith, lt)) ∙ ap Ok (append_assoc before ((props, embedded inner) ∷ []) (listed others)))
  attachments_read n before (item d ds) (attached props (stored store) others) ((b, to, own), (whole, (a, at, means)), h) is lt =
      rw (not_one d (codes "properties") (codes "properties") (codes "store") whole, not_embedding d whole, whole, to, props_read b props own is.0, at, store_read a store means is.1.0)
      (attachments_read n (before ++ (props, stored store) ∷ []) ds others h is.1.1 (omega (arith, lt)) ∙ ap Ok (append_assoc before ((props, stored store) ∷ []) (listed others)))

-- what a value means is read
pub meant_is_read : (v : Data) (t : Message) → JsonMeans v t → read_json v ≡ Ok t
meant_is_read v t h = let l = h.tree.levels in message_read (suc GREATEST_LEVEL) v t h.form h.tree.lists (omega (arith, l))

-- a value means one tree at most, and then has no fault
ok_same : (r : Result Message JsonFault) (t u : Message) → r ≡ Ok t → r ≡ Ok u → u ≡ t
ok_same r t u h k = cc

ok_no_fault : (r : Result Message JsonFault) (t : Message) (g : JsonFault) → r ≡ Ok t → r ≡ Err g → ⊥
ok_no_fault r t g h k = cc

fault_same : (r : Result Message JsonFault) (g h : JsonFault) → r ≡ Err g → r ≡ Err h → h ≡ g
fault_same r g h p q = cc

some_same : (b : List ℕ) (v w : Data) → read b ≡ Some v → read b ≡ Some w → v ≡ w
some_same b v w h k = cc

pub one_tree : (v : Data) (t u : Message) → JsonMeans v t → JsonMeans v u → u ≡ t
one_tree v t u h k = ok_same (read_json v) t u (meant_is_read v t h) (meant_is_read v u k)

pub no_fault : (v : Data) (t : Message) (g : JsonFault) → JsonMeans v t → read_json v ≡ Err g → ⊥
no_fault v t g h k = ok_no_fault (read_json v) t g (meant_is_read v t h) k

-- the same of texts
pub one_tree_of_text : (b : List ℕ) (t u : Message) → TextMeansTree b t → TextMeansTree b u → u ≡ t
one_tree_of_text b t u (v, h, k) (w, i, j) = one_tree w t u (subst (λ x. JsonMeans x t) (some_same b v w h.1 i.1) k) j

pub one_fault_of_text : (b : List ℕ) (g h : JsonFault) → FirstJsonFault b g → FirstJsonFault b h → h ≡ g
one_fault_of_text b g h (inl p) (inl q) = q.1 ∙ sym p.1
one_fault_of_text b g h (inl p) (inr (v, is, e)) = absurd (p.0 v is)
one_fault_of_text b g h (inr (v, is, e)) (inl q) = absurd (q.0 v is)
one_fault_of_text b g h (inr (v, is, e)) (inr (w, are, f)) = fault_same (read_json v) g h e (ap read_json (some_same b v w is.1 are.1) ∙ f)

pub no_fault_of_text : (b : List ℕ) (t : Message) (g : JsonFault) → TextMeansTree b t → FirstJsonFault b g → ⊥
no_fault_of_text b t g (v, is, h) (inl p) = p.0 v is
no_fault_of_text b t g (v, is, h) (inr (w, are, f)) = no_fault v t g h (ap read_json (some_same b v w is.1 are.1) ∙ f)
