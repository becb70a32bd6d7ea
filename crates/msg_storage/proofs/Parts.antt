-- The parts of a message, by what is known of the whole.
use Rattle.std.proofs.Common.{◌≡◌, ℕ, ◌≤◌, ◌++◌, List, length, Bool, None, inl, inr, refl, sym, ap, subst, ◌∙◌, arith}
use Rattle.std.specs.List.{flat_map}
use Rattle.carrier_model.specs.FileTrees.{and_files}
use Rattle.carrier_model.specs.Keys.{Name}
use Rattle.carrier_model.specs.Tree as plain
use Rattle.carrier_model.specs.Tree.{attachments_from, names_at, names_below, names_in, names_in_body, names_in_props}
use Rattle.carrier_model.proofs.Trees.{listed-from}
use Rattle.msg_model.specs.ReadBack.{HasFewParts, HaveFewParts, NamesAmong}
use Rattle.msg_model.specs.WrittenMsg.{attachment_files, head_of, list_files, message_files, recipient_files}
use Rattle.msg_model.proofs.WrittenMessages.{among, below_known, in_back, in_front, own_known, recipients_known}
use Rattle.msg_props.specs.Heads.{head_at}
use Rattle.msg_storage.specs.Written.{IsOfMessage, Known, is_top}
use Rattle.msg_storage.proofs.Unrolled.{attached_out, tree_out}
use Rattle.msg_tree.specs.Keeping.{HasStores, HaveStores}
use Rattle.msg_tree.specs.Meaning.{attached_of, body_of, list_of, tree_of}
use Rattle.msg_tree.specs.declared.messages.Attachment.{Attachment, out-Attachment}
use Rattle.msg_tree.specs.declared.messages.Message.{Message, out-Message}
use Rattle.prop_values.specs.declared.props.Part.{Part}

-- the head of a message's list
pub head_of_message : (part : Part) → IsOfMessage part → (i j : ℕ) → head_at part i j ≡ head_of (is_top part) i j
head_of_message part (inl e) i j = rw e refl
head_of_message part (inr e) i j = rw e refl

module _ {B : Type 0} (bytes_of : B → List ℕ) (m : Message B) where
  whole_known : (names : List Name) → Known names (names_in (tree_of bytes_of m)) → Known names (names_in (plain.message (out-Message B m).props (out-Message B m).recipients (attachments_from (list_of bytes_of (out-Message B m).attachments))))
  whole_known names h = subst (λ (t : plain.Message). Known names (names_in t)) (tree_out bytes_of m) h

  pub own_named : (names : List Name) → Known names (names_in (tree_of bytes_of m)) → NamesAmong names (out-Message B m).props
  own_named names h = among names (out-Message B m).props (own_known names (out-Message B m).props (out-Message B m).recipients (attachments_from (list_of bytes_of (out-Message B m).attachments)) (whole_known names h))

  pub recipients_named : (names : List Name) → Known names (names_in (tree_of bytes_of m)) → Known names (flat_map names_in_props (out-Message B m).recipients)
  recipients_named names h = recipients_known names (out-Message B m).props (out-Message B m).recipients (attachments_from (list_of bytes_of (out-Message B m).attachments)) (whole_known names h)

  pub below_named : (names : List Name) → Known names (names_in (tree_of bytes_of m)) → Known names (names_below (attachments_from (list_of bytes_of (out-Message B m).attachments)))
  below_named names h = below_known names (out-Message B m).props (out-Message B m).recipients (attachments_from (list_of bytes_of (out-Message B m).attachments)) (whole_known names h)

  pub few_attachments : HasFewParts (tree_of bytes_of m) → length (list_of bytes_of (out-Message B m).attachments) ≤ 2048
  few_attachments h =
      let xs = list_of bytes_of (out-Message B m).attachments in
      let parts = subst HasFewParts (tree_out bytes_of m) h in
      omega (arith, parts.1, ap length (listed-from xs))

  pub few_below : HasFewParts (tree_of bytes_of m) → HaveFewParts (attachments_from (list_of bytes_of (out-Message B m).attachments))
  few_below h = (subst HasFewParts (tree_out bytes_of m) h).2

  pub stores_below : HasStores (tree_of bytes_of m) → HaveStores (attachments_from (list_of bytes_of (out-Message B m).attachments))
  stores_below h = subst HasStores (tree_out bytes_of m) h

  pub depth_below : plain.depth (tree_of bytes_of m) ≡ plain.depth_in (attachments_from (list_of bytes_of (out-Message B m).attachments))
  depth_below = ap plain.depth (tree_out bytes_of m)

  -- its list, with the numbers of its parts
  pub list_told : (names : List Name) (top : Bool) (head : ℕ → ℕ → List ℕ) (r a : ℕ) → r ≡ length (out-Message B m).recipients → a ≡ length (list_of bytes_of (out-Message B m).attachments) → ((i j : ℕ) → head i j ≡ head_of top i j)
      → list_files names (head r a) (out-Message B m).props None ≡ list_files names (head_of top (length (plain.recipients_of (tree_of bytes_of m))) (length (plain.attachments_of (tree_of bytes_of m)))) (plain.props_of (tree_of bytes_of m)) None
  list_told names top head r a e f h =
      let t = tree_out bytes_of m in
      let rows : r ≡ length (plain.recipients_of (tree_of bytes_of m)) = e ∙ sym (ap (λ (u : plain.Message). length (plain.recipients_of u)) t) in
      let pieces : a ≡ length (plain.attachments_of (tree_of bytes_of m)) = f ∙ (sym (ap length (listed-from (list_of bytes_of (out-Message B m).attachments))) ∙ sym (ap (λ (u : plain.Message). length (plain.attachments_of u)) t)) in
      let bytes : head r a ≡ head_of top (length (plain.recipients_of (tree_of bytes_of m))) (length (plain.attachments_of (tree_of bytes_of m))) = h r a ∙ (λ i. head_of top (rows i) (pieces i)) in
      let props : (out-Message B m).props ≡ plain.props_of (tree_of bytes_of m) = sym (ap plain.props_of t) in
      λ i. list_files names (bytes i) (props i) None

  -- the files of its parts are its files
  pub files_told : (names : List Name) (top : Bool)
      → and_files (list_files names (head_of top (length (plain.recipients_of (tree_of bytes_of m))) (length (plain.attachments_of (tree_of bytes_of m)))) (plain.props_of (tree_of bytes_of m)) None)
      (and_files (recipient_files names 0 (out-Message B m).recipients) (attachment_files names 0 (attachments_from (list_of bytes_of (out-Message B m).attachments))))
      ≡ message_files names top (tree_of bytes_of m)
  files_told names top =
      let t = tree_out bytes_of m in
      let own = λ (u : plain.Message). list_files names (head_of top (length (plain.recipients_of u)) (length (plain.attachments_of u))) (plain.props_of u) None in
      ap (λ (u : plain.Message). and_files (own u) (and_files (recipient_files names 0 (out-Message B m).recipients) (attachment_files names 0 (attachments_from (list_of bytes_of (out-Message B m).attachments))))) t
      ∙ sym (ap (message_files names top) t)

module _ {B : Type 0} (bytes_of : B → List ℕ) (a : Attachment B) where
  pub body_is : (attached_of bytes_of a).1 ≡ body_of bytes_of (out-Attachment B a).body
  body_is = ap (λ x. x.1) (attached_out bytes_of a)

  at_known : (names : List Name) → Known names (names_at (attached_of bytes_of a)) → Known names (names_in_props (out-Attachment B a).props ++ names_in_body (body_of bytes_of (out-Attachment B a).body))
  at_known names h = subst (λ (x : plain.Attached). Known names (names_at x)) (attached_out bytes_of a) h

  pub attachment_named : (names : List Name) → Known names (names_at (attached_of bytes_of a)) → NamesAmong names (out-Attachment B a).props
  attachment_named names h = among names (out-Attachment B a).props (in_front names (names_in_props (out-Attachment B a).props) (names_in_body (body_of bytes_of (out-Attachment B a).body)) (at_known names h))

  pub body_named : (names : List Name) → Known names (names_at (attached_of bytes_of a)) → Known names (names_in_body (body_of bytes_of (out-Attachment B a).body))
  body_named names h = in_back names (names_in_props (out-Attachment B a).props) (names_in_body (body_of bytes_of (out-Attachment B a).body)) (at_known names h)
