-- A storage that is found and is no message is a store.
use Rattle.std.proofs.Common.{◌≡◌, ℕ, false, List, ◌∷◌, length, refl, sym, ap, subst, ◌∙◌}
use Rattle.std.specs.Prelude.{is_some}
use Rattle.carrier_model.specs.Bytes.{AllBytes}
use Rattle.carrier_model.specs.FileTrees.{file_names, Store}
use Rattle.carrier_model.specs.Files.{Children, none, storage, stream, Files}
use Rattle.carrier_model.specs.Holds.{AreApart, child_names}
use Rattle.carrier_model.specs.Lookups.{stream_named}
use Rattle.carrier_model.specs.Stores.{PROPERTIES, has_stream, AreInOrder, AreMembers, IsStore, bare, StoreMeans, IsStoreFile}
use Rattle.carrier_model.specs.Tables.{sector_size}
use Rattle.carrier_model.proofs.ReadFiles.{ChildrenFit, FilesFit, files_fit}
use Rattle.carrier_model.proofs.HoldsLaws.{size_known}
use Rattle.carrier_model.proofs.StoreOrder.{AreFound, sorted-order, sorted-members, sorted-has}
use Rattle.carrier_model.proofs.StoreWritten.{bare-has}

bare-names : (c : Children) → file_names (bare c) ≡ child_names c
bare-names none = refl
bare-names (storage tag below rest) = ap (λ l. tag.name ∷ l) (bare-names rest)
bare-names (stream tag x rest) = ap (λ l. tag.name ∷ l) (bare-names rest)

bare-apart : (c : Children) → AreApart (child_names c) → AreApart (file_names (bare c))
bare-apart c h = subst AreApart (sym (bare-names c)) h

bare-found : (c : Children) → ChildrenFit c → AreFound (bare c)
bare-found none h = tt
bare-found (storage tag below rest) h = (h.2.name, h.2.class, bare-apart below h.3, bare-found below h.0, bare-found rest h.1)
bare-found (stream tag x rest) h = (h.2.name, bare-found rest h.1)

pub found_is_store : (s : Files) (x : Store) → FilesFit s → is_some (stream_named s.children PROPERTIES) ≡ false → StoreMeans s x → IsStore x
found_is_store s x h no_list m = record {
  class = ap (λ (y : Store). length y.class) m.is ∙ h.class;
  order = subst (λ (y : Store). AreInOrder y.members) (sym m.is) (sorted-order (bare s.children) (bare-apart s.children h.apart));
  members = subst (λ (y : Store). AreMembers y.members) (sym m.is) (sorted-members (bare s.children) (bare-found s.children h.children));
  depth = m.depth;
  no_message = ap (λ (y : Store). has_stream y.members PROPERTIES) m.is ∙ (sorted-has (bare s.children) PROPERTIES ∙ (sym (bare-has s.children PROPERTIES) ∙ no_list));
}

pub file_is_store : (b : List ℕ) (x : Store) → AllBytes b → IsStoreFile b x → IsStore x
file_is_store b x bytes m = found_is_store m.root x (files_fit (sector_size b) b m.root (size_known b) bytes m.few m.holds) m.no_message m.means
