-- The parts of a stream as they are written one behind the other.
use Rattle.std.proofs.Common.{◌≡◌, ℕ, ◌+◌, ◌%◌, ◌++◌, List, Option, Some, Result, Ok, Err, length, take, drop, refl, sym, ap, subst, ◌∙◌, append_assoc}
use Rattle.std.specs.Prelude.{slice_get, replicate}
use Rattle.std.specs.Result.{IsErr}
use Rattle.std.specs.List.{flat_map}
use Rattle.carrier_model.specs.Bytes.{le32, pad4}
use Rattle.carrier_model.specs.Keys.{Name}
use Rattle.tnef_model.specs.TnefCanonical.{object_bytes, stream_of, tag_bytes}
use Rattle.carrier_model.specs.Kinds.{OBJECT}
use Rattle.carrier_model.specs.Tree as plain
use Rattle.msg_tree.specs.Meaning.{tree_of, list_of}
use Rattle.msg_tree.specs.declared.messages.Message.{Message, out-Message}
use Rattle.msg_tree.proofs.Unrolled.{tree_out}
use Rattle.tnef_writer.specs.Carried.{object_head}
use Rattle.tnef_writer.specs.Written.{own_bytes, attachment_bytes}
use Rattle.tnef_writer.proofs.StreamParts.{stream_parts}
use Rattle.carrier_io.specs.Summed.{Sums}
use Rattle.carrier_io.proofs.Summed.{sums_both, sums_first, sums_second, flat_map_more, flat_map_parts}

-- one item more, behind what stands before the list
pub behind_more : {X E F G : Type 0} {a b c : Option (List ℕ)} {n m l s t : ℕ} (front : List ℕ) (f : X → List ℕ) (xs : List X) (k : ℕ) (x : X) (r : ℕ) → slice_get xs k ≡ Some x → r ≡ (s + t) % 65536 → Sums {E = E} a b n m (Ok s) (front ++ flat_map f (take k xs)) → Sums {E = F} b c m l (Ok t) (f x) → Sums {E = G} a c n l (Ok r) (front ++ flat_map f (take (k + 1) xs))
behind_more {X} {E} {F} {G} {a} {b} {c} {n} {m} {l} {s} {t} front f xs k x r at e p q =
    subst (λ (z : List ℕ). Sums {E = G} a c n l (Ok r) z) (append_assoc front (flat_map f (take k xs)) (f x) ∙ ap (λ (z : List ℕ). front ++ z) (sym (flat_map_more f xs k x at))) (sums_both r e p q)

pub behind_stops : {X E F G : Type 0} {a b c : Option (List ℕ)} {n m l s : ℕ} {r : Result ℕ G} {e : F} (front : List ℕ) (f : X → List ℕ) (xs : List X) (k : ℕ) (x : X) → slice_get xs k ≡ Some x → IsErr r → Sums {E = E} a b n m (Ok s) (front ++ flat_map f (take k xs)) → Sums {E = F} b c m l (Err e) (f x) → Sums {E = G} a c n l r (front ++ flat_map f xs)
behind_stops {X} {E} {F} {G} {a} {b} {c} {n} {m} {l} {s} {r} {e} front f xs k x at err p q =
    subst (λ (z : List ℕ). Sums {E = G} a c n l r z) (append_assoc front (flat_map f (take k xs)) (f x ++ flat_map f (drop (k + 1) xs)) ∙ ap (λ (z : List ℕ). front ++ z) (sym (flat_map_parts f xs k x at)))
    (sums_second err p (sums_first {r = Err e} (flat_map f (drop (k + 1) xs)) refl q))

-- an Object, by what stands before the rest of its value
pub object_parts : (interface held : List ℕ) (size pad : ℕ) → size ≡ length (interface ++ held) → pad4 size ≡ pad → object_bytes (interface ++ held) ≡ object_head size interface ++ (held ++ replicate pad 0)
object_parts interface held size pad e p = rw (← p, e) (ap (λ z. tag_bytes 0x3701 OBJECT ++ (le32 1 ++ (le32 (length (interface ++ held)) ++ z))) (append_assoc interface held (replicate (pad4 (length (interface ++ held))) 0)))

pub sums_as : {E : Type 0} {a b : Option (List ℕ)} {n m : ℕ} {r : Result ℕ E} (x y : List ℕ) → x ≡ y → Sums {E = E} a b n m r x → Sums {E = E} a b n m r y
sums_as {E} {a} {b} {n} {m} {r} x y e s = subst (λ (z : List ℕ). Sums {E = E} a b n m r z) e s

-- the stream of a message, by what stands before its attachments and by these
pub message_whole : {B : Type 0} (bytes_of : B → List ℕ) (names : List Name) (m : Message B) → stream_of names (tree_of bytes_of m) ≡ own_bytes names (plain.props_of (tree_of bytes_of m)) (plain.recipients_of (tree_of bytes_of m)) ++ flat_map (attachment_bytes names) (list_of bytes_of (out-Message B m).attachments)
message_whole {B} bytes_of names m =
    ap (stream_of names) (tree_out bytes_of m)
    ∙ stream_parts names (out-Message B m).props (out-Message B m).recipients (list_of bytes_of (out-Message B m).attachments)
    ∙ ap (λ (t : plain.Message). own_bytes names (plain.props_of t) (plain.recipients_of t) ++ flat_map (attachment_bytes names) (list_of bytes_of (out-Message B m).attachments)) (sym (tree_out bytes_of m))
