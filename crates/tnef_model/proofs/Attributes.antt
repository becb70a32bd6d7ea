-- An attribute is read as it is spelled.
use Rattle.std.proofs.Common.{◌≡◌, ℕ, ◌+◌, ◌≤◌, true, List, ◌∷◌, ◌++◌, length, get_or, take, drop, None, refl, sym, ap, ◌∙◌, append_assoc, arith}
use Rattle.std.proofs.lemmas.List.{length-append, length-take, length-drop, take_at, drop_at, drop-drop, take-append-drop, drop_more}
use Rattle.std.proofs.lemmas.Bool.{leb-true, le-leb, eqb-true, eq-eqb}
use Rattle.carrier_model.specs.Trail.{first_fault}
use Rattle.carrier_model.specs.Bytes.{AllBytes, number16, number32, le16, le32, sum16}
use Rattle.carrier_model.specs.Items.{Begins}
use Rattle.tnef_model.specs.Attributes.{Attr, is_level, spelling, IsAttr, attr_len, attr_tests, attrs, attr}
use Rattle.carrier_model.proofs.Numbers.{AllBytes-drop, number32-le32, number16-le16, number32-front, number16-front, number32-below, sum16-below}
use Rattle.carrier_model.proofs.Items.{Lawful}
use Rattle.carrier_model.proofs.Tests.{passed, passing}
use Rattle.std.specs.Prelude.{slice_index}

-- what an attribute's bytes say, and what stands behind it
abbrev pub attr_of : ℕ → List ℕ → Attr
attr_of at bytes = attr (slice_index bytes 0) (number32 (drop 1 bytes)) at (take (attr_len bytes) (drop 9 bytes))

abbrev pub after_attr : List ℕ → List ℕ
after_attr bytes = drop (11 + attr_len bytes) bytes

-- ---- what is spelled is read again

record Again (at : ℕ) (a : Attr) (rest : List ℕ) : Type 0 where
  pub len : attr_len (spelling a ++ rest) ≡ length a.bytes
  pub id : number32 (drop 1 (spelling a ++ rest)) ≡ a.id
  pub bytes : drop 9 (spelling a ++ rest) ≡ a.bytes ++ (le16 (sum16 a.bytes) ++ rest)
  pub size : length (spelling a ++ rest) ≡ 11 + length a.bytes + length rest

again : (at : ℕ) (a : Attr) (rest : List ℕ) → IsAttr at a → Again at a rest
again at a rest h =
    let tail = a.bytes ++ (le16 (sum16 a.bytes) ++ rest) in
    let regrouped : spelling a ++ rest ≡ a.level ∷ (le32 a.id ++ (le32 (length a.bytes) ++ tail)) = ap (λ (z : List ℕ). a.level ∷ (le32 a.id ++ (le32 (length a.bytes) ++ z))) (append_assoc a.bytes (le16 (sum16 a.bytes)) rest) in
    record {
      len = ap attr_len regrouped ∙ number32-le32 (length a.bytes) tail h.few;
      id = ap (λ (z : List ℕ). number32 (drop 1 z)) regrouped ∙ number32-le32 a.id (le32 (length a.bytes) ++ tail) h.id;
      bytes = ap (drop 9) regrouped;
      size = ap length regrouped ∙ omega (arith, length-append a.bytes (le16 (sum16 a.bytes) ++ rest));
    }

same_attr : (level id offset : ℕ) (bytes : List ℕ) (a : Attr) → level ≡ a.level → id ≡ a.id → offset ≡ a.offset → bytes ≡ a.bytes → attr level id offset bytes ≡ a
same_attr level id offset bytes a p q r t = rw (p, q, r, t) refl

pub attr_again : (at : ℕ) (a : Attr) (rest : List ℕ) → IsAttr at a → attr_of at (spelling a ++ rest) ≡ a
attr_again at a rest h =
    let g = again at a rest h in
    let bytes : take (attr_len (spelling a ++ rest)) (drop 9 (spelling a ++ rest)) ≡ a.bytes = ap (λ (n : ℕ). take n (drop 9 (spelling a ++ rest))) g.len ∙ ap (take (length a.bytes)) g.bytes ∙ take_at a.bytes (le16 (sum16 a.bytes) ++ rest) (length a.bytes) refl in
    same_attr a.level (number32 (drop 1 (spelling a ++ rest))) at (take (attr_len (spelling a ++ rest)) (drop 9 (spelling a ++ rest))) a refl g.id (sym h.offset) bytes

behind_bytes : (at : ℕ) (a : Attr) (rest : List ℕ) → IsAttr at a → drop (9 + length a.bytes) (spelling a ++ rest) ≡ le16 (sum16 a.bytes) ++ rest
behind_bytes at a rest h =
    let g = again at a rest h in
    sym (drop-drop (length a.bytes) 9 (spelling a ++ rest)) ∙ ap (drop (length a.bytes)) g.bytes ∙ drop_at a.bytes (le16 (sum16 a.bytes) ++ rest) (length a.bytes) refl

pub after_again : (at : ℕ) (a : Attr) (rest : List ℕ) → IsAttr at a → after_attr (spelling a ++ rest) ≡ rest
after_again at a rest h =
    let g = again at a rest h in
    let n : 9 + length a.bytes + 2 ≡ 11 + length a.bytes = omega arith in
    ap (λ (n : ℕ). drop (11 + n) (spelling a ++ rest)) g.len ∙ ap (λ (n : ℕ). drop n (spelling a ++ rest)) (sym n) ∙ sym (drop-drop 2 (9 + length a.bytes) (spelling a ++ rest)) ∙ ap (drop 2) (behind_bytes at a rest h)

passes_if : (at : ℕ) (bytes : List ℕ) (n : ℕ) → attr_len bytes ≡ n → is_level (get_or bytes 0 0) ≡ true → 11 + n ≤ length bytes → sum16 (take n (drop 9 bytes)) ≡ number16 (drop (9 + n) bytes) → first_fault (attr_tests at bytes) ≡ None
passes_if at bytes n e level long sum =
    let whole : sum16 (take (attr_len bytes) (drop 9 bytes)) ≡ number16 (drop (9 + attr_len bytes) bytes) = rw e sum in
    passed (attr_tests at bytes) (
      level,
      (
        le-leb 5 (length bytes) (omega arith),
        (
          le-leb 9 (length bytes) (omega arith),
          (
            le-leb (9 + attr_len bytes) (length bytes) (omega arith),
            (
              le-leb (11 + attr_len bytes) (length bytes) (omega arith),
              (eq-eqb _ _ whole, tt),
            ),
          ),
        ),
      ),
    )

attr_passes : (at : ℕ) (a : Attr) (rest : List ℕ) → IsAttr at a → first_fault (attr_tests at (spelling a ++ rest)) ≡ None
attr_passes at a rest h =
    let g = again at a rest h in
    let front : take (length a.bytes) (drop 9 (spelling a ++ rest)) ≡ a.bytes = ap (take (length a.bytes)) g.bytes ∙ take_at a.bytes (le16 (sum16 a.bytes) ++ rest) (length a.bytes) refl in
    let sum : sum16 (take (length a.bytes) (drop 9 (spelling a ++ rest))) ≡ number16 (drop (9 + length a.bytes) (spelling a ++ rest)) =
    ap sum16 front ∙ sym (ap number16 (behind_bytes at a rest h) ∙ number16-le16 (sum16 a.bytes) rest (sum16-below a.bytes)) in
    passes_if at (spelling a ++ rest) (length a.bytes) g.len h.level (omega (arith, g.size)) sum

pub attrs_lawful : Lawful attrs
attrs_lawful = record {
  passes = attr_passes;
  one = λ at a b x y p q e. (
    sym (attr_again at b y q) ∙ ap (attr_of at) (sym e) ∙ attr_again at a x p,
    sym (after_again at b y q) ∙ ap after_attr (sym e) ∙ after_again at a x p,
  );
  some = λ a. omega arith;
}

-- ---- what passes is spelled so

pub attr_found : (at : ℕ) (bytes : List ℕ) → AllBytes bytes → first_fault (attr_tests at bytes) ≡ None → Begins attrs at bytes (attr_of at bytes) (after_attr bytes)
attr_found at bytes fits e =
    let n = attr_len bytes in
    let t = passing (attr_tests at bytes) e in
    let long : 11 + n ≤ length bytes = leb-true (11 + n) (length bytes) t.1.1.1.1.0 in
    let sum : sum16 (take n (drop 9 bytes)) ≡ number16 (drop (9 + n) bytes) = eqb-true _ _ t.1.1.1.1.1.0 in
    let len : length (take n (drop 9 bytes)) ≡ n = omega (arith, length-take n (drop 9 bytes), length-drop 9 bytes) in
    let p1 : bytes ≡ get_or bytes 0 0 ∷ drop 1 bytes = drop_more bytes 0 0 (omega arith) in
    let p2 : drop 1 bytes ≡ le32 (number32 (drop 1 bytes)) ++ drop 5 bytes = number32-front (drop 1 bytes) (omega (arith, length-drop 1 bytes)) (AllBytes-drop 1 bytes fits) ∙ ap (λ (z : List ℕ). le32 (number32 (drop 1 bytes)) ++ z) (drop-drop 4 1 bytes) in
    let p3 : drop 5 bytes ≡ le32 n ++ drop 9 bytes = number32-front (drop 5 bytes) (omega (arith, length-drop 5 bytes)) (AllBytes-drop 5 bytes fits) ∙ ap (λ (z : List ℕ). le32 n ++ z) (drop-drop 4 5 bytes) in
    let p4 : drop 9 bytes ≡ take n (drop 9 bytes) ++ drop (9 + n) bytes = sym (take-append-drop n (drop 9 bytes)) ∙ ap (λ (z : List ℕ). take n (drop 9 bytes) ++ z) (drop-drop n 9 bytes) in
    let k : 9 + n + 2 ≡ 11 + n = omega arith in
    let p5 : drop (9 + n) bytes ≡ le16 (number16 (drop (9 + n) bytes)) ++ drop (11 + n) bytes =
    number16-front (drop (9 + n) bytes) (omega (arith, length-drop (9 + n) bytes)) (AllBytes-drop (9 + n) bytes fits) ∙ ap (λ (z : List ℕ). le16 (number16 (drop (9 + n) bytes)) ++ z) (drop-drop 2 (9 + n) bytes ∙ ap (λ (z : ℕ). drop z bytes) k) in
    let q5 : drop (9 + n) bytes ≡ le16 (sum16 (take n (drop 9 bytes))) ++ drop (11 + n) bytes = p5 ∙ ap (λ (z : ℕ). le16 z ++ drop (11 + n) bytes) (sym sum) in
    let q4 : drop 9 bytes ≡ (take n (drop 9 bytes) ++ le16 (sum16 (take n (drop 9 bytes)))) ++ drop (11 + n) bytes = p4 ∙ ap (λ (z : List ℕ). take n (drop 9 bytes) ++ z) q5 ∙ sym (append_assoc (take n (drop 9 bytes)) (le16 (sum16 (take n (drop 9 bytes)))) (drop (11 + n) bytes)) in
    let q3 : drop 5 bytes ≡ le32 (length (take n (drop 9 bytes))) ++ ((take n (drop 9 bytes) ++ le16 (sum16 (take n (drop 9 bytes)))) ++ drop (11 + n) bytes) = p3 ∙ ap (λ (z : ℕ). le32 z ++ drop 9 bytes) (sym len) ∙ ap (λ (z : List ℕ). le32 (length (take n (drop 9 bytes))) ++ z) q4 in
    record {
      good = record { level = t.0; id = number32-below (drop 1 bytes) (AllBytes-drop 1 bytes fits); few = omega (arith, len, number32-below (drop 5 bytes) (AllBytes-drop 5 bytes fits)); offset = refl };
      parts = p1 ∙ ap (λ (z : List ℕ). get_or bytes 0 0 ∷ z) (p2 ∙ ap (λ (z : List ℕ). le32 (number32 (drop 1 bytes)) ++ z) q3);
    }

-- the same, as code takes it apart
pub attr_begins : (at n id : ℕ) (bytes behind value rest : List ℕ) → AllBytes bytes → first_fault (attr_tests at bytes) ≡ None → n ≡ attr_len bytes → id ≡ number32 (drop 1 bytes)
    → behind ≡ drop 9 bytes → value ≡ take n behind → rest ≡ drop (11 + n) bytes → Begins attrs at bytes (attr (get_or bytes 0 0) id at value) rest
attr_begins at n id bytes behind value rest fits e len is_id is_behind is_value is_rest =
    let v : value ≡ take (attr_len bytes) (drop 9 bytes) = is_value ∙ ap (λ (k : ℕ). take k behind) len ∙ ap (take (attr_len bytes)) is_behind in
    let r : rest ≡ after_attr bytes = is_rest ∙ ap (λ (k : ℕ). drop (11 + k) bytes) len in
    rw (is_id, v, r) (attr_found at bytes fits e)
