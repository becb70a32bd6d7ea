-- The kinds by their tables, and what is written for a value spells it.
use Rattle.std.proofs.Common.{◌≡◌, ℕ, suc, ◌+◌, ◌-◌, ◌*◌, ◌<◌, ◌^◌, ◌%◌, true, false, List, [], ◌∷◌, ◌++◌, length, map, refl, ap, subst, arith}
use Rattle.std.specs.List.{flat_map}
use Rattle.std.specs.Prelude.{nat_le, ◌==◌, All, IsTrue}
use Rattle.std.proofs.lemmas.Bool.{le-leb, lt-ltb, eq-eqb}
use Rattle.carrier_model.specs.Bytes.{le32, le_number, le_bytes}
use Rattle.carrier_model.specs.Grammar.{Form, gives, and_then}
use Rattle.carrier_model.specs.Values.{Value, number, guid, bytes, numbers, guids, parts, number_widths, numbers_widths, width_in, is_bytes_kind, IsBytes, IsValue, kind_of}
use Rattle.tnef_model.specs.TnefLists.{padded, text, one, many, numbers_of, is_size, value}
use Rattle.carrier_model.specs.Kinds.{bits_of, is_number_kind, is_numbers_kind}
use Rattle.tnef_model.specs.TnefCanonical.{zero_padded, text_bytes, value_bytes}
use Rattle.tnef_model.proofs.CanonicalValues.{then_spells, seen_spells, first_spells, other_spells, word_spells, padded_spells, whole_spells, text_spells, SpellsAll, many_spells}
use Rattle.carrier_model.proofs.KindLaws.{bytes_kinds, map_again, number_again, several}

-- ---- values

spells_all : {A X : Type 0} (f : Form X) (view : A → X) (write : A → List ℕ) (P : A → Type 0) → ((x : A) → P x → (at : ℕ) → f.spells at (view x) (write x)) → (xs : List A) → All P xs → SpellsAll f view write xs
spells_all f view write P each [] all = tt
spells_all f view write P each (x ∷ xs) all = (λ at. each x (all 0 x (omega arith)) at, spells_all f view write P each xs (λ k d lt. all (suc k) d (omega arith)))

map_same : {A : Type 0} (xs : List A) → map (λ x. x) xs ≡ xs
map_same [] = refl
map_same (x ∷ xs) = ap (λ l. x ∷ l) (map_same xs)

number_spells : (at kind bits : ℕ) → IsValue (number kind bits) → (value kind).spells at (number kind bits) (value_bytes (number kind bits))
unfolding value
number_spells at kind bits h =
    let w = width_in number_widths kind in
    let again = number_again kind h.1 bits h.0 h.2 in
    first_spells (is_number_kind kind) _ _ at (number kind bits) (zero_padded (le_bytes w bits)) (lt-ltb 0 w h.1)
    (subst (λ n. (and_then (padded w) (λ x. gives (number kind (bits_of kind x)))).spells at (number kind n) (zero_padded (le_bytes w bits))) again.0
    (seen_spells (padded w) (λ x. number kind (bits_of kind x)) at (le_bytes w bits) (zero_padded (le_bytes w bits)) (padded_spells at w (le_bytes w bits) again.1)))

guid_spells : (at : ℕ) (set : List ℕ) → length set ≡ 16 → (value 0x0048).spells at (guid set) set
unfolding value
guid_spells at set h = seen_spells (padded 16) (λ x. guid x) at set set (whole_spells at 16 set h refl)

pub one_spells : (at : ℕ) → one.spells at 1 (le32 1)
unfolding one
one_spells at = (word_spells at 1 (omega arith), refl)

-- what the text of a kind needs to be spelled
abbrev TextIs : ℕ → Type 0
TextIs kind = (at : ℕ) (x : List ℕ) → IsBytes kind x → (text kind).spells at x (text_bytes kind x)

even_size : (n : ℕ) → n % 2 ≡ 0 → is_size true 0 (n + 2) ≡ true
even_size n e = let h : ((n + 2) % 2 == 0) ≡ true = eq-eqb ((n + 2) % 2) 0 (omega arith) in let z : nat_le 0 (n + 2) ≡ true = le-leb 0 (n + 2) (omega arith) in rw (h, z) refl

any_size : (n : ℕ) → is_size false 0 n ≡ true
any_size n = le-leb 0 n (omega arith)

texts : (kind : ℕ) → IsTrue (is_bytes_kind kind) → TextIs kind
texts kind = bytes_kinds TextIs kind
    (λ at x h. text_spells 0x001E at x (let s : length x < 0x1000_0000 = h.short in omega arith) (any_size (length x + 1)))
    (λ at x h. text_spells 0x001F at x (let s : length x < 0x4000_0000 = h.short in omega arith) (even_size (length x) (h.even refl)))
    (λ at x h. text_spells 0x0102 at x (let s : length x < 0x4000_0000 = h.short in omega arith) (any_size (length x + 0)))

-- a text or bytes, by its kind
abbrev BytesIs : ℕ → Type 0
BytesIs kind = (at : ℕ) (x : List ℕ) → (text kind).spells (at + 4) x (text_bytes kind x) → (value kind).spells at (bytes kind x) (value_bytes (bytes kind x))

one_text : (kind at : ℕ) (x : List ℕ) → (text kind).spells (at + 4) x (text_bytes kind x) → (and_then one (λ n. and_then (text kind) (λ y. gives (bytes kind y)))).spells at (bytes kind x) (le32 1 ++ text_bytes kind x)
one_text kind at x h = then_spells one (λ n. and_then (text kind) (λ y. gives (bytes kind y))) at 1 (bytes kind x) (le32 1) (text_bytes kind x) (one_spells at) (seen_spells (text kind) (λ y. bytes kind y) (at + 4) x (text_bytes kind x) h)

bytes_spell : (kind : ℕ) → IsTrue (is_bytes_kind kind) → BytesIs kind
unfolding value
bytes_spell kind = bytes_kinds BytesIs kind (λ at x h. one_text 0x001E at x h) (λ at x h. one_text 0x001F at x h) (λ at x h. one_text 0x0102 at x h)

numbers_spell : (at kind : ℕ) (list : List ℕ) → IsValue (numbers kind list) → (value kind).spells at (numbers kind list) (value_bytes (numbers kind list))
unfolding value numbers_of
numbers_spell at kind list h =
    let w = width_in numbers_widths kind in
    let t = several kind h.1 in
    let write = λ (n : ℕ). zero_padded (le_bytes w n) in
    let all = le32 (length list) ++ flat_map write list in
    let few : length list < 2 ^ 32 = omega (arith, h.2) in
    let each : SpellsAll (padded w) (le_bytes w) write list = spells_all (padded w) (le_bytes w) write (λ n. n < 2 ^ (8 * w)) (λ n lt place. padded_spells place w (le_bytes w n) (t.3 n lt).1) list h.0 in
    let again : map le_number (map (le_bytes w) list) ≡ list = map_again (le_bytes w) (λ n. n < 2 ^ (8 * w)) (λ n lt. (t.3 n lt).0) list h.0 in
    other_spells (is_number_kind kind) _ _ at (numbers kind list) all t.0
    (other_spells (kind == 0x0048) _ _ at (numbers kind list) all t.1
    (other_spells (is_bytes_kind kind) _ _ at (numbers kind list) all t.2
    (first_spells (is_numbers_kind kind) _ _ at (numbers kind list) all (lt-ltb 0 w h.1)
    (seen_spells (numbers_of w) (λ l. numbers kind l) at list all
    (subst (λ l. (numbers_of w).spells at l all) again
    (seen_spells (many (padded w)) (λ l. map le_number l) at (map (le_bytes w) list) all (many_spells (padded w) (le_bytes w) write list at few each)))))))

guids_spell : (at : ℕ) (list : List (List ℕ)) → IsValue (guids list) → (value 0x1048).spells at (guids list) (value_bytes (guids list))
unfolding value
guids_spell at list h =
    let few : length list < 2 ^ 32 = omega (arith, h.1) in
    let each : SpellsAll (padded 16) (λ g. g) (λ g. g) list = spells_all (padded 16) (λ g. g) (λ g. g) (λ g. length g ≡ 16) (λ g e place. whole_spells place 16 g e refl) list h.0 in
    subst (λ l. (value 0x1048).spells at (guids l) (value_bytes (guids list))) (map_same list)
    (seen_spells (many (padded 16)) (λ l. guids l) at (map (λ g. g) list) (value_bytes (guids list)) (many_spells (padded 16) (λ g. g) (λ g. g) list at few each))

-- several texts, by the kind of one
abbrev PartsIs : ℕ → Type 0
PartsIs kind = (at : ℕ) (list : List (List ℕ)) (s : List ℕ) → (many (text kind)).spells at list s → (value (kind + 0x1000)).spells at (parts (kind + 0x1000) list) s

parts_by : (kind : ℕ) → IsTrue (is_bytes_kind kind) → PartsIs kind
unfolding value
parts_by kind = bytes_kinds PartsIs kind
    (λ at list s h. seen_spells (many (text 0x001E)) (λ l. parts 0x101E l) at list s h)
    (λ at list s h. seen_spells (many (text 0x001F)) (λ l. parts 0x101F l) at list s h)
    (λ at list s h. seen_spells (many (text 0x0102)) (λ l. parts 0x1102 l) at list s h)

parts_spell : (at kind : ℕ) (list : List (List ℕ)) → IsValue (parts kind list) → (value kind).spells at (parts kind list) (value_bytes (parts kind list))
parts_spell at kind list h =
    let one_kind = kind - 0x1000 in
    let whole : one_kind + 0x1000 ≡ kind = omega (arith, h.1) in
    let few : length list < 2 ^ 32 = omega (arith, h.3) in
    let each : SpellsAll (text one_kind) (λ g. g) (text_bytes one_kind) list = spells_all (text one_kind) (λ g. g) (text_bytes one_kind) (IsBytes one_kind) (λ g e place. texts one_kind h.2 place g e) list h.0 in
    let spelled : (many (text one_kind)).spells at list (value_bytes (parts kind list)) =
    subst (λ l. (many (text one_kind)).spells at l (value_bytes (parts kind list))) (map_same list) (many_spells (text one_kind) (λ g. g) (text_bytes one_kind) list at few each) in
    subst (λ k. (value k).spells at (parts k list) (value_bytes (parts kind list))) whole (parts_by one_kind h.2 at list (value_bytes (parts kind list)) spelled)

pub value_spells : (at : ℕ) (v : Value) → IsValue v → (value (kind_of v)).spells at v (value_bytes v)
value_spells at (number kind bits) h = number_spells at kind bits h
value_spells at (guid set) h = guid_spells at set h
value_spells at (bytes kind x) h = bytes_spell kind h.kind_is at x (texts kind h.kind_is (at + 4) x h)
value_spells at (numbers kind list) h = numbers_spell at kind list h
value_spells at (guids list) h = guids_spell at list h
value_spells at (parts kind list) h = parts_spell at kind list h
