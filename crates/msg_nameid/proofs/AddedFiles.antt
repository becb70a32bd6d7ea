-- Streams that are added to a storage one by one.
use Rattle.std.proofs.Common.{◌≡◌, ℕ, ◌+◌, ◌*◌, ◌<◌, ◌≤◌, List, [], ◌∷◌, ◌++◌, length, map, take, take_all, get_or, refl, sym, ap, ◌∙◌, arith}
use Rattle.std.specs.Prelude.{filter}
use Rattle.std.specs.List.{flat_map}
use Rattle.std.proofs.lemmas.List.{length-set, length-map, length-take, take_more, map_push}
use Rattle.std.proofs.lemmas.List.Elements.{filter-append}
use Rattle.std.proofs.lemmas.Simd.{map-map}
use Rattle.carrier_model.specs.FileTrees.{NO_CLASS, no_file, streams_from}
use Rattle.carrier_model.specs.FileTrees as trees
use Rattle.carrier_model.specs.Keys.{Name}
use Rattle.cfb_list.specs.Grown.{grown}
use Rattle.cfb_list.specs.Listed.{Listed, Child, stream, storage, with_child, children_at}
use Rattle.msg_model.specs.StreamNames.{NAME_MAP, value_name}
use Rattle.msg_model.specs.WrittenNames.{has_bytes}
use Rattle.msg_nameid.specs.Gathered.{Gathered, nothing, with_name, gathered, named_from, hash_files, files_gathered}

abbrev Named : Type 0
Named = List ℕ × List ℕ

-- ---- names

gathered_push : (g : Gathered) (k : ℕ) (ns : List Name) (n : Name) → gathered g k (ns ++ n ∷ []) ≡ with_name (gathered g k ns) (k + length ns) n
gathered_push g k [] n = ap (λ j. with_name g j n) (let z : k ≡ k + 0 = omega arith in z)
gathered_push g k (m ∷ ns) n = gathered_push (with_name g k m) (k + 1) ns n ∙ ap (λ j. with_name (gathered (with_name g k m) (k + 1) ns) j n) (let z : k + 1 + length ns ≡ k + length (m ∷ ns) = omega arith in z)

-- one name more
pub gathered_more : {E : Type 0} (f : E → Name) (items : List E) (k : ℕ) (e : E) (now new : Gathered) → k < length items → e ≡ get_or items k e → now ≡ gathered nothing 0 (map f (take k items)) → new ≡ with_name now k (f e) → new ≡ gathered nothing 0 (map f (take (k + 1) items))
gathered_more f items k e now new lt at is more =
    let front : List Name = map f (take k items) in
    let long : length front ≡ k = length-map (take k items) f ∙ (let z : length (take k items) ≡ k = omega (arith, length-take k items) in z) in
    let all : map f (take (k + 1) items) ≡ front ++ f e ∷ [] = ap (map f) (take_more items k e lt ∙ ap (λ x. take k items ++ x ∷ []) (sym at)) ∙ map_push f (take k items) e in
    more
    ∙ (ap (λ (g : Gathered). with_name g k (f e)) is
    ∙ (ap (λ j. with_name (gathered nothing 0 front) j (f e)) (let z : k ≡ 0 + length front = omega (arith, long) in z)
    ∙ (sym (gathered_push nothing 0 front (f e)) ∙ ap (gathered nothing 0) (sym all))))

-- all names
pub gathered_all : {E P : Type 0} (second : P → Name) (pair : E → P) (entries items : List E) (pairs : List P) (k : ℕ) (now : Gathered) → length items ≤ k → items ≡ entries → map pair entries ≡ pairs → now ≡ gathered nothing 0 (map (λ e. second (pair e)) (take k items)) → now ≡ gathered nothing 0 (map second pairs)
gathered_all second pair entries items pairs k now le same seen is =
    is ∙ ap (gathered nothing 0) (ap (map (λ e. second (pair e))) (take_all k items le) ∙ (sym (map-map second pair items) ∙ ap (map second) (ap (map pair) same ∙ seen)))

-- ---- streams

long_with : (storages : List (List Child)) (at : ℕ) (child : Child) → length (with_child storages at child) ≡ length storages
long_with storages at child = length-set storages at (children_at storages at ++ child ∷ [])

grown_long : (storages : List (List Child)) (at : ℕ) (xs : List Named) → length (grown storages at (streams_from xs)) ≡ length storages
grown_long storages at [] = refl
grown_long storages at (x ∷ xs) = grown_long (with_child storages at (stream x.0 x.1)) at xs ∙ long_with storages at (stream x.0 x.1)

grown_append : (storages : List (List Child)) (at : ℕ) (xs ys : List Named) → grown (grown storages at (streams_from xs)) at (streams_from ys) ≡ grown storages at (streams_from (xs ++ ys))
grown_append storages at [] ys = refl
grown_append storages at (x ∷ xs) ys = grown_append (with_child storages at (stream x.0 x.1)) at xs ys

-- the number of a storage stays one
pub grown_within : (first now : Listed) (at : ℕ) (xs : List Named) → now ≡ record first { storages = grown first.storages at (streams_from xs) } → at < length first.storages → at < length now.storages
grown_within first now at xs e lt =
    let long : length now.storages ≡ length (grown first.storages at (streams_from xs)) = ap (λ (l : Listed). length l.storages) e in
    omega (arith, long, grown_long first.storages at xs, lt)

named_push : (b : ℕ) (hashes : List (List ℕ)) (bytes : List ℕ) → named_from b (hashes ++ bytes ∷ []) ≡ named_from b hashes ++ (value_name ((0x1000 + (b + length hashes)) * 65536 + 0x0102), bytes) ∷ []
named_push b [] bytes = ap (λ n. (value_name ((0x1000 + n) * 65536 + 0x0102), bytes) ∷ []) (let z : b ≡ b + 0 = omega arith in z)
named_push b (x ∷ hashes) bytes = ap (λ (l : List Named). (value_name ((0x1000 + b) * 65536 + 0x0102), x) ∷ l)
    (named_push (b + 1) hashes bytes ∙ ap (λ n. named_from (b + 1) hashes ++ (value_name ((0x1000 + n) * 65536 + 0x0102), bytes) ∷ []) (let z : b + 1 + length hashes ≡ b + length (x ∷ hashes) = omega arith in z))

-- one hash stream more
pub hash_added : {V : Type 0} (of : V → List ℕ) (first now last : Listed) (at tag : ℕ) (vs : List V) (v : V) → tag ≡ (0x1000 + length vs) * 65536 + 0x0102 → now ≡ record first { storages = grown first.storages at (streams_from (hash_files (map of vs))) }
    → last ≡ record now { storages = grown now.storages at (streams_from (filter has_bytes ((value_name tag, of v) ∷ []))) } → last ≡ record first { storages = grown first.storages at (streams_from (hash_files (map of (vs ++ v ∷ [])))) }
hash_added of first now last at tag vs v t p q =
    let front : List Named = named_from 0 (map of vs) in
    let one : List Named = (value_name tag, of v) ∷ [] in
    let number : tag ≡ (0x1000 + (0 + length (map of vs))) * 65536 + 0x0102 = omega (arith, t, length-map vs of) in
    let parts : hash_files (map of (vs ++ v ∷ [])) ≡ filter has_bytes front ++ filter has_bytes one =
    ap hash_files (map_push of vs v) ∙ (ap (filter has_bytes) (named_push 0 (map of vs) (of v) ∙ ap (λ n. front ++ (value_name n, of v) ∷ []) (sym number)) ∙ filter-append has_bytes front one) in
    let root : last.root_class ≡ first.root_class = ap (λ (l : Listed). l.root_class) q ∙ ap (λ (l : Listed). l.root_class) p in
    let all : last.storages ≡ grown first.storages at (streams_from (hash_files (map of (vs ++ v ∷ [])))) =
    ap (λ (l : Listed). l.storages) q ∙ (ap (λ (l : Listed). grown l.storages at (streams_from (filter has_bytes one))) p ∙ (grown_append first.storages at (filter has_bytes front) (filter has_bytes one) ∙ ap (λ l. grown first.storages at (streams_from l)) (sym parts))) in
    λ i. record { root_class = root i; storages = all i }

-- the storage of a name map
pub name_map_added : (first one two three four last : Listed) (at : ℕ) (g : Gathered) (guids : List ℕ) → at ≡ length first.storages → guids ≡ flat_map (λ set. set) g.sets
    → one ≡ record first { storages = with_child first.storages 0 (storage NAME_MAP NO_CLASS (length first.storages)) ++ [] ∷ [] }
    → two ≡ record one { storages = with_child one.storages at (stream (value_name 0x00020102) guids) }
    → three ≡ record two { storages = with_child two.storages at (stream (value_name 0x00030102) g.entries) }
    → four ≡ record three { storages = with_child three.storages at (stream (value_name 0x00040102) g.texts) }
    → last ≡ record four { storages = grown four.storages at (streams_from (hash_files g.hashes)) }
    → last ≡ record first { storages = grown first.storages 0 (trees.storage NAME_MAP NO_CLASS (files_gathered g) no_file) }
unfolding files_gathered
name_map_added first one two three four last at g guids number sets a b c d e =
    let class : (x y : Listed) (ss : List (List Child)) → x ≡ record y { storages = ss } → x.root_class ≡ y.root_class = λ x y ss p. ap (λ (l : Listed). l.root_class) p in
    let root : last.root_class ≡ first.root_class = class last four _ e ∙ (class four three _ d ∙ (class three two _ c ∙ (class two one _ b ∙ class one first _ a))) in
    let rest = streams_from (hash_files g.hashes) in
    let all : last.storages ≡ grown one.storages at (streams_from ((value_name 0x00020102, guids) ∷ (value_name 0x00030102, g.entries) ∷ (value_name 0x00040102, g.texts) ∷ hash_files g.hashes)) =
    ap (λ (l : Listed). l.storages) e
    ∙ (ap (λ (l : Listed). grown l.storages at rest) d
    ∙ (ap (λ (l : Listed). grown (with_child l.storages at (stream (value_name 0x00040102) g.texts)) at rest) c
    ∙ ap (λ (l : Listed). grown (with_child (with_child l.storages at (stream (value_name 0x00030102) g.entries)) at (stream (value_name 0x00040102) g.texts)) at rest) b)) in
    let here : one.storages ≡ with_child first.storages 0 (storage NAME_MAP NO_CLASS (length first.storages)) ++ [] ∷ [] = ap (λ (l : Listed). l.storages) a in
    let storages = all ∙ (λ i. grown (here i) (number i) (streams_from ((value_name 0x00020102, sets i) ∷ (value_name 0x00030102, g.entries) ∷ (value_name 0x00040102, g.texts) ∷ hash_files g.hashes))) in
    λ i. record { root_class = root i; storages = storages i }
