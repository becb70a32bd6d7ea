-- A list of storages to which streams are added.
use Rattle.std.proofs.Common.{◌≡◌, ℕ, ◌+◌, ◌≤◌, List, [], ◌∷◌, ◌++◌, Some, length, take, take_all, map, Option, refl, sym, ap, subst, ◌∙◌, Result, arith}
use Rattle.std.specs.Prelude.{codes, slice_get, replicate, OnOk}
use Rattle.std.proofs.lemmas.List.{append_assoc}
use Rattle.std.specs.List.{flat_map, zip}
use Rattle.carrier_model.specs.FileTrees.{FileTree, and_files, streams_from, stream}
use Rattle.carrier_model.specs.KeyTexts.{hex_digits, upper}
use Rattle.cfb_list.specs.Contents.{row_streams}
use Rattle.cfb_list.specs.Grown.{grown}
use Rattle.cfb_list.specs.Listed.{Child, Listed}
use Rattle.msg_model.specs.StreamNames.{element_name, value_name}
use Rattle.carrier_model.specs.Keys.{Name}
use Rattle.carrier_model.specs.Kinds.{null_of}
use Rattle.carrier_model.specs.Stores.{PROPERTIES}
use Rattle.carrier_model.specs.Values.{Prop}
use Rattle.msg_model.specs.WrittenMsg.{tag_of, with_null, element_streams, entries_bytes, props_streams, list_files}
use Rattle.msg_props.specs.Tagged.{tagged_streams, with_streams}
use Rattle.msg_props.proofs.TaggedLists.{flat_map_more, zip_at, zip_length, zipped_flat}

-- what a law says
abbrev pub Steps : Type 0
Steps = (storages : List (List Child)) (parent : ℕ) (files more : FileTree) → grown (grown storages parent files) parent more ≡ grown storages parent (and_files files more)

abbrev pub Streams : Type 0
Streams = List (List ℕ × List ℕ)

streams_joined : (xs ys : Streams) → and_files (streams_from xs) (streams_from ys) ≡ streams_from (xs ++ ys)
streams_joined [] ys = refl
streams_joined (x ∷ xs) ys = ap (stream x.0 x.1) (streams_joined xs ys)

-- streams behind others
streams_more : Steps → (first now last : Listed) (at : ℕ) (xs ys all : Streams) → all ≡ xs ++ ys → now ≡ with_streams first at xs → last ≡ with_streams now at ys → last ≡ with_streams first at all
streams_more steps first now last at xs ys all is p q =
    let root : last.root_class ≡ first.root_class = ap (λ (l : Listed). l.root_class) q ∙ ap (λ (l : Listed). l.root_class) p in
    let both : last.storages ≡ grown first.storages at (streams_from all) =
    ap (λ (l : Listed). l.storages) q
    ∙ ap (λ (s : List (List Child)). grown s at (streams_from ys)) (ap (λ (l : Listed). l.storages) p)
    ∙ steps first.storages at (streams_from xs) (streams_from ys)
    ∙ ap (grown first.storages at) (streams_joined xs ys ∙ ap streams_from (sym is)) in
    λ i. record { root_class = root i; storages = both i }

-- the streams of one property more, and of all
pub values_more : Steps → (first now last : Listed) (at : ℕ) (tags : List ℕ) (props : List Prop) (k t : ℕ) (p : Prop) → slice_get tags k ≡ Some t → slice_get props k ≡ Some p → now ≡ with_streams first at (flat_map tagged_streams (take k (zip tags props))) → last ≡ with_streams now at (tagged_streams (t, p)) → last ≡ with_streams first at (flat_map tagged_streams (take (k + 1) (zip tags props)))
values_more steps first now last at tags props k t p a b e f =
    streams_more steps first now last at (flat_map tagged_streams (take k (zip tags props))) (tagged_streams (t, p)) (flat_map tagged_streams (take (k + 1) (zip tags props)))
    (flat_map_more tagged_streams (zip tags props) k (t, p) (zip_at tags props k t p a b)) e f

pub values_all : (first now : Listed) (at : ℕ) (tags : List ℕ) (props : List Prop) (k : ℕ) → length tags ≡ length props → length props ≤ k → now ≡ with_streams first at (flat_map tagged_streams (take k (zip tags props))) → now ≡ with_streams first at (flat_map tagged_streams (zip tags props))
values_all first now at tags props k each le e =
    subst (λ (l : List (ℕ × Prop)). now ≡ with_streams first at (flat_map tagged_streams l)) (take_all k (zip tags props) (omega (arith, zip_length tags props each, le))) e

-- the streams of a row are those of elements
pub row_is : (tag kind nulls i : ℕ) (list : List (List ℕ)) → nulls ≡ null_of kind → row_streams (value_name tag ++ codes "-") nulls i list ≡ element_streams tag kind i list
row_is tag kind nulls i [] e = refl
row_is tag kind nulls i (x ∷ others) e =
    (λ j. (append_assoc (value_name tag) (codes "-") (hex_digits upper 8 i) j, x ++ replicate (e j) 0) ∷ row_streams (value_name tag ++ codes "-") nulls (i + 1) others)
    ∙ ap (λ (l : Streams). (element_name tag i, with_null kind x) ∷ l) (row_is tag kind nulls (i + 1) others e)

-- ---- the streams of one value

-- one stream
pub one_stream : {T E : Type 0} (r : Result T E) (files new : Listed) (at tag : ℕ) (name bytes : List ℕ) (streams : Streams) → streams ≡ (value_name tag, bytes) ∷ [] → name ≡ value_name tag → OnOk r (new ≡ with_streams files at ((name, bytes) ∷ [])) → OnOk r (new ≡ with_streams files at streams)
one_stream r files new at tag name bytes streams s e h =
    subst (λ (l : Streams). OnOk r (new ≡ with_streams files at l)) (ap (λ (n : List ℕ). (n, bytes) ∷ []) e ∙ sym s) h

-- one, and others behind it
pub stream_before : {T E : Type 0} (r : Result T E) (files mid new : Listed) (at tag : ℕ) (name bytes : List ℕ) (others streams : Streams) → streams ≡ (value_name tag, bytes) ∷ others → name ≡ value_name tag → mid ≡ with_streams files at ((name, bytes) ∷ []) → OnOk r (new ≡ with_streams mid at others) → OnOk r (new ≡ with_streams files at streams)
stream_before r files mid new at tag name bytes others streams s e is h =
    let told : OnOk r (new ≡ with_streams files at ((name, bytes) ∷ others)) = subst (λ (m : Listed). OnOk r (new ≡ with_streams m at others)) is h in
    subst (λ (l : Streams). OnOk r (new ≡ with_streams files at l)) (ap (λ (n : List ℕ). (n, bytes) ∷ others) e ∙ sym s) told

-- ---- a whole list

pub list_added : {T E : Type 0} (r : Result T E) (files mid new : Listed) (at : ℕ) (names : List Name) (head : List ℕ) (props : List Prop) (object : Option ℕ) (bytes tags : List ℕ) → bytes ≡ head ++ entries_bytes names props object → tags ≡ map (tag_of names) props → mid ≡ with_streams files at ((PROPERTIES, bytes) ∷ [])
    → OnOk r (new ≡ with_streams mid at (flat_map tagged_streams (zip tags props))) → OnOk r (new ≡ record files { storages = grown files.storages at (list_files names head props object) })
list_added r files mid new at names head props object bytes tags e t is h =
    let values = flat_map tagged_streams (zip tags props) in
    let told : OnOk r (new ≡ with_streams files at ((PROPERTIES, bytes) ∷ values)) = subst (λ (m : Listed). OnOk r (new ≡ with_streams m at values)) is h in
    let all : Streams = (PROPERTIES, head ++ entries_bytes names props object) ∷ props_streams names props in
    let same : (PROPERTIES, bytes) ∷ values ≡ all = λ i. (PROPERTIES, e i) ∷ zipped_flat tagged_streams (tag_of names) tags props t i in
    subst (λ (l : Streams). OnOk r (new ≡ with_streams files at l)) same told
