-- What values and properties become, by the relation and by the functions.
use Rattle.std.proofs.Common.{◌≡◌, ◌∙◌, refl, sym, ap, subst, ℕ, ◌+◌, Bool, true, false, List, [], ◌∷◌, ◌++◌, map}
use Rattle.std.specs.Prelude.{Option, Some, None, if◌then◌else◌}
use Rattle.carrier_model.specs.Bytes.{unit_bytes}
use Rattle.carrier_model.specs.Keys.{Key}
use Rattle.carrier_model.specs.Values.{Value, number, guid, bytes, numbers, guids, parts, Prop}
use Rattle.text8_model.specs.Pages.{Page, page_of}
use Rattle.text8_model.specs.Texts.{bad_place, units_in}
use Rattle.text8_model.specs.Unmapped.{Unmapped}
use Rattle.text8_model.specs.Unicode.{wide_kind, lacks, wide_bytes, wide_value, value_by, bad_byte, bad_elements, bad_value}
use Rattle.text8_model.specs.Become.{TextsOf, BecomesWide, BecomesBy}
use Rattle.text8_model.proofs.TextLaws.{text_means, text_found}

-- an appended list is empty where both are
pub left_empty : {A : Type 0} (xs ys : List A) → xs ++ ys ≡ [] → xs ≡ []
left_empty [] ys e = refl
left_empty (x ∷ xs) ys e = absurd (let wrong : ⊥ = cc in wrong)

pub right_empty : {A : Type 0} (xs ys : List A) → xs ++ ys ≡ [] → ys ≡ []
right_empty [] ys e = e
right_empty (x ∷ xs) ys e = absurd (let wrong : ⊥ = cc in wrong)

-- ---- texts

none_bad : (code n element : ℕ) (o : Option ℕ) → bad_byte code n element o ≡ [] → o ≡ None
none_bad code n element None e = refl
none_bad code n element (Some at) e = absurd (let wrong : ⊥ = cc in wrong)

texts_mean : (page : Page) (xs us : List (List ℕ)) → TextsOf page xs us → map unit_bytes us ≡ map (wide_bytes page) xs
texts_mean page [] [] t = refl
texts_mean page [] (u ∷ us) t = absurd t
texts_mean page (x ∷ xs) [] t = absurd t
texts_mean page (x ∷ xs) (u ∷ us) t =
    let one = text_means page x u t.0 in
    let rest = texts_mean page xs us t.1 in
    λ i. unit_bytes (one.1 i) ∷ rest i

texts_good : (page : Page) (xs us : List (List ℕ)) (code n element : ℕ) → TextsOf page xs us → bad_elements code n page element xs ≡ []
texts_good page [] us code n element t = refl
texts_good page (x ∷ xs) [] code n element t = absurd t
texts_good page (x ∷ xs) (u ∷ us) code n element t =
    let one = text_means page x u t.0 in
    let rest = texts_good page xs us code n (element + 1) t.1 in
    λ i. bad_byte code n element (one.0 i) ++ rest i

texts_found : (page : Page) (xs : List (List ℕ)) (code n element : ℕ) → bad_elements code n page element xs ≡ [] → TextsOf page xs (map (units_in page) xs)
texts_found page [] code n element e = tt
texts_found page (x ∷ xs) code n element e =
    let here = left_empty (bad_byte code n element (bad_place page x)) (bad_elements code n page (element + 1) xs) e in
    let rest = right_empty (bad_byte code n element (bad_place page x)) (bad_elements code n page (element + 1) xs) e in
    (text_found page x (none_bad code n element (bad_place page x) here), texts_found page xs code n (element + 1) rest)

map_after : (page : Page) (xs : List (List ℕ)) → map (wide_bytes page) xs ≡ map unit_bytes (map (units_in page) xs)
map_after page [] = refl
map_after page (x ∷ xs) = ap (λ l. wide_bytes page x ∷ l) (map_after page xs)

-- ---- values

wide_means : (page : Page) (v w : Value) → BecomesWide page v w → w ≡ wide_value page v
wide_means page (number kind bits) w b = absurd b
wide_means page (guid set) w b = absurd b
wide_means page (bytes kind x) w (u, t, e) = e ∙ ap (λ l. bytes 0x001F (unit_bytes l)) (text_means page x u t).1
wide_means page (numbers kind list) w b = absurd b
wide_means page (guids list) w b = absurd b
wide_means page (parts kind xs) w (us, t, e) = e ∙ ap (parts 0x101F) (texts_mean page xs us t)

wide_good : (page : Page) (v w : Value) (code n : ℕ) → BecomesWide page v w → bad_value code n (Some page) v ≡ []
wide_good page (number kind bits) w code n b = absurd b
wide_good page (guid set) w code n b = absurd b
wide_good page (bytes kind x) w code n (u, t, e) = ap (bad_byte code n 0) (text_means page x u t).0
wide_good page (numbers kind list) w code n b = absurd b
wide_good page (guids list) w code n b = absurd b
wide_good page (parts kind xs) w code n (us, t, e) = texts_good page xs us code n 0 t

pub wide_found : (page : Page) (props : List Prop) (key : Key) (v : Value) (code n : ℕ) → lacks props key (wide_kind v) ≡ true → bad_value code n (Some page) v ≡ [] → BecomesWide page v (wide_value page v)
wide_found page props key (number kind bits) code n is e = absurd (let wrong : ⊥ = cc in wrong)
wide_found page props key (guid set) code n is e = absurd (let wrong : ⊥ = cc in wrong)
wide_found page props key (bytes kind x) code n is e = (units_in page x, text_found page x (none_bad code n 0 (bad_place page x) e), refl)
wide_found page props key (numbers kind list) code n is e = absurd (let wrong : ⊥ = cc in wrong)
wide_found page props key (guids list) code n is e = absurd (let wrong : ⊥ = cc in wrong)
wide_found page props key (parts kind xs) code n is e = (map (units_in page) xs, texts_found page xs code n 0 e, ap (parts 0x101F) (map_after page xs))

-- ---- properties

-- a property by whether it is to be converted
abbrev pub prop_by : Bool → ℕ → Prop → Prop
prop_by b code p = if b then record { key = p.key; value = value_by (page_of code) p.value } else p

abbrev pub bad_when : Bool → ℕ → ℕ → Prop → List Unmapped
bad_when b code n p = if b then bad_value code n (page_of code) p.value else []

pub prop_means : (b : Bool) (code : ℕ) (p q : Prop) → BecomesBy b code p q → q ≡ prop_by b code p
prop_means false code p q e = e
prop_means true code p q (key, page, known, wide) =
    let value : q.value ≡ value_by (page_of code) p.value = wide_means page p.value q.value wide ∙ ap (λ o. value_by o p.value) (sym known) in
    λ i. record { key = key i; value = value i }

pub prop_good : (b : Bool) (code n : ℕ) (p q : Prop) → BecomesBy b code p q → bad_when b code n p ≡ []
prop_good false code n p q e = refl
prop_good true code n p q (key, page, known, wide) = ap (λ o. bad_value code n o p.value) known ∙ wide_good page p.value q.value code n wide

known_or : (code n : ℕ) (o : Option Page) (v : Value) → bad_value code n o v ≡ [] → (page : Page) × (o ≡ Some page)
known_or code n None v e = absurd (let wrong : ⊥ = cc in wrong)
known_or code n (Some page) v e = (page, refl)

pub prop_found : (b : Bool) (code n : ℕ) (props : List Prop) (p : Prop) → lacks props p.key (wide_kind p.value) ≡ b → bad_when b code n p ≡ [] → BecomesBy b code p (prop_by b code p)
prop_found false code n props p is e = refl
prop_found true code n props p is e =
    let known = known_or code n (page_of code) p.value e in
    let good : bad_value code n (Some known.0) p.value ≡ [] = ap (λ o. bad_value code n o p.value) (sym known.1) ∙ e in
    (refl, known.0, known.1, subst (λ o. BecomesWide known.0 p.value (value_by o p.value)) (sym known.1) (wide_found known.0 props p.key p.value code n is good))
