-- The same as a relation between trees: what a tree becomes, property by property.
use Rattle.std.specs.Prelude.{◌≡◌, ℕ, Bool, true, false, List, [], ◌∷◌, map, Some}
use Rattle.carrier_model.specs.Bytes.{unit_bytes}
use Rattle.carrier_model.specs.Tree.{Message, message, Attachments, no_more, attached, Body, nothing, embedded, stored}
use Rattle.carrier_model.specs.Values.{Value, number, guid, bytes, numbers, guids, parts, Prop}
use Rattle.text8_model.specs.Pages.{Page, page_of}
use Rattle.text8_model.specs.Texts.{TextOf}
use Rattle.text8_model.specs.Unicode.{page_in, is_to_convert, FIRST_PAGE}

-- each text has these units
abbrev pub TextsOf : Page → List (List ℕ) → List (List ℕ) → Type 0
TextsOf page [] [] = Unit {0}
TextsOf page [] (u ∷ us) = ⊥
TextsOf page (x ∷ xs) [] = ⊥
TextsOf page (x ∷ xs) (u ∷ us) = TextOf page x u × TextsOf page xs us

-- a String of the units of a String8, a MultipleString of those of a MultipleString8
abbrev pub BecomesWide : Page → Value → Value → Type 0
BecomesWide page (number kind bits) v = ⊥
BecomesWide page (guid set) v = ⊥
BecomesWide page (bytes kind x) v = (u : List ℕ) × TextOf page x u × (v ≡ bytes 0x001F (unit_bytes u))
BecomesWide page (numbers kind list) v = ⊥
BecomesWide page (guids list) v = ⊥
BecomesWide page (parts kind list) v = (us : List (List ℕ)) × TextsOf page list us × (v ≡ parts 0x101F (map unit_bytes us))

-- a property that is to be converted, in a page that is known, and one that isn't
abbrev pub BecomesBy : Bool → ℕ → Prop → Prop → Type 0
BecomesBy true code p q = (q.key ≡ p.key) × (page : Page) × (page_of code ≡ Some page) × BecomesWide page p.value q.value
BecomesBy false code p q = q ≡ p

-- the properties of a list, each in the place of the old one, where the order of the list has it
abbrev pub EachBecomes : ℕ → List Prop → List Prop → List Prop → Type 0
EachBecomes code props [] [] = Unit {0}
EachBecomes code props [] (q ∷ qs) = ⊥
EachBecomes code props (p ∷ ps) [] = ⊥
EachBecomes code props (p ∷ ps) (q ∷ qs) = BecomesBy (is_to_convert props p) code p q × EachBecomes code props ps qs

abbrev pub PropsBecome : ℕ → List Prop → List Prop → Type 0
PropsBecome code ps qs = EachBecomes code ps ps qs

abbrev pub RecipientsBecome : ℕ → List (List Prop) → List (List Prop) → Type 0
RecipientsBecome code [] [] = Unit {0}
RecipientsBecome code [] (q ∷ qs) = ⊥
RecipientsBecome code (p ∷ ps) [] = ⊥
RecipientsBecome code (p ∷ ps) (q ∷ qs) = PropsBecome code p q × RecipientsBecome code ps qs

-- A message in one of a page. Its own page is that of its recipients and its attachments too.
abbrev mutual
  pub MessageBecomes : ℕ → Message → Message → Type 0
  MessageBecomes outer (message ps rs xs) (message qs ss ys) =
      PropsBecome (page_in outer ps) ps qs × (RecipientsBecome (page_in outer ps) rs ss × AttachmentsBecome (page_in outer ps) xs ys)

  pub AttachmentsBecome : ℕ → Attachments → Attachments → Type 0
  AttachmentsBecome code no_more no_more = Unit {0}
  AttachmentsBecome code no_more (attached qs b others) = ⊥
  AttachmentsBecome code (attached ps a more) no_more = ⊥
  AttachmentsBecome code (attached ps a more) (attached qs b others) = PropsBecome code ps qs × (BodyBecomes code a b × AttachmentsBecome code more others)

  pub BodyBecomes : ℕ → Body → Body → Type 0
  BodyBecomes code nothing nothing = Unit {0}
  BodyBecomes code nothing (embedded u) = ⊥
  BodyBecomes code nothing (stored s) = ⊥
  BodyBecomes code (embedded t) nothing = ⊥
  BodyBecomes code (embedded t) (embedded u) = MessageBecomes code t u
  BodyBecomes code (embedded t) (stored s) = ⊥
  BodyBecomes code (stored r) nothing = ⊥
  BodyBecomes code (stored r) (embedded u) = ⊥
  BodyBecomes code (stored r) (stored s) = s ≡ r

-- u is t with all texts of 8-bit characters in 16-bit units
abbrev pub UnicodeOf : Message → Message → Type 0
UnicodeOf t u = MessageBecomes FIRST_PAGE t u
