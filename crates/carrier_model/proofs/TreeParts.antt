-- The parts of a tree, each by itself.
use Rattle.carrier_model.specs.Values.{Prop, IsProp}
use Rattle.carrier_model.specs.Trees.{KeyHasUnits, HasPropLists, HavePropLists, IsPropList}
use Rattle.std.proofs.Common.{◌≡◌, refl, ap, ℕ, ◌≤◌, ◌+◌, List, ◌∷◌, arith}
use Rattle.carrier_model.specs.Tree.{Attachments, no_more, attached, attachments_from, listed, Message, depth, Body, nothing, embedded, stored, depth_in, Attached}
use Rattle.carrier_model.specs.Stores.{IsStore}

-- a property as a list has it
pub record IsListed (p : Prop) : Type 0 where
  pub good : IsProp p
  pub units : KeyHasUnits p.key

pub from_listed : (attachments : Attachments) → attachments_from (listed attachments) ≡ attachments
from_listed no_more = refl
from_listed (attached props body others) = ap (λ l. attached props body l) (from_listed others)

-- a message's lists are lists, and at most so many levels lie in it
pub record Fits (n : ℕ) (m : Message) : Type 0 where
  pub lists : HasPropLists m
  pub levels : depth m ≤ n

abbrev pub BodyFits : ℕ → Body → Type 0
BodyFits n nothing = Unit {0}
BodyFits n (embedded inner) = HasPropLists inner × (depth inner + 1 ≤ n)
BodyFits n (stored store) = IsStore store

pub record AttachmentsFit (n : ℕ) (attachments : Attachments) : Type 0 where
  pub lists : HavePropLists attachments
  pub levels : depth_in attachments ≤ n

pub one_more : (n : ℕ) (props : List Prop) (body : Body) (others : List Attached) → IsPropList props → BodyFits n body → AttachmentsFit n (attachments_from others) → AttachmentsFit n (attachments_from ((props, body) ∷ others))
one_more n props nothing others h b rest = record { lists = (h, (tt, rest.lists)); levels = omega (arith, rest.levels) }
one_more n props (embedded inner) others h b rest = record { lists = (h, (b.0, rest.lists)); levels = omega (arith, rest.levels, b.1) }
one_more n props (stored store) others h b rest = record { lists = (h, (b, rest.lists)); levels = omega (arith, rest.levels) }
