-- A name, put together.
use Rattle.std.proofs.Common.{ℕ, List}
use Rattle.std.specs.Prelude.{nat_eq, nat_le}
use Rattle.carrier_io.specs.declared.reasons.Stop.{Stop}
use Rattle.carrier_model.specs.Grammar.{Form, and_then, such, choice}
use Rattle.carrier_model.specs.Keys.{Name}
use Rattle.carrier_model.specs.Reasons.{BAD_NAME_KIND}
use Rattle.tnef_model.specs.TnefLists.{raw, word, name, name_number, name_text}
use Rattle.tnef_props.specs.declared.rest.Rest.{Rest}
use Rattle.tnef_props.specs.Steps.{Takes, Refuses}
use Rattle.tnef_props.proofs.Forms.{then_takes, then_first, then_next}

abbrev pub kind_form : Form ℕ
kind_form = such word (λ kind. nat_le kind 1) BAD_NAME_KIND

abbrev pub by_kind : List ℕ → ℕ → Form Name
by_kind set kind = choice (nat_eq kind 0) (name_number set) (name_text set)

abbrev behind_set : List ℕ → Form Name
behind_set set = and_then kind_form (by_kind set)

pub name_takes : (set : List ℕ) (kind : ℕ) (a b c d : Rest) (x : Name) → Takes (raw 16) a set b → Takes kind_form b kind c → Takes (by_kind set kind) c x d → Takes name a x d
unfolding name
name_takes set kind a b c d x p q r = then_takes (raw 16) behind_set a b d set x p (then_takes kind_form (by_kind set) b c d kind x q r)

pub name_refuses : (set : List ℕ) (kind : ℕ) (a b c : Rest) (s : Stop) → Takes (raw 16) a set b → Takes kind_form b kind c → Refuses (by_kind set kind) c s → Refuses name a s
unfolding name
name_refuses set kind a b c s p q r = then_next (raw 16) behind_set a b set s p (then_next kind_form (by_kind set) b c kind s q r)

pub kind_refuses : (set : List ℕ) (a b : Rest) (s : Stop) → Takes (raw 16) a set b → Refuses kind_form b s → Refuses name a s
unfolding name
kind_refuses set a b s p r = then_next (raw 16) behind_set a b set s p (then_first kind_form (by_kind set) b s r)
