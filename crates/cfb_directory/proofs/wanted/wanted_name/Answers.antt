use Rattle.std.proofs.Common.{◌≡◌, ℕ, List, sym, ◌∙◌, ap, subst}
use Rattle.std.specs.List.{flat_map}
use Rattle.std.specs.Char.Escape.{encode_utf16}
use Rattle.std.specs.Str.{chars}
use Rattle.std.proofs.lemmas.Iterator.{YieldsList-from_chars}
use Rattle.std.proofs.lemmas.Iterator.Consumers.{YieldsList-end}
use Rattle.std.proofs.lemmas.List.{map-id}
use Rattle.carrier_model.specs.Files.{folded}
use Rattle.cfb_directory.specs.Wanted.{Keeps}
use Rattle.cfb_directory.proofs.WantedLaws.{keeps_long, keeps_whole, units_are}
use Rattle.cfb_directory.proofs.wanted.wanted_name.Goals as goal

pub returns-then-kept-gt-MOST : goal.returns-then-kept-gt-MOST
returns-then-kept-gt-MOST c =
    let t = YieldsList-end (YieldsList-from_chars c.args.text.now c.utf8.text cc) c.loop-ch.yielded _ c.loop-ch.yielded_by _ _ c.in-None.is c.next.ensures.steps in
    let whole : c.loop-ch.yielded ≡ chars c.args.text.now = sym (map-id c.loop-ch.yielded) ∙ t.0 in
    record {
      units = λ units h. keeps_long c.loop-ch.kept units (subst (λ (u : List ℕ). Keeps c.loop-ch.kept (folded u)) (ap (flat_map encode_utf16) whole ∙ sym (units_are c.args.text.now units c.utf8.text h)) c.loop-ch.invariant) c.if-kept-gt-MOST.true;
      fits = tt;
    }

pub returns-else-kept-gt-MOST : goal.returns-else-kept-gt-MOST
returns-else-kept-gt-MOST c =
    let t = YieldsList-end (YieldsList-from_chars c.args.text.now c.utf8.text cc) c.loop-ch.yielded _ c.loop-ch.yielded_by _ _ c.in-None.is c.next.ensures.steps in
    let whole : c.loop-ch.yielded ≡ chars c.args.text.now = sym (map-id c.loop-ch.yielded) ∙ t.0 in
    record {
      units = λ units h. keeps_whole c.loop-ch.kept units (subst (λ (u : List ℕ). Keeps c.loop-ch.kept (folded u)) (ap (flat_map encode_utf16) whole ∙ sym (units_are c.args.text.now units c.utf8.text h)) c.loop-ch.invariant) c.if-kept-gt-MOST.false;
      fits = c.if-kept-gt-MOST.false;
    }
