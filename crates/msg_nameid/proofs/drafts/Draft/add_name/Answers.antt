use Rattle.std.proofs.Common.{◌≡◌, ◌∙◌, ◌+◌, ℕ, [], ◌∷◌, ◌++◌, length, map, sym, ap, subst, arith}
use Rattle.std.specs.Prelude.{All, nat_eq, if◌then◌else◌}
use Rattle.std.proofs.lemmas.List.{length-map, map_push}
use Rattle.std.proofs.lemmas.List.Elements.{All-push}
use Rattle.carrier_model.specs.Keys.{IsName}
use Rattle.msg_model.specs.NameMap.{Pair}
use Rattle.prop_names.specs.Meaning.{name_of}
use Rattle.msg_nameid.specs.Drafts.{pairs_in}
use Rattle.msg_nameid.specs.Maps.{pair_of, names_in}
use Rattle.msg_nameid.specs.Tables.{IsTable, slot_at}
use Rattle.msg_nameid.specs.declared.slots.Slot.TheVariants.{Named}
use Rattle.msg_nameid.proofs.TableLaws.{pairs_few, table-named}
use Rattle.msg_nameid.proofs.drafts.Draft.add_name.Goals as goal

pub overflow_cast-place : goal.overflow_cast-place
overflow_cast-place c = omega (arith, c.len-place.ensures, pairs_few c.args.self.now.slots (pairs_in c.args.self.now) c.requires.whole.table, length-map c.args.self.now.entries.items pair_of)

pub returns-clause-whole : goal.returns-clause-whole
returns-clause-whole c =
    let old = c.args.self.now in
    let k = c.args.index in
    let pair : Pair = (0x8000 + k, name_of c.args.name) in
    let more : map pair_of c.push.new.self.items ≡ pairs_in old ++ pair ∷ [] = ap (map pair_of) c.in_ok-push.ensures.items ∙ map_push pair_of old.entries.items (record { id = 0x8000 + k; name = c.args.name }) in
    let place : c.len-place.result ≡ length (pairs_in old) = omega (arith, c.len-place.ensures, length-map old.entries.items pair_of) in
    record {
      table = subst (IsTable c.take.new.self) (sym more)
          (table-named old.slots c.take.new.self (pairs_in old) k c.requires.whole.table c.requires.free c.in_ok-take.ensures.few c.in_ok-take.ensures.count (name_of c.args.name)
          (subst (λ (n : ℕ). (j : ℕ) → slot_at c.take.new.self j ≡ (if nat_eq j k then Named n else slot_at old.slots j)) place c.in_ok-take.ensures.slots));
      names = subst (All IsName) (sym (ap names_in more ∙ map_push (λ (p : Pair). p.1) (pairs_in old) pair)) (All-push IsName (names_in (pairs_in old)) (name_of c.args.name) c.requires.whole.names c.requires.name);
    }
