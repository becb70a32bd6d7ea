use Rattle.std.proofs.Common.{◌≡◌, ◌+◌, ◌∷◌, [], ℕ, ap, vec_len, refl, subst, sym, arith}
use Rattle.carrier_model.specs.FileTrees.{entries_in}
use Rattle.carrier_model.specs.Links.{no_link}
use Rattle.cfb_writer.specs.Levels.{IsWhole}
use Rattle.cfb_list.specs.Contents.{bytes_seen, name_seen}
use Rattle.cfb_list.specs.Listed.{Child, built, children_at}
use Rattle.cfb_list.specs.Trees.{inside}
use Rattle.cfb_list.specs.declared.views.KindView.TheVariants.{Storage, Stream}
use Rattle.cfb_writer.proofs.Levels.{kind_at, storage_placed, stream_placed}
use Rattle.cfb_writer.proofs.placing.append_file.Goals as goal

pub level_of-requires-clause-storage : goal.level_of-requires-clause-storage
level_of-requires-clause-storage g c = let sound = (rw c.in-Storage.is at c.file.ensures.sound) in sound.2

pub level_of-requires-clause-few : goal.level_of-requires-clause-few
level_of-requires-clause-few g c =
    let st = c.args.list.now in
    let child = kind_at g.B.Blob.bytes (children_at st c.args.storage) c.args.file c.file.result (Storage c.in-Storage.class c.in-Storage.number) c.file.ensures.seen c.in-Storage.is in
    omega (arith, c.requires.few, c.len.ensures, ap (λ (x : Child). entries_in (built (inside st) (x ∷ []))) child)

pub returns-in_ok-push-in-Stream-clause-room : goal.returns-in_ok-push-in-Stream-clause-room
returns-in_ok-push-in-Stream-clause-room g c =
    let st = c.args.list.now in
    let child = kind_at g.B.Blob.bytes (children_at st c.args.storage) c.args.file c.file.result (Stream c.in-Stream.field-0) c.file.ensures.seen c.in-Stream.is in
    sym (ap (λ (x : Child). entries_in (built (inside st) (x ∷ []))) child)

pub returns-in_ok-push-in-Stream-clause-slots : goal.returns-in_ok-push-in-Stream-clause-slots
returns-in_ok-push-in-Stream-clause-slots g c =
    let of = g.B.Blob.bytes in
    let st = c.args.list.now in
    let child = kind_at of (children_at st c.args.storage) c.args.file c.file.result (Stream c.in-Stream.field-0) c.file.ensures.seen c.in-Stream.is in
    stream_placed st c.args.places.now.items c.push.new.self.items (record { storage = c.in-Ok-Ok.at; file = c.in-Ok-Ok.number; left = c.args.links.0; right = c.args.links.1; child = no_link }) c.args.storage c.args.file (vec_len c.args.places.now + 1) c.in_ok-push-in-Stream.ensures.items (name_seen c.file.result.name) (bytes_seen of c.in-Stream.field-0) refl c.in-Ok-Ok.ensures.1 c.in-Ok-Ok.ensures'.1 child

pub returns-in_ok-push-in-Storage-clause-room : goal.returns-in_ok-push-in-Storage-clause-room
returns-in_ok-push-in-Storage-clause-room g c =
    let st = c.args.list.now in
    let child = kind_at g.B.Blob.bytes (children_at st c.args.storage) c.args.file c.file.result (Storage c.in-Storage.class c.in-Storage.number) c.file.ensures.seen c.in-Storage.is in
    omega (arith, ap (λ (x : Child). entries_in (built (inside st) (x ∷ []))) child, ap entries_in c.in_ok-inner-in-Storage.ensures.left)

pub returns-in_ok-push-in-Storage-clause-slots : goal.returns-in_ok-push-in-Storage-clause-slots
returns-in_ok-push-in-Storage-clause-slots g c =
    let st = c.args.list.now in
    let child = kind_at g.B.Blob.bytes (children_at st c.args.storage) c.args.file c.file.result (Storage c.in-Storage.class c.in-Storage.number) c.file.ensures.seen c.in-Storage.is in
    let n = vec_len c.args.places.now + 1 in
    let m = vec_len c.args.places.now + 2 in
    let first : c.len.result + 2 ≡ m = omega (arith, c.len.ensures) in
    let whole = subst (λ (k : ℕ). IsWhole st c.in-Storage.number k c.in_ok-inner-in-Storage.inner) first c.in_ok-inner-in-Storage.ensures in
    storage_placed st c.args.places.now.items c.push-in-Storage.new.self.items (record { storage = c.in-Ok-Ok.at; file = c.in-Ok-Ok.number; left = c.args.links.0; right = c.args.links.1; child = c.in_ok-inner-in-Storage.inner.top }) c.args.storage c.args.file n c.in_ok-push-in-Storage.ensures.items m c.in-Storage.number _ c.in-Storage.class c.in_ok-inner-in-Storage.inner (omega arith) refl c.in-Ok-Ok.ensures.1 c.in-Ok-Ok.ensures'.1 child whole
