-- Steps of reading put together.
use Rattle.std.proofs.Common.{◌≡◌, inl, ℕ, Bool, true, false, sym, subst}
use Rattle.carrier_io.specs.declared.reasons.Stop.{Stop}
use Rattle.carrier_io.proofs.Sides.{on_fault}
use Rattle.carrier_model.specs.Grammar.{Form, gives, and_then, such, placed, choice}
use Rattle.carrier_model.proofs.Reading.{continues_then, spans_seen, spans_such, fails_such, spans_placed}
use Rattle.tnef_props.specs.declared.rest.Rest.{Rest}
use Rattle.tnef_props.specs.Steps.{Takes, Refuses}

pub then_takes : {X Y : Type 0} (f : Form X) (next : X → Form Y) (a b c : Rest) (x : X) (y : Y) → Takes f a x b → Takes (next x) b y c → Takes (and_then f next) a y c
then_takes f next a b c x y p q = (continues_then f next a.place a.bytes.now x b.place b.bytes.now p).ok y c.place c.bytes.now q

-- the first form fails
pub then_first : {X Y : Type 0} (f : Form X) (next : X → Form Y) (a : Rest) (s : Stop) → Refuses f a s → Refuses (and_then f next) a s
then_first f next a s p = on_fault (f.fails a.place a.bytes.now) ((and_then f next).fails a.place a.bytes.now) (λ g e. inl e) s p

-- or the second does
pub then_next : {X Y : Type 0} (f : Form X) (next : X → Form Y) (a b : Rest) (x : X) (s : Stop) → Takes f a x b → Refuses (next x) b s → Refuses (and_then f next) a s
then_next f next a b x s p q = on_fault ((next x).fails b.place b.bytes.now) ((and_then f next).fails a.place a.bytes.now) ((continues_then f next a.place a.bytes.now x b.place b.bytes.now p).bad) s q

pub such_first : {X : Type 0} (f : Form X) (ok : X → Bool) (reason : ℕ) (a : Rest) (s : Stop) → Refuses f a s → Refuses (such f ok reason) a s
such_first f ok reason a s p = on_fault (f.fails a.place a.bytes.now) ((such f ok reason).fails a.place a.bytes.now) (λ g e. inl e) s p

pub seen_takes : {X Y : Type 0} (f : Form X) (view : X → Y) (a b : Rest) (x : X) → Takes f a x b → Takes (and_then f (λ x. gives (view x))) a (view x) b
seen_takes f view a b x p = spans_seen f view a.place a.bytes.now x b.place b.bytes.now p

pub placed_takes : {X : Type 0} (f : Form X) (a b : Rest) (x : X) → Takes f a x b → Takes (placed f) a (a.place, x) b
placed_takes f a b x p = spans_placed f a.place a.bytes.now x b.place b.bytes.now p

pub such_takes : {X : Type 0} (f : Form X) (ok : X → Bool) (reason : ℕ) (a b : Rest) (x : X) → Takes f a x b → ok x ≡ true → Takes (such f ok reason) a x b
such_takes f ok reason a b x p e = spans_such f ok reason a.place a.bytes.now x b.place b.bytes.now p e

pub such_next : {X : Type 0} (f : Form X) (ok : X → Bool) (reason : ℕ) (a b : Rest) (x : X) → Takes f a x b → ok x ≡ false → (such f ok reason).fails a.place a.bytes.now (reason, a.place)
such_next f ok reason a b x p e = fails_such f ok reason a.place a.bytes.now x b.place b.bytes.now p e

-- ---- one of two forms

pub left_takes : {X : Type 0} (t : Bool) (f g : Form X) (a b : Rest) (x : X) → t ≡ true → Takes f a x b → Takes (choice t f g) a x b
left_takes true f g a b x e p = p
left_takes false f g a b x e p = absurd cc

pub right_takes : {X : Type 0} (t : Bool) (f g : Form X) (a b : Rest) (x : X) → t ≡ false → Takes g a x b → Takes (choice t f g) a x b
right_takes true f g a b x e p = absurd cc
right_takes false f g a b x e p = p

pub left_refuses : {X : Type 0} (t : Bool) (f g : Form X) (a : Rest) (s : Stop) → t ≡ true → Refuses f a s → Refuses (choice t f g) a s
left_refuses true f g a s e p = p
left_refuses false f g a s e p = absurd cc

pub right_refuses : {X : Type 0} (t : Bool) (f g : Form X) (a : Rest) (s : Stop) → t ≡ false → Refuses g a s → Refuses (choice t f g) a s
right_refuses true f g a s e p = absurd cc
right_refuses false f g a s e p = p

-- ---- a form that is another, seen by what it means

pub same_takes : {Y : Type 0} (f g : Form Y) (a b : Rest) (y : Y) → f ≡ g → Takes g a y b → Takes f a y b
same_takes {Y} f g a b y e p = subst (λ (h : Form Y). Takes h a y b) (sym e) p

pub same_refuses : {Y : Type 0} (f g : Form Y) (a : Rest) (s : Stop) → f ≡ g → Refuses g a s → Refuses f a s
same_refuses {Y} f g a s e p = subst (λ (h : Form Y). Refuses h a s) (sym e) p

pub view_takes : {X Y : Type 0} (f : Form Y) (g : Form X) (view : X → Y) (a b : Rest) (x : X) → f ≡ and_then g (λ x. gives (view x)) → Takes g a x b → Takes f a (view x) b
view_takes f g view a b x e p = same_takes f (and_then g (λ x. gives (view x))) a b (view x) e (seen_takes g view a b x p)

pub view_refuses : {X Y : Type 0} (f : Form Y) (g : Form X) (view : X → Y) (a : Rest) (s : Stop) → f ≡ and_then g (λ x. gives (view x)) → Refuses g a s → Refuses f a s
view_refuses f g view a s e p = same_refuses f (and_then g (λ x. gives (view x))) a s e (then_first g (λ x. gives (view x)) a s p)
