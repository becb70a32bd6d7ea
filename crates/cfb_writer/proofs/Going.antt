-- Loops that append: what stands there, and what is to come.
use Rattle.std.proofs.Common.{◌≡◌, ℕ, ◌+◌, ◌%◌, ◌<◌, List, [], ◌++◌, length, get_or, drop, Option, Result, Ok, Err, refl, sym, ap, subst, ◌∙◌, append_assoc}
use Rattle.std.specs.Result.{IsErr}
use Rattle.std.specs.List.{flat_map}
use Rattle.std.proofs.lemmas.List.{append-nil, drop_more}
use Rattle.std.proofs.lemmas.List.Concat.{flat_map-append}
use Rattle.carrier_model.specs.Bytes.{le32}
use Rattle.carrier_model.specs.Layout.{words_bytes}
use Rattle.carrier_io.specs.declared.failures.Failed.{Failed}
use Rattle.carrier_io.specs.Summed.{Sums}
use Rattle.carrier_io.proofs.Summed.{sums_nothing, sums_both, sums_first, sums_second}

-- a front of the bytes stands there, with its sum, and the rest is to come
pub record Going (a b : Option (List ℕ)) (n m s : ℕ) (all rest : List ℕ) : Type 0 where
  pub front : List ℕ
  pub parts : all ≡ front ++ rest
  pub sums : Sums {E = Failed} a b n m (Ok s) front

pub going_start : (a : Option (List ℕ)) (n : ℕ) (all : List ℕ) → Going a a n n 0 all all
going_start a n all = record { front = []; parts = refl; sums = sums_nothing a n }

pub going_more : {a b c : Option (List ℕ)} {n m k s t : ℕ} {all rest : List ℕ} (r : ℕ) (x more : List ℕ) → rest ≡ x ++ more → r ≡ (s + t) % 65536 → Going a b n m s all rest → Sums {E = Failed} b c m k (Ok t) x → Going a c n k r all more
going_more r x more e sum g p = record { front = g.front ++ x; parts = g.parts ∙ ap (λ (z : List ℕ). g.front ++ z) e ∙ sym (append_assoc g.front x more); sums = sums_both r sum g.sums p }

pub going_stops : {a b c : Option (List ℕ)} {n m k s : ℕ} {all rest : List ℕ} {r : Result ℕ Failed} {f : Failed} (x more : List ℕ) → rest ≡ x ++ more → IsErr r → Going a b n m s all rest → Sums {E = Failed} b c m k (Err f) x → Sums {E = Failed} a c n k r all
going_stops {f = f} x more e err g p = rw (g.parts ∙ ap (λ (z : List ℕ). g.front ++ z) e) (sums_second err g.sums (sums_first {r = Err f} more refl p))

-- an item, and those behind it
pub item_then : {X : Type 0} (f : X → List ℕ) (xs : List X) (k : ℕ) (d : X) → k < length xs → flat_map f (drop k xs) ≡ f (get_or xs k d) ++ flat_map f (drop (k + 1) xs)
item_then f xs k d lt = ap (flat_map f) (drop_more xs k d lt)

pub words_then : {X : Type 0} (f : X → List ℕ) (xs : List X) (k : ℕ) (d : X) → k < length xs → words_bytes (flat_map f (drop k xs)) ≡ words_bytes (f (get_or xs k d)) ++ words_bytes (flat_map f (drop (k + 1) xs))
words_then f xs k d lt = ap words_bytes (item_then f xs k d lt) ∙ flat_map-append le32 (f (get_or xs k d)) (flat_map f (drop (k + 1) xs))

-- the same bytes in another form
pub as_bytes : {a b : Option (List ℕ)} {n m : ℕ} {r : Result ℕ Failed} {x y : List ℕ} → x ≡ y → Sums {E = Failed} a b n m r x → Sums {E = Failed} a b n m r y
as_bytes {a} {b} {n} {m} {r} e p = subst (λ (z : List ℕ). Sums {E = Failed} a b n m r z) e p

-- nothing is to come
pub going_done : {a b : Option (List ℕ)} {n m s : ℕ} {all rest : List ℕ} → rest ≡ [] → Going a b n m s all rest → Sums {E = Failed} a b n m (Ok s) all
going_done e g = as_bytes (sym (g.parts ∙ ap (λ (z : List ℕ). g.front ++ z) e ∙ append-nil g.front)) g.sums
