-- Streams that are claimed one after another.
use Rattle.std.proofs.Common.{◌≡◌, ℕ, zero, suc, ◌+◌, ◌-◌, ◌<◌, ◌≤◌, List, [], ◌∷◌, ◌++◌, length, get_or, map, filter, Bool, true, false, ◌&&◌, cond, eqb, refl, sym, ◌∙◌, ap, subst, arith, Ok, Err, Result, inl, inr}
use Rattle.std.specs.List.{range_with_len, All, AllByRecursion}
use Rattle.std.proofs.lemmas.Bool.{cases_Bool, cases_eq, eq-eqb, ne_eqb}
use Rattle.std.proofs.lemmas.List.{append_assoc, append-nil, map-append, get_or_append_left}
use Rattle.std.proofs.lemmas.List.Elements.{All-push}
use Rattle.std.proofs.lemmas.List.Sums.{sum-map, sum_by_push}
use Rattle.std.proofs.Math.Seq.{get_or-append_seam}
use Rattle.std.proofs.Math.ListN.{length-map}
use Rattle.carrier_model.specs.Trail.{Fault}
use Rattle.carrier_model.specs.Outcomes.{◌>>=◌, mapped}
use Rattle.carrier_model.specs.Entries.{Entry}
use Rattle.carrier_model.specs.Files.{Claim, claims_of, chain_in}
use Rattle.carrier_model.specs.Loads.{long_part, short_part, stream_of}
use Rattle.carrier_model.specs.Marks.{Marks}
use Rattle.carrier_model.specs.Streams.{Stream}
use Rattle.carrier_io.specs.declared.reasons.Stop.{Stop}
use Rattle.carrier_io.specs.declared.reasons.Stop.TheVariants as stops
use Rattle.carrier_io.specs.Reads.{Fails}
use Rattle.carrier_io.specs.Reasons.{fault_of}
use Rattle.carrier_io.specs.Steps.{stepped}
use Rattle.cfb_sectors.specs.Seen.{stream as stream_seen}
use Rattle.cfb_sectors.specs.States.{State, entries, entry_of, chain_claimed, stream_claimed}
use Rattle.cfb_sectors.specs.declared.view.StreamView.{StreamView}
use Rattle.cfb_directory.specs.Walks.{directory_of}
use Rattle.cfb_directory.specs.Nodes.{is_wanted, claims_in, chain_lengths, no_stream, AreStreams}

abbrev pub ahead : List Claim → Result (List Claim) Fault → Result (List Claim) Fault
ahead cs (Ok rest) = Ok (cs ++ rest)
ahead cs (Err g) = Err g

-- What stands after the entries below i: the chains so far, and what the others give.
pub record Progress (s : State) (wanted : ℕ → Bool) (before i : ℕ) (numbers : List ℕ) (views : List StreamView) (marks mini_marks : List Bool) (now : ℕ) (whole : Result (List Claim) Fault) : Type 0 where
  pub claims : List Claim
  pub long : List ℕ
  pub short : List ℕ
  pub marked : Marks marks long
  pub mini_marked : Marks mini_marks short
  pub are_streams : AreStreams s wanted claims numbers views
  pub below : AllByRecursion (λ c. c.id < i) claims
  pub steps : now ≡ stepped before (chain_lengths claims)
  pub is : whole ≡ ahead claims (claims_in s (filter wanted (range_with_len i (entries s - i))) long short)

ahead-ahead : (xs ys : List Claim) (r : Result (List Claim) Fault) → ahead xs (ahead ys r) ≡ ahead (xs ++ ys) r
ahead-ahead xs ys (Ok rest) = ap (λ (l : List Claim). Ok l) (sym (append_assoc xs ys rest))
ahead-ahead xs ys (Err g) = refl

ahead-none : (r : Result (List Claim) Fault) → r ≡ ahead [] r
ahead-none (Ok rest) = refl
ahead-none (Err g) = refl

-- those from i on
from_here : (wanted : ℕ → Bool) (n i : ℕ) → i < n → filter wanted (range_with_len i (n - i)) ≡ cond (wanted i) (i ∷ filter wanted (range_with_len (i + 1) (n - (i + 1)))) (filter wanted (range_with_len (i + 1) (n - (i + 1))))
from_here wanted n i below =
    let one : n - i ≡ suc (n - (i + 1)) = omega arith in
    ap (λ k. filter wanted (range_with_len i k)) one

chain-other : (cs : List Claim) (x : Claim) (id : ℕ) → eqb x.id id ≡ false → chain_in (cs ++ x ∷ []) id ≡ chain_in cs id
chain-other [] x id other = rw other refl
chain-other (c ∷ cs) x id other =
    elim (cases_Bool (eqb c.id id)) [
      | inl same ↦ rw same refl
      | inr apart ↦ rw apart (chain-other cs x id other)
    ]

chain-new : (cs : List Claim) (i : ℕ) (chain : List ℕ) → AllByRecursion (λ c. c.id < i) cs → chain_in (cs ++ record { id = i; chain = chain } ∷ []) i ≡ chain
chain-new [] i chain below = rw (eq-eqb i i refl) refl
chain-new (c ∷ cs) i chain below = rw (ne_eqb c.id i (λ e. below_not c.id i below.0 e)) (chain-new cs i chain below.1)
  where
    below_not : (a b : ℕ) → a < b → a ≡ b → ⊥
    below_not a b h e = omega arith

below-more : (cs : List Claim) (i : ℕ) → AllByRecursion (λ c. c.id < i) cs → AllByRecursion (λ c. c.id < i + 1) cs
below-more [] i h = tt
below-more (c ∷ cs) i h = (omega (arith, h.0), below-more cs i h.1)

below-push : (cs : List Claim) (i : ℕ) (chain : List ℕ) → AllByRecursion (λ c. c.id < i) cs → AllByRecursion (λ c. c.id < i + 1) (cs ++ record { id = i; chain = chain } ∷ [])
below-push [] i chain h = (omega arith, tt)
below-push (c ∷ cs) i chain h = (omega (arith, h.0), below-push cs i chain h.1)

lengths-push : (cs : List Claim) (c : Claim) → chain_lengths (cs ++ c ∷ []) ≡ chain_lengths cs + length c.chain
lengths-push cs c = sum-map (λ c. length c.chain) (cs ++ c ∷ []) ∙ (sum_by_push (λ c. length c.chain) cs c ∙ ap (λ n. n + length c.chain) (sym (sum-map (λ c. length c.chain) cs)))

-- one more element of a list that is seen through a function
at_old : {A B : Type 0} (g : A → B) (xs : List A) (x : A) (d : B) (id : ℕ) → id < length xs → get_or (map g (xs ++ x ∷ [])) id d ≡ get_or (map g xs) id d
at_old g xs x d id below =
    let inside : id < length (map g xs) = rw length-map below in
    rw (map-append g xs (x ∷ [])) (get_or_append_left (map g xs) (g x ∷ []) d id inside)

at_new : {A B : Type 0} (g : A → B) (xs : List A) (x : A) (d : B) (id : ℕ) → id ≡ length xs → get_or (map g (xs ++ x ∷ [])) id d ≡ g x
at_new g xs x d id is =
    let last : id ≡ length (map g xs) = rw length-map is in
    rw (map-append g xs (x ∷ []), last) (get_or-append_seam (map g xs) (g x) [] d)

older : (id n : ℕ) → id < n + 1 → (id ≡ n → ⊥) → id < n
older id n h other = omega arith

-- what holds of an index below the new length
push_cases : {A : Type 0} (xs : List A) (x : A) (id : ℕ) (P : Type 0) → id < length (xs ++ x ∷ []) → (id < length xs → P) → (id ≡ length xs → P) → P
push_cases xs x id P below old new =
    elim (cases_eq id (length xs)) [
      | inl same ↦ new same
      | inr other ↦ old (older id (length xs) (omega (arith, length-push xs x)) other)
    ]
  where
    length-push : {A : Type 0} (xs : List A) (x : A) → length (xs ++ x ∷ []) ≡ length xs + 1
    length-push [] x = refl
    length-push (y ∷ xs) x = omega (arith, length-push xs x)

pub progress_init : (s : State) (wanted : ℕ → Bool) (before : ℕ) (views : List StreamView) (long short : List ℕ) → Marks s.marks long → Marks s.mini_marks short → Progress s wanted before 0 [] views s.marks s.mini_marks before (claims_in s (filter wanted (range_with_len 0 (entries s))) long short)
progress_init s wanted before views long short h k = record {
  claims = [];
  long = long;
  short = short;
  marked = h;
  mini_marked = k;
  are_streams = λ id below. absurd (omega arith);
  below = tt;
  steps = omega arith;
  is = ahead-none _ ∙ ap (λ k. ahead [] (claims_in s (filter wanted (range_with_len 0 k)) long short)) (all_of (entries s));
}
  where
    all_of : (n : ℕ) → n ≡ n - 0
    all_of n = omega arith

pub progress_skip : (s : State) (wanted : ℕ → Bool) (before i : ℕ) (numbers : List ℕ) (views : List StreamView) (marks mini_marks : List Bool) (now : ℕ) (w : Result (List Claim) Fault) → Progress s wanted before i numbers views marks mini_marks now w → i < entries s → i ≡ length numbers → wanted i ≡ false → Progress s wanted before (i + 1) (numbers ++ 0 ∷ []) views marks mini_marks now w
progress_skip s wanted before i numbers views marks mini_marks now w p here last other = record {
  claims = p.claims;
  long = p.long;
  short = p.short;
  marked = p.marked;
  mini_marked = p.mini_marked;
  are_streams = λ id below yes. push_cases numbers 0 id _ below (λ old. ap (λ k. get_or (map stream_seen views) k no_stream) (get_or_append_left numbers (0 ∷ []) 0 id old) ∙ p.are_streams id old yes) (λ new. absurd (cc (subst (λ k. wanted k ≡ true) (new ∙ sym last) yes, other)));
  below = below-more p.claims i p.below;
  steps = p.steps;
  is = p.is ∙ ap (λ l. ahead p.claims (claims_in s l p.long p.short)) (rw (from_here wanted (entries s) i here, other) refl);
}

claims_ours : (s : State) (wanted : ℕ → Bool) (i : ℕ) (long short c : List ℕ) → i < entries s → wanted i ≡ true → chain_claimed s i long short ≡ Ok c → claims_in s (filter wanted (range_with_len i (entries s - i))) long short ≡ ahead (record { id = i; chain = c } ∷ []) (claims_in s (filter wanted (range_with_len (i + 1) (entries s - (i + 1)))) (long ++ long_part (entry_of s i) c) (short ++ short_part (entry_of s i) c))
unfolding claims_of
claims_ours s wanted i long short c here ours chain = rw (from_here wanted (entries s) i here, ours, chain) (one _)
  where
    one : (r : Result (List Claim) Fault) → (r >>= λ more. Ok (record { id = i; chain = c } ∷ more)) ≡ ahead (record { id = i; chain = c } ∷ []) r
    one (Ok rest) = refl
    one (Err g) = refl

claims_stop : (s : State) (wanted : ℕ → Bool) (i : ℕ) (long short : List ℕ) (g : Fault) → i < entries s → wanted i ≡ true → chain_claimed s i long short ≡ Err g → claims_in s (filter wanted (range_with_len i (entries s - i))) long short ≡ Err g
unfolding claims_of
claims_stop s wanted i long short g here ours h = rw (from_here wanted (entries s) i here, ours, h) refl

pub progress_claim : (s : State) (wanted : ℕ → Bool) (before i n : ℕ) (numbers : List ℕ) (views : List StreamView) (v : StreamView) (marks mini_marks marks2 mini_marks2 : List Bool) (now now2 : ℕ) (w : Result (List Claim) Fault) (p : Progress s wanted before i numbers views marks mini_marks now w) (c : List ℕ) → i < entries s → i ≡ length numbers → n ≡ length views → ((id : ℕ) → id < length numbers → get_or numbers id 0 < length views) → wanted i ≡ true → chain_claimed s i p.long p.short ≡ Ok c → stream_seen v ≡ stream_of s.size s.file s.loaded (entry_of s i) c → Marks marks2 (p.long ++ long_part (entry_of s i) c) → Marks mini_marks2 (p.short ++ short_part (entry_of s i) c) → now2 ≡ stepped now (length c) → Progress s wanted before (i + 1) (numbers ++ n ∷ []) (views ++ v ∷ []) marks2 mini_marks2 now2 w
unfolding claims_of
progress_claim s wanted before i n numbers views v marks mini_marks marks2 mini_marks2 now now2 w p c here last next inside ours chain stream h k took = record {
  claims = p.claims ++ record { id = i; chain = c } ∷ [];
  long = p.long ++ long_part (entry_of s i) c;
  short = p.short ++ short_part (entry_of s i) c;
  marked = h;
  mini_marked = k;
  are_streams = λ id below yes. push_cases numbers n id _ below
      (λ old. ap (λ j. get_or (map stream_seen (views ++ v ∷ [])) j no_stream) (get_or_append_left numbers (n ∷ []) 0 id old)
      ∙ (at_old stream_seen views v no_stream (get_or numbers id 0) (inside id old)
      ∙ (p.are_streams id old yes ∙ ap (stream_of s.size s.file s.loaded (entry_of s id)) (sym (chain-other p.claims (record { id = i; chain = c }) id (ne_eqb i id (λ e. not_old i id (length numbers) last e old)))))))
      (λ new. ap (λ j. get_or (map stream_seen (views ++ v ∷ [])) j no_stream) (ap (λ j. get_or (numbers ++ n ∷ []) j 0) new ∙ get_or-append_seam numbers n [] 0)
      ∙ (at_new stream_seen views v no_stream n next
      ∙ (stream ∙ (ap (stream_of s.size s.file s.loaded (entry_of s i)) (sym (chain-new p.claims i c p.below)) ∙ ap (λ k. stream_of s.size s.file s.loaded (entry_of s k) (chain_in (p.claims ++ record { id = i; chain = c } ∷ []) k)) (last ∙ sym new)))));
  below = below-push p.claims i c p.below;
  steps = rw (took, p.steps) (omega (arith, lengths-push p.claims (record { id = i; chain = c })));
  is = p.is ∙ (ap (ahead p.claims) (claims_ours s wanted i p.long p.short c here ours chain) ∙ ahead-ahead p.claims (record { id = i; chain = c } ∷ []) _);
}
  where
    not_old : (i id n : ℕ) → i ≡ n → i ≡ id → id < n → ⊥
    not_old i id n a b h = omega arith

pub mapped_fails : {A B : Type 0} (f : A → B) (r : Result A Fault) (e : Stop) → Fails e (mapped f r) → Fails e r
mapped_fails f r stops.NoMemory h = tt
mapped_fails f (Ok x) (stops.Fault g) h = absurd (cc)
mapped_fails f (Err e) (stops.Fault g) h = cc

pub mapped_is : {A B : Type 0} (f : A → B) (r : Result A Fault) (y : B) → mapped f r ≡ Ok y → (x : A) × (r ≡ Ok x) × (y ≡ f x)
mapped_is f (Ok x) y h = (x, refl, cc)
mapped_is f (Err e) y h = absurd (cc)

pub progress_stop : (s : State) (wanted : ℕ → Bool) (before i : ℕ) (numbers : List ℕ) (views : List StreamView) (marks mini_marks : List Bool) (now : ℕ) (w : Result (List Claim) Fault) (p : Progress s wanted before i numbers views marks mini_marks now w) (e : Stop) → i < entries s → wanted i ≡ true → Fails e (chain_claimed s i p.long p.short) → Fails e w
unfolding claims_of
progress_stop s wanted before i numbers views marks mini_marks now w p stops.NoMemory here ours h = tt
progress_stop s wanted before i numbers views marks mini_marks now w p (stops.Fault g) here ours h =
    p.is ∙ ap (ahead p.claims) (claims_stop s wanted i p.long p.short (fault_of g) here ours h)

pub progress_done : (s : State) (wanted : ℕ → Bool) (before i : ℕ) (numbers : List ℕ) (views : List StreamView) (marks mini_marks : List Bool) (now : ℕ) (w : Result (List Claim) Fault) (p : Progress s wanted before i numbers views marks mini_marks now w) → entries s ≤ i → w ≡ Ok p.claims
unfolding claims_of
progress_done s wanted before i numbers views marks mini_marks now w p over =
    let none : entries s - i ≡ zero = omega arith in
    p.is ∙ (ap (λ k. ahead p.claims (claims_in s (filter wanted (range_with_len i k)) p.long p.short)) none ∙ ap (λ (l : List Claim). Ok l) (append-nil p.claims))

-- The same steps, where the file has taken more sectors since.
abbrev pub SameFile : State → State → Type 0
SameFile s t = t ≡ record s { marks = t.marks; mini_marks = t.mini_marks }

pub same-again : (s t u : State) → SameFile s t → SameFile t u → SameFile s u
same-again s t u h k = k ∙ ap (λ (x : State). record x { marks = u.marks; mini_marks = u.mini_marks }) h

pub same-entry : (s t : State) (id : ℕ) → SameFile s t → entry_of t id ≡ entry_of s id
same-entry s t id h = ap (λ (x : State). entry_of x id) h

same-chain : (s t : State) (id : ℕ) (long short : List ℕ) → SameFile s t → chain_claimed t id long short ≡ chain_claimed s id long short
same-chain s t id long short h = ap (λ (x : State). chain_claimed x id long short) h

same-stream : (s t : State) (id : ℕ) (long short : List ℕ) → SameFile s t → stream_claimed t id long short ≡ stream_claimed s id long short
same-stream s t id long short h = ap (λ (x : State). stream_claimed x id long short) h

pub wanted_is : (marks : List Bool) (s t : State) (id kind : ℕ) (r : Bool) → SameFile s t → kind ≡ (entry_of t id).kind → r ≡ (get_or marks id false && eqb kind 2) → is_wanted marks (directory_of s) id ≡ r
wanted_is marks s t id kind r h is k = ap (λ n. get_or marks id false && eqb n 2) (sym (is ∙ ap (λ (e : Entry). e.kind) (same-entry s t id h))) ∙ sym k

pub skip_step : (s t : State) (wanted : ℕ → Bool) (before i : ℕ) (numbers : List ℕ) (views : List StreamView) (now : ℕ) (w : Result (List Claim) Fault) → Progress s wanted before i numbers views t.marks t.mini_marks now w → i < entries s → length numbers ≡ i → wanted i ≡ false → Progress s wanted before (i + 1) (numbers ++ 0 ∷ []) views t.marks t.mini_marks now w
skip_step s t wanted before i numbers views now w p here last other = progress_skip s wanted before i numbers views t.marks t.mini_marks now w p here (sym last) other

pub claim_step : (s t : State) (wanted : ℕ → Bool) (before i n : ℕ) (numbers : List ℕ) (views : List StreamView) (v : StreamView) (marks mini_marks : List Bool) (now now2 : ℕ) (w : Result (List Claim) Fault) → SameFile s t → Progress s wanted before i numbers views t.marks t.mini_marks now w → i < entries s → length numbers ≡ i → n ≡ length views → All (λ k. k < length views) numbers → wanted i ≡ true
    → ((long short : List ℕ) → Marks t.marks long → Marks t.mini_marks short → stream_claimed t i long short ≡ Ok (stream_seen v))
    → ((long short chain : List ℕ) → Marks t.marks long → Marks t.mini_marks short → chain_claimed t i long short ≡ Ok chain → Marks marks (long ++ long_part (entry_of t i) chain) × Marks mini_marks (short ++ short_part (entry_of t i) chain))
    → ((long short chain : List ℕ) → Marks t.marks long → Marks t.mini_marks short → chain_claimed t i long short ≡ Ok chain → now2 ≡ stepped now (length chain))
    → Progress s wanted before (i + 1) (numbers ++ n ∷ []) (views ++ v ∷ []) marks mini_marks now2 w
claim_step s t wanted before i n numbers views v marks mini_marks now now2 w h p here last next inside ours answer marked steps =
    let streamed : stream_claimed s i p.long p.short ≡ Ok (stream_seen v) = sym (same-stream s t i p.long p.short h) ∙ answer p.long p.short p.marked p.mini_marked in
    let c = mapped_is (stream_of s.size s.file s.loaded (entry_of s i)) (chain_claimed s i p.long p.short) (stream_seen v) streamed in
    let there : chain_claimed t i p.long p.short ≡ Ok c.0 = same-chain s t i p.long p.short h ∙ c.1 in
    let m = marked p.long p.short c.0 p.marked p.mini_marked there in
    progress_claim s wanted before i n numbers views v t.marks t.mini_marks marks mini_marks now now2 w p c.0 here (sym last) next (λ id below. inside id 0 below) ours c.1 c.2
    (subst (λ (e : Entry). Marks marks (p.long ++ long_part e c.0)) (same-entry s t i h) m.0)
    (subst (λ (e : Entry). Marks mini_marks (p.short ++ short_part e c.0)) (same-entry s t i h) m.1)
    (steps p.long p.short c.0 p.marked p.mini_marked there)

pub stop_step : (s t : State) (wanted : ℕ → Bool) (before i : ℕ) (numbers : List ℕ) (views : List StreamView) (now : ℕ) (w : Result (List Claim) Fault) (e : Stop) → SameFile s t → Progress s wanted before i numbers views t.marks t.mini_marks now w → i < entries s → wanted i ≡ true → ((long short : List ℕ) → Marks t.marks long → Marks t.mini_marks short → Fails e (stream_claimed t i long short)) → Fails e w
stop_step s t wanted before i numbers views now w e h p here ours answer =
    progress_stop s wanted before i numbers views t.marks t.mini_marks now w p e here ours
    (mapped_fails (stream_of s.size s.file s.loaded (entry_of s i)) (chain_claimed s i p.long p.short) e
    (subst (λ (r : Result Stream Fault). Fails e r) (same-stream s t i p.long p.short h) (answer p.long p.short p.marked p.mini_marked)))

-- one more number below a bound that grew
pub inside_push : (n m x : ℕ) (xs : List ℕ) → All (λ k. k < n) xs → n ≤ m → x < m → All (λ k. k < m) (xs ++ x ∷ [])
inside_push n m x xs h more small = All-push (λ k. k < m) xs x (λ k d below. omega (arith, h k d below)) small

pub within : (i n m : ℕ) → n ≡ m → i < n → i < m
within i n m h k = omega arith
