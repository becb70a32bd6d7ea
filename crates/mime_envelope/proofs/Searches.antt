-- What a search gives, by what was found on the way.
use Rattle.std.proofs.Common.{◌≡◌, ℕ, zero, suc, ◌+◌, Bool, true, false, if◌then◌else◌, List, [], ◌∷◌, length, take, drop, codes, Option, Some, None, Ok, Err, refl, sym, ap, ◌∙◌, arith}
use Rattle.std.specs.List.{concat, list_any}
use Rattle.carrier_io.specs.declared.reasons.Stop.{Stop}
use Rattle.carrier_io.specs.declared.reasons.Stop.TheVariants as stops
use Rattle.carrier_io.specs.Reasons.{fault_of}
use Rattle.carrier_io.specs.Reads.{Fails}
use Rattle.carrier_model.specs.Reasons.{PART_TOO_DEEP, MISSING_CLOSE}
use Rattle.carrier_model.specs.Trail.{Fault}
use Rattle.mail_model.specs.Lines.{lines}
use Rattle.mail_model.specs.Entities.{body_of, field, is_tnef, is_multipart, boundary, is_boundary, is_closing, is_delimiter, part_from, parts}
use Rattle.mail_model.specs.Envelope.{Found, Part, or_else, first_of, in_parts, in_multipart, search}
use Rattle.mail_model.proofs.Lines.{concat-lines}
use Rattle.mail_model.proofs.Entities.{parts-none, parts-closing, parts-delimiter, parts-next}
use Rattle.mime_envelope.specs.Parts.{boundary_test, NoPartBefore}

pub search_fault : (more at : ℕ) (bytes : List ℕ) (g : Fault) → body_of true at (lines bytes) ≡ Err g → search more at bytes ≡ Err g
unfolding search
search_fault zero at bytes g body = rw body refl
search_fault (suc n) at bytes g body = rw body refl

pub search_none : (more at : ℕ) (bytes : List ℕ) (b : ℕ × List (List ℕ)) → body_of true at (lines bytes) ≡ Ok b → None ≡ field (codes "content-type") at (lines bytes) → search more at bytes ≡ Ok None
unfolding search
search_none zero at bytes b body kind = rw (body, sym kind) refl
search_none (suc n) at bytes b body kind = rw (body, sym kind) refl

pub search_tnef : (more at : ℕ) (bytes : List ℕ) (b : ℕ × List (List ℕ)) (k : ℕ × List ℕ) → body_of true at (lines bytes) ≡ Ok b → Some k ≡ field (codes "content-type") at (lines bytes) → true ≡ is_tnef k.1 → search more at bytes ≡ Ok (Some (record { encoding = field (codes "content-transfer-encoding") at (lines bytes); place = b.0; body = concat b.1 }))
unfolding search
search_tnef zero at bytes b k body kind tnef = rw (body, sym kind, sym tnef) refl
search_tnef (suc n) at bytes b k body kind tnef = rw (body, sym kind, sym tnef) refl

pub search_other : (more at : ℕ) (bytes : List ℕ) (b : ℕ × List (List ℕ)) (k : ℕ × List ℕ) → body_of true at (lines bytes) ≡ Ok b → Some k ≡ field (codes "content-type") at (lines bytes) → false ≡ is_tnef k.1 → false ≡ is_multipart k.1 → search more at bytes ≡ Ok None
unfolding search
search_other zero at bytes b k body kind tnef multipart = rw (body, sym kind, sym tnef, sym multipart) refl
search_other (suc n) at bytes b k body kind tnef multipart = rw (body, sym kind, sym tnef, sym multipart) refl

pub search_deep : (more at : ℕ) (bytes : List ℕ) (b : ℕ × List (List ℕ)) (k : ℕ × List ℕ) → more ≡ 0 → body_of true at (lines bytes) ≡ Ok b → Some k ≡ field (codes "content-type") at (lines bytes) → false ≡ is_tnef k.1 → true ≡ is_multipart k.1 → search more at bytes ≡ Err (PART_TOO_DEEP, k.0)
unfolding search
search_deep zero at bytes b k is body kind tnef multipart = rw (body, sym kind, sym tnef, sym multipart) refl
search_deep (suc n) at bytes b k is body kind tnef multipart = absurd (omega arith)

one_more : (n at : ℕ) (bytes : List ℕ) (b : ℕ × List (List ℕ)) (k : ℕ × List ℕ) → body_of true at (lines bytes) ≡ Ok b → Some k ≡ field (codes "content-type") at (lines bytes) → false ≡ is_tnef k.1 → true ≡ is_multipart k.1 → search (suc n) at bytes ≡ in_multipart (search n) k.0 (boundary 0 k.1) b.0 b.1
unfolding search
one_more n at bytes b k body kind tnef multipart = rw (body, sym kind, sym tnef, sym multipart) refl

pub search_multipart : (more n at : ℕ) (bytes : List ℕ) (b : ℕ × List (List ℕ)) (k : ℕ × List ℕ) → more ≡ suc n → body_of true at (lines bytes) ≡ Ok b → Some k ≡ field (codes "content-type") at (lines bytes) → false ≡ is_tnef k.1 → true ≡ is_multipart k.1 → search more at bytes ≡ in_multipart (search n) k.0 (boundary 0 k.1) b.0 b.1
search_multipart more n at bytes b k is body kind tnef multipart = ap (λ (m : ℕ). search m at bytes) is ∙ one_more n at bytes b k body kind tnef multipart

bad_by : (s : ℕ → List ℕ → Found) (at : ℕ) (b : List ℕ) (place : ℕ) (body : List (List ℕ)) (g : Fault) (v : Bool) → is_boundary b ≡ v → boundary_test at (Some b) ≡ Err g → in_multipart s at (Some b) place body ≡ Err g
bad_by s at b place body g true is bad = let h = rw is at bad in absurd (cc h)
bad_by s at b place body g false is bad = let h = rw is at bad in rw is (cc h)

good_by : (s : ℕ → List ℕ → Found) (at : ℕ) (b : List ℕ) (place : ℕ) (body : List (List ℕ)) (x : List ℕ) (v : Bool) → is_boundary b ≡ v → boundary_test at (Some b) ≡ Ok x → in_multipart s at (Some b) place body ≡ in_parts s x place body
good_by s at b place body x true is good = let h = rw is at good in let same : b ≡ x = cc h in rw is (ap (λ (z : List ℕ). in_parts s z place body) same)
good_by s at b place body x false is good = let h = rw is at good in absurd (cc h)

pub bad_boundary : (s : ℕ → List ℕ → Found) (at : ℕ) (b : Option (List ℕ)) (place : ℕ) (body : List (List ℕ)) (g : Fault) → boundary_test at b ≡ Err g → in_multipart s at b place body ≡ Err g
bad_boundary s at None place body g bad = cc
bad_boundary s at (Some b) place body g bad = bad_by s at b place body g (is_boundary b) refl bad

pub good_boundary : (s : ℕ → List ℕ → Found) (at : ℕ) (b : Option (List ℕ)) (place : ℕ) (body : List (List ℕ)) (x : List ℕ) → boundary_test at b ≡ Ok x → in_multipart s at b place body ≡ in_parts s x place body
good_boundary s at None place body x good = absurd cc
good_boundary s at (Some b) place body x good = good_by s at b place body x (is_boundary b) refl good

pub missing_close : (s : ℕ → List ℕ → Found) (b : List ℕ) (place : ℕ) (body : List ℕ) → false ≡ list_any (is_closing b) (lines body) → in_parts s b place (lines body) ≡ Err (MISSING_CLOSE, place + length body)
missing_close s b place body none = rw (sym none) (ap (λ (z : List ℕ). Err (MISSING_CLOSE, place + length z)) (concat-lines body))

pub closed : (s : ℕ → List ℕ → Found) (b : List ℕ) (place : ℕ) (body : List (List ℕ)) → true ≡ list_any (is_closing b) body → in_parts s b place body ≡ first_of s (parts b place body)
closed s b place body closing = rw (sym closing) refl

pub first_none : (s : ℕ → List ℕ → Found) (b : List ℕ) (at : ℕ) (bytes : List ℕ) → bytes ≡ [] → first_of s (parts b at (lines bytes)) ≡ Ok None
unfolding first_of
first_none s b at bytes none = ap (first_of s) (parts-none b at bytes none)

pub first_closing : (s : ℕ → List ℕ → Found) (b : List ℕ) (at : ℕ) (bytes line after : List ℕ) → lines bytes ≡ line ∷ lines after → true ≡ is_closing b line → first_of s (parts b at (lines bytes)) ≡ Ok None
unfolding first_of
first_closing s b at bytes line after split closing = ap (first_of s) (parts-closing b at bytes line after split closing)

-- an entity, if it is a part
abbrev pub here : (ℕ → List ℕ → Found) → Bool → ℕ → List ℕ → Found
here s begins at bytes = if begins then s at bytes else Ok None

first_by : (s : ℕ → List ℕ → Found) (b : List ℕ) (at : ℕ) (bytes line after : List ℕ) (v : Bool) → is_delimiter b line ≡ v → lines bytes ≡ line ∷ lines after → false ≡ is_closing b line → first_of s (parts b at (lines bytes)) ≡ or_else (here s v (at + length line) (concat (part_from b (lines after)))) (first_of s (parts b (at + length line) (lines after)))
unfolding first_of
first_by s b at bytes line after true is split closing = ap (first_of s) (parts-delimiter b at bytes line after split closing (sym is))
first_by s b at bytes line after false is split closing = ap (first_of s) (parts-next b at bytes line after split closing (sym is))

-- the part behind a line, or those behind it
pub first_part : (s : ℕ → List ℕ → Found) (b : List ℕ) (at : ℕ) (bytes line after part others : List ℕ) (n : ℕ) (begins : Bool) → lines bytes ≡ line ∷ lines after → false ≡ is_closing b line → begins ≡ is_delimiter b line → take n after ≡ concat (part_from b (lines after)) → NoPartBefore b n after → part ≡ take n after → others ≡ drop n after → length part ≡ n → first_of s (parts b at (lines bytes)) ≡ or_else (here s begins (at + length line) part) (first_of s (parts b (at + length line + length part) (lines others)))
first_part s b at bytes line after part others n begins split closing delimiter value none front back size =
    let next = at + length line in
    first_by s b at bytes line after begins (sym delimiter) split closing
    ∙ ap (λ (z : List ℕ). or_else (here s begins next z) (first_of s (parts b next (lines after)))) (sym value ∙ sym front)
    ∙ ap (λ (z : List (ℕ × List ℕ)). or_else (here s begins next part) (first_of s z)) (none next ∙ (λ i. parts b (next + sym size i) (lines (sym back i))))

-- a reader that stopped stops what stands on it
pub fails_marks : (s : Stop) (search_at : ℕ → List ℕ → Found) (at : ℕ) (b : Option (List ℕ)) (place : ℕ) (body : List (List ℕ)) (x : Found) → Fails {Y = List ℕ} s (boundary_test at b) → x ≡ in_multipart search_at at b place body → Fails {Y = Option Part} s x
fails_marks (stops.Fault g) search_at at b place body x h is = is ∙ bad_boundary search_at at b place body (fault_of g) h
fails_marks stops.NoMemory search_at at b place body x h is = tt

pub fails_here : (s : Stop) (first others x : Found) → Fails {Y = Option Part} s first → x ≡ or_else first others → Fails {Y = Option Part} s x
fails_here (stops.Fault g) first others x h is = is ∙ ap (λ (z : Found). or_else z others) h
fails_here stops.NoMemory first others x h is = tt

pub found_here : (first others x : Found) (p : Part) → first ≡ Ok (Some p) → x ≡ or_else first others → x ≡ Ok (Some p)
found_here first others x p h is = is ∙ ap (λ (z : Found). or_else z others) h

pub not_here : (first others x : Found) → first ≡ Ok None → x ≡ or_else first others → x ≡ others
not_here first others x h is = is ∙ ap (λ (z : Found). or_else z others) h

-- a part that was found
abbrev pub some_part : Option (ℕ × List ℕ) → ℕ → List ℕ → Found
some_part e place body = Ok (Some (record { encoding = e; place = place; body = body }))

pub tnef_part : (e view : Option (ℕ × List ℕ)) (place : ℕ) (body : List ℕ) → view ≡ e → some_part e place (concat (lines body)) ≡ some_part view place body
tnef_part e view place body is =
    ap (λ (z : Option (ℕ × List ℕ)). some_part z place (concat (lines body))) (sym is) ∙ ap (λ (z : List ℕ). some_part view place z) (concat-lines body)
