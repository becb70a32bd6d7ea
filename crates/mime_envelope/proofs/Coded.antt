-- What the engine codes is the base64 text, and lines written one after the other.
use Rattle.std.proofs.Common.{◌≡◌, ℕ, suc, ◌+◌, ◌*◌, ◌/◌, ◌%◌, ◌<◌, ◌==◌, Bool, true, false, List, [], ◌∷◌, ◌++◌, length, take, Option, refl, sym, ap, ◌∙◌, append_assoc, arith}
use Rattle.std.proofs.lemmas.Bool.Decides.{nat_tests}
use Rattle.std.proofs.Math.ListN.{set}
use Rattle.std.proofs.lemmas.List.{length-set, take_more_set}
use Rattle.std.specs.Io.KnownBytes.{Appends}
use Rattle.carrier_io.proofs.Known.{Written, Written-failed, Appends-then, AppendsFront-whole}
use Rattle.carrier_io.specs.Known.{AppendsFront}
use Rattle.base64.specs.declared.engine.general_purpose.GeneralPurpose.{GeneralPurpose}
use Rattle.base64.specs.GeneralPurpose.{encode_of, IsStrict}
use Rattle.base64.specs.Rfc4648.{encode, encode_symbols, padding_len}
use Rattle.mail_model.specs.Base64.{alphabet, symbol, base64_text}
use Rattle.mail_model.specs.EnvelopeText.{line_end}
use Rattle.mime_envelope.specs.Engine.{IsStandard}

padding_len-three : (n : ℕ) → padding_len (suc (suc (suc n))) ≡ padding_len n
padding_len-three n = omega arith

encode-is : (m : List ℕ) → encode alphabet 61 true m ≡ base64_text m
unfolding encode_symbols base64_text
encode-is [] = refl
encode-is (a ∷ []) = refl
encode-is (a ∷ b ∷ []) = refl
encode-is (a ∷ b ∷ c ∷ rest) = rw (padding_len-three (length rest)) (ap (λ s. symbol (a / 4) ∷ symbol (a % 4 * 16 + b / 16) ∷ symbol (b % 16 * 4 + c / 64) ∷ symbol (c % 64) ∷ s) (encode-is rest))

pub encode_of-is : (e : GeneralPurpose) (m : List ℕ) → IsStandard e → encode_of e m ≡ base64_text m
encode_of-is e m h = rw (h.0, h.1, h.2.0) (encode-is m)

pub IsStrict-standard : (e : GeneralPurpose) → IsStandard e → IsStrict e
IsStrict-standard e h = (h.2.1, rw (h.2.2) (h.2.0))

-- what a test of emptiness says
pub some_left : (b : Bool) (xs : List ℕ) → b ≡ (length xs == 0) → b ≡ false → 0 < length xs
some_left b [] e h = absurd (cc (e, h))
some_left b (x ∷ xs) e h = omega arith

pub none_left : (b : Bool) (xs : List ℕ) → b ≡ (length xs == 0) → b ≡ true → xs ≡ []
none_left b [] e h = refl
none_left b (x ∷ xs) e h = absurd (grind (arith, nat_tests))

-- a line of what is to be written stands in the sink too
pub Written-line : (a b c : Option (List ℕ)) (bytes whole line rest : List ℕ) → whole ≡ line ++ rest → Written a b bytes whole → Appends b c line → Written a c bytes rest
Written-line a b c bytes whole line rest e w p = record {
  done = w.done ++ line;
  parts = w.parts ∙ ap (λ (z : List ℕ). w.done ++ z) e ∙ sym (append_assoc w.done line rest);
  appended = Appends-then a b c w.done line w.appended p;
}

-- writing a line of it failed
pub Written-stopped : (a b c : Option (List ℕ)) (bytes whole line rest : List ℕ) → whole ≡ line ++ rest → Written a b bytes whole → AppendsFront b c line → AppendsFront a c bytes
Written-stopped a b c bytes whole line rest e w p = Written-failed a b c bytes whole w (rw e (AppendsFront-whole b c line rest p))

-- a line's characters, with its end written behind them
pub ended_line : (text new coded : List ℕ) (n : ℕ) → n + 1 < length text → take n text ≡ coded → new ≡ set (set text n 13) (n + 1) 10 → take (n + 2) new ≡ coded ++ line_end
ended_line text new coded n room is put =
    let two : n + 2 ≡ n + 1 + 1 = omega arith in
    let first : take (n + 1) (set text n 13) ≡ coded ++ 13 ∷ [] = take_more_set text n 13 (omega arith) ∙ ap (λ (z : List ℕ). z ++ 13 ∷ []) is in
    ap (λ (z : List ℕ). take (n + 2) z) put
    ∙ ap (λ (k : ℕ). take k (set (set text n 13) (n + 1) 10)) two
    ∙ take_more_set (set text n 13) (n + 1) 10 (omega (arith, length-set text n 13))
    ∙ ap (λ (z : List ℕ). z ++ 10 ∷ []) first
    ∙ append_assoc coded (13 ∷ []) (10 ∷ [])
