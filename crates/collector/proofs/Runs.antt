-- Streams fed to a collector.
use Rattle.std.proofs.Common.{◌≡◌, ℕ, ◌+◌, ◌<◌, ◌≤◌, true, ltb, List, [], ◌∷◌, ◌++◌, length, drop, set, replicate, Some, None, Ok, Option, Result, sym, refl, ap, ◌∙◌, append_assoc, arith}
use Rattle.std.proofs.lemmas.List.{set_at, length-append, length_push, append-nil}
use Rattle.std.proofs.lemmas.Bool.{and_parts, ltb-true}
use Rattle.std.proofs.lemmas.Bool.Decides.{nat_tests}
use Rattle.message.specs.declared.refusal.Refusal.{Refusal}
use Rattle.collector.specs.Step.{Fed, quiet, ended, feeds}
use Rattle.message.specs.Bytes.{sevens}
use Rattle.collector.specs.Streams.{State, left, after, answers, framed}
use Rattle.collector.specs.Laws.{Whole, ComesOutWhole}

pub opens : (h : Option ℕ) (b : List ℕ) → 512 ≤ length b → feeds h 0xF0 b ≡ quiet (Some 1) (set b 0 0xF0)
opens h b r = grind (arith, nat_tests)

-- the byte after a front of n bytes
set_next : (front rest : List ℕ) (n z y : ℕ) → length front ≡ n → set (front ++ (z ∷ rest)) n y ≡ (front ++ (y ∷ [])) ++ rest
set_next front rest n z y e = set_at front z rest y n e ∙ sym (append_assoc front (y ∷ []) rest)

-- one byte more in front is one fewer behind
pub same_length : (front rest : List ℕ) (z y : ℕ) → length ((front ++ (y ∷ [])) ++ rest) ≡ length (front ++ (z ∷ rest))
same_length front rest z y = grind (arith, length-append)

-- a collector with no message open, or with one that has xs after its F0h
abbrev pub state_of : Option (List ℕ) → List ℕ → State
state_of None rest = record { held = None; buffer = rest }
state_of (Some xs) rest = record { held = Some (length (0xF0 ∷ xs)); buffer = (0xF0 ∷ xs) ++ rest }

-- the calls at an open message
pub joins_open : (xs rest : List ℕ) (z y : ℕ) → length xs < 511 → y < 0x80 → 512 ≤ length ((0xF0 ∷ xs) ++ (z ∷ rest))
    → feeds (Some (length (0xF0 ∷ xs))) y ((0xF0 ∷ xs) ++ (z ∷ rest))
    ≡ quiet (Some (length (0xF0 ∷ (xs ++ (y ∷ []))))) ((0xF0 ∷ (xs ++ (y ∷ []))) ++ rest)
joins_open xs rest z y p q r =
    let k = length_push xs y in
    let e = set_next (0xF0 ∷ xs) rest (length (0xF0 ∷ xs)) z y refl in
    grind (arith, nat_tests)

pub ends_open : (xs rest : List ℕ) (z : ℕ) → length xs < 511 → 512 ≤ length ((0xF0 ∷ xs) ++ (z ∷ rest))
    → feeds (Some (length (0xF0 ∷ xs))) 0xF7 ((0xF0 ∷ xs) ++ (z ∷ rest)) ≡ ended (length (framed xs)) (framed xs ++ rest)
ends_open xs rest z p r =
    let k = length_push xs 0xF7 in
    let e = set_next (0xF0 ∷ xs) rest (length (0xF0 ∷ xs)) z 0xF7 refl in
    grind (arith, nat_tests)

-- What is left of a message's body and its F7h comes to the end of the message, and is told there and nowhere before.
record Ends (xs rest body : List ℕ) : Type 0 where
  pub leaves : after (state_of (Some xs) rest) (body ++ (0xF7 ∷ [])) ≡ state_of None (framed (xs ++ body) ++ drop (length (body ++ (0xF7 ∷ []))) rest)
  pub tells : answers (state_of (Some xs) rest) (body ++ (0xF7 ∷ [])) ≡ replicate (length body) (Ok None) ++ (Ok (Some (length (framed (xs ++ body)))) ∷ [])

comes_to_end : (body xs rest : List ℕ) → length xs + length body < 511 → 512 ≤ length ((0xF0 ∷ xs) ++ rest) → sevens body ≡ true
    → Ends xs rest body
comes_to_end body xs [] p r s = let k = length-append xs [] in absurd (omega arith)
comes_to_end [] xs (z ∷ rest) p r s =
    let e = ends_open xs rest z (omega arith) r ∙ ap (λ (bs : List ℕ). ended (length (framed bs)) (framed bs ++ rest)) (sym (append-nil xs)) in
    record { leaves = ap left e; tells = ap (λ (f : Fed). f.answer ∷ []) e }
comes_to_end (y ∷ body) xs (z ∷ rest) p r s =
    let parts = and_parts (ltb y 0x80) (sevens body) s in
    let k = length_push xs y in
    let same = same_length (0xF0 ∷ xs) rest z y in
    let e = joins_open xs rest z y (omega arith) (ltb-true y 0x80 parts.0) r in
    let more = comes_to_end body (xs ++ (y ∷ [])) rest (omega arith) (omega arith) parts.1 in
    let joined = append_assoc xs (y ∷ []) body in
    record {
      leaves =
          ap (λ (f : Fed). after (left f) (body ++ (0xF7 ∷ []))) e
          ∙ more.leaves
          ∙ ap (λ (bs : List ℕ). state_of None (framed bs ++ drop (length (body ++ (0xF7 ∷ []))) rest)) joined;
      tells =
          ap (λ (f : Fed). f.answer ∷ answers (left f) (body ++ (0xF7 ∷ []))) e
          ∙ ap (λ (told : List (Result (Option ℕ) Refusal)). Ok None ∷ told) more.tells
          ∙ ap (λ (bs : List ℕ). replicate (length (y ∷ body)) (Ok None) ++ (Ok (Some (length (framed bs))) ∷ [])) joined;
    }

whole_in : (h : Option ℕ) (buffer body : List ℕ) → 512 ≤ length buffer → sevens body ≡ true → length body ≤ 510
    → Whole (record { held = h; buffer = buffer }) body
whole_in h [] body r s few = absurd (omega arith)
whole_in h (z ∷ rest) body r s few =
    let e = opens h (z ∷ rest) r in
    let more = comes_to_end body [] rest (omega arith) r s in
    record {
      leaves = ap (λ (f : Fed). after (left f) (body ++ (0xF7 ∷ []))) e ∙ more.leaves;
      tells =
          ap (λ (f : Fed). f.answer ∷ answers (left f) (body ++ (0xF7 ∷ []))) e
          ∙ ap (λ (told : List (Result (Option ℕ) Refusal)). Ok None ∷ told) more.tells;
    }

pub whole : ComesOutWhole 512
whole s body r b few = let k = length_push body 0xF7 in whole_in s.held s.buffer body r b (omega arith)
