-- What is told where a real-time byte comes, and where an opening byte does.
use Rattle.std.proofs.Common.{◌≡◌, ℕ, ◌≤◌, List, [], ◌∷◌, ◌++◌, length, set, Some, None, Ok, Option, Result, refl, ap, arith}
use Rattle.std.proofs.lemmas.List.{length-set}
use Rattle.std.proofs.lemmas.Bool.Decides.{nat_tests}
use Rattle.message.specs.declared.refusal.Refusal.{Refusal}
use Rattle.collector.specs.Step.{Fed, feeds}
use Rattle.collector.specs.Streams.{State, call, left, answers, told, heard}
use Rattle.collector.specs.Laws.{OpeningAnswers, RealTimeSkipped}
use Rattle.collector.proofs.Runs.{opens}

-- what one call adds
abbrev adds : Fed → List ℕ → List (List ℕ)
adds f stream = told f.answer f.buffer ++ heard (left f) stream

-- a byte from F8h on changes nothing, in a buffer of any length
passed_by : (s : State) (y : ℕ) (stream : List ℕ) → 0xF8 ≤ y → adds (call s y) stream ≡ heard s stream
passed_by s y stream p = grind (arith, nat_tests)

pub real_time_skipped : RealTimeSkipped 0xF8
real_time_skipped s [] more y p = passed_by s y more p
real_time_skipped s (x ∷ stream) more y p =
    ap (λ (ms : List (List ℕ)). told (call s x).answer (call s x).buffer ++ ms) (real_time_skipped (left (call s x)) stream more y p)

-- what is answered does not depend on what a buffer holds
pub record Alike (f g : Fed) : Type 0 where
  pub held : f.held ≡ g.held
  pub answer : f.answer ≡ g.answer

alike : (h : Option ℕ) (y : ℕ) (b d : List ℕ) → 512 ≤ length b → 512 ≤ length d → Alike (feeds h y b) (feeds h y d)
alike h y b d r q = record { held = grind (arith, nat_tests); answer = grind (arith, nat_tests) }

keeps_length : (h : Option ℕ) (y : ℕ) (b : List ℕ) → length (feeds h y b).buffer ≡ length b
keeps_length None y b = grind (arith, nat_tests, length-set)
keeps_length (Some n) y b = grind (arith, nat_tests, length-set)

same-answers : (stream : List ℕ) (h : Option ℕ) (b d : List ℕ) → 512 ≤ length b → 512 ≤ length d
    → answers (record { held = h; buffer = b }) stream ≡ answers (record { held = h; buffer = d }) stream
same-answers [] h b d r q = refl
same-answers (y ∷ stream) h b d r q =
    let a = alike h y b d r q in
    let k = keeps_length h y b in
    let m = keeps_length h y d in
    rw (a.held, a.answer) (ap (λ (xs : List (Result (Option ℕ) Refusal)). (feeds h y d).answer ∷ xs)
    (same-answers stream (feeds h y d).held (feeds h y b).buffer (feeds h y d).buffer (omega arith) (omega arith)))

pub opening-answers : OpeningAnswers 0xF0
opening-answers s t stream r q =
    let k = length-set s.buffer 0 0xF0 in
    let m = length-set t.buffer 0 0xF0 in
    rw (opens s.held s.buffer r, opens t.held t.buffer q) (ap (λ (xs : List (Result (Option ℕ) Refusal)). Ok None ∷ xs)
    (same-answers stream (Some 1) (set s.buffer 0 0xF0) (set t.buffer 0 0xF0) (omega arith) (omega arith)))
