-- What each call does, what a collector tells of a stream, and the messages that stand in it.
use Rattle.std.proofs.Common.{◌≡◌, ℕ, ◌+◌, ◌<◌, ◌≤◌, Bool, true, false, cond, ◌&&◌, ltb, leb, List, [], ◌∷◌, ◌++◌, length, take, Some, None, Ok, Err, Option, Result, sym, refl, ap, ◌∙◌, subst, inl, inr, append_assoc, arith}
use Rattle.std.proofs.lemmas.List.{length-append, length_push, take_at, append-nil}
use Rattle.std.proofs.lemmas.Bool.{and_parts, le-leb, lt-leb, cases_lt, cases_eq}
use Rattle.std.proofs.lemmas.Bool.Decides.{nat_tests}
use Rattle.message.specs.declared.refusal.Refusal.{Refusal}
use Rattle.collector.specs.Step.{Fed, quiet, ended, feeds}
use Rattle.message.specs.Bytes.{sevens}
use Rattle.collector.specs.Streams.{State, new_with, call, left, after, told, heard, framed, without_real_time, body, closes, begun_in}
use Rattle.collector.specs.Laws.{TellsTheMessages, OpeningForgets, Tells, TellsWholeMessages}
use Rattle.collector.proofs.Runs.{state_of, opens, joins_open, ends_open, same_length}

-- what a call does, by its byte
skips : (h : Option ℕ) (y : ℕ) (b : List ℕ) → 0xF8 ≤ y → 512 ≤ length b → feeds h y b ≡ quiet h b
skips h y b p r = grind (arith, nat_tests)

idles : (y : ℕ) (b : List ℕ) → y < 0xF8 → (y ≡ 0xF0 → ⊥) → 512 ≤ length b → feeds None y b ≡ quiet None b
idles y b p q r = grind (arith, nat_tests)

drops : (n y : ℕ) (b : List ℕ) → y < 0xF8 → (y ≡ 0xF0 → ⊥) → (y ≡ 0xF7 → ⊥) → 0x80 ≤ y → 512 ≤ length b
    → feeds (Some n) y b ≡ quiet None b
drops n y b p q s t r = grind (arith, nat_tests)

-- The message that an open one, with xs after its F0h, becomes.
abbrev becomes : List ℕ → List ℕ → List (List ℕ)
becomes xs stream = cond (closes stream && leb (length (xs ++ body stream)) 510) (framed (xs ++ body stream) ∷ []) []

becomes-joined : (xs ys : List ℕ) (y : ℕ) → y < 0x80 → becomes xs (y ∷ ys) ≡ becomes (xs ++ (y ∷ [])) ys
becomes-joined xs ys y p = let k = append_assoc xs (y ∷ []) (body ys) in grind (arith, nat_tests)

-- a byte from 80h other than F7h follows
becomes_dropped : (xs ys : List ℕ) (y : ℕ) → 0x80 ≤ y → (y ≡ 0xF7 → ⊥) → becomes xs (y ∷ ys) ≡ []
becomes_dropped xs ys y p q = grind (arith, nat_tests)

-- too long already
becomes-long : (xs stream : List ℕ) → 510 < length xs → becomes xs stream ≡ []
becomes-long xs stream p = let k = length-append xs (body stream) in grind (arith, nat_tests)

becomes-ended : (xs ys : List ℕ) → length xs ≤ 510 → becomes xs (0xF7 ∷ ys) ≡ framed xs ∷ []
becomes-ended xs ys p = let k = append-nil xs in grind (arith, nat_tests)

passes : (y : ℕ) (ys : List ℕ) → (y ≡ 0xF0 → ⊥) → begun_in (y ∷ ys) ≡ begun_in ys
passes y ys p = grind (arith, nat_tests)

-- what an open message may hold
abbrev Fine : Option (List ℕ) → Type 0
Fine None = Unit {0}
Fine (Some xs) = (length xs ≤ 511) × (sevens xs ≡ true)

abbrev pending : Option (List ℕ) → List ℕ → List (List ℕ)
pending None stream = []
pending (Some xs) stream = becomes xs stream

abbrev means : Option (List ℕ) → List ℕ → List (List ℕ)
means o stream = pending o stream ++ begun_in stream

data_push : (xs : List ℕ) (y : ℕ) → sevens xs ≡ true → y < 0x80 → sevens (xs ++ (y ∷ [])) ≡ true
data_push [] y p q = grind (arith, nat_tests)
data_push (x ∷ xs) y p q =
    let parts = and_parts (ltb x 0x80) (sevens xs) p in
    let k = data_push xs y parts.1 q in
    grind (arith, nat_tests)

full_open : (xs b : List ℕ) (y : ℕ) → length xs ≡ 511 → y < 0xF8 → (y ≡ 0xF0 → ⊥) → 512 ≤ length b
    → feeds (Some (length (0xF0 ∷ xs))) y b ≡ quiet None b
full_open xs b y e p q r = grind (arith, nat_tests)

-- the collector is fine
pub record Sound (s : State) : Type 0 where
  pub open_now : Option (List ℕ)
  pub rest : List ℕ
  pub is : s ≡ state_of open_now rest
  pub fine : Fine open_now
  pub long : 512 ≤ length (state_of open_now rest).buffer

-- What a call does where a stream without F8h–FFh, of which more is to come, has a meaning before it: it leaves the collector fine,
-- what it tells is a message, and that and the meaning of what is left make up the meaning before.
pub record Moves (f : Fed) (before : List ℕ → List (List ℕ)) : Type 0 where
  pub leaves : Sound (left f)
  pub tells : (n : ℕ) → f.answer ≡ Ok (Some n) → Tells 2 n (take n f.buffer)
  pub adds_up : (stream : List ℕ) → before stream ≡ told f.answer f.buffer ++ means leaves.open_now stream

-- one more than the length that is told, or 0
abbrev told_by : Result (Option ℕ) Refusal → ℕ
told_by (Ok (Some n)) = n + 1
told_by (Ok None) = 0
told_by (Err e) = 0

goes_on : (f : Fed) (before : List ℕ → List (List ℕ)) (o : Option (List ℕ)) (rest : List ℕ) → Fine o
    → 512 ≤ length (state_of o rest).buffer → f ≡ quiet (state_of o rest).held (state_of o rest).buffer
    → ((stream : List ℕ) → before stream ≡ means o stream) → Moves f before
goes_on f before o rest fine r e same =
    record {
      leaves = record { open_now = o; rest = rest; is = ap left e; fine = fine; long = r };
      tells = λ n t.
          let z : ◌≡◌ {A = ℕ} 0 (n + 1) = sym (ap (λ (x : Fed). told_by x.answer) e) ∙ ap told_by t in
          absurd (omega arith);
      adds_up = λ stream. same stream ∙ ap (λ (x : Fed). told x.answer x.buffer ++ means o stream) (sym e);
    }

ends : (f : Fed) (before : List ℕ → List (List ℕ)) (xs rest : List ℕ) → sevens xs ≡ true → length xs ≤ 510
    → 512 ≤ length (framed xs ++ rest) → f ≡ ended (length (framed xs)) (framed xs ++ rest)
    → ((stream : List ℕ) → before stream ≡ framed xs ∷ begun_in stream) → Moves f before
ends f before xs rest low few r e same =
    record {
      leaves = record { open_now = None; rest = framed xs ++ rest; is = ap left e; fine = tt; long = r };
      tells = λ n t.
          let z : length (framed xs) + 1 ≡ n + 1 = sym (ap (λ (x : Fed). told_by x.answer) e) ∙ ap told_by t in
          let m : length (framed xs) ≡ n = omega (arith, z) in
          let k = length_push xs 0xF7 in
          let shape : take n f.buffer ≡ framed xs = ap (λ (x : Fed). take n x.buffer) e ∙ take_at (framed xs) rest n m in
          record {
            message = record { body = xs; shape = shape; low = low; long = ap length shape ∙ m };
            least = omega (arith, m);
            most = omega (arith, m, few);
          };
      adds_up = λ stream.
          same stream
          ∙ ap (λ (m : List ℕ). m ∷ begun_in stream) (sym (take_at (framed xs) rest (length (framed xs)) refl))
          ∙ ap (λ (x : Fed). told x.answer x.buffer ++ begun_in stream) (sym e);
    }

opens_one : (h : Option ℕ) (b : List ℕ) → 512 ≤ length b → Moves (feeds h 0xF0 b) (λ stream. begun_in (0xF0 ∷ stream))
opens_one h [] r = absurd (omega arith)
opens_one h (z ∷ b) r =
    goes_on (feeds h 0xF0 (z ∷ b)) _ (Some []) b (omega arith, refl) r (opens h (z ∷ b) r) (λ stream. refl)

opens_at : (o : Option (List ℕ)) (rest : List ℕ) → 512 ≤ length (state_of o rest).buffer
    → Moves (call (state_of o rest) 0xF0) (λ stream. means o (0xF0 ∷ stream))
opens_at None rest r = opens_one None rest r
opens_at (Some xs) rest r = opens_one (Some (length (0xF0 ∷ xs))) ((0xF0 ∷ xs) ++ rest) r

-- an open message is dropped
drops_it : (xs stream : List ℕ) (y : ℕ) → (y ≡ 0xF0 → ⊥) → becomes xs (y ∷ stream) ≡ [] → means (Some xs) (y ∷ stream) ≡ begun_in stream
drops_it xs stream y q n = ap (λ (ms : List (List ℕ)). ms ++ begun_in (y ∷ stream)) n ∙ passes y stream q

-- a byte other than F0h and F8h–FFh at an open message that has room for it
grows : (xs rest : List ℕ) (y : ℕ) → Fine (Some xs) → length xs < 511 → 512 ≤ length ((0xF0 ∷ xs) ++ rest) → y < 0xF8
    → (y ≡ 0xF0 → ⊥) → Moves (call (state_of (Some xs) rest) y) (λ stream. means (Some xs) (y ∷ stream))
grows xs [] y fine room r p q = let k = length-append xs [] in absurd (omega arith)
grows xs (z ∷ rest) y fine room r p q =
    let f = call (state_of (Some xs) (z ∷ rest)) y in
    elim (cases_lt y 0x80) [
      | inl low ↦
          let k = length_push xs y in
          let same = same_length (0xF0 ∷ xs) rest z y in
          goes_on f _ (Some (xs ++ (y ∷ []))) rest (omega arith, data_push xs y fine.1 low) (omega arith) (joins_open xs rest z y room low r)
          (λ stream.
          ap (λ (ms : List (List ℕ)). ms ++ begun_in (y ∷ stream)) (becomes-joined xs stream y low)
          ∙ ap (λ (ms : List (List ℕ)). becomes (xs ++ (y ∷ [])) stream ++ ms) (passes y stream q))
      | inr high ↦ elim (cases_eq y 0xF7) [
        | inl e ↦
            let same = same_length (0xF0 ∷ xs) rest z 0xF7 in
            ends f _ xs rest fine.1 (omega arith) (omega arith)
            (ap (λ (b : ℕ). call (state_of (Some xs) (z ∷ rest)) b) e ∙ ends_open xs rest z room r)
            (λ stream.
            ap (λ (b : ℕ). means (Some xs) (b ∷ stream)) e
            ∙ ap (λ (ms : List (List ℕ)). ms ++ begun_in stream) (becomes-ended xs stream (omega arith)))
        | inr ne ↦
            goes_on f _ None ((0xF0 ∷ xs) ++ (z ∷ rest)) tt r
            (drops (length (0xF0 ∷ xs)) y ((0xF0 ∷ xs) ++ (z ∷ rest)) p q ne high r)
            (λ stream. drops_it xs stream y q (becomes_dropped xs stream y high ne))
      ]
    ]

plainly : (o : Option (List ℕ)) (rest : List ℕ) (y : ℕ) → Fine o → 512 ≤ length (state_of o rest).buffer → y < 0xF8
    → (y ≡ 0xF0 → ⊥) → Moves (call (state_of o rest) y) (λ stream. means o (y ∷ stream))
plainly None rest y fine r p q =
    goes_on (call (state_of None rest) y) _ None rest tt r (idles y rest p q r) (λ stream. passes y stream q)
plainly (Some xs) rest y fine r p q =
    elim (cases_lt (length xs) 511) [
      | inl room ↦ grows xs rest y fine room r p q
      | inr none ↦
          let n : length xs ≡ 511 = omega (arith, fine.0) in
          goes_on (call (state_of (Some xs) rest) y) _ None ((0xF0 ∷ xs) ++ rest) tt r (full_open xs ((0xF0 ∷ xs) ++ rest) y n p q r)
          (λ stream. drops_it xs stream y q (becomes-long xs (y ∷ stream) (omega arith)))
    ]

-- F8h–FFh are left out of the stream
abbrev At : Option (List ℕ) → List ℕ → ℕ → Bool → Type 0
At o rest y real_time = Moves (call (state_of o rest) y) (λ stream. means o (cond real_time stream (y ∷ stream)))

moves : (o : Option (List ℕ)) (rest : List ℕ) (y : ℕ) → Fine o → 512 ≤ length (state_of o rest).buffer → At o rest y (leb 0xF8 y)
moves o rest y fine r =
    elim (cases_lt y 0xF8) [
      | inl low ↦
          subst (At o rest y) (sym (lt-leb 0xF8 y low))
          (elim (cases_eq y 0xF0) [
            | inl e ↦ subst (λ (b : ℕ). At o rest b false) (sym e) (opens_at o rest r)
            | inr ne ↦ plainly o rest y fine r low ne
          ])
      | inr high ↦
          subst (At o rest y) (sym (le-leb 0xF8 y high))
          (goes_on (call (state_of o rest) y) _ o rest fine r (skips (state_of o rest).held y (state_of o rest).buffer high r) (λ stream. refl))
    ]

moves_of : (s : State) (y : ℕ) (h : Sound s) → Moves (call s y) (λ stream. means h.open_now (cond (leb 0xF8 y) stream (y ∷ stream)))
moves_of s y h =
    subst (λ (t : State). Moves (call t y) (λ stream. means h.open_now (cond (leb 0xF8 y) stream (y ∷ stream)))) (sym h.is)
    (moves h.open_now h.rest y h.fine h.long)

ended_stream : (o : Option (List ℕ)) → [] ≡ means o []
ended_stream None = refl
ended_stream (Some xs) = refl

meaning : (stream : List ℕ) (s : State) (h : Sound s) → heard s stream ≡ means h.open_now (without_real_time stream)
meaning [] s h = ended_stream h.open_now
meaning (y ∷ stream) s h =
    let f = call s y in
    let m = moves_of s y h in
    ap (λ (ms : List (List ℕ)). told f.answer f.buffer ++ ms) (meaning stream (left f) m.leaves)
    ∙ sym (m.adds_up (without_real_time stream))

abbrev new_sound : (buffer : List ℕ) → 512 ≤ length buffer → Sound (new_with buffer)
new_sound buffer r = record { open_now = None; rest = buffer; is = refl; fine = tt; long = r }

pub tells_the_messages : TellsTheMessages
tells_the_messages buffer stream r = meaning stream (new_with buffer) (new_sound buffer r)

pub opening_forgets : OpeningForgets 0xF0
opening_forgets s stream r =
    let f = call s 0xF0 in
    let m = opens_one s.held s.buffer r in
    ap (λ (ms : List (List ℕ)). told f.answer f.buffer ++ ms) (meaning stream (left f) m.leaves)
    ∙ sym (m.adds_up (without_real_time stream))

sound-after : (stream : List ℕ) (s : State) → Sound s → Sound (after s stream)
sound-after [] s h = h
sound-after (y ∷ stream) s h = sound-after stream (left (call s y)) (moves_of s y h).leaves

pub tells-whole : TellsWholeMessages 2
tells-whole buffer stream y n r e =
    (moves_of (after (new_with buffer) stream) y (sound-after stream (new_with buffer) (new_sound buffer r))).tells n e
