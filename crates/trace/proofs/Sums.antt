-- The counts of a stream that comes in blocks.
use Rattle.std.proofs.Common.{◌≡◌, ℕ, ◌+◌, ◌-◌, ◌^◌, ◌<◌, ◌≤◌, cond, List, [], ◌∷◌, ◌++◌, length, replicate, sum_by, count_by, sym, refl, ap, ◌∙◌, append_assoc, arith}
use Rattle.std.specs.List.{concat}
use Rattle.std.proofs.lemmas.List.{length-append}
use Rattle.std.proofs.lemmas.List.Sums.{sum_by-cons, sum_by-append}
use Rattle.message.specs.Messages.{framed}
use Rattle.collector.specs.Streams.{State, new_with, call, left, told, after, heard, messages}
use Rattle.collector.specs.Laws.{TellsTheMessages}
use Rattle.trace.specs.declared.counts.Counts.{Counts}
use Rattle.trace.specs.Counting.{up, none, with_bytes, counted, all_counted}
use Rattle.trace.specs.Tracing.{Traced, new_tracer, takes}
use Rattle.trace.specs.Laws.{running, capped, CountsTheStream}

up_up : (a m n : ℕ) → up (up a m) n ≡ up a (m + n)
up_up a m n = omega arith

up-within : (a n : ℕ) → up a n ≤ 2 ^ 64 - 1
up-within a n = omega arith

up_none : (a : ℕ) → a ≤ 2 ^ 64 - 1 → a ≡ up a 0
up_none a p = omega arith

heard-append : (s : State) (xs ys : List ℕ) → heard s (xs ++ ys) ≡ heard s xs ++ heard (after s xs) ys
heard-append s [] ys = refl
heard-append s (x ∷ xs) ys =
    let f = call s x in
    let first = told f.answer f.buffer in
    ap (λ (ms : List (List ℕ)). first ++ ms) (heard-append (left f) xs ys)
    ∙ sym (append_assoc first (heard (left f) xs) (heard (after (left f) xs) ys))

-- a count to which each message adds its weight, and bytes read add nothing
record Count : Type 0 where
  pub of : Counts → ℕ
  pub weight : List ℕ → ℕ
  pub adds : (c : Counts) (m : List ℕ) → of (counted c m) ≡ up (of c) (weight m)
  pub apart : (c : Counts) (n : ℕ) → of (with_bytes c n) ≡ of c

counted-all : (k : Count) (c : Counts) (ms : List (List ℕ)) → k.of c ≤ 2 ^ 64 - 1
    → k.of (all_counted c ms) ≡ up (k.of c) (sum_by k.weight ms)
counted-all k c [] p = up_none (k.of c) p
counted-all k c (m ∷ ms) p =
    let e = k.adds c m in
    counted-all k (counted c m) ms (rw e (up-within (k.of c) (k.weight m)))
    ∙ ap (λ (a : ℕ). up a (sum_by k.weight ms)) e
    ∙ up_up (k.of c) (k.weight m) (sum_by k.weight ms)
    ∙ ap (up (k.of c)) (sym (sum_by-cons k.weight m ms))

in_blocks : (k : Count) (t : Traced) (blocks : List (List ℕ)) → k.of t.counts ≤ 2 ^ 64 - 1
    → k.of (running t blocks).counts ≡ up (k.of t.counts) (sum_by k.weight (heard t.collecting (concat blocks)))
in_blocks k t [] p = up_none (k.of t.counts) p
in_blocks k t (b ∷ bs) p =
    let n = k.of t.counts in
    let ms = heard t.collecting b in
    let rest = heard (after t.collecting b) (concat bs) in
    let a = k.apart t.counts (length b) in
    let e : k.of (takes t b).counts ≡ up n (sum_by k.weight ms) =
    counted-all k (with_bytes t.counts (length b)) ms (rw a p) ∙ ap (λ (x : ℕ). up x (sum_by k.weight ms)) a in
    in_blocks k (takes t b) bs (rw e (up-within n (sum_by k.weight ms)))
    ∙ ap (λ (x : ℕ). up x (sum_by k.weight rest)) e
    ∙ up_up n (sum_by k.weight ms) (sum_by k.weight rest)
    ∙ ap (up n) (sym (sum_by-append k.weight ms rest) ∙ ap (sum_by k.weight) (sym (heard-append t.collecting b (concat bs))))

bytes-kept : (c : Counts) (ms : List (List ℕ)) → (all_counted c ms).bytes ≡ c.bytes
bytes-kept c [] = refl
bytes-kept c (m ∷ ms) = bytes-kept (counted c m) ms

bytes_in_blocks : (t : Traced) (blocks : List (List ℕ)) → t.counts.bytes ≤ 2 ^ 64 - 1
    → (running t blocks).counts.bytes ≡ up t.counts.bytes (length (concat blocks))
bytes_in_blocks t [] p = up_none t.counts.bytes p
bytes_in_blocks t (b ∷ bs) p =
    let n = t.counts.bytes in
    let e : (takes t b).counts.bytes ≡ up n (length b) =
    bytes-kept (with_bytes t.counts (length b)) (heard t.collecting b) in
    bytes_in_blocks (takes t b) bs (rw e (up-within n (length b)))
    ∙ ap (λ (x : ℕ). up x (length (concat bs))) e
    ∙ up_up n (length b) (length (concat bs))
    ∙ ap (up n) (sym (length-append b (concat bs)))

-- the three counts
abbrev of_messages : Count
of_messages = record { of = λ c. c.messages; weight = λ _. 1; adds = λ c m. refl; apart = λ c n. refl }

abbrev of_midi_ci : Count
of_midi_ci = record { of = λ c. c.midi_ci; weight = λ m. cond (framed m) 1 0; adds = λ c m. refl; apart = λ c n. refl }

abbrev of_bytes : Count
of_bytes = record { of = λ c. c.told; weight = length; adds = λ c m. refl; apart = λ c n. refl }

number : (ms : List (List ℕ)) → sum_by (λ _. 1) ms ≡ length ms
number [] = refl
number (m ∷ ms) = let k = number ms in let e = sum_by-cons (λ _. 1) m ms in omega arith

from_none : (n : ℕ) → up 0 n ≡ capped n
from_none n = omega arith

-- what one of the counts comes to from nothing
comes_to : TellsTheMessages → (k : Count) (total : List (List ℕ) → ℕ) (blocks : List (List ℕ)) → k.of none ≡ 0
    → ((ms : List (List ℕ)) → sum_by k.weight ms ≡ total ms)
    → k.of (running new_tracer blocks).counts ≡ capped (total (messages (concat blocks)))
comes_to tells k total blocks z same =
    let stream = concat blocks in
    let ms = heard (new_with (replicate 512 0)) stream in
    in_blocks k new_tracer blocks (rw z (omega arith))
    ∙ ap (λ (a : ℕ). up a (sum_by k.weight ms)) z
    ∙ from_none (sum_by k.weight ms)
    ∙ ap capped (same ms ∙ ap total (tells (replicate 512 0) stream (omega arith)))

skips : (b t n m : ℕ) → b ≡ capped n → t ≡ capped m → n < 2 ^ 64 → b - t ≡ n - m
skips b t n m p q r = omega arith

pub counts_the_stream : TellsTheMessages → CountsTheStream
counts_the_stream tells blocks =
    let stream = concat blocks in
    let read = bytes_in_blocks new_tracer blocks (omega arith) ∙ from_none (length stream) in
    let in-messages = comes_to tells of_bytes (sum_by length) blocks refl (λ ms. refl) in
    record {
      bytes = read;
      messages_told = comes_to tells of_messages length blocks refl number;
      of_midi_ci = comes_to tells of_midi_ci (count_by framed) blocks refl (λ ms. refl);
      bytes_told = in-messages;
      bytes_skipped = skips _ _ (length stream) (sum_by length (messages stream)) read in-messages;
    }
