-- What holds of every stream.
use Rattle.std.specs.Prelude.{◌≡◌, ℕ, ◌≤◌, true, List, [], ◌∷◌, ◌++◌, length, take, drop, replicate, Some, None, Ok}
use Rattle.message.specs.Bytes.{sevens}
use Rattle.collector.specs.Streams.{State, new_with, call, after, answers, heard, framed, messages}

-- A message comes out whole: no message is open after it, it stands at the buffer's front, the rest of the buffer is as it was, and its
-- length is told at its F7h and at no byte before.
pub record Whole (s : State) (body : List ℕ) : Type 0 where
  pub leaves : after s (framed body) ≡ record { held = None; buffer = framed body ++ drop (length (framed body)) s.buffer }
  pub tells : answers s (framed body) ≡ replicate (length (0xF0 ∷ body)) (Ok None) ++ (Ok (Some (length (framed body))) ∷ [])

-- So does every message of at most that many bytes that nothing interrupts, whatever came before.
abbrev pub ComesOutWhole : ℕ → Type 0
ComesOutWhole longest =
    (s : State) (body : List ℕ) → 512 ≤ length s.buffer → sevens body ≡ true → length (framed body) ≤ longest → Whole s body

-- A message of n bytes: F0h, bytes below 80h, F7h.
pub record Message (n : ℕ) (bytes : List ℕ) : Type 0 where
  pub body : List ℕ
  pub shape : bytes ≡ framed body
  pub low : sevens body ≡ true
  pub long : length bytes ≡ n

-- Whatever a new collector was fed, where it tells a length, as many bytes of the buffer's front are a message.
pub record Tells (shortest n : ℕ) (front : List ℕ) : Type 0 where
  pub message : Message n front
  pub least : shortest ≤ n
  pub most : n ≤ 512

abbrev pub TellsWholeMessages : ℕ → Type 0
TellsWholeMessages shortest =
    (buffer stream : List ℕ) (byte n : ℕ) → 512 ≤ length buffer
    → (call (after (new_with buffer) stream) byte).answer ≡ Ok (Some n)
    → Tells shortest n (take n (call (after (new_with buffer) stream) byte).buffer)

-- A new collector tells exactly the messages that stand in the stream, in their order.
abbrev pub TellsTheMessages : Type 0
TellsTheMessages = (buffer stream : List ℕ) → 512 ≤ length buffer → heard (new_with buffer) stream ≡ messages stream

-- From an opening byte on the past is forgotten: whatever came before, the messages are those of the stream from there on, ...
abbrev pub OpeningForgets : ℕ → Type 0
OpeningForgets opening =
    (s : State) (stream : List ℕ) → 512 ≤ length s.buffer → heard s (opening ∷ stream) ≡ messages (opening ∷ stream)

-- ... and they are told at the same bytes.
abbrev pub OpeningAnswers : ℕ → Type 0
OpeningAnswers opening =
    (s t : State) (stream : List ℕ) → 512 ≤ length s.buffer → 512 ≤ length t.buffer
    → answers s (opening ∷ stream) ≡ answers t (opening ∷ stream)

-- A byte from the first real-time byte on, wherever it is put in, changes no message.
abbrev pub RealTimeSkipped : ℕ → Type 0
RealTimeSkipped first =
    (s : State) (stream more : List ℕ) (byte : ℕ) → first ≤ byte → heard s (stream ++ (byte ∷ more)) ≡ heard s (stream ++ more)
