-- A stream of bytes: what the calls make of it, and which messages stand in it.
use Rattle.std.specs.Prelude.{ℕ, Bool, false, cond, ◌&&◌, List, [], ◌∷◌, ◌++◌, length, take, Some, None, Ok, Err, Option, Result, ◌==◌, nat_le}
use Rattle.message.specs.declared.refusal.Refusal.{Refusal}
use Rattle.collector.specs.Step.{Fed, feeds}

-- A collector and its buffer between two calls.
pub record State : Type 0 where
  pub held : Option ℕ
  pub buffer : List ℕ

-- a new collector with this buffer
abbrev pub new_with : List ℕ → State
new_with buffer = record { held = None; buffer = buffer }

-- one call, and how it leaves the two
abbrev pub call : State → ℕ → Fed
call s byte = feeds s.held byte s.buffer

abbrev pub left : Fed → State
left f = record { held = f.held; buffer = f.buffer }

-- A call for each byte of a stream: how the last leaves the two, ...
abbrev pub after : State → List ℕ → State
after s [] = s
after s (byte ∷ stream) = after (left (call s byte)) stream

-- ... what each answers, ...
abbrev pub answers : State → List ℕ → List (Result (Option ℕ) Refusal)
answers s [] = []
answers s (byte ∷ stream) = (call s byte).answer ∷ answers (left (call s byte)) stream

-- ... and the messages that they tell of: where a length is told, as many bytes of the buffer's front as it says.
abbrev pub told : Result (Option ℕ) Refusal → List ℕ → List (List ℕ)
told (Ok (Some n)) buffer = take n buffer ∷ []
told (Ok None) buffer = []
told (Err e) buffer = []

abbrev pub heard : State → List ℕ → List (List ℕ)
heard s [] = []
heard s (byte ∷ stream) = told (call s byte).answer (call s byte).buffer ++ heard (left (call s byte)) stream

-- a message with these bytes between its F0h and its F7h
abbrev pub framed : List ℕ → List ℕ
framed body = 0xF0 ∷ (body ++ (0xF7 ∷ []))

-- The messages in a stream, without a thought of buffers: leave out F8h–FFh; then each F0h that is followed by at most 510 bytes below
-- 80h and an F7h begins a message, and nothing else does.
abbrev pub without_real_time : List ℕ → List ℕ
without_real_time [] = []
without_real_time (byte ∷ stream) = cond (nat_le 0xF8 byte) (without_real_time stream) (byte ∷ without_real_time stream)

-- the bytes below 80h at the front of a stream
abbrev pub body : List ℕ → List ℕ
body [] = []
body (byte ∷ stream) = cond (nat_le 0x80 byte) [] (byte ∷ body stream)

-- the byte after them is F7h
abbrev pub closes : List ℕ → Bool
closes [] = false
closes (byte ∷ stream) = cond (nat_le 0x80 byte) (byte == 0xF7) (closes stream)

-- the message, if there is one, that an F0h before this stream begins
abbrev pub begun : List ℕ → List (List ℕ)
begun stream = cond (closes stream && nat_le (length (body stream)) 510) (framed (body stream) ∷ []) []

abbrev pub begun_in : List ℕ → List (List ℕ)
begun_in [] = []
begun_in (byte ∷ stream) = cond (byte == 0xF0) (begun stream ++ begun_in stream) (begun_in stream)

abbrev pub messages : List ℕ → List (List ℕ)
messages stream = begun_in (without_real_time stream)
