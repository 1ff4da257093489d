-- What a writer leaves in a buffer.
use Rattle.std.specs.Prelude.{◌≡◌, ℕ, ◌+◌, ◌≤◌, Bool, cond, ◌&&◌, List, ◌++◌, length, take, drop, Ok, Err, Result, nat_le}
use Rattle.message.specs.declared.refusal.Refusal.{Refusal}

-- a buffer with these bytes from a place on, and everything else as it was
unfoldable pub written : List ℕ → ℕ → List ℕ → List ℕ
written buffer at bytes = take at buffer ++ (bytes ++ drop (at + length bytes) buffer)

-- a message has at most 512 bytes, and all of it goes into what is left of the buffer
abbrev pub room_for : ℕ → List ℕ → ℕ → Bool
room_for n buffer at = nat_le n 512 && nat_le (at + n) (length buffer)

-- A message written at a place: the place where it ends is told. Where it does not fit, the call is refused and the buffer stays.
pub record Written (bytes before : List ℕ) (at : ℕ) (r : Result ℕ Refusal) (after : List ℕ) : Type 0 where
  pub value : r ≡ cond (room_for (length bytes) before at) (Ok (at + length bytes)) (Err Refusal.BufferTooSmall)
  pub holds : after ≡ cond (room_for (length bytes) before at) (written before at bytes) before

-- bytes put where there is room for them: everything else is as it was
pub record Put (before : List ℕ) (at : ℕ) (bytes : List ℕ) (end : ℕ) (after : List ℕ) : Type 0 where
  pub room : at + length bytes ≤ length before
  pub ends : end ≡ at + length bytes
  pub holds : after ≡ written before at bytes
  pub long : length after ≡ length before

-- part of the bytes is put, up to a place `mid`; the buffer as it is there, with what is left put on, is the whole
pub record Left (before : List ℕ) (at : ℕ) (bytes : List ℕ) (mid : ℕ) (is : List ℕ) (rest : List ℕ) : Type 0 where
  pub room : mid + length rest ≤ length is
  pub goes : mid + length rest ≡ at + length bytes
  pub whole : written is mid rest ≡ written before at bytes
