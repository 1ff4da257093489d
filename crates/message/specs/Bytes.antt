-- What the bytes inside a message may be.
use Rattle.std.specs.Prelude.{ℕ, Bool, ◌&&◌, ◌||◌, List, length, ◌==◌, nat_le, nat_lt}
use Rattle.std.specs.List.{list_all}

-- every byte has seven bits
abbrev pub sevens : List ℕ → Bool
sevens bs = list_all (λ b. nat_lt b 0x80) bs

-- Channels 1 to 16 are 00h to 0Fh, the Group is 7Eh, the Function Block 7Fh
abbrev pub is_address : ℕ → Bool
is_address a = nat_lt a 0x10 || (a == 0x7E || a == 0x7F)

-- a Profile ID has five bytes of seven bits
abbrev pub is_id : List ℕ → Bool
is_id i = length i == 5 && sevens i

-- manufacturer (3), family (2), model (2) and revision (4): eleven bytes of seven bits
abbrev pub is_identity : List ℕ → Bool
is_identity i = length i == 11 && sevens i

-- a Function Block is one of 0 to 31, or 127 for none in particular
abbrev pub is_block : ℕ → Bool
is_block n = nat_le n 31 || n == 127
