-- A message as its fields, and as its bytes.
use Rattle.std.specs.Prelude.{ℕ, ◌+◌, ◌-◌, ◌*◌, ◌/◌, ◌%◌, Bool, ◌&&◌, List, [], ◌∷◌, ◌++◌, length, take, drop, ◌==◌, nat_le, slice_index}
use Rattle.message.specs.Bytes.{sevens}

-- the fields of any message; the body is all between the destination and the end
pub record Fields : Type 0 where
  pub address : ℕ
  pub sub : ℕ
  pub version : ℕ
  pub source : ℕ
  pub destination : ℕ
  pub body : List ℕ

-- a MUID of 28 bits is sent as four bytes of seven bits, lowest first
abbrev pub muid : ℕ → List ℕ
muid n = n % 0x80 ∷ n / 0x80 % 0x80 ∷ n / 0x4000 % 0x80 ∷ n / 0x200000 ∷ []

-- `F0 7E` address `0D` Sub-ID version, source, destination, body, `F7`
abbrev pub encode : Fields → List ℕ
encode m =
    0xF0 ∷ 0x7E ∷ m.address ∷ 0x0D ∷ m.sub ∷ m.version ∷ (muid m.source ++ (muid m.destination ++ (m.body ++ 0xF7 ∷ [])))

-- what stands before the body of a message that is sent, whose version is 02h
abbrev pub header : (sub address source destination : ℕ) → List ℕ
header sub a source destination = (0xF0 ∷ 0x7E ∷ a ∷ 0x0D ∷ sub ∷ 0x02 ∷ []) ++ (muid source ++ muid destination)

-- the frame: 15 to 512 bytes, the fixed ones in their places, and no byte from 80h between the first and the last
abbrev pub framed : List ℕ → Bool
framed bs =
    nat_le 15 (length bs) && (nat_le (length bs) 512
    && (slice_index bs 0 == 0xF0 && (slice_index bs 1 == 0x7E && (slice_index bs 3 == 0x0D
    && (slice_index bs (length bs - 1) == 0xF7 && sevens (take (length bs - 2) (drop 1 bs)))))))

-- the number that four bytes from k on say
abbrev pub number_at : ℕ → List ℕ → ℕ
number_at k bs = slice_index bs k + slice_index bs (k + 1) * 0x80 + slice_index bs (k + 2) * 0x4000 + slice_index bs (k + 3) * 0x200000

-- the fields of framed bytes, each at its place
abbrev pub fields : List ℕ → Fields
fields bs =
    record {
      address = slice_index bs 2;
      sub = slice_index bs 4;
      version = slice_index bs 5;
      source = number_at 6 bs;
      destination = number_at 10 bs;
      body = take (length bs - 15) (drop 14 bs);
    }
