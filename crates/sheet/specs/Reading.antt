-- What a sheet's words read as: the first faulty word decides.
use Rattle.std.specs.Prelude.{ℕ, ◌+◌, ◌%◌, Bool, true, cond, ◌&&◌, ◌||◌, List, [], ◌∷◌, ◌++◌, length, Some, None, Option, ◌==◌, nat_le, nat_lt}
use Rattle.message.specs.declared.row.Row.{Row}
use Rattle.layers.specs.declared.member.Member.{Member}
use Rattle.message.specs.declared.refusal.Refusal.{Refusal}
use Rattle.message.specs.declared.refusal.Refusal.TheVariants.{SheetLength, SheetOrder, FieldOutOfRange, NotRising, SetCollision}
use Rattle.message.specs.declared.pair.Pair.{Pair}
use Rattle.sheet.specs.Words.{kind, first, second, third, fourth, amount, words}
use Rattle.sheet.specs.Collisions.{clash}
use Rattle.message.specs.Bytes.{is_address, is_block}
use Rattle.message.specs.Rows.{row_key, pair_key}
use Rattle.host.specs.Rows.{tally}
use Rattle.layers.specs.Lists.{member_key}
use Rattle.sheet.specs.Contents.{Contents, is_set, after}

pub data Outcome : Type 0 where
  accepted : Contents → Outcome
  refused : Refusal → (word : ℕ) → Outcome

-- three tests of one word, in this order: its kind may stand here, its fields are in range, and it keeps order and limits
abbrev pub fault : (order range rise : Bool) → Option Refusal
fault order range rise = cond order (cond range (cond rise None (Some NotRising)) (Some FieldOutOfRange)) (Some SheetOrder)

-- rows, members, pairs and the closing word come in the order of their kinds
abbrev pub follows : (last k : ℕ) → Bool
follows last k = nat_le last k && (k == 4 || (k == 6 || (k == 7 || k == 8)))

-- the field of a first word is in range; the closing word, at n, counts the words before it
abbrev pub fits : (n w : ℕ) → Bool
fits n w = cond (kind w == 8) (amount w == n) (cond (kind w == 6) (is_set (first w)) (is_address (first w)))

-- there is a place for one more
abbrev pub room : Contents → ℕ → Bool
room c w =
    cond (kind w == 8) true
    (cond (kind w == 4) (nat_lt (length c.rows) 64 && nat_lt (tally (first w) c.rows) 21)
    (cond (kind w == 6) (nat_lt (length c.members) 16) (nat_lt (length c.pairs) 16)))

-- what is wrong with a first word at n, after an entry of the kind last
abbrev pub opening : (n last : ℕ) → Contents → ℕ → Option Refusal
opening n last c w = fault (follows last (kind w)) (fits n w) (room c w)

-- the ID in two words
abbrev pub id_of : (w v : ℕ) → List ℕ
id_of w v = second w ∷ third w ∷ fourth w ∷ first v ∷ second v ∷ []

abbrev pub row_of : (w v : ℕ) → Row
row_of w v = record { address = first w; id = id_of w v; on = (fourth v == 1) }

abbrev pub member_of : (w v : ℕ) → Member
member_of w v = record { id = id_of w v; set = first w }

abbrev pub pair_of : (w v : ℕ) → Pair
pair_of w v = record { address = first w; id = id_of w v }

-- a second word ends with 0 and, for a row alone, 1 for on
abbrev pub fits_end : (w v : ℕ) → Bool
fits_end w v = third v == 0 && nat_le (fourth v) (cond (kind w == 4) 1 0)

-- the entry comes after those of its kind
abbrev pub rises : Contents → (w v : ℕ) → Bool
rises c w v =
    cond (kind w == 4) (after row_key c.rows (row_of w v))
    (cond (kind w == 6) (after member_key c.members (member_of w v)) (after pair_key c.pairs (pair_of w v)))

-- what is wrong with the second word v, after the first word w
abbrev pub ending : Contents → (w v : ℕ) → Option Refusal
ending c w v = fault (kind v == 5) (fits_end w v) (rises c w v)

abbrev pub with_row : Contents → Row → Contents
with_row c r = record c { rows = c.rows ++ r ∷ [] }

abbrev pub with_member : Contents → Member → Contents
with_member c m = record c { members = c.members ++ m ∷ [] }

abbrev pub with_pair : Contents → Pair → Contents
with_pair c p = record c { pairs = c.pairs ++ p ∷ [] }

-- the contents with the entry of two words
abbrev pub entered : Contents → (w v : ℕ) → Contents
entered c w v =
    cond (kind w == 4) (with_row c (row_of w v))
    (cond (kind w == 6) (with_member c (member_of w v)) (with_pair c (pair_of w v)))

-- a faulty word is told; else reading goes on
abbrev pub judged : ℕ → Option Refusal → Outcome → Outcome
judged n (Some e) rest = refused e n
judged n None rest = rest

-- the words from n on, after an entry of the kind last: entries of two words, and the closing word at the very end
unfoldable pub body : (n last : ℕ) → Contents → List ℕ → Outcome
body n last c [] = refused SheetOrder n
body n last c (w ∷ []) = judged n (opening n last c w) (cond (kind w == 8) (accepted c) (refused SheetOrder (n + 1)))
body n last c (w ∷ v ∷ ws) =
    judged n (opening n last c w)
    (cond (kind w == 8) (refused SheetOrder (n + 1))
    (judged (n + 1) (ending c w v) (body (n + 2) (kind w) (entered c w v) ws)))

-- the first three words have twelve fields: eleven identity bytes
abbrev pub identity_of : (u v w : ℕ) → List ℕ
identity_of u v w = first u ∷ second u ∷ third u ∷ fourth u ∷ first v ∷ second v ∷ third v ∷ fourth v ∷ first w ∷ second w ∷ third w ∷ []

-- and the Function Block
abbrev pub headed : (u v w : ℕ) → Contents
headed u v w = record { identity = identity_of u v w; block = fourth w; rows = []; members = []; pairs = [] }

-- the first three words
abbrev pub header : (u v w : ℕ) → Outcome
header u v w =
    judged 0 (fault (kind u == 1) true true)
    (judged 1 (fault (kind v == 2) true true)
    (judged 2 (fault (kind w == 3) (is_block (fourth w)) true)
    (accepted (headed u v w))))

-- the words after them
abbrev pub continued : Outcome → List ℕ → Outcome
continued (refused e n) ws = refused e n
continued (accepted c) ws = body 3 4 c ws

-- all words of a sheet, of which there are four at least
abbrev pub reads_words : List ℕ → Outcome
reads_words [] = refused SheetOrder 0
reads_words (u ∷ []) = refused SheetOrder 1
reads_words (u ∷ v ∷ []) = refused SheetOrder 2
reads_words (u ∷ v ∷ w ∷ ws) = continued (header u v w) ws

-- two rows on in one set at one address are told at the later one
abbrev pub judged_sets : Option ℕ → Contents → Outcome
judged_sets (Some n) c = refused SetCollision n
judged_sets None c = accepted c

-- the last look, at the rows that are on
abbrev pub settled : Outcome → Outcome
settled (refused e n) = refused e n
settled (accepted c) = judged_sets (clash c.members 3 [] c.rows) c

-- 16 to 784 bytes, in whole words
abbrev pub sized : ℕ → Bool
sized n = nat_le 16 n && (nat_le n 784 && n % 4 == 0)

-- what the bytes of a sheet read as
abbrev pub reads : List ℕ → Outcome
reads bs = cond (sized (length bs)) (settled (reads_words (words bs))) (refused SheetLength 0)
