-- Kinds of words by their numbers, and entries of two words.
use Rattle.std.specs.Prelude.{◌≡◌, ℕ, Bool, cond, Some, None, Option, Ok, Err, Result, ◌&&◌, length, ◌==◌, nat_le, nat_lt}
use Rattle.message.specs.Rows.{row_key, pair_key}
use Rattle.layers.specs.Lists.{member_key}
use Rattle.message.specs.declared.refusal.Refusal.{Refusal}
use Rattle.sheet.specs.declared.refusal.SheetRefusal.{SheetRefusal}
use Rattle.sheet.specs.declared.kind.Kind.{Kind}
use Rattle.sheet.specs.declared.kind.Kind.TheVariants.{First, Second, Third, Opening, Rest}
use Rattle.sheet.specs.declared.kind.Opens.{Opens}
use Rattle.sheet.specs.declared.kind.Opens.TheVariants.{Row, Member, Pair, End}
use Rattle.sheet.specs.declared.entry.Entry.{Entry}
use Rattle.sheet.specs.declared.entry.Entry.TheVariants as entry
use Rattle.sheet.specs.Words.{kind}
use Rattle.sheet.specs.Contents.{Contents, after}
use Rattle.sheet.specs.Reading.{row_of, member_of, pair_of, with_row, with_member, with_pair}

-- the numbers of the kinds that open an entry or the end
abbrev pub opens : Opens → ℕ
opens Row = 4
opens Member = 6
opens Pair = 7
opens End = 8

-- the numbers of the kinds
abbrev pub code : Kind → ℕ
code First = 1
code Second = 2
code Third = 3
code (Opening o) = opens o
code Rest = 5

abbrev pub is_kind : ℕ → Bool
is_kind n = nat_le 1 n && nat_le n 8

-- the entry of two words, of which the first tells the kind
abbrev pub entry_of : (w v : ℕ) → Entry
entry_of w v = cond (kind w == 4) (entry.Row (row_of w v)) (cond (kind w == 6) (entry.Member (member_of w v)) (entry.Pair (pair_of w v)))

-- What the word n is judged: refused there for its fault, or, if it has none, taken as some x of which P is true.
abbrev pub Judged : {X : Type 0} → (n : ℕ) → Option Refusal → (X → Type 0) → Result X SheetRefusal → Type 0
Judged n fault P (Ok x) = (fault ≡ None) × P x
Judged n fault P (Err e) = (fault ≡ Some e.refusal) × (e.word ≡ n)

-- there is a slot for one more entry of its kind
abbrev pub has_slot : Contents → Entry → Bool
has_slot c (entry.Row r) = nat_lt (length c.rows) 64
has_slot c (entry.Member m) = nat_lt (length c.members) 16
has_slot c (entry.Pair p) = nat_lt (length c.pairs) 16

-- the entry comes after those of its kind
abbrev pub comes_last : Contents → Entry → Bool
comes_last c (entry.Row r) = after row_key c.rows r
comes_last c (entry.Member m) = after member_key c.members m
comes_last c (entry.Pair p) = after pair_key c.pairs p

-- the contents with the entry
abbrev pub with_entry : Contents → Entry → Contents
with_entry c (entry.Row r) = with_row c r
with_entry c (entry.Member m) = with_member c m
with_entry c (entry.Pair p) = with_pair c p
