-- The entry of two words, by the kind of the first.
use Rattle.std.proofs.Common.{◌≡◌, ℕ, Bool, true, false, cond, ◌&&◌, eqb, ltb, length, refl, arith}
use Rattle.std.proofs.lemmas.Bool.{and_parts, ne_eqb, both_ways}
use Rattle.host.specs.Rows.{tally}
use Rattle.sheet.specs.declared.kind.Opens.{Opens}
use Rattle.sheet.specs.declared.kind.Opens.TheVariants.{Row, Member, Pair, End}
use Rattle.sheet.specs.declared.entry.Entry.TheVariants as entry
use Rattle.sheet.specs.Words.{kind, first}
use Rattle.sheet.specs.Contents.{Contents}
use Rattle.sheet.specs.Entries.{opens, entry_of, has_slot, with_entry}
use Rattle.sheet.specs.Reading.{room, row_of, member_of, pair_of, with_row, with_member, with_pair, entered}

pub end_only : (k : Opens) → opens k ≡ 8 → k ≡ End
end_only Row e = absurd (omega arith)
end_only Member e = absurd (omega arith)
end_only Pair e = absurd (omega arith)
end_only End e = refl

-- where there is room for a word's entry, there is a slot for it
pub entry_slot : (c : Contents) (w v : ℕ) → room c w ≡ true → (kind w ≡ 8 → ⊥) → has_slot c (entry_of w v) ≡ true
entry_slot c w v h n8 = slot (eqb (kind w) 8) (eqb (kind w) 4) (eqb (kind w) 6) (ne_eqb (kind w) 8 n8) h
  where
    slot : (e f g : Bool) → e ≡ false → cond e true (cond f (ltb (length c.rows) 64 && ltb (tally (first w) c.rows) 21) (cond g (ltb (length c.members) 16) (ltb (length c.pairs) 16))) ≡ true
        → has_slot c (cond f (entry.Row (row_of w v)) (cond g (entry.Member (member_of w v)) (entry.Pair (pair_of w v)))) ≡ true
    slot true f g e h = absurd (both_ways true e refl)
    slot false true g e h = (and_parts _ _ h).0
    slot false false true e h = h
    slot false false false e h = h

pub entry_in : (c : Contents) (w v : ℕ) → with_entry c (entry_of w v) ≡ entered c w v
entry_in c w v = put (eqb (kind w) 4) (eqb (kind w) 6)
  where
    put : (f g : Bool) → with_entry c (cond f (entry.Row (row_of w v)) (cond g (entry.Member (member_of w v)) (entry.Pair (pair_of w v)))) ≡ cond f (with_row c (row_of w v)) (cond g (with_member c (member_of w v)) (with_pair c (pair_of w v)))
    put true g = refl
    put false true = refl
    put false false = refl
