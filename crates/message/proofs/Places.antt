-- One write after another into a buffer.
use Rattle.std.proofs.Common.{◌≡◌, ℕ, ◌+◌, ◌≤◌, List, [], ◌++◌, length, sym, refl, ap, ◌∙◌, subst, add-zero, arith}
use lib.Seq.{paste}
use borrow.Rule.Slice.PartMut.{put_mid}
use Rattle.std.proofs.lemmas.List.{length-append, take-append-drop}
use Rattle.std.proofs.lemmas.List.Edits.{paste-paste, paste_all, length-paste}
use Rattle.std.proofs.lemmas.Slice.{put_mid-paste}
use Rattle.message.specs.Writing.{written, Put, Left}

pub written_paste : (b : List ℕ) (at : ℕ) (xs : List ℕ) → paste b at xs (length xs) ≡ written b at xs
unfolding written
written_paste b at xs = paste_all b at xs (length xs) refl

pub written-part : (b : List ℕ) (at k : ℕ) (ys xs : List ℕ) → ys ≡ xs → length xs ≡ k → put_mid at k b ys ≡ written b at xs
written-part b at k ys xs e n = put_mid-paste at k b ys xs (length xs) e n refl ∙ written_paste b at xs

-- the next bytes go where the last ones ended
pub written_more : (b : List ℕ) (at : ℕ) (xs ys : List ℕ) (end : ℕ) → at ≤ length b → end ≡ at + length xs
    → written (written b at xs) end ys ≡ written b at (xs ++ ys)
written_more b at xs ys end within end_is =
    let n : length xs + length ys ≡ length (xs ++ ys) = sym (length-append xs ys) in
    ap (λ (e : ℕ). written (written b at xs) e ys) end_is
    ∙ sym (written_paste (written b at xs) (at + length xs) ys)
    ∙ ap (λ (d : List ℕ). paste d (at + length xs) ys (length ys)) (sym (written_paste b at xs))
    ∙ paste-paste b at xs ys (length xs) (length ys) refl refl within
    ∙ ap (paste b at (xs ++ ys)) n
    ∙ written_paste b at (xs ++ ys)

pub length-written : (b : List ℕ) (at : ℕ) (xs : List ℕ) → at + length xs ≤ length b → length (written b at xs) ≡ length b
length-written b at xs room = ap length (sym (written_paste b at xs)) ∙ length-paste b at xs (length xs) room (omega arith)

pub put_by : {b : List ℕ} {at : ℕ} {xs : List ℕ} {end : ℕ} {is : List ℕ}
    → at + length xs ≤ length b → end ≡ at + length xs → is ≡ written b at xs → Put b at xs end is
put_by {b} {at} {xs} {end} {is} room ends holds =
    record { room = room; ends = ends; holds = holds; long = ap length holds ∙ length-written b at xs room }

-- one write, and the next where it ended
pub and_then : {b : List ℕ} {at : ℕ} {xs ys : List ℕ} {mid end : ℕ} {was is : List ℕ}
    → Put b at xs mid was → Put was mid ys end is → Put b at (xs ++ ys) end is
and_then {b} {at} {xs} {ys} {mid} {end} {was} {is} p q =
    let n = length-append xs ys in
    let k = ap length p.holds ∙ length-written b at xs p.room in
    record {
      room = omega (arith, p.room, p.ends, q.room);
      ends = omega (arith, p.ends, q.ends);
      holds =
          q.holds ∙ ap (λ (d : List ℕ). written d mid ys) p.holds
          ∙ written_more b at xs ys mid (omega (arith, p.room)) p.ends;
      long = q.long ∙ p.long;
    }

-- the same write, by other words
pub as_bytes : {b : List ℕ} {at : ℕ} {xs ys : List ℕ} {end : ℕ} {is : List ℕ} → xs ≡ ys → Put b at xs end is → Put b at ys end is
as_bytes {b} {at} {xs} {ys} {end} {is} e p = subst (λ (zs : List ℕ). Put b at zs end is) e p

-- a loop that writes: its start, its turns and its end
pub left-none : (b : List ℕ) (at : ℕ) (bytes : List ℕ) → at + length bytes ≤ length b → Left b at bytes at b bytes
left-none b at bytes room = record { room = room; goes = refl; whole = refl }

pub left_more : {b : List ℕ} {at : ℕ} {bytes : List ℕ} {mid end : ℕ} {was is : List ℕ} (xs ys : List ℕ)
    → Left b at bytes mid was (xs ++ ys) → Put was mid xs end is → Left b at bytes end is ys
left_more {b} {at} {bytes} {mid} {end} {was} {is} xs ys p q =
    let n = length-append xs ys in
    let k = ap length q.holds ∙ length-written was mid xs q.room in
    record {
      room = omega (arith, p.room, q.ends);
      goes = omega (arith, p.goes, q.ends);
      whole =
          ap (λ (d : List ℕ). written d end ys) q.holds
          ∙ written_more was mid xs ys end (omega (arith, q.room)) q.ends
          ∙ p.whole;
    }

pub written_none : (b : List ℕ) (at : ℕ) → written b at [] ≡ b
unfolding written
written_none b at = rw add-zero (take-append-drop at b)

pub left-all : {b : List ℕ} {at : ℕ} {bytes : List ℕ} {mid : ℕ} {is : List ℕ}
    → at + length bytes ≤ length b → Left b at bytes mid is [] → Put b at bytes mid is
left-all {b} {at} {bytes} {mid} {is} room p =
    put_by room (omega (arith, p.goes)) (sym (written_none is mid) ∙ p.whole)

-- the same, by other words for the place, the buffer and what is left
pub left_as : {b : List ℕ} {at : ℕ} {bytes : List ℕ} {mid mid' : ℕ} {is is' rest rest' : List ℕ}
    → mid' ≡ mid → is' ≡ is → rest ≡ rest' → Left b at bytes mid is rest → Left b at bytes mid' is' rest'
left_as {b} {at} {bytes} {mid} {mid'} {is} {is'} {rest} {rest'} p q r h = rw (p, q, ← r) h
