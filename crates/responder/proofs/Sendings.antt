-- What is written to the answer buffer is what is sent.
use Rattle.std.proofs.Common.{◌≡◌, ℕ, ◌+◌, ◌≤◌, Bool, true, false, List, [], ◌∷◌, ◌++◌, length, take, drop, Ok, Err, Result, IsOk, sym, refl, ap, ◌∙◌, subst, zero-add, arith}
use Rattle.std.specs.Bool.{⊤}
use Rattle.std.specs.Array.{IsFirstChunk}
use Rattle.std.proofs.lemmas.List.{take_at, drop_at, length-append, append-nil, take-append-le, drop-append-le, take-append-drop}
use Rattle.std.proofs.lemmas.Bool.{and_from, both_ways, le-leb}
use Rattle.message.specs.Messages.{Fields, encode}
use Rattle.message.specs.Writing.{written, room_for, Put}
use Rattle.message.specs.Pens.{Room, Puts, PutOrNot}
use Rattle.message.specs.declared.pen.Pen.{Pen}
use Rattle.message.specs.declared.refusal.Refusal.{Refusal}
use Rattle.message.specs.Sending.{supports, channels, discover, discover_reply, report, added_report, removed_report, meant}
use Rattle.message.specs.declared.sent.Sent.{Sent}
use Rattle.message.specs.declared.sent.Sent.TheVariants.{Discovery, DiscoveryReply, InvalidateMuid, Enabled, Disabled, Added, Removed, Nak}
use Rattle.message.proofs.Encoding.{length-encode}
use Rattle.message.proofs.Places.{and_then, as_bytes}
use Rattle.message.proofs.Trips.{identity-sevens, id_sevens}
use Rattle.responder.specs.Steps.{sent, Outcome, outcome, bytes, Rest, Sends, State, Done}
use Rattle.responder.specs.Plans.{Plan, send}
use Rattle.message.specs.declared.row.Row.{Row}
use Rattle.host.specs.Hosts.{Consents}

-- a message that has room is put
pub put_fits : (bs : List ℕ) (p q : Pen) (r : Result ⊤ Refusal) → length bs ≤ 512 → Room bs p → PutOrNot bs p r q → IsOk r × Puts bs p q
put_fits bs p q (Ok x) few room w = (refl, w.1)
put_fits bs p q (Err e) few room w =
    absurd (both_ways (room_for (length bs) p.out.now p.at) w.1 (and_from _ _ (le-leb (length bs) 512 few) (le-leb (p.at + length bs) (length p.out.now) room)))

front-written : (b bs : List ℕ) → take (0 + length bs) (written b 0 bs) ≡ bs
unfolding written
front-written b bs = take_at bs (drop (0 + length bs) b) (0 + length bs) (sym (zero-add (length bs)))

rest-written : (b bs : List ℕ) → drop (0 + length bs) (written b 0 bs) ≡ drop (0 + length bs) b
unfolding written
rest-written b bs = drop_at bs (drop (0 + length bs) b) (0 + length bs) (sym (zero-add (length bs)))

pub put-sends : (bs before after : List ℕ) (end : ℕ) → Put before 0 bs end after → Sends bs before (Ok end) after
put-sends bs before after end p =
    record {
      says = ap (λ (n : ℕ). sent (take n after)) p.ends ∙ ap (λ (b : List ℕ). sent (take (0 + length bs) b)) p.holds ∙ ap sent (front-written before bs);
      rest = (
        omega (arith, p.room, p.ends),
        ap (λ (n : ℕ). drop n after) p.ends ∙ ap (drop (0 + length bs)) p.holds ∙ rest-written before bs ∙ ap (λ (n : ℕ). drop n before) (sym p.ends),
      );
    }

-- one message
pub one_sends : (m : Fields) (before after : List ℕ) (end : ℕ) → Put before 0 (encode m) end after → Sends (bytes (m ∷ [])) before (Ok end) after
one_sends m before after end p = put-sends (bytes (m ∷ [])) before after end (as_bytes (sym (append-nil (encode m))) p)

-- two messages, the second where the first ended
pub two_send : (m n : Fields) (before mid after : List ℕ) (at end : ℕ) → Put before 0 (encode m) at mid → Put mid at (encode n) end after
    → Sends (bytes (m ∷ n ∷ [])) before (Ok end) after
two_send m n before mid after at end p q =
    put-sends (bytes (m ∷ n ∷ [])) before after end (and_then p (as_bytes (sym (append-nil (encode n))) q))

-- what a plan to send comes to
pub done_send : {S : Type 0} (listing : S → List Row) (consents : S → Consents) (fixed : S → Bool) (keeps : S → S → Type 0) (plan : Plan) (ms : List Fields) (own : ℕ)
    (others : List ℕ) (s s' : State S) (before : List ℕ) (r : Result ℕ Refusal) (after : List ℕ) → plan ≡ send ms own others → Sends (bytes ms) before r after
    → s' ≡ record { own = own; others = others; host = s.host } → Done listing consents fixed keeps plan s (outcome r after) s'
done_send listing consents fixed keeps plan ms own others s s' before r after e p q =
    subst (λ (x : Plan). Done listing consents fixed keeps x s (outcome r after) s') (sym e) (p.says, q)

-- how long messages of known length are
pub length-meant : (own : ℕ) (s : Sent) → length (encode (meant own s)) ≤ 33
length-meant own (Discovery d) =
    omega (arith, length-encode (discover d own), length-append d.bytes (supports ++ 0x00 ∷ []), (identity-sevens d).0)
length-meant own (DiscoveryReply to d path) =
    omega (arith, length-encode (discover_reply d own to.number path), length-append d.bytes (supports ++ path ∷ d.block ∷ []), (identity-sevens d).0)
length-meant own (InvalidateMuid target) = omega arith
length-meant own (Enabled a i) =
    omega (arith, length-encode (report own a.byte i.bytes true), length-append i.bytes (channels a.byte), (id_sevens i).0)
length-meant own (Disabled a i) =
    omega (arith, length-encode (report own a.byte i.bytes false), length-append i.bytes (channels a.byte), (id_sevens i).0)
length-meant own (Added a i) = omega (arith, length-encode (added_report own a.byte i.bytes), (id_sevens i).0)
length-meant own (Removed a i) = omega (arith, length-encode (removed_report own a.byte i.bytes), (id_sevens i).0)
length-meant own (Nak to a sub status) = omega arith

-- the front of a buffer and the rest are the buffer
pub front_kept : (N : ℕ) (before part : List ℕ) → IsFirstChunk before part N → part ++ drop N before ≡ before
front_kept N before part f = ap (λ (xs : List ℕ). xs ++ drop N before) f.same ∙ take-append-drop N before

-- what is sent from the front of a buffer is sent from the buffer
pub front_says : (n : ℕ) (part' rest : List ℕ) → n ≤ length part' → outcome (Ok n) part' ≡ outcome (Ok n) (part' ++ rest)
front_says n part' rest h = ap sent (sym (take-append-le n part' rest h))

pub front_rest : (n : ℕ) (part part' rest : List ℕ) → length part' ≡ length part → Rest (Ok n) part part' → Rest (Ok n) (part ++ rest) (part' ++ rest)
front_rest n part part' rest e (h, k) = (
  omega (arith, h, length-append part rest),
  drop-append-le n part' rest (omega (arith, h, e)) ∙ ap (λ (xs : List ℕ). xs ++ rest) k ∙ sym (drop-append-le n part rest h),
)

pub in_front : {S : Type 0} (listing : S → List Row) (consents : S → Consents) (fixed : S → Bool) (keeps : S → S → Type 0) (plan : Plan) (s s' : State S) (n N : ℕ)
    (before part part' : List ℕ) → IsFirstChunk before part N → length (part' ++ drop N before) ≡ length before → Done listing consents fixed keeps plan s (outcome (Ok n) part') s'
    → Rest (Ok n) part part'
    → (Done listing consents fixed keeps plan s (outcome (Ok n) (part' ++ drop N before)) s') × Rest (Ok n) before (part' ++ drop N before)
in_front listing consents fixed keeps plan s s' n N before part part' f keep d r =
    let e = front_kept N before part f in
    let long : length part' ≡ length part = omega (arith, keep, ap length e, length-append part' (drop N before), length-append part (drop N before)) in (
      subst (λ (o : Outcome). Done listing consents fixed keeps plan s o s') (front_says n part' (drop N before) (omega (arith, r.0, long))) d,
      subst (λ (xs : List ℕ). Rest (Ok n) xs (part' ++ drop N before)) e (front_rest n part part' (drop N before) long r),
    )
