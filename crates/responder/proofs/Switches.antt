-- What a switch by the responder comes to.
use Rattle.std.proofs.Common.{◌≡◌, ℕ, ◌-◌, ◌≤◌, Bool, cond, List, [], ◌∷◌, ◌++◌, length, take, drop, Ok, Err, Result, sym, refl, ap, ◌∙◌, subst, arith}
use Rattle.std.proofs.lemmas.List.Sorted.{IsPermutation-refl}
use Rattle.std.proofs.lemmas.Bool.{cond-false, le-ltb}
use Rattle.std.specs.Array.{IsFirstChunk}
use Rattle.message.specs.Messages.{framed, fields}
use Rattle.message.specs.Sending.{discover}
use Rattle.message.specs.declared.identity.Identity.{Identity}
use Rattle.message.specs.declared.refusal.Refusal.{Refusal}
use Rattle.responder.specs.Actions.{decided}
use Rattle.responder.specs.Plans.{Plan, refuse, opened, announcing, taking}
use Rattle.responder.specs.declared.action.Action.{Action}
use Rattle.message.specs.Writing.{Put}
use Rattle.message.specs.declared.row.Row.{Row}
use Rattle.host.specs.Rows.{Sound}
use Rattle.host.specs.Hosts.{Consents, Switched}
use Rattle.responder.specs.Steps.{State, Outcome, refused, outcome, Done, Rest, bytes, put_off, reports, reports_bytes, Sends, Turned}
use Rattle.responder.proofs.Reports.{put_off-few}
use Rattle.responder.proofs.Sendings.{put-sends, done_send, in_front}

-- the rows as they were copied
pub copied : (rows copy l : List Row) → take (length rows) copy ≡ rows → rows ≡ l → take (length rows - 0) copy ≡ l
copied rows copy l e f = ap (λ (n : ℕ). take n copy) (omega arith) ∙ e ∙ f

-- at most 21 rows are put off among the rows as they were copied
pub copied-few : (l : List Row) (c : Consents) (f : Bool) (a : ℕ) (i : List ℕ) (on : Bool) (l' : List Row) (c' : Consents) (f' answer : Bool) (bs rs : List Row)
    → bs ≡ l → rs ≡ l' → Sound l → Switched l c f a i on l' c' f' answer → length (put_off a i bs rs) ≤ 21
copied-few l c f a i on l' c' f' answer bs rs e e' s w = rw (e, e') (put_off-few l c f a i on l' c' f' answer s w)

-- the bytes of the reports are sent
pub reports_sent : (own own' a : ℕ) (i : List ℕ) (bs rs l l' : List Row) (before after : List ℕ) (end : ℕ) → own' ≡ own → bs ≡ l → rs ≡ l'
    → Put before 0 (reports_bytes own' a i bs rs) end after → Sends (bytes (reports own a i (put_off a i l l') l')) before (Ok end) after
unfolding reports_bytes
reports_sent own own' a i bs rs l l' before after end p q r w =
    let e : reports_bytes own' a i bs rs ≡ bytes (reports own a i (put_off a i l l') l') = rw (p, q, r) in
    subst (λ (x : List ℕ). Sends x before (Ok end) after) e (put-sends (reports_bytes own' a i bs rs) before after end w)

-- and that is what a question to the host comes to
pub turned_by : {S : Type 0} (listing : S → List Row) (consents : S → Consents) (fixed : S → Bool) (keeps : S → S → Type 0) (a : ℕ) (i : List ℕ) (on : Bool) (s s' : State S)
    (answer : Bool) (before after : List ℕ) (end : ℕ) → s'.own ≡ s.own → s'.others ≡ s.others
    → Switched (listing s.host) (consents s.host) (fixed s.host) a i on (listing s'.host) (consents s'.host) (fixed s'.host) answer
    → keeps s.host s'.host
    → Sends (bytes (reports s.own a i (put_off a i (listing s.host) (listing s'.host)) (listing s'.host))) before (Ok end) after
    → Turned listing consents fixed keeps a i on s (outcome (Ok end) after) s'
turned_by listing consents fixed keeps a i on s s' answer before after end p q w k t =
    record {
      own = p;
      others = q;
      answer = answer;
      host = w;
      kept = k;
      offs = put_off a i (listing s.host) (listing s'.host);
      order = IsPermutation-refl (put_off a i (listing s.host) (listing s'.host));
      says = t.says;
    }

-- what was decided is the plan of the call
pub taken_as : (d : Identity) (own own' : ℕ) (others : List ℕ) (l rs : List Row) (draw room : ℕ) (bs : List ℕ) (r : Result Action Refusal) → own' ≡ own → rs ≡ l → 1024 ≤ room
    → decided d own' others rs draw r ≡ cond (framed bs) (opened d own' others rs (fields bs) draw) (refuse Refusal.NotFramed)
    → decided d own others l draw r ≡ taking d own others l room bs draw
taken_as d own own' others l rs draw room bs r p q h e =
    let e' = rw (p, q) at e in
    e' ∙ sym (cond-false _ _ _ (le-ltb room 1024 h))

-- a refusal that was decided, where the buffer stays
pub refused_by : {S : Type 0} (listing : S → List Row) (consents : S → Consents) (fixed : S → Bool) (keeps : S → S → Type 0) (plan : Plan) (s : State S) (e x : Refusal) (r : Result ℕ Refusal)
    (before after : List ℕ) → refuse e ≡ plan → r ≡ Err x → x ≡ e → after ≡ before → (Done listing consents fixed keeps plan s (outcome r after) s) × Rest r before after
refused_by listing consents fixed keeps plan s e x r before after p q z k = (
  subst (λ (y : Plan). Done listing consents fixed keeps y s (outcome r after) s) p (ap (λ (y : Result ℕ Refusal). outcome y after) q ∙ ap refused z, refl),
  subst (λ (y : Result ℕ Refusal). Rest y before after) (sym q) k,
)

pub acted : {S : Type 0} (listing : S → List Row) (consents : S → Consents) (fixed : S → Bool) (keeps : S → S → Type 0) (x plan : Plan) (s s' : State S) (o : Outcome) → x ≡ plan
    → Done listing consents fixed keeps x s o s' → Done listing consents fixed keeps plan s o s'
acted listing consents fixed keeps x plan s s' o e h = subst (λ (y : Plan). Done listing consents fixed keeps y s o s') e h

-- what announces a device
pub announced : {S : Type 0} (listing : S → List Row) (consents : S → Consents) (fixed : S → Bool) (keeps : S → S → Type 0) (d : Identity) (own' : ℕ) (l : List Row) (s : State S) (n N : ℕ)
    (before part part' : List ℕ) → own' ≡ s.own → 1024 ≤ length before → IsFirstChunk before part N → length (part' ++ drop N before) ≡ length before → Sends (bytes (discover d own' ∷ [])) part (Ok n) part'
    → (Done listing consents fixed keeps (announcing d s.own s.others l (length before)) s (outcome (Ok n) (part' ++ drop N before)) s) × Rest (Ok n) before (part' ++ drop N before)
announced listing consents fixed keeps d own' l s n N before part part' p room f keep w =
    in_front listing consents fixed keeps (announcing d s.own s.others l (length before)) s s n N before part part' f keep
    (done_send listing consents fixed keeps (announcing d s.own s.others l (length before)) (discover d s.own ∷ []) s.own s.others s s part (Ok n) part'
    (cond-false _ _ _ (le-ltb (length before) 1024 room)) (subst (λ (k : ℕ). Sends (bytes (discover d k ∷ [])) part (Ok n) part') p w) refl)
    w.rest
