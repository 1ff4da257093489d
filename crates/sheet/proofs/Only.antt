-- What is accepted is the layout of valid contents.
use Rattle.std.proofs.Common.{◌≡◌, ℕ, ◌+◌, ◌*◌, ◌/◌, ◌%◌, ◌<◌, ◌≤◌, Bool, true, cond, ◌&&◌, ◌||◌, eqb, ltb, ◌⊎◌, List, [], ◌∷◌, ◌++◌, length, Some, None, Option, sym, refl, ap, ◌∙◌, subst, inl, inr, ⊎_elim, append_assoc, append-nil, arith, length-append}
use Rattle.std.specs.List.{list_all}
use Rattle.std.proofs.lemmas.Bool.{and_parts, and_from, lt-ltb, ltb-true, leb-true, eqb-true, eq-eqb, ne_eqb, cases_eq, cond-true, cond-false}
use Rattle.std.proofs.lemmas.Bool.Decides.{nat_tests}
use Rattle.std.proofs.lemmas.List.Recursion.{and_push}
use Rattle.message.specs.declared.row.Row.{Row}
use Rattle.message.specs.declared.refusal.Refusal.{Refusal}
use Rattle.message.specs.declared.refusal.Refusal.TheVariants.{SheetOrder}
use Rattle.sheet.specs.Words.{kind, first, second, third, fourth, amount, word}
use Rattle.message.specs.Bytes.{is_address}
use Rattle.rising.specs.Order.{Key}
use Rattle.message.specs.Rows.{row_key, all_ranged, pair_key, pair_ranged}
use Rattle.host.specs.Rows.{tally, Sound}
use Rattle.layers.specs.Lists.{member_key}
use Rattle.sheet.specs.Contents.{Contents, is_set, after}
use Rattle.sheet.specs.Layout.{two_words, laid, row_words, member_words, pair_words, head_words, so_far, layout}
use Rattle.message.specs.Bytes.{is_id}
use Rattle.layers.specs.Lists.{member_ranged}
use Rattle.sheet.proofs.Orderly.{row_ranged, Fit, Orderly}
use Rattle.sheet.specs.Reading.{accepted, refused, follows, fits, room, opening, id_of, row_of, member_of, pair_of, fits_end, rises, ending, with_row, with_member, with_pair, entered, judged, body}
use Rattle.sheet.proofs.Turns.{body-none, fault-none, refused_here, at_last, at_two}
use Rattle.sheet.proofs.Parts.{from_parts, from_amount, laid_push, rising_after, tally_push}

-- members and pairs come only after the rows, and pairs only after the members
pub record Placed (last : ℕ) (c : Contents) : Type 0 where
  pub no_members : last < 6 → c.members ≡ []
  pub no_pairs : last < 7 → c.pairs ≡ []

append-row : (h r m p x : List ℕ) → m ≡ [] → p ≡ [] → h ++ ((r ++ x) ++ (m ++ p)) ≡ (h ++ (r ++ (m ++ p))) ++ x
append-row h r m p x em ep = rw (em, ep) (simp (append-nil, append_assoc))

append_member : (h r m p x : List ℕ) → p ≡ [] → h ++ (r ++ ((m ++ x) ++ p)) ≡ (h ++ (r ++ (m ++ p))) ++ x
append_member h r m p x ep = rw ep (simp (append-nil, append_assoc))

append_pair : (h r m p x : List ℕ) → h ++ (r ++ (m ++ (p ++ x))) ≡ (h ++ (r ++ (m ++ p))) ++ x
append_pair h r m p x = simp append_assoc

mark_of : (n : ℕ) → n ≤ 1 → cond (eqb n 1) 1 0 ≡ n
mark_of n h = grind (arith, nat_tests)

pub low : (n : ℕ) → ltb (n % 128) 128 ≡ true
low n = lt-ltb (n % 128) 128 (omega arith)

id_good : (w v : ℕ) → is_id (id_of w v) ≡ true
id_good w v =
    and_from _ _ (low (w / 16384)) (and_from _ _ (low (w / 128)) (and_from _ _ (low w) (and_from _ _ (low (v / 2097152)) (and_from _ _ (low (v / 16384)) refl))))

-- the words of the entry that two words make are these two
words_back : (k w v m : ℕ) → kind w ≡ k → kind v ≡ 5 → third v ≡ 0 → m ≡ fourth v → two_words k (first w) (id_of w v) m ≡ w ∷ v ∷ []
words_back k w v m e l t f =
    let z : word 5 (first v) (second v) 0 m ≡ word 5 (first v) (second v) (third v) (fourth v) = rw (f, t) in
    ap (λ (x : ℕ). x ∷ word 5 (first v) (second v) 0 m ∷ []) (from_parts w k e) ∙ ap (λ (x : ℕ). w ∷ x ∷ []) (z ∙ from_parts v 5 l)

one_more : {X : Type 0} (xs : List X) (x : X) (n : ℕ) → length xs < n → length (xs ++ x ∷ []) ≤ n
one_more xs x n h = simp length-append (omega arith)

tally-kept : (rows : List Row) (r : Row) → ((a : ℕ) → tally a rows ≤ 21) → tally r.address rows < 21 → (a : ℕ) → tally a (rows ++ r ∷ []) ≤ 21
tally-kept rows r h l a =
    let e = tally_push a rows r in
    let t = h a in
    grind (arith, nat_tests)

sound_push : (rows : List Row) (r : Row) → Sound rows → row_ranged r ≡ true → after row_key rows r ≡ true → length rows < 64 → tally r.address rows < 21 → Sound (rows ++ r ∷ [])
sound_push rows r s g u l t = record {
  few = one_more rows r 64 l;
  each = tally-kept rows r s.each t;
  ranges = and_push all_ranged row_ranged refl (λ _ _. refl) rows r ∙ and_from _ _ s.ranges g;
  order = rising_after row_key rows r s.order u;
}

fit_push : {X : Type 0} (in_range : X → Bool) (key : X → Key) (xs : List X) (x : X) → Fit in_range key xs → in_range x ≡ true → after key xs x ≡ true → length xs < 16 → Fit in_range key (xs ++ x ∷ [])
fit_push in_range key xs x f g u l = record {
  ranges = and_push (list_all in_range) in_range refl (λ _ _. refl) xs x ∙ and_from _ _ f.ranges g;
  order = rising_after key xs x f.order u;
  few = one_more xs x 16 l;
}

-- what one record does to the contents so far
abbrev Grown : Contents → (w v : ℕ) → ℕ → Contents → Type 0
Grown c w v k d = (so_far d ≡ so_far c ++ (w ∷ v ∷ [])) × Orderly d × Placed k d

-- the tests of an entry's two words, by its kind
pub choose : {X : Type 0} (k j : ℕ) (x y : X) → (k ≡ j → ⊥) → cond (eqb k j) x y ≡ y
choose k j x y h = cond-false _ _ _ (ne_eqb k j h)

pub chosen : {X : Type 0} (k j : ℕ) (x y : X) → k ≡ j → cond (eqb k j) x y ≡ x
chosen k j x y h = cond-true _ _ _ (eq-eqb k j h)

module _ (n last : ℕ) (c : Contents) (w v : ℕ) (ft : fits n w ≡ true) (rm : room c w ≡ true) (k5 : kind v ≡ 5) (fe : fits_end w v ≡ true) (up : rises c w v ≡ true) (o : Orderly c) (p : Placed last c) (le : last ≤ kind w) where
  grown-row : kind w ≡ 4 → Grown c w v (kind w) (entered c w v)
  grown-row k =
      let f : is_address (first w) ≡ true = rw k at ft in
      let q : (ltb (length c.rows) 64 && ltb (tally (first w) c.rows) 21) ≡ true = rw k at rm in
      let r = and_parts _ _ q in
      let u : after row_key c.rows (row_of w v) ≡ true = rw k at up in
      let e = and_parts _ _ fe in
      let m : fourth v ≤ 1 = leb-true _ 1 (rw k at e.1) in
      let d : entered c w v ≡ with_row c (row_of w v) = rw k in
      let em = p.no_members (omega arith) in
      let ep = p.no_pairs (omega arith) in
      let b = words_back 4 w v _ k k5 (eqb-true _ _ e.0) (mark_of (fourth v) m) in
      let grown : so_far (with_row c (row_of w v)) ≡ so_far c ++ (w ∷ v ∷ []) =
      ap (λ (x : List ℕ). head_words c.identity c.block ++ (x ++ (laid member_words c.members ++ laid pair_words c.pairs))) (laid_push row_words c.rows (row_of w v) ∙ ap (λ (x : List ℕ). laid row_words c.rows ++ x) b)
      ∙ append-row (head_words c.identity c.block) (laid row_words c.rows) (laid member_words c.members) (laid pair_words c.pairs) (w ∷ v ∷ []) (ap (laid member_words) em) (ap (laid pair_words) ep) in
      let kept : Placed (kind w) (with_row c (row_of w v)) = record { no_members = λ _. em; no_pairs = λ _. ep } in
      let sound = sound_push c.rows (row_of w v) o.rows (and_from _ _ f (id_good w v)) u (ltb-true _ _ r.0) (ltb-true _ _ r.1) in
      let ord : Orderly (with_row c (row_of w v)) = record { identity = o.identity; block = o.block; rows = sound; members = o.members; pairs = o.pairs } in
      subst (λ (x : Contents). Grown c w v (kind w) x) (sym d) (grown, ord, kept)

  grown-member : kind w ≡ 6 → Grown c w v (kind w) (entered c w v)
  grown-member k =
      let f : is_set (first w) ≡ true = rw k at ft in
      let r : ltb (length c.members) 16 ≡ true = rw k at rm in
      let u : after member_key c.members (member_of w v) ≡ true = rw k at up in
      let e = and_parts _ _ fe in
      let m : fourth v ≤ 0 = leb-true _ 0 (rw k at e.1) in
      let d : entered c w v ≡ with_member c (member_of w v) = rw k in
      let ep = p.no_pairs (omega arith) in
      let b = words_back 6 w v 0 k k5 (eqb-true _ _ e.0) (omega arith) in
      let grown : so_far (with_member c (member_of w v)) ≡ so_far c ++ (w ∷ v ∷ []) =
      ap (λ (x : List ℕ). head_words c.identity c.block ++ (laid row_words c.rows ++ (x ++ laid pair_words c.pairs))) (laid_push member_words c.members (member_of w v) ∙ ap (λ (x : List ℕ). laid member_words c.members ++ x) b)
      ∙ append_member (head_words c.identity c.block) (laid row_words c.rows) (laid member_words c.members) (laid pair_words c.pairs) (w ∷ v ∷ []) (ap (laid pair_words) ep) in
      let kept : Placed (kind w) (with_member c (member_of w v)) = record { no_members = λ h. absurd (omega arith); no_pairs = λ _. ep } in
      let fit = fit_push member_ranged member_key c.members (member_of w v) o.members (and_from _ _ f (id_good w v)) u (ltb-true _ _ r) in
      let ord : Orderly (with_member c (member_of w v)) = record { identity = o.identity; block = o.block; rows = o.rows; members = fit; pairs = o.pairs } in
      subst (λ (x : Contents). Grown c w v (kind w) x) (sym d) (grown, ord, kept)

  grown-pair : kind w ≡ 7 → Grown c w v (kind w) (entered c w v)
  grown-pair k =
      let f : is_address (first w) ≡ true = rw k at ft in
      let r : ltb (length c.pairs) 16 ≡ true = rw k at rm in
      let u : after pair_key c.pairs (pair_of w v) ≡ true = rw k at up in
      let e = and_parts _ _ fe in
      let m : fourth v ≤ 0 = leb-true _ 0 (rw k at e.1) in
      let d : entered c w v ≡ with_pair c (pair_of w v) = rw k in
      let b = words_back 7 w v 0 k k5 (eqb-true _ _ e.0) (omega arith) in
      let grown : so_far (with_pair c (pair_of w v)) ≡ so_far c ++ (w ∷ v ∷ []) =
      ap (λ (x : List ℕ). head_words c.identity c.block ++ (laid row_words c.rows ++ (laid member_words c.members ++ x))) (laid_push pair_words c.pairs (pair_of w v) ∙ ap (λ (x : List ℕ). laid pair_words c.pairs ++ x) b)
      ∙ append_pair (head_words c.identity c.block) (laid row_words c.rows) (laid member_words c.members) (laid pair_words c.pairs) (w ∷ v ∷ []) in
      let kept : Placed (kind w) (with_pair c (pair_of w v)) = record { no_members = λ h. absurd (omega arith); no_pairs = λ h. absurd (omega arith) } in
      let fit = fit_push pair_ranged pair_key c.pairs (pair_of w v) o.pairs (and_from _ _ f (id_good w v)) u (ltb-true _ _ r) in
      let ord : Orderly (with_pair c (pair_of w v)) = record { identity = o.identity; block = o.block; rows = o.rows; members = o.members; pairs = fit } in
      subst (λ (x : Contents). Grown c w v (kind w) x) (sym d) (grown, ord, kept)

kinds : (last k : ℕ) → follows last k ≡ true → (k ≡ 8 → ⊥) → (last ≤ k) × ((k ≡ 4) ⊎ ((k ≡ 6) ⊎ (k ≡ 7)))
kinds last k h n =
    let e = and_parts _ _ h in
    (leb-true last k e.0, ⊎_elim (λ (q : (k ≡ 4)). inl q) (λ (q : (k ≡ 4 → ⊥)). inr (⊎_elim (λ (s : (k ≡ 6)). inl s) (λ (s : (k ≡ 6 → ⊥)). inr (last_one k e.1 q s n)) (cases_eq k 6))) (cases_eq k 4))
  where
    last_one : (k : ℕ) → (eqb k 4 || (eqb k 6 || (eqb k 7 || eqb k 8))) ≡ true → (k ≡ 4 → ⊥) → (k ≡ 6 → ⊥) → (k ≡ 8 → ⊥) → k ≡ 7
    last_one k t a b d = grind (arith, nat_tests)

grown_one : (n last : ℕ) (c : Contents) (w v : ℕ) → opening n last c w ≡ None → (kind w ≡ 8 → ⊥) → ending c w v ≡ None → Orderly c → Placed last c → Grown c w v (kind w) (entered c w v)
grown_one n last c w v h n8 q o p =
    let a = fault-none _ _ _ h in
    let b = fault-none _ _ _ q in
    let s = kinds last (kind w) a.0 n8 in
    let k5 = eqb-true _ _ b.0 in
    ⊎_elim
    (grown-row n last c w v a.1 a.2 k5 b.1 b.2 o p s.0)
    (λ (e : (kind w ≡ 6) ⊎ (kind w ≡ 7)). ⊎_elim (grown-member n last c w v a.1 a.2 k5 b.1 b.2 o p s.0) (grown-pair n last c w v a.1 a.2 k5 b.1 b.2 o p s.0) e)
    s.1

option_cases : (o : Option Refusal) → ((e : Refusal) × (o ≡ Some e)) ⊎ (o ≡ None)
option_cases (Some e) = inl (e, refl)
option_cases None = inr refl

not_both : (e : Refusal) (n : ℕ) (c : Contents) → refused e n ≡ accepted c → ⊥
not_both e n c h = cc

same-contents : (c d : Contents) → accepted c ≡ accepted d → c ≡ d
same-contents c d h = cc

abbrev Ends : Contents → List ℕ → Contents → Type 0
Ends c ws d = (so_far c ++ ws ≡ layout d) × Orderly d

closes : (n last : ℕ) (c d : Contents) (w : ℕ) → n ≡ length (so_far c) → Orderly c → opening n last c w ≡ None → kind w ≡ 8 → c ≡ d → Ends c (w ∷ []) d
closes n last c d w e o h k s =
    let a = fault-none _ _ _ h in
    let m : amount w ≡ n = eqb-true _ _ (sym (chosen (kind w) 8 _ _ k) ∙ a.1) in
    let x : w ≡ 8 * 268435456 + length (so_far c) = from_amount w k ∙ ap (λ (y : ℕ). 8 * 268435456 + y) (m ∙ e) in
    subst (λ (y : Contents). Ends c (w ∷ []) y) s (ap (λ (y : ℕ). so_far c ++ (y ∷ [])) x, o)

last_word : (n last : ℕ) (c d : Contents) (w : ℕ) → n ≡ length (so_far c) → Orderly c → body n last c (w ∷ []) ≡ accepted d → Ends c (w ∷ []) d
last_word n last c d w e o h =
    ⊎_elim
    (λ (x : (f : Refusal) × (opening n last c w ≡ Some f)). absurd (not_both x.0 n d (sym (refused_here n last c w [] x.0 x.1) ∙ h)))
    (λ (x : (opening n last c w ≡ None)).
    let b = sym (at_last n last c w x) ∙ h in
    ⊎_elim
    (λ (k : (kind w ≡ 8)). closes n last c d w e o x k (same-contents c d (sym (chosen (kind w) 8 _ _ k) ∙ b)))
    (λ (k : (kind w ≡ 8 → ⊥)). absurd (not_both SheetOrder (n + 1) d (sym (choose (kind w) 8 _ _ k) ∙ b)))
    (cases_eq (kind w) 8))
    (option_cases (opening n last c w))

-- what two words without a fault leave to read
two_more : (n last : ℕ) (c d : Contents) (w v : ℕ) (ws : List ℕ) → body n last c (w ∷ v ∷ ws) ≡ accepted d
    → (opening n last c w ≡ None) × (kind w ≡ 8 → ⊥) × (ending c w v ≡ None) × (body (n + 2) (kind w) (entered c w v) ws ≡ accepted d)
two_more n last c d w v ws h =
    ⊎_elim
    (λ (x : (f : Refusal) × (opening n last c w ≡ Some f)). absurd (not_both x.0 n d (sym (refused_here n last c w (v ∷ ws) x.0 x.1) ∙ h)))
    (λ (x : (opening n last c w ≡ None)).
    let b = sym (at_two n last c w v ws x) ∙ h in
    ⊎_elim
    (λ (k : (kind w ≡ 8)). absurd (not_both SheetOrder (n + 1) d (sym (chosen (kind w) 8 _ _ k) ∙ b)))
    (λ (k : (kind w ≡ 8 → ⊥)).
    let q = sym (choose (kind w) 8 _ _ k) ∙ b in
    let rest = body (n + 2) (kind w) (entered c w v) ws in
    ⊎_elim
    (λ (y : (f : Refusal) × (ending c w v ≡ Some f)). absurd (not_both y.0 (n + 1) d (sym (ap (λ (z : Option Refusal). judged (n + 1) z rest) y.1) ∙ q)))
    (λ (y : (ending c w v ≡ None)). (x, k, y, sym (ap (λ (z : Option Refusal). judged (n + 1) z rest) y) ∙ q))
    (option_cases (ending c w v)))
    (cases_eq (kind w) 8))
    (option_cases (opening n last c w))

pub body-only : (ws : List ℕ) (n last : ℕ) (c d : Contents) → n ≡ length (so_far c) → Orderly c → Placed last c → body n last c ws ≡ accepted d → Ends c ws d
body-only [] n last c d e o p h = absurd (not_both SheetOrder n d (sym (body-none n last c) ∙ h))
body-only (w ∷ []) n last c d e o p h = last_word n last c d w e o h
body-only (w ∷ v ∷ ws) n last c d e o p h =
    let t = two_more n last c d w v ws h in
    let g = grown_one n last c w v t.0 t.1 t.2 o p in
    let len : length (so_far (entered c w v)) ≡ length (so_far c) + 2 = ap length g.0 ∙ length-append (so_far c) (w ∷ v ∷ []) in
    let ih = body-only ws (n + 2) (kind w) (entered c w v) d (omega (arith, len)) g.1 g.2 t.3 in
    (sym (append_assoc (so_far c) (w ∷ v ∷ []) ws) ∙ ap (λ (x : List ℕ). x ++ ws) (sym g.0) ∙ ih.0, ih.1)
