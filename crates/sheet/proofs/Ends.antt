-- Both directions put together, from bytes to contents.
use Rattle.std.proofs.Common.{◌≡◌, ℕ, ◌+◌, ◌*◌, ◌%◌, ◌<◌, Bool, true, false, eqb, leb, List, [], ◌∷◌, ◌++◌, length, get_or, Some, None, Option, sym, refl, ap, ◌∙◌, subst, ⊎_elim, append_assoc, arith, length-append}
use Rattle.std.proofs.lemmas.Bool.{and_parts, eqb-true, cases_Bool, cond-true, cond-false}
use Rattle.message.specs.declared.refusal.Refusal.TheVariants.{SheetLength}
use Rattle.sheet.specs.Words.{kind, first, second, third, fourth, word, words}
use Rattle.message.specs.Bytes.{is_identity, is_block}
use Rattle.sheet.specs.Contents.{Contents}
use Rattle.sheet.specs.Collisions.{clash}
use Rattle.sheet.specs.Layout.{laid, row_words, member_words, pair_words, so_far, layout, flat}
use Rattle.sheet.specs.Law.{Octets, Exactly}
use Rattle.sheet.proofs.Orderly.{Orderly}
use Rattle.sheet.specs.Valid.{Valid}
use Rattle.sheet.specs.Reading.{Outcome, accepted, refused, fault, judged, judged_sets, body, headed, header, continued, settled, reads_words, sized, reads}
use Rattle.sheet.proofs.Parts.{from_parts, fields}
use Rattle.sheet.proofs.Splits.{eleven-of, low-at}
use Rattle.sheet.proofs.All.{made, rows_read, members_read, pairs_read, closed}
use Rattle.sheet.proofs.Plain.{sized_true}
use Rattle.std.proofs.lemmas.Bool.Decides.{nat_tests}
use Rattle.sheet.proofs.Only.{body-only}
use Rattle.sheet.proofs.Header.{identity_low, header_good, headed_as}
use Rattle.sheet.proofs.Pass.{apart_from, pass_from}
use Rattle.sheet.proofs.Counts.{valid_from, orderly_from, apart_of}
use Rattle.sheet.proofs.Bytes.{flat-words, words-flat, flat-count}

settles : (x : Option ℕ) (c d : Contents) → judged_sets x c ≡ accepted d → (x ≡ None) × (c ≡ d)
settles (Some n) c d h = absurd cc
settles None c d h = (refl, cc)

settled_only : (o : Outcome) (d : Contents) → settled o ≡ accepted d → (o ≡ accepted d) × (clash d.members 3 [] d.rows ≡ None)
settled_only (refused e n) d h = absurd cc
settled_only (accepted c) d h =
    let s = settles (clash c.members 3 [] c.rows) c d h in
    (ap accepted s.1, subst (λ (x : Contents). clash x.members 3 [] x.rows ≡ None) s.1 s.0)

continued-only : (o : Outcome) (ws : List ℕ) (d : Contents) → continued o ws ≡ accepted d → (c : Contents) × (o ≡ accepted c) × (body 3 4 c ws ≡ accepted d)
continued-only (refused e n) ws d h = absurd cc
continued-only (accepted c) ws d h = (c, refl, h)

header_tests : (p q r s : Bool) (c d : Contents) → judged 0 (fault p true true) (judged 1 (fault q true true) (judged 2 (fault r s true) (accepted d))) ≡ accepted c → (p ≡ true) × (q ≡ true) × (r ≡ true) × (s ≡ true) × (d ≡ c)
header_tests false q r s c d h = absurd cc
header_tests true false r s c d h = absurd cc
header_tests true true false s c d h = absurd cc
header_tests true true true false c d h = absurd cc
header_tests true true true true c d h = (refl, refl, refl, refl, cc)

headed_orderly : (u v w : ℕ) → is_block (fourth w) ≡ true → Orderly (headed u v w)
headed_orderly u v w b = record {
  identity = identity_low u v w;
  block = b;
  rows = record { few = omega arith; each = λ a. omega arith; ranges = refl; order = refl };
  members = record { ranges = refl; order = refl; few = omega arith };
  pairs = record { ranges = refl; order = refl; few = omega arith };
}

headed_back : (u v w : ℕ) → kind u ≡ 1 → kind v ≡ 2 → kind w ≡ 3 → so_far (headed u v w) ≡ u ∷ v ∷ w ∷ []
headed_back u v w k l m =
    ap (λ (x : ℕ). x ∷ word 2 (first v) (second v) (third v) (fourth v) ∷ word 3 (first w) (second w) (third w) (fourth w) ∷ []) (from_parts u 1 k)
    ∙ ap (λ (x : ℕ). u ∷ x ∷ word 3 (first w) (second w) (third w) (fourth w) ∷ []) (from_parts v 2 l)
    ∙ ap (λ (x : ℕ). u ∷ v ∷ x ∷ []) (from_parts w 3 m)

words-only : (ws : List ℕ) (d : Contents) → reads_words ws ≡ accepted d → (ws ≡ layout d) × Orderly d
words-only [] d h = absurd cc
words-only (u ∷ []) d h = absurd cc
words-only (u ∷ v ∷ []) d h = absurd cc
words-only (u ∷ v ∷ w ∷ ws) d h =
    let p = continued-only (header u v w) ws d h in
    let t = header_tests (eqb (kind u) 1) (eqb (kind v) 2) (eqb (kind w) 3) (is_block (fourth w)) p.0 (headed u v w) p.1 in
    let b : body 3 4 (headed u v w) ws ≡ accepted d = subst (λ (x : Contents). body 3 4 x ws ≡ accepted d) (sym t.4) p.2 in
    let r = body-only ws 3 4 (headed u v w) d refl (headed_orderly u v w t.3) (record { no_members = λ _. refl; no_pairs = λ _. refl }) b in
    let e = headed_back u v w (eqb-true _ _ t.0) (eqb-true _ _ t.1) (eqb-true _ _ t.2) in
    (ap (λ (x : List ℕ). x ++ ws) (sym e) ∙ r.0, r.1)

pub only_these : (bs : List ℕ) (d : Contents) → Octets bs → reads bs ≡ accepted d → (bs ≡ flat (layout d)) × Valid d
only_these bs d o h =
    ⊎_elim
    (λ (t : (sized (length bs) ≡ true)).
    let s = settled_only (reads_words (words bs)) d (sym (cond-true _ _ _ t) ∙ h) in
    let r = words-only (words bs) d s.0 in
    let z = eqb-true (length bs % 4) 0 (and_parts _ _ (and_parts (leb 16 (length bs)) _ t).1).1 in
    (sym (flat-words bs o z) ∙ ap flat r.0, valid_from d r.1 (apart_from d.members 3 d.rows s.1)))
    (λ (t : (sized (length bs) ≡ false)). absurd (let e : refused SheetLength 0 ≡ accepted d = sym (cond-false _ _ _ t) ∙ h in cc))
    (cases_Bool (sized (length bs)))

same-eleven : {a b c d e f g m n p q a' b' c' d' e' f' g' m' n' p' q' : ℕ} → a ≡ a' → b ≡ b' → c ≡ c' → d ≡ d' → e ≡ e' → f ≡ f' → g ≡ g' → m ≡ m' → n ≡ n' → p ≡ p' → q ≡ q' → a ∷ b ∷ c ∷ d ∷ e ∷ f ∷ g ∷ m ∷ n ∷ p ∷ q ∷ [] ≡ a' ∷ b' ∷ c' ∷ d' ∷ e' ∷ f' ∷ g' ∷ m' ∷ n' ∷ p' ∷ q' ∷ []
same-eleven e0 e1 e2 e3 e4 e5 e6 e7 e8 e9 e10 = cc

block-low : (b : ℕ) → is_block b ≡ true → b < 128
block-low b h = grind (arith, nat_tests)

-- the first three words of a layout read as identity and Function Block
header_of : (i : List ℕ) (b : ℕ) → is_identity i ≡ true → is_block b ≡ true
    → header (word 1 (get_or i 0 0) (get_or i 1 0) (get_or i 2 0) (get_or i 3 0)) (word 2 (get_or i 4 0) (get_or i 5 0) (get_or i 6 0) (get_or i 7 0)) (word 3 (get_or i 8 0) (get_or i 9 0) (get_or i 10 0) b) ≡ accepted (made i b [] [] [])
header_of i b good block =
    let g = and_parts (eqb (length i) 11) _ good in
    let low = low-at i g.1 in
    let u = fields 1 (get_or i 0 0) (get_or i 1 0) (get_or i 2 0) (get_or i 3 0) (low 0) (low 1) (low 2) (low 3) in
    let v = fields 2 (get_or i 4 0) (get_or i 5 0) (get_or i 6 0) (get_or i 7 0) (low 4) (low 5) (low 6) (low 7) in
    let w = fields 3 (get_or i 8 0) (get_or i 9 0) (get_or i 10 0) b (low 8) (low 9) (low 10) (block-low b block) in
    let ids = same-eleven u.first_is u.second_is u.third_is u.fourth_is v.first_is v.second_is v.third_is v.fourth_is w.first_is w.second_is w.third_is ∙ eleven-of i (eqb-true _ 11 g.0) in
    header_good _ _ _ u.kind_is v.kind_is w.kind_is (ap is_block w.fourth_is ∙ block) ∙ headed_as _ _ _ i b ids w.fourth_is

laid-count : {X : Type 0} (f : X → List ℕ) → ((x : X) → length (f x) ≡ 2) → (xs : List X) → length (laid f xs) ≡ 2 * length xs
laid-count f h [] = refl
laid-count f h (x ∷ xs) =
    let ih = laid-count f h xs in
    let e = length-append (f x) (laid f xs) in
    let q = h x in
    omega (arith, ih, e, q)

so_far-count : (c : Contents) → length (so_far c) ≡ 3 + 2 * length c.rows + 2 * length c.members + 2 * length c.pairs
so_far-count c =
    let r = laid-count row_words (λ x. refl) c.rows in
    let m = laid-count member_words (λ x. refl) c.members in
    let p = laid-count pair_words (λ x. refl) c.pairs in
    let e = length-append (laid row_words c.rows) (laid member_words c.members ++ laid pair_words c.pairs) in
    let f = length-append (laid member_words c.members) (laid pair_words c.pairs) in
    omega (arith, r, m, p, e, f)

body-all : (c : Contents) → Orderly c → body 3 4 (made c.identity c.block [] [] []) (laid row_words c.rows ++ (laid member_words c.members ++ (laid pair_words c.pairs ++ ((8 * 268435456 + length (so_far c)) ∷ [])))) ≡ accepted c
body-all c o =
    let n = so_far-count c in
    let cl : List ℕ = (8 * 268435456 + length (so_far c)) ∷ [] in
    rows_read c.identity c.block (laid member_words c.members ++ (laid pair_words c.pairs ++ cl)) (accepted c) c.rows [] 3 o.rows.ranges o.rows.order o.rows.few o.rows.each
    (members_read c.identity c.block (laid pair_words c.pairs ++ cl) (accepted c) c.rows c.members [] (3 + 2 * length c.rows) 4 (omega arith) o.members.ranges o.members.order o.members.few
    (λ k le. pairs_read c.identity c.block cl (accepted c) c.rows c.members c.pairs [] (3 + 2 * length c.rows + 2 * length c.members) k (omega arith) o.pairs.ranges o.pairs.order o.pairs.few
    (λ j lf. subst (λ (x : ℕ). body x j c cl ≡ accepted c) n (closed (length (so_far c)) j c lf (omega (arith, n, o.rows.few, o.members.few, o.pairs.few))))))

words-all : (c : Contents) → Orderly c → reads_words (layout c) ≡ accepted c
words-all c o =
    let r = laid row_words c.rows in
    let m = laid member_words c.members in
    let p = laid pair_words c.pairs in
    let cl : List ℕ = (8 * 268435456 + length (so_far c)) ∷ [] in
    let e : (r ++ (m ++ p)) ++ cl ≡ r ++ (m ++ (p ++ cl)) = simp append_assoc in
    let h = header_of c.identity c.block o.identity o.block in
    ap (λ (x : Outcome). continued x ((r ++ (m ++ p)) ++ cl)) h
    ∙ ap (body 3 4 (made c.identity c.block [] [] [])) e
    ∙ body-all c o

pub all_these : (c : Contents) → Valid c → reads (flat (layout c)) ≡ accepted c
all_these c valid =
    let o = orderly_from c valid in
    let n = so_far-count c in
    let m = length-append (so_far c) ((8 * 268435456 + length (so_far c)) ∷ []) in
    let f = flat-count (layout c) in
    let z : length (layout c) ≡ length (so_far c) + 1 = m in
    let s : sized (length (flat (layout c))) ≡ true = sized_true (length (flat (layout c))) (omega (arith, n, z, f)) (omega (arith, n, z, f, o.rows.few, o.members.few, o.pairs.few)) (omega (arith, f)) in
    cond-true _ _ _ s
    ∙ ap (λ (x : List ℕ). settled (reads_words x)) (words-flat (layout c))
    ∙ ap settled (words-all c o)
    ∙ ap (λ (x : Option ℕ). judged_sets x c) (pass_from c.members 3 c.rows (apart_of c.members c.rows valid.one_on))

pub exactly : Exactly
exactly = record { only = only_these; all = all_these }
