-- Framed bytes are laid out as they read.
use Rattle.std.proofs.Common.{◌≡◌, ℕ, zero, suc, ◌+◌, ◌-◌, ◌*◌, ◌/◌, ◌%◌, ◌<◌, ◌≤◌, Bool, true, false, cond, eqb, ltb, leb, List, [], ◌∷◌, ◌++◌, length, get_or, take, drop, sym, refl, ap, ◌∙◌, add-zero, arith}
use Rattle.std.proofs.Math.Seq.{drop-cons, take-suc}
use Rattle.std.proofs.lemmas.List.{take_all, length-take, take-append-drop, length-drop, drop-drop, get_or-drop, get_or-take, get_or_past}
use Rattle.std.proofs.lemmas.Bool.{eqb-true, eqb-false, leb-true, ltb-true, ltb-false, or_parts}
use Rattle.std.proofs.lemmas.Bool.Decides.{nat_tests}
use Rattle.message.specs.Codes.{code}
use Rattle.message.specs.Messages.{Fields, muid, encode, framed, fields}
use Rattle.message.specs.Kinds.{Kind, discovery, discovery_reply, invalidation, profile_inquiry, profile_reply, set_on, set_off, enabled, disabled, added, removed, nak, other, kind, kind_by, least, too_short, count_at, two_lists, with_id}
use Rattle.message.specs.Laws.{Of, InFront, LaidOut}
use Rattle.message.specs.declared.sub_id.SubId.{SubId}
use Rattle.message.proofs.Framing.{inner-low, framed_inside}

low : (b r : ℕ) → b < 0x80 → (b + r * 0x80) % 0x80 ≡ b
low b r h = omega arith

number_forth : (a b c d : ℕ) → a < 0x80 → b < 0x80 → c < 0x80 → muid (a + b * 0x80 + c * 0x4000 + d * 0x200000) ≡ a ∷ b ∷ c ∷ d ∷ []
number_forth a b c d ha hb hc =
    let n : ℕ = a + b * 0x80 + c * 0x4000 + d * 0x200000 in
    let p : n / 0x80 ≡ b + (c + d * 0x80) * 0x80 = omega arith in
    let q : n / 0x4000 ≡ c + d * 0x80 = omega arith in
    let e0 : n % 0x80 ≡ a = omega arith in
    let e1 : n / 0x80 % 0x80 ≡ b = ap (λ (x : ℕ). x % 0x80) p ∙ low b (c + d * 0x80) hb in
    let e2 : n / 0x4000 % 0x80 ≡ c = ap (λ (x : ℕ). x % 0x80) q ∙ low c d hc in
    let e3 : n / 0x200000 ≡ d = omega arith in
    cc

-- n bytes from i on, one by one, and the rest
abbrev spread : ℕ → ℕ → List ℕ → List ℕ
spread zero i bs = drop i bs
spread (suc n) i bs = get_or bs i 0 ∷ spread n (suc i) bs

spread_is : (n i : ℕ) (bs : List ℕ) → i + n ≤ length bs → drop i bs ≡ spread n i bs
spread_is zero i bs h = refl
spread_is (suc n) i bs h = drop-cons bs i 0 (omega arith) ∙ ap (λ (xs : List ℕ). get_or bs i 0 ∷ xs) (spread_is n (suc i) bs (omega arith))

fixed-bytes : (bs : List ℕ) → framed bs ≡ true
    → (get_or bs 0 0 ≡ 0xF0) × (get_or bs 1 0 ≡ 0x7E) × (get_or bs 3 0 ≡ 0x0D) × (get_or bs (length bs - 1) 0 ≡ 0xF7)
fixed-bytes bs h = (grind (arith, nat_tests), grind (arith, nat_tests), grind (arith, nat_tests), grind (arith, nat_tests))

-- the bytes are the layout of their fields
encode-fields : (bs : List ℕ) → framed bs ≡ true → encode (fields bs) ≡ bs
encode-fields bs h =
    let s = (framed_inside bs h).1 in
    let long = (framed_inside bs h).0 in
    let fixed = fixed-bytes bs h in
    let low : (k : ℕ) → k + 2 < length bs → get_or bs (1 + k) 0 < 0x80 = λ k r. inner-low bs k s r in
    let source = number_forth (get_or bs 6 0) (get_or bs 7 0) (get_or bs 8 0) (get_or bs 9 0) (low 5 (omega arith)) (low 6 (omega arith)) (low 7 (omega arith)) in
    let destination = number_forth (get_or bs 10 0) (get_or bs 11 0) (get_or bs 12 0) (get_or bs 13 0) (low 9 (omega arith)) (low 10 (omega arith)) (low 11 (omega arith)) in
    let n = length-drop 14 bs in
    let size : length (drop 14 bs) ≤ suc (length bs - 15) = omega arith in
    let place : 14 + (length bs - 15) ≡ length bs - 1 = omega arith in
    let last = get_or-drop 14 bs (length bs - 15) 0 ∙ ap (λ (k : ℕ). get_or bs k 0) place in
    let tail = take-suc (drop 14 bs) (length bs - 15) 0 (omega arith) in
    let all = take_all (suc (length bs - 15)) (drop 14 bs) size in
    let whole = spread_is 14 0 bs (omega arith) in
    cc

fork : (P : Kind → Type 0) (b : Bool) (x y : Kind) → (b ≡ true → P x) → (b ≡ false → P y) → P (cond b x y)
fork P true x y f g = f refl
fork P false x y f g = g refl

-- a front of n bytes
front : (n : ℕ) (body : List ℕ) → n ≤ length body → InFront n (take n body) body
front n body h = (omega (arith, length-take n body), (drop n body, sym (take-append-drop n body)))

two_front : (xs : List ℕ) → 2 ≤ length xs → xs ≡ get_or xs 0 0 ∷ get_or xs 1 0 ∷ drop 2 xs
two_front [] h = absurd (omega arith)
two_front (x ∷ []) h = absurd (omega arith)
two_front (x ∷ y ∷ xs) h = refl

-- a count and what its two bytes are
count-bytes : (a b n : ℕ) → a < 0x80 → n ≡ a + b * 0x80 → (a ≡ n % 0x80) × (b ≡ n / 0x80)
count-bytes a b n h e = (omega arith, omega arith)

lists_laid : (body : List ℕ) (n k : ℕ) → n ≡ count_at 0 body → k ≡ count_at (2 + 5 * n) body → get_or body 0 0 < 0x80 → get_or body (2 + 5 * n) 0 < 0x80
    → 4 + 5 * n + 5 * k ≤ length body
    → body ≡ n % 0x80 ∷ n / 0x80 ∷ (take (5 * n) (drop 2 body) ++ (k % 0x80 ∷ k / 0x80 ∷ (take (5 * k) (drop (4 + 5 * n) body) ++ drop (5 * k) (drop (4 + 5 * n) body))))
lists_laid body n k e f p q long =
    let c = count-bytes (get_or body 0 0) (get_or body 1 0) n p e in
    let d = count-bytes (get_or body (2 + 5 * n) 0) (get_or body (2 + 5 * n + 1) 0) k q f in
    let tail : List ℕ = drop (2 + 5 * n) body in
    let m = length-drop (2 + 5 * n) body in
    let t0 : get_or tail 0 0 ≡ k % 0x80 = get_or-drop (2 + 5 * n) body 0 0 ∙ ap (λ (i : ℕ). get_or body i 0) (add-zero (2 + 5 * n)) ∙ d.0 in
    let t1 : get_or tail 1 0 ≡ k / 0x80 = get_or-drop (2 + 5 * n) body 1 0 ∙ d.1 in
    let t2 : drop 2 tail ≡ drop (4 + 5 * n) body = drop-drop 2 (2 + 5 * n) body ∙ ap (λ (i : ℕ). drop i body) (omega arith) in
    let t3 = take-append-drop (5 * k) (drop (4 + 5 * n) body) in
    let t : tail ≡ k % 0x80 ∷ k / 0x80 ∷ (take (5 * k) (drop (4 + 5 * n) body) ++ drop (5 * k) (drop (4 + 5 * n) body)) =
    two_front tail (omega arith) ∙ rw (t0, t1, t2, t3) in
    let u : drop (5 * n) (drop 2 body) ≡ tail = drop-drop (5 * n) 2 body ∙ ap (λ (i : ℕ). drop i body) (omega arith) in
    let b0 = c.0 in
    let b1 = c.1 in
    two_front body (omega arith)
    ∙ ap (λ (xs : List ℕ). get_or body 0 0 ∷ get_or body 1 0 ∷ xs) (sym (take-append-drop (5 * n) (drop 2 body)) ∙ ap (λ (xs : List ℕ). take (5 * n) (drop 2 body) ++ xs) (u ∙ t))
    ∙ ap (λ (x : ℕ). x ∷ get_or body 1 0 ∷ (take (5 * n) (drop 2 body) ++ (k % 0x80 ∷ k / 0x80 ∷ (take (5 * k) (drop (4 + 5 * n) body) ++ drop (5 * k) (drop (4 + 5 * n) body))))) b0
    ∙ ap (λ (x : ℕ). n % 0x80 ∷ x ∷ (take (5 * n) (drop 2 body) ++ (k % 0x80 ∷ k / 0x80 ∷ (take (5 * k) (drop (4 + 5 * n) body) ++ drop (5 * k) (drop (4 + 5 * n) body))))) b1

-- how long a body is that is not too short
long_enough : (m : Fields) → too_short m ≡ false → least m.sub m.version ≤ 15 + length m.body
long_enough m h = ltb-false (15 + length m.body) (least m.sub m.version) h

at_least : (sub : SubId) (m : Fields) → m.sub ≡ code sub → too_short m ≡ false → least (code sub) m.version ≤ 15 + length m.body
at_least sub m e h = let k = long_enough m h in rw (← e) k

choice : (b : Bool) (x y n : ℕ) → cond b (15 + x) (15 + y) ≤ 15 + n → cond b x y ≤ n
choice true x y n h = omega arith
choice false x y n h = omega arith

either_way : (b : Bool) (x y low n : ℕ) → low ≤ x → low ≤ y → cond b x y ≤ n → low ≤ n
either_way true x y low n p q h = omega arith
either_way false x y low n p q h = omega arith

module _ (m : Fields) (low-bytes : (k : ℕ) → get_or m.body k 0 < 0x80) (versioned : 0 < m.version) (enough : too_short m ≡ false) where
  of : (sub : SubId) → eqb m.sub (code sub) ≡ true → Of sub m
  of sub h = (eqb-true m.sub (code sub) h, versioned)

  setting : (sub : SubId) → eqb m.sub (code sub) ≡ true → least (code sub) m.version ≡ cond (leb m.version 1) 20 22
      → cond (leb m.version 1) 5 7 ≤ length m.body
  setting sub h e =
      let k = at_least sub m (eqb-true m.sub (code sub) h) enough in
      choice (leb m.version 1) 5 7 (length m.body) (rw (← e) k)

  reported : (sub : SubId) (k : List ℕ → Kind) → ((id : List ℕ) → Of sub m × InFront 5 id m.body → LaidOut m (k id)) → eqb m.sub (code sub) ≡ true
      → LaidOut m (with_id k m.body)
  reported sub k f h =
      fork (LaidOut m) (leb 5 (length m.body)) (k (take 5 m.body)) other
      (λ t. f (take 5 m.body) (of sub h, front 5 m.body (leb-true 5 (length m.body) t))) (λ t. tt)

  listed : eqb m.sub (code SubId.ReplyToProfileInquiry) ≡ true → LaidOut m (two_lists m.body)
  listed h =
      let n : ℕ = count_at 0 m.body in
      let k : ℕ = count_at (2 + 5 * n) m.body in
      fork (LaidOut m) (leb (4 + 5 * n + 5 * k) (length m.body))
      (profile_reply (take (5 * n) (drop 2 m.body)) (take (5 * k) (drop (4 + 5 * n) m.body))) other
      (λ t.
      let long = leb-true (4 + 5 * n + 5 * k) (length m.body) t in (
        of SubId.ReplyToProfileInquiry h,
        (
          n,
          k,
          omega (arith, long, length-take (5 * n) (drop 2 m.body), length-drop 2 m.body),
          omega (arith, long, length-take (5 * k) (drop (4 + 5 * n) m.body), length-drop (4 + 5 * n) m.body),
          (drop (5 * k) (drop (4 + 5 * n) m.body), lists_laid m.body n k refl refl (low-bytes 0) (low-bytes (2 + 5 * n)) long),
        ),
      ))
      (λ t. tt)

  by-sub : LaidOut m (kind_by m.sub m.body)
  by-sub =
      fork (LaidOut m) _ profile_inquiry _ (λ t. of SubId.ProfileInquiry t)
      (λ _. fork (LaidOut m) _ (two_lists m.body) _ (λ t. listed t)
      (λ _. fork (LaidOut m) _ (set_on (take 5 m.body)) _
      (λ t. let n = setting SubId.SetProfileOn t refl in (of SubId.SetProfileOn t, front 5 m.body (either_way _ 5 7 5 _ (omega arith) (omega arith) n), n))
      (λ _. fork (LaidOut m) _ (set_off (take 5 m.body)) _
      (λ t. let n = setting SubId.SetProfileOff t refl in (of SubId.SetProfileOff t, front 5 m.body (either_way _ 5 7 5 _ (omega arith) (omega arith) n), n))
      (λ _. fork (LaidOut m) _ (with_id enabled m.body) _ (reported SubId.ProfileEnabledReport enabled (λ id p. p))
      (λ _. fork (LaidOut m) _ (with_id disabled m.body) _ (reported SubId.ProfileDisabledReport disabled (λ id p. p))
      (λ _. fork (LaidOut m) _ (with_id added m.body) _ (reported SubId.ProfileAddedReport added (λ id p. p))
      (λ _. fork (LaidOut m) _ (with_id removed m.body) _ (reported SubId.ProfileRemovedReport removed (λ id p. p))
      (λ _. fork (LaidOut m) _ (discovery m.body) _
      (λ t. (of SubId.Discovery t, refl, choice _ 16 17 _ (at_least SubId.Discovery m (eqb-true _ _ t) enough)))
      (λ _. fork (LaidOut m) _ (discovery_reply m.body) _
      (λ t. (of SubId.ReplyToDiscovery t, refl, choice _ 16 18 _ (at_least SubId.ReplyToDiscovery m (eqb-true _ _ t) enough)))
      (λ _. fork (LaidOut m) _ (invalidation (take 4 m.body)) _
      (λ t. (of SubId.InvalidateMuid t, front 4 m.body (let k = at_least SubId.InvalidateMuid m (eqb-true _ _ t) enough in omega arith)))
      (λ _. fork (LaidOut m) _ (nak m.body) _ (λ t. (of SubId.Nak t, refl)) (λ _. tt))))))))))))

above_zero : (n : ℕ) → eqb n 0 ≡ false → 0 < n
above_zero n h = let e = eqb-false n 0 h in grind (arith, nat_tests)

-- a byte of the body, or 0 past its end
body-low : (bs : List ℕ) → framed bs ≡ true → (k : ℕ) → get_or (fields bs).body k 0 < 0x80
body-low bs f k = go (ltb k (length bs - 15)) refl
  where
    go : (b : Bool) → ltb k (length bs - 15) ≡ b → get_or (fields bs).body k 0 < 0x80
    go true t =
        let lt = ltb-true k (length bs - 15) t in
        let e = get_or-take (length bs - 15) (drop 14 bs) k 0 lt ∙ get_or-drop 14 bs k 0 in
        let p : 14 + k ≡ 1 + (13 + k) = omega arith in
        let q = ap (λ (i : ℕ). get_or bs i 0) p in
        omega (arith, e, q, inner-low bs (13 + k) (framed_inside bs f).1 (omega arith))
    go false t =
        let ge = ltb-false k (length bs - 15) t in
        let n = length-take (length bs - 15) (drop 14 bs) in
        let e = get_or_past (fields bs).body k 0 (omega arith) in
        omega (arith, e)

pub laid_out : (bs : List ℕ) → framed bs ≡ true → (encode (fields bs) ≡ bs) × LaidOut (fields bs) (kind (fields bs))
laid_out bs f = (
  encode-fields bs f,
  fork (LaidOut (fields bs)) _ _ _ (λ _. tt)
      (λ h.
      let p = or_parts (eqb (fields bs).version 0) (too_short (fields bs)) h in
      by-sub (fields bs) (body-low bs f) (above_zero (fields bs).version p.0) p.1),
)
