-- Rivals are put off one by one below, and then the on below is the on of the sets layer.
use Rattle.std.proofs.Common.{◌≡◌, ℕ, suc, ◌+◌, ◌<◌, Bool, true, false, cond, not, ◌&&◌, ◌||◌, eqb, List, [], ◌∷◌, map, length, get_or, Some, Option, sym, refl, ap, ◌∙◌, subst, ⊎_elim, arith, below_more}
use Rattle.std.specs.List.{list_any}
use Rattle.std.specs.Str.{bytes_eq}
use Rattle.std.proofs.Math.Bool.{and-false}
use Rattle.std.proofs.lemmas.List.{length-map, get_or-map, get_or_default, map-id}
use Rattle.std.proofs.lemmas.List.Folds.{list_any_at}
use Rattle.std.proofs.lemmas.Simd.{map-map}
use Rattle.std.proofs.lemmas.Bool.{or_left, or_right, or_cases, or_parts, and_parts, and_from, and_left, and_right, not-true, not-false, not_from_false, eqb-true, both_ways, cases_Bool, true_from_ne_false, false_from_ne_true}
use Rattle.std.proofs.lemmas.Slice.Eq.{bytes_eq-Decides}
use Rattle.rising.specs.Lists.{Rising}
use Rattle.message.specs.Rows.{row_key}
use Rattle.message.specs.declared.row.Row.{Row}
use Rattle.host.specs.Rows.{row, same, look}
use Rattle.host.specs.Hosts.{Consents, differs, goes, turned, Kept, Switched, Plugged, Pulled}
use Rattle.layers.specs.declared.member.Member.{Member}
use Rattle.layers.specs.Sets.{rival, set_on, setted}
use Rattle.layers.specs.Clearing.{cleared, Cleared}
use Rattle.layers.specs.Lawfulness.{only, Rival, rival-parts, bytes_turn}
use Rattle.layers.proofs.Lookups.{look_at, none_at, any_comp, any_less}

and_second : (x y : Bool) → (x && y) ≡ false → x ≡ true → y ≡ false
and_second true y h e = h
and_second false y h e = absurd (both_ways false refl e)

rival_from : (ms : List Member) (a : ℕ) (i : List ℕ) (r : Row) → Rival ms a i r → rival ms a i r ≡ true
rival_from ms a i r q = and_from _ _ q.here (and_from _ _ q.on (and_from _ _ q.joined (not_from_false _ q.other)))

-- the ID is that of a rival
abbrev rivals : List Member → List Row → ℕ → List ℕ → List ℕ → Bool
rivals ms l a i j = list_any (λ r. rival ms a i r && bytes_eq j r.id) l

on-parts : (ms : List Member) (l : List Row) (c : Consents) (a : ℕ) (i : List ℕ) → set_on ms l c a i ≡ true
    → (c.on a i ≡ true) × (list_any (λ r. rival ms a i r && not (c.off a r.id)) l ≡ false)
on-parts ms l c a i h = let q = and_parts _ _ h in (q.0, not-true _ q.1)

free-row : (b o : Bool) → (b && not o) ≡ false → b ≡ true → o ≡ true
free-row b o h t = not-false o (and_second b (not o) h t)

-- a row with other IDs than those put off stays
cleared-kept : (a : ℕ) (ids : List ℕ → Bool) (r : Row) → ids r.id ≡ false → cleared a ids r ≡ r
cleared-kept a ids r h = rw (h, and-false (eqb a r.address))

joins : (x p s o : Bool) → cond (x && s) false (cond (x && p) false o) ≡ cond (x && (p || s)) false o
joins true true true o = refl
joins true true false o = refl
joins true false true o = refl
joins true false false o = refl
joins false p s o = refl

-- one more ID put off
turned-cleared : (a : ℕ) (ids : List ℕ → Bool) (j : List ℕ) (names : List ℕ → Bool) (r : Row)
    → turned a j false names (cleared a ids r) ≡ cleared a (λ m. ids m || bytes_eq j m) r
turned-cleared a ids j names r = ap (row r.address r.id) (joins (eqb a r.address) (ids r.id) (bytes_eq j r.id) r.on)

-- a row that is off stays off
off_bits : (k b o : Bool) (x y : Option Bool) → differs (cond k (Some o) x) true ≡ true → (differs x true ≡ true → differs y true ≡ true)
    → differs (cond k (Some (cond b false o)) y) true ≡ true
off_bits true true o x y h f = refl
off_bits true false o x y h f = h
off_bits false b o x y h f = f h

off-still : (a : ℕ) (ids : List ℕ → Bool) (i : List ℕ) (b : ℕ) (l : List Row) → differs (look l b i) true ≡ true → differs (look (map (cleared a ids) l) b i) true ≡ true
off-still a ids i b [] h = h
off-still a ids i b (r ∷ l) h =
    off_bits (same b i r) (eqb a r.address && ids r.id) r.on (look l b i) (look (map (cleared a ids) l) b i) h (off-still a ids i b l)

module _ (ms : List Member) (l : List Row) (c : Consents) (f : Bool) (a : ℕ) (i : List ℕ) where
  pub cleared_start : set_on ms l c a i ≡ true → Cleared ms l c f a i 0 l c f
  cleared_start h =
      record {
        ids = λ _. false;
        rows = sym ((λ t. map (λ r. cleared-kept a (λ _. false) r refl t) l) ∙ map-id l);
        picks = λ j t. absurd (both_ways false refl t);
        front = λ m d lt t. absurd (omega arith);
        on = (on-parts ms l c a i h).0;
        off = λ j _ t. t;
        names = λ j _. refl;
        fixed = refl;
      }

  module _ (k : ℕ) (l' : List Row) (c' : Consents) (f' : Bool) (q : Cleared ms l c f a i k l' c' f') where
    -- the rows below are those at the start, but for their states
    cleared-row : (m : ℕ) (d : Row) → m < length l → get_or l' m d ≡ cleared a q.ids (get_or l m d)
    cleared-row m d lt = ap (λ z. get_or z m d) q.rows ∙ get_or-map (cleared a q.ids) l m d d lt

    pub cleared_length : length l' ≡ length l
    cleared_length = ap length q.rows ∙ length-map l (cleared a q.ids)

    pub cleared_pass : (d : Row) → k < length l → rival ms a i (get_or l' k d) ≡ false → Cleared ms l c f a i (k + 1) l' c' f'
    cleared_pass d lk h =
        record {
          ids = q.ids;
          rows = q.rows;
          picks = q.picks;
          front = λ m e lt. below_more (λ n. rival ms a i (get_or l n e) ≡ true → q.ids (get_or l n e).id ≡ true) k (λ n ln. q.front n e ln) (here e) m lt;
          on = q.on;
          off = q.off;
          names = q.names;
          fixed = q.fixed;
        }
      where
        here : (e : Row) → rival ms a i (get_or l k e) ≡ true → q.ids (get_or l k e).id ≡ true
        here e t =
            true_from_ne_false _
            (λ n.
            let is : get_or l' k e ≡ get_or l k e = cleared-row k e lk ∙ cleared-kept a q.ids (get_or l k e) n in
            both_ways _ (ap (rival ms a i) (sym is ∙ get_or_default l' k e d (omega (arith, cleared_length))) ∙ h) t)

    -- a rival is put off: a row that was on at the start, and that no earlier step put off
    pub cleared_turn : (d : Row) (l'' : List Row) (c'' : Consents) (f'' answer : Bool) → k < length l → Rising row_key l' → set_on ms l c a i ≡ true
        → rival ms a i (get_or l' k d) ≡ true → Switched l' c' f' a (get_or l' k d).id false l'' c'' f'' answer → Cleared ms l c f a i (k + 1) l'' c'' f''
    cleared_turn d l'' c'' f'' answer lk up h t s =
        let y : Row = get_or l' k d in
        let x : Row = get_or l k d in
        let ids : List ℕ → Bool = q.ids in
        let is : y ≡ cleared a ids x = cleared-row k d lk in
        let lk1 : k < length l' = omega (arith, cleared_length) in
        let v : Rival ms a i y = rival-parts ms a i y t in
        let vx : Rival ms a i (cleared a ids x) = rival-parts ms a i (cleared a ids x) (ap (rival ms a i) (sym is) ∙ t) in
        let o = only (eqb a x.address && ids x.id) x.on vx.on in
        let same_id : y.id ≡ x.id = ap (λ (r : Row). r.id) is in
        let left : ids x.id ≡ false = and_second _ _ o.0 vx.here in
        let rx : rival ms a i x ≡ true = rival_from ms a i x (record { here = vx.here; on = o.1; joined = vx.joined; other = vx.other }) in
        let sx : Switched l' c' f' a x.id false l'' c'' f'' answer = subst (λ (j : List ℕ). Switched l' c' f' a j false l'' c'' f'' answer) same_id s in
        let free : c.off a x.id ≡ true =
        free-row (rival ms a i x) (c.off a x.id) (none_at (λ r. rival ms a i r && not (c.off a r.id)) l k d (on-parts ms l c a i h).1 lk) rx in
        let seen : look l' a x.id ≡ Some true =
        ap (λ (n : ℕ). look l' n x.id) (eqb-true a y.address v.here)
        ∙ ap (λ (j : List ℕ). look l' y.address j) (sym same_id) ∙ look_at l' k d up lk1 ∙ ap (λ (b : Bool). Some b) v.on in
        let g : goes l' c' a x.id false ≡ true = and_from _ _ (q.off x.id left free) (ap (λ (b : Option Bool). differs b false) seen) in
        let K : Kept a x.id c' c'' = sx.kept g refl in
        record {
          ids = λ m. ids m || bytes_eq x.id m;
          rows =
              (rw g at sx.rows) ∙ ap (map (turned a x.id false (c'.names a x.id))) q.rows
              ∙ map-map (turned a x.id false (c'.names a x.id)) (cleared a ids) l ∙ (λ t. map (λ r. turned-cleared a ids x.id (c'.names a x.id) r t) l);
          picks = λ j y.
              ⊎_elim (q.picks j)
              (λ z.
              subst (λ (m : List ℕ). rivals ms l a i m ≡ true) ((bytes_eq-Decides x.id j).0 z)
              (list_any_at (λ r. rival ms a i r && bytes_eq x.id r.id) l k d lk (and_from _ _ rx ((bytes_eq-Decides x.id x.id).1 refl))))
              (or_cases _ _ y);
          front = λ m e lt.
              below_more (λ n. rival ms a i (get_or l n e) ≡ true → (ids (get_or l n e).id || bytes_eq x.id (get_or l n e).id) ≡ true) k
              (λ n ln y. or_left _ _ (q.front n e ln y))
              (λ _. or_right _ _ (ap (λ (r : Row). bytes_eq x.id r.id) (get_or_default l k e d lk) ∙ (bytes_eq-Decides x.id x.id).1 refl))
              m lt;
          on = K.on a i (and_right _ _ (bytes_turn i x.id vx.other)) q.on;
          off = λ j n y. let z = or_parts _ _ n in K.off a j (and_right _ _ z.1) (q.off j z.0 y);
          names = λ j n.
              let z = or_parts _ _ n in
              K.names a i j (and_right _ _ (bytes_turn i x.id vx.other)) (and_right _ _ z.1) q.on ∙ q.names j z.0;
          fixed = sx.fixed ∙ q.fixed;
        }

-- names below, but for rows that are off by now, are names of the layer
merges : (q x p n m o : Bool) → (p ≡ false → n ≡ m) → cond q true (cond (x && n) false (cond (x && p) false o)) ≡ cond q true (cond (x && (m || p)) false o)
merges true x p n m o h = refl
merges false false p n m o h = refl
merges false true true true true o h = refl
merges false true true true false o h = refl
merges false true true false true o h = refl
merges false true true false false o h = refl
merges false true false true true o h = refl
merges false true false true false o h = absurd (both_ways true (h refl) refl)
merges false true false false true o h = absurd (both_ways false refl (h refl))
merges false true false false false o h = refl

module _ (ms : List Member) (l : List Row) (c : Consents) (f : Bool) (a : ℕ) (i : List ℕ) (l' : List Row) (c' : Consents) (f' : Bool)
    (q : Cleared ms l c f a i (length l) l' c' f') where
  -- each rival was put off, and nothing else
  all-off : (xs : List Row) → ((m : ℕ) (d : Row) → m < length xs → rival ms a i (get_or xs m d) ≡ true → q.ids (get_or xs m d).id ≡ true)
      → (j : List ℕ) → rivals ms xs a i j ≡ true → q.ids j ≡ true
  all-off [] h j t = absurd (both_ways false refl t)
  all-off (r ∷ xs) h j t =
      ⊎_elim
      (λ y.
      let p = and_parts _ _ y in
      subst (λ (m : List ℕ). q.ids m ≡ true) (sym ((bytes_eq-Decides j r.id).0 p.1)) (h 0 r (omega arith) p.0))
      (λ y. all-off xs (λ m d lt. h (suc m) d (omega arith)) j y)
      (or_cases _ _ t)

  same-ids : (j : List ℕ) → rivals ms l a i j ≡ q.ids j
  same-ids j =
      ⊎_elim
      (λ (t : (q.ids j ≡ true)). q.picks j t ∙ sym t)
      (λ (n : (q.ids j ≡ false)). false_from_ne_true _ (λ t. both_ways (q.ids j) n (all-off l q.front j t)) ∙ sym n)
      (cases_Bool (q.ids j))

  -- after the offs, the on below is the on of the layer
  pub setted_on : (l'' : List Row) (c'' : Consents) (f'' answer : Bool) → set_on ms l c a i ≡ true → differs (look l a i) true ≡ true
      → Switched l' c' f' a i true l'' c'' f'' answer → Switched l (setted ms l c) f a i true l'' (setted ms l'' c'') f'' answer
  setted_on l'' c'' f'' answer h w s =
      let ids : List ℕ → Bool = q.ids in
      let named : List ℕ → Bool = (setted ms l c).names a i in
      let gs : goes l (setted ms l c) a i true ≡ true = and_from _ _ h w in
      let w1 : differs (look l' a i) true ≡ true = rw q.rows (off-still a ids i a l w) in
      let g1 : goes l' c' a i true ≡ true = and_from _ _ q.on w1 in
      let point : (y : Row) → turned a i true (c'.names a i) (cleared a ids y) ≡ turned a i true named y =
      λ y.
      ap (row y.address y.id)
      (merges (same a i y) (eqb a y.address) (ids y.id) (c'.names a i y.id) (c.names a i y.id) y.on (q.names y.id)
      ∙ ap (λ b. cond (same a i y) true (cond (eqb a y.address && b) false y.on))
      (ap (λ b. c.names a i y.id || b) (sym (same-ids y.id)) ∙ ap (λ b. b && (c.names a i y.id || rivals ms l a i y.id)) (sym h))) in
      record {
        told = s.told ∙ g1 ∙ sym gs;
        rows =
            rw gs
            ((rw g1 at s.rows) ∙ ap (map (turned a i true (c'.names a i))) q.rows
            ∙ map-map (turned a i true (c'.names a i)) (cleared a ids) l ∙ (λ t. map (λ y. point y t) l));
        still = λ n. absurd (both_ways _ n gs);
        fixed = s.fixed ∙ q.fixed;
        kept = λ _ n. absurd (both_ways true n refl);
      }

-- an off of the layer is the off below

turned-other : (a : ℕ) (i : List ℕ) (names : List ℕ → Bool) (r : Row) → same a i r ≡ false → turned a i false names r ≡ r
turned-other a i names r h = rw h

turned-off : (a : ℕ) (i : List ℕ) (names : List ℕ → Bool) (r : Row) → same a i r ≡ true → (turned a i false names r).on ≡ false
turned-off a i names r h = rw h

rival-off : (ms : List Member) (b : ℕ) (j : List ℕ) (r : Row) → r.on ≡ false → rival ms b j r ≡ false
rival-off ms b j r h = and_right _ _ (and_left _ _ h)

module _ (ms : List Member) (l : List Row) (c : Consents) (a : ℕ) (i : List ℕ) (c' : Consents) (names : List ℕ → Bool) (K : Kept a i c c') where
  -- a rival of another row that the host below keeps on after the off was one before
  blocked-before : (b : ℕ) (j : List ℕ) (r : Row)
      → (rival ms b j (turned a i false names r) && not (c'.off b (turned a i false names r).id)) ≡ true
      → (rival ms b j r && not (c.off b r.id)) ≡ true
  blocked-before b j r h =
      let p = and_parts _ _ h in
      let n : same a i r ≡ false = false_from_ne_true _ (λ t. both_ways _ (rival-off ms b j (turned a i false names r) (turned-off a i names r t)) p.0) in
      let rx : rival ms b j r ≡ true = ap (rival ms b j) (sym (turned-other a i names r n)) ∙ p.0 in
      let v = rival-parts ms b j r rx in
      let away : (eqb a b && bytes_eq i r.id) ≡ false = subst (λ (m : ℕ). (eqb a m && bytes_eq i r.id) ≡ false) (sym (eqb-true b r.address v.here)) n in
      and_from _ _ rx (not_from_false _ (false_from_ne_true _ (λ o. both_ways _ (not-true _ p.1) (K.off b r.id away o))))

  kept_on : (b : ℕ) (j : List ℕ) → (eqb a b && bytes_eq i j) ≡ false → set_on ms l c b j ≡ true → set_on ms (map (turned a i false names) l) c' b j ≡ true
  kept_on b j ne y =
      let u = on-parts ms l c b j y in
      let p : Row → Bool = λ r. rival ms b j r && not (c'.off b r.id) in
      and_from _ _ (K.on b j ne u.0)
      (not_from_false _
      (any_comp p (turned a i false names) l
      ∙ any_less (λ r. rival ms b j r && not (c.off b r.id)) (λ r. p (turned a i false names r)) (blocked-before b j) l u.1))

  -- another row's ID is a rival's as before
  kept-rival : (b : ℕ) (j m : List ℕ) → (eqb a b && bytes_eq i m) ≡ false → (r : Row)
      → (rival ms b j (turned a i false names r) && bytes_eq m (turned a i false names r).id) ≡ (rival ms b j r && bytes_eq m r.id)
  kept-rival b j m nm r =
      ⊎_elim
      (λ (t : (same a i r ≡ true)).
      and_left _ _ (rival-off ms b j (turned a i false names r) (turned-off a i names r t))
      ∙ sym
      (false_from_ne_true _
      (λ y.
      let u = and_parts _ _ y in
      let v = rival-parts ms b j r u.0 in
      both_ways _ nm
      (subst (λ (n : List ℕ). (eqb a b && bytes_eq i n) ≡ true) (sym ((bytes_eq-Decides m r.id).0 u.1))
      (subst (λ (n : ℕ). (eqb a n && bytes_eq i r.id) ≡ true) (sym (eqb-true b r.address v.here)) t)))))
      (λ (n : (same a i r ≡ false)). ap (λ (x : Row). rival ms b j x && bytes_eq m x.id) (turned-other a i names r n))
      (cases_Bool (same a i r))

  kept-rivals : (b : ℕ) (j m : List ℕ) → (eqb a b && bytes_eq i m) ≡ false → rivals ms (map (turned a i false names) l) b j m ≡ rivals ms l b j m
  kept-rivals b j m nm =
      any_comp (λ r. rival ms b j r && bytes_eq m r.id) (turned a i false names) l
      ∙ (λ t. list_any (λ r. kept-rival b j m nm r t) l)

  setted-kept : Kept a i (setted ms l c) (setted ms (map (turned a i false names) l) c')
  setted-kept =
      record {
        on = kept_on;
        off = K.off;
        names = λ b j m ne nm y.
            let l' : List Row = map (turned a i false names) l in
            ap (λ t. t && (c'.names b j m || rivals ms l' b j m)) (kept_on b j ne y)
            ∙ ap (λ t. t || rivals ms l' b j m) (K.names b j m ne nm (on-parts ms l c b j y).0)
            ∙ ap (λ t. c.names b j m || t) (kept-rivals b j m nm)
            ∙ ap (λ t. t && (c.names b j m || rivals ms l b j m)) (sym y);
      }

pub setted-off : (ms : List Member) (l : List Row) (c : Consents) (f : Bool) (a : ℕ) (i : List ℕ) (l' : List Row) (c' : Consents) (f' answer : Bool)
    → Switched l c f a i false l' c' f' answer → Switched l (setted ms l c) f a i false l' (setted ms l' c') f' answer
setted-off ms l c f a i l' c' f' answer s =
    record {
      told = s.told;
      rows = s.rows;
      still = λ n.
          let d : l' ≡ l = rw n at s.rows in
          (λ j. setted ms (d j) (s.still n j));
      fixed = s.fixed;
      kept = λ g o.
          let e : l' ≡ map (turned a i false (c.names a i)) l = rw g at s.rows in
          subst (λ (z : List Row). Kept a i (setted ms l c) (setted ms z c')) (sym e) (setted-kept ms l c a i c' (c.names a i) (s.kept g o));
    }

-- a plug or a pull of the layer is the one below

pub setted_plugged : (ms : List Member) (l : List Row) (c : Consents) (f : Bool) (a : ℕ) (i : List ℕ) (l' : List Row) (c' : Consents) (f' answer : Bool)
    → Plugged l c f a i l' c' f' answer → Plugged l (setted ms l c) f a i l' (setted ms l' c') f' answer
setted_plugged ms l c f a i l' c' f' answer s =
    record {
      told = s.told;
      rows = s.rows;
      still = λ t.
          let d : l' ≡ l = rw t at s.rows in
          (λ j. setted ms (d j) (s.still t j));
      fixed = s.fixed;
    }

pub setted_pulled : (ms : List Member) (l : List Row) (c : Consents) (f : Bool) (a : ℕ) (i : List ℕ) (l' : List Row) (c' : Consents) (f' answer : Bool)
    → Pulled l c f a i l' c' f' answer → Pulled l (setted ms l c) f a i l' (setted ms l' c') f' answer
setted_pulled ms l c f a i l' c' f' answer s =
    record {
      told = s.told;
      rows = s.rows;
      still = λ t.
          let d : l' ≡ l = rw t at s.rows in
          (λ j. setted ms (d j) (s.still t j));
      fixed = s.fixed;
    }
