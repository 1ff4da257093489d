-- Rows by address and ID, and by their key, are the same rows.
use Rattle.std.proofs.Common.{◌≡◌, ℕ, Bool, true, false, cond, not, ◌||◌, eqb, List, [], ◌∷◌, get_or, Some, None, Option, sym, refl, ap, ◌∙◌, subst, ⊎_elim, MatchOption}
use Rattle.std.specs.Str.{bytes_eq}
use Rattle.std.proofs.lemmas.Bool.{and_parts, and_from, eqb-true, eq-eqb, both_ways, cases_Bool}
use Rattle.std.proofs.lemmas.Slice.Eq.{bytes_eq-Decides}
use Rattle.rising.specs.Order.{same_key}
use Rattle.rising.specs.Lists.{Rising, Stands, Absent, holds, found, without}
use Rattle.rising.proofs.Order.{same_eq, same_from}
use Rattle.message.specs.Rows.{row_key}
use Rattle.message.specs.declared.row.Row.{Row}
use Rattle.host.specs.Rows.{row, same, look, has, is_there, without_row}
use Rattle.host.specs.Tables.{Placed}

pub same_row : (a : ℕ) (i : List ℕ) (r : Row) → same a i r ≡ true → row_key r ≡ a ∷ i
same_row a i r h =
    let p = and_parts (eqb a r.address) (bytes_eq i r.id) h in
    let e = eqb-true a r.address p.0 in
    let d = (bytes_eq-Decides i r.id).0 p.1 in
    cc

pub row_same : (a : ℕ) (i : List ℕ) (r : Row) → row_key r ≡ a ∷ i → same a i r ≡ true
row_same a i r h =
    let e : a ≡ r.address = cc in
    let d : i ≡ r.id = cc in
    and_from (eqb a r.address) (bytes_eq i r.id) (eq-eqb a r.address e) ((bytes_eq-Decides i r.id).1 d)

-- the two tests agree
pub key_same : (a : ℕ) (i : List ℕ) (r : Row) → same_key (row_key r) (a ∷ i) ≡ same a i r
key_same a i r =
    ⊎_elim
    (λ (t : (same a i r ≡ true)). same_from (row_key r) (a ∷ i) (same_row a i r t) ∙ sym t)
    (λ (t : (same a i r ≡ false)).
    ⊎_elim
    (λ (u : (same_key (row_key r) (a ∷ i) ≡ true)). absurd (both_ways (same a i r) t (row_same a i r (same_eq (row_key r) (a ∷ i) u))))
    (λ (u : (same_key (row_key r) (a ∷ i) ≡ false)). u ∙ sym t)
    (cases_Bool (same_key (row_key r) (a ∷ i))))
    (cases_Bool (same a i r))

abbrev pub state_of : Option Row → Option Bool
state_of None = None
state_of (Some r) = Some r.on

pub look-found : (l : List Row) (a : ℕ) (i : List ℕ) (on : Bool) → look l a i ≡ state_of (found row_key (row a i on) l)
look-found [] a i on = refl
look-found (r ∷ l) a i on = go (same_key (row_key r) (a ∷ i)) (same a i r) (key_same a i r) (look-found l a i on)
  where
    go : (k s : Bool) → k ≡ s → look l a i ≡ state_of (found row_key (row a i on) l)
        → cond s (Some r.on) (look l a i) ≡ state_of (cond k (Some r) (found row_key (row a i on) l))
    go true true e ih = refl
    go false false e ih = ih
    go true false e ih = absurd (both_ways true e refl)
    go false true e ih = absurd (both_ways false refl e)

pub has-holds : (l : List Row) (a : ℕ) (i : List ℕ) (on : Bool) → has l a i ≡ holds row_key (row a i on) l
has-holds [] a i on = refl
has-holds (r ∷ l) a i on = go (same_key (row_key r) (a ∷ i)) (same a i r) (key_same a i r) (has-holds l a i on)
  where
    go : (k s : Bool) → k ≡ s → has l a i ≡ holds row_key (row a i on) l
        → is_there (cond s (Some r.on) (look l a i)) ≡ (k || holds row_key (row a i on) l)
    go true true e ih = refl
    go false false e ih = ih
    go true false e ih = absurd (both_ways true e refl)
    go false true e ih = absurd (both_ways false refl e)

pub without-same : (l : List Row) (a : ℕ) (i : List ℕ) (on : Bool) → without row_key (row a i on) l ≡ without_row a i l
without-same [] a i on = refl
without-same (r ∷ l) a i on = go (same_key (row_key r) (a ∷ i)) (same a i r) (key_same a i r) (without-same l a i on)
  where
    go : (k s : Bool) → k ≡ s → without row_key (row a i on) l ≡ without_row a i l
        → cond k (without row_key (row a i on) l) (r ∷ without row_key (row a i on) l) ≡ cond (not s) (r ∷ without_row a i l) (without_row a i l)
    go true true e ih = ih
    go false false e ih = ap (λ (ys : List Row). r ∷ ys) ih
    go true false e ih = absurd (both_ways true e refl)
    go false true e ih = absurd (both_ways false refl e)

-- what a search by key tells of a row
module _ (l : List Row) (up : Rising row_key l) (a : ℕ) (i : List ℕ) (on : Bool) where
  abbrev pub Searched : Row → Option ℕ → Type 0
  Searched x o =
      MatchOption o (Rising row_key l → Absent row_key x l) (Stands row_key x l)
      × MatchOption o (Rising row_key l → found row_key x l ≡ None) (λ k. Rising row_key l → (d : Row) → found row_key x l ≡ Some (get_or l k d))

  by_key : (o : Option ℕ) → Searched (row a i on) o → Placed l a i o
  by_key None (p, f) = look-found l a i on ∙ ap state_of (f up)
  by_key (Some k) (p, f) = (p.0, λ d. (p.1 d, look-found l a i on ∙ ap state_of (f up d)))

  pub placed : (x : Row) → x ≡ row a i on → (o : Option ℕ) → Searched x o → Placed l a i o
  placed x e o h = by_key o (subst (λ (z : Row). Searched z o) e h)
