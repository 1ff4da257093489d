-- The set of an ID by its place, and entries that are not refused.
use Rattle.std.proofs.Common.{◌≡◌, ℕ, zero, suc, ◌<◌, ◌≤◌, Bool, true, false, cond, ◌&&◌, leb, List, [], ◌∷◌, length, get_or, Some, None, Ok, Option, Result, sym, refl, ap, ◌∙◌, arith}
use Rattle.std.specs.List.{list_all}
use Rattle.std.specs.Str.{bytes_eq}
use Rattle.message.specs.Bytes.{is_id}
use Rattle.message.specs.declared.refusal.Refusal.{Refusal}
use Rattle.std.proofs.lemmas.Bool.{and_parts, leb-true}
use Rattle.std.proofs.lemmas.List.Sums.{AllPass-from_list_all}
use Rattle.std.proofs.lemmas.Bool.Decides.{same_from_decides}
use Rattle.std.proofs.lemmas.Slice.Eq.{bytes_eq-Decides}
use Rattle.rising.specs.Order.{Key, same_key}
use Rattle.rising.specs.Lists.{found, rising, Rising}
use Rattle.rising.proofs.Order.{same_eq, same_from}
use Rattle.layers.specs.declared.member.Member.{Member}
use Rattle.layers.specs.Lists.{judged, judged_entries, in_order, member_key, member_ranged}
use Rattle.layers.specs.Sets.{set_of, some_set}

pub same_ways : (i j : List ℕ) → bytes_eq i j ≡ same_key j i
same_ways i j = same_from_decides (bytes_eq i j) (same_key j i) (bytes_eq-Decides i j) ((λ t. sym (same_eq j i t)), λ e. same_from j i (sym e))

-- the set of a member that may be there
abbrev pub set_in : Option Member → ℕ
set_in None = 0
set_in (Some m) = m.set

pub set_found : (ms : List Member) (i : List ℕ) (d : ℕ) → set_of ms i ≡ set_in (found member_key (record { id = i; set = d }) ms)
set_found [] i d = refl
set_found (m ∷ ms) i d =
    ap (λ (b : Bool). cond b m.set (set_of ms i)) (same_ways i m.id) ∙ go (same_key m.id i) (set_found ms i d)
  where
    go : (b : Bool) → set_of ms i ≡ set_in (found member_key (record { id = i; set = d }) ms)
        → cond b m.set (set_of ms i) ≡ set_in (cond b (Some m) (found member_key (record { id = i; set = d }) ms))
    go true e = refl
    go false e = e

pub set_positive : (ms : List Member) (k : ℕ) (d : Member) → list_all member_ranged ms ≡ true → k < length ms → 0 < (get_or ms k d).set
set_positive ms k d h lt =
    let m : Member = get_or ms k d in
    let p = and_parts (leb 1 m.set && leb m.set 8) (is_id m.id) (AllPass-from_list_all member_ranged ms h k d lt) in
    let q : leb 1 m.set ≡ true = (and_parts (leb 1 m.set) (leb m.set 8) p.0).0 in
    omega (arith, leb-true 1 m.set q)

pub some_positive : (n : ℕ) → 0 < n → some_set n ≡ Some n
some_positive zero h = absurd (omega arith)
some_positive (suc n) h = refl

-- entries that are not refused are in range, in order and not too many
pub record Accepted {X : Type 0} (ranged : X → Bool) (key : X → Key) (xs : List X) : Type 0 where
  pub fit : list_all ranged xs ≡ true
  pub ordered : in_order key xs ≡ true
  pub few : length xs ≤ 16
  pub up : Rising key xs

unrefused : (fit ordered : Bool) (u : Unit {0}) → judged fit ordered ≡ Ok u → (fit ≡ true) × (ordered ≡ true)
unrefused true true u e = (refl, refl)
unrefused true false u e = absurd (grind arith)
unrefused false ordered u e = absurd (grind arith)

pub accepted : {X : Type 0} (ranged : X → Bool) (key : X → Key) (xs : List X) (r : Result (Unit {0}) Refusal) (u : Unit {0})
    → r ≡ judged_entries ranged key xs → r ≡ Ok u → Accepted ranged key xs
accepted ranged key xs r u e t =
    let j = unrefused (list_all ranged xs) (in_order key xs) u (sym e ∙ t) in
    let p = and_parts (leb (length xs) 16) (rising key xs) j.1 in
    record { fit = j.0; ordered = j.1; few = leb-true (length xs) 16 p.0; up = p.1 }
