-- What a call means that changes nothing, and what the calls of a table mean.
use mathlib.Core.Bool.{beq}
use Rattle.std.proofs.Common.{◌≡◌, ℕ, Bool, true, false, not, ◌&&◌, List, map, Some, None, Option, sym, refl, ap, ◌∙◌}
use Rattle.std.proofs.lemmas.Bool.{both_ways}
use Rattle.rising.specs.Lists.{entered}
use Rattle.message.specs.Rows.{row_key}
use Rattle.message.specs.declared.row.Row.{Row}
use Rattle.host.specs.Rows.{row, look, has, is_there, without_row}
use Rattle.host.specs.Hosts.{Consents, differs, goes, turned, plugs, pulls, Switched, Plugged, Pulled}
use Rattle.host.specs.Tables.{freely}
use Rattle.host.proofs.Keeping.{has_map}

-- any host: what a host of a maker's own may cite too

pub switch_stays : (l : List Row) (c : Consents) (f : Bool) (a : ℕ) (i : List ℕ) (on : Bool) → goes l c a i on ≡ false → Switched l c f a i on l c f false
switch_stays l c f a i on h = record { told = sym h; rows = rw h; still = λ _. refl; fixed = refl; kept = λ t. absurd (both_ways _ h t) }

pub plug_stays : (l : List Row) (c : Consents) (f : Bool) (a : ℕ) (i : List ℕ) → plugs l f a i ≡ false → Plugged l c f a i l c f false
plug_stays l c f a i h = record { told = sym h; rows = rw h; still = λ _. refl; fixed = refl }

pub pull_stays : (l : List Row) (c : Consents) (f : Bool) (a : ℕ) (i : List ℕ) → pulls l f a i ≡ false → Pulled l c f a i l c f false
pull_stays l c f a i h = record { told = sym h; rows = rw h; still = λ _. refl; fixed = refl }

pub plug_enters : (l l' : List Row) (c c' : Consents) (f : Bool) (a : ℕ) (i : List ℕ) → plugs l f a i ≡ true → l' ≡ entered row_key (row a i false) l → Plugged l c f a i l' c' f true
plug_enters l l' c c' f a i h e = record { told = sym h; rows = rw h e; still = λ n. absurd (both_ways _ n h); fixed = refl }

pub pull_removes : (l l' : List Row) (c c' : Consents) (f : Bool) (a : ℕ) (i : List ℕ) → pulls l f a i ≡ true → l' ≡ without_row a i l → Pulled l c f a i l' c' f true
pull_removes l l' c c' f a i h e = record { told = sym h; rows = rw h e; still = λ n. absurd (both_ways _ n h); fixed = refl }

-- the table

listed-differs : (o : Option Bool) (on : Bool) → (is_there o && differs o on) ≡ differs o on
listed-differs None on = refl
listed-differs (Some s) on = refl

pub goes-freely : (l : List Row) (a : ℕ) (i : List ℕ) (on : Bool) → goes l (freely l) a i on ≡ differs (look l a i) on
goes-freely l a i true = listed-differs (look l a i) true
goes-freely l a i false = listed-differs (look l a i) false

-- whether a row's state is another than that asked for
pub other_state : (s on b : Bool) → not (beq s on) ≡ b → b ≡ differs (Some s) on
other_state true true b e = sym e
other_state true false b e = sym e
other_state false true b e = sym e
other_state false false b e = sym e

-- whether a row is off
pub off_state : (s b : Bool) → not s ≡ b → b ≡ differs (Some s) true
off_state true b e = sym e
off_state false b e = sym e

module _ (l : List Row) (a : ℕ) (i : List ℕ) (on answer : Bool) (told : answer ≡ differs (look l a i) on) where
  pub table_stays : answer ≡ false → Switched l (freely l) false a i on l (freely l) false answer
  table_stays n = rw n (switch_stays l (freely l) false a i on (goes-freely l a i on ∙ sym told ∙ n))

  pub table_moves : (l' : List Row) → answer ≡ true → l' ≡ map (turned a i on (λ _. false)) l → Switched l (freely l) false a i on l' (freely l') false answer
  table_moves l' y e =
      let g : goes l (freely l) a i on ≡ true = goes-freely l a i on ∙ sym told ∙ y in
      let u : (b : ℕ) (j : List ℕ) → has l' b j ≡ has l b j =
      λ b j. ap (λ (x : List Row). has x b j) e ∙ has_map (turned a i on (λ _. false)) (λ r. refl) (λ r. refl) l b j in
      record {
        told = y ∙ sym g;
        rows = rw g e;
        still = λ n. absurd (both_ways _ n g);
        fixed = refl;
        kept = λ _ _. record { on = λ b j _ t. u b j ∙ t; off = λ b j _ t. u b j ∙ t; names = λ b j k _ _ _. refl };
      }

module _ (l : List Row) (a : ℕ) (i : List ℕ) (answer : Bool) (told : answer ≡ differs (look l a i) true) where
  pub table_keeps : answer ≡ false → Pulled l (freely l) false a i l (freely l) false answer
  table_keeps n = rw n (pull_stays l (freely l) false a i (sym told ∙ n))

  pub table_loses : (l' : List Row) → answer ≡ true → l' ≡ without_row a i l → Pulled l (freely l) false a i l' (freely l') false answer
  table_loses l' y e = rw y (pull_removes l l' (freely l) (freely l') false a i (sym told ∙ y) e)
