-- Rows of a listing by their places, and tests that some row passes.
use Rattle.std.proofs.Common.{◌≡◌, ℕ, ◌<◌, Bool, true, false, ◌||◌, List, [], ◌∷◌, map, length, get_or, Some, refl, ap, ◌∙◌}
use Rattle.std.specs.List.{list_any}
use Rattle.std.proofs.lemmas.List.{get_or_default}
use Rattle.std.proofs.lemmas.List.Folds.{list_any_at}
use Rattle.std.proofs.lemmas.Bool.{or_from, or_parts, both_ways, false_from_ne_true}
use Rattle.rising.specs.Lists.{Rising}
use Rattle.rising.proofs.Lists.{found_stands}
use Rattle.message.specs.Rows.{row_key}
use Rattle.message.specs.declared.row.Row.{Row}
use Rattle.host.specs.Rows.{row, look}
use Rattle.host.proofs.Keys.{look-found, state_of}

-- a row of a listing is found by its own address and ID
pub look_at : (l : List Row) (k : ℕ) (d : Row) → Rising row_key l → k < length l → look l (get_or l k d).address (get_or l k d).id ≡ Some (get_or l k d).on
look_at l k d up lt =
    let x : Row = get_or l k d in
    look-found l x.address x.id false
    ∙ ap state_of (found_stands row_key l (row x.address x.id false) k d up (lt, λ e. ap row_key (get_or_default l k e d lt)))

module _ (p : Row → Bool) where
  pub none_at : (l : List Row) (k : ℕ) (d : Row) → list_any p l ≡ false → k < length l → p (get_or l k d) ≡ false
  none_at l k d h lt = false_from_ne_true _ (λ t. both_ways (list_any p l) h (list_any_at p l k d lt t))

  pub any_comp : (f : Row → Row) (l : List Row) → list_any p (map f l) ≡ list_any (λ r. p (f r)) l
  any_comp f [] = refl
  any_comp f (r ∷ l) = ap (λ b. p (f r) || b) (any_comp f l)

-- a test that implies another of each row
pub any_less : (p q : Row → Bool) → ((r : Row) → q r ≡ true → p r ≡ true) → (l : List Row) → list_any p l ≡ false → list_any q l ≡ false
any_less p q h [] e = refl
any_less p q h (r ∷ l) e =
    let n = or_parts (p r) (list_any p l) e in
    or_from (q r) (list_any q l) (false_from_ne_true _ (λ t. both_ways (p r) n.0 (h r t))) (any_less p q h l n.1)
