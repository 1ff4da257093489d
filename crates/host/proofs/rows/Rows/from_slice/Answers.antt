use Rattle.std.proofs.Common.{◌≡◌, ℕ, ◌-◌, ◌≤◌, List, ◌++◌, length, take, drop, refl, ap, ◌∙◌, arith}
use Rattle.std.proofs.lemmas.List.{take_at, length-append, length-drop}
use Rattle.host.proofs.Makings.{exact}
use Rattle.host.proofs.rows.Rows.from_slice.Goals as goal

front : {X : Type 0} (xs ys zs : List X) → ys ≡ xs → take (length xs) (ys ++ zs) ≡ xs
front xs ys zs e = take_at ys zs (length xs) (ap length e) ∙ e

whole : {X : Type 0} (xs ys zs : List X) (n : ℕ) → ys ≡ xs → n ≡ length xs → length zs ≡ 64 → length xs ≤ 64 → length (ys ++ drop n zs) ≡ 64
whole xs ys zs n e d l h = length-append ys (drop n zs) ∙ omega (arith, length-drop n zs, ap length e)

pub returns : goal.returns
returns c =
    let l = c.args.rows.now in
    let none = c.in_ok-judge.ensures in
    let few = ((exact l).faultless none).few in
    let e = c.copy_from_slice.ensures.after in
    (none, front l c.copy_from_slice.new.self _ e, few, whole l c.copy_from_slice.new.self _ (length l - 0) e (omega arith) refl few)
