use Rattle.std.proofs.Common.{◌≡◌, ℕ, ◌+◌, sym, refl, ap, ◌∙◌, arith, rules}
use Rattle.std.proofs.lemmas.Bool.{ne_eqb}
use Rattle.std.proofs.lemmas.Result.{err_from_is_err_and}
use Rattle.message.specs.declared.refusal.Refusal.TheVariants.{SheetOrder}
use Rattle.sheet.specs.Words.{words, kind}
use Rattle.sheet.specs.Entries.{opens, entry_of, with_entry}
use Rattle.sheet.specs.Contents.{Contents}
use Rattle.sheet.specs.Drafts.{contents}
use Rattle.sheet.specs.Reading.{body, ending}
use Rattle.sheet.proofs.Turns.{body-none, body_refused, body_closed, body_cut, body_extra, body_bad, body_more, opening-room, told_as}
use Rattle.sheet.proofs.Entries.{end_only, entry_slot, entry_in}
use Rattle.sheet.proofs.body.body.Goals as goal

pub returns-in_err-opening : goal.returns-in_err-opening
returns-in_err-opening c =
    let l = c.loop-word in
    let e = c.in_err-opening.ensures in
    let p = err_from_is_err_and c.from_residual.result c.from_residual.ensures.1 in
    rw (p.1, p.2) (told_as c.in_err-opening.field-0.0 _ l.n (refl, e.1)
    ∙ sym (body_refused _ l.n (opens l.last) (contents l.draft) c.in-Some.word _ c.in-Some.ensures.0 _ e.0)
    ∙ l.invariant.0)

pub returns-in-None : goal.returns-in-None
returns-in-None c =
    let l = c.loop-word in
    let o = c.in_ok-opening.ensures in
    let q : kind c.in-Some.word ≡ opens c.in_ok-opening.opening.kind = ap kind (sym o.1) ∙ c.in_ok-opening.opening.told in
    let k : opens c.in_ok-opening.opening.kind ≡ 8 = search rules in
    sym (body_closed _ l.n (opens l.last) (contents l.draft) c.in-Some.word _ c.in-Some.ensures.0 c.in-None.ensures o.0 (q ∙ k))
    ∙ l.invariant.0

pub returns-in-Some-next : goal.returns-in-Some-next
returns-in-Some-next c =
    let l = c.loop-word in
    let o = c.in_ok-opening.ensures in
    let q : kind c.in-Some.word ≡ opens c.in_ok-opening.opening.kind = ap kind (sym o.1) ∙ c.in_ok-opening.opening.told in
    let k : opens c.in_ok-opening.opening.kind ≡ 8 = search rules in
    told_as c.new.result SheetOrder (l.n + 1) c.new.ensures
    ∙ sym (body_extra _ l.n (opens l.last) (contents l.draft) c.in-Some.word _ c.in-Some.ensures.0 _ _ c.in-Some-next.ensures.0 o.0 (q ∙ k))
    ∙ l.invariant.0

pub returns-in_default-next : goal.returns-in_default-next
returns-in_default-next c =
    let l = c.loop-word in
    let o = c.in_ok-opening.ensures in
    let q : kind c.in-Some.word ≡ opens c.in_ok-opening.opening.kind = ap kind (sym o.1) ∙ c.in_ok-opening.opening.told in
    let k : opens c.in_ok-opening.opening.kind ≡ 8 → ⊥ = λ h. search (rules, end_only) in
    told_as c.new-in_default-next.result SheetOrder (l.n + 1) c.new-in_default-next.ensures
    ∙ sym (body_cut _ l.n (opens l.last) (contents l.draft) c.in-Some.word _ c.in-Some.ensures.0 c.in_default-next.ensures o.0 (λ h. k (sym q ∙ h)))
    ∙ l.invariant.0

pub ending-requires : goal.ending-requires
ending-requires c =
    let o = c.in_ok-opening.opening in
    let k : opens o.kind ≡ 8 → ⊥ = λ h. search (rules, end_only) in
    ne_eqb _ 8 (λ h. k (sym o.told ∙ h))

pub returns-in_err-entry : goal.returns-in_err-entry
returns-in_err-entry c =
    let l = c.loop-word in
    let o = c.in_ok-opening.ensures in
    let q : kind c.in-Some.word ≡ opens c.in_ok-opening.opening.kind = ap kind (sym o.1) ∙ c.in_ok-opening.opening.told in
    let k : opens c.in_ok-opening.opening.kind ≡ 8 → ⊥ = λ h. search (rules, end_only) in
    let e = c.in_err-entry.ensures in
    let p = err_from_is_err_and c.from_residual-in_err-entry.result c.from_residual-in_err-entry.ensures.1 in
    rw (p.1, p.2) (told_as c.in_err-entry.field-0.0 _ (l.n + 1) (refl, e.1)
    ∙ sym (body_bad _ l.n (opens l.last) (contents l.draft) c.in-Some.word _ c.in-Some.ensures.0 c.in-Some-next-2.rest _ c.in-Some-next-2.ensures.0 _ o.0 (λ h. k (sym q ∙ h)) (ap (λ (x : ℕ). ending (contents l.draft) x c.in-Some-next-2.rest) (sym o.1) ∙ e.0))
    ∙ l.invariant.0)

pub enter-requires : goal.enter-requires
enter-requires c =
    let l = c.loop-word in
    let o = c.in_ok-opening.ensures in
    let q : kind c.in-Some.word ≡ opens c.in_ok-opening.opening.kind = ap kind (sym o.1) ∙ c.in_ok-opening.opening.told in
    let k : opens c.in_ok-opening.opening.kind ≡ 8 → ⊥ = λ h. search (rules, end_only) in
    let r = opening-room l.n (opens l.last) (contents l.draft) c.in-Some.word o.0 in
    rw (c.in_ok-entry.ensures.1, o.1) (entry_slot (contents l.draft) c.in-Some.word c.in-Some-next-2.rest r (λ h. k (sym q ∙ h)))

pub loop-word-preserved : goal.loop-word-preserved
loop-word-preserved c =
    let l = c.loop-word in
    let o = c.in_ok-opening.ensures in
    let q : kind c.in-Some.word ≡ opens c.in_ok-opening.opening.kind = ap kind (sym o.1) ∙ c.in_ok-opening.opening.told in
    let k : opens c.in_ok-opening.opening.kind ≡ 8 → ⊥ = λ h. search (rules, end_only) in
    let w = c.in-Some.word in
    let v = c.in-Some-next-2.rest in
    let us = words c.in-Some-next-2.after.now in
    let x = c.in_ok-entry.ensures in
    let p = c.in-Some.ensures.1 in
    let r = c.in-Some-next-2.ensures.1 in (
      ap (λ (j : ℕ). body (l.n + 2) j (contents c.enter.new.self) us) (sym q)
          ∙ ap (λ (d : Contents). body (l.n + 2) (kind w) d us) (c.enter.ensures ∙ ap (with_entry (contents l.draft)) (x.1 ∙ ap (λ (y : ℕ). entry_of y v) o.1) ∙ entry_in (contents l.draft) w v)
          ∙ sym (body_more _ l.n (opens l.last) (contents l.draft) w _ c.in-Some.ensures.0 v us c.in-Some-next-2.ensures.0 o.0 (λ h. k (sym q ∙ h)) (ap (λ (y : ℕ). ending (contents l.draft) y v) (sym o.1) ∙ x.0))
          ∙ l.invariant.0,
      omega arith,
    )

pub returns : goal.returns
returns c =
    let l = c.loop-word in
    told_as c.new-2.result SheetOrder l.n c.new-2.ensures ∙ sym (ap (body l.n (opens l.last) (contents l.draft)) c.in_default.ensures ∙ body-none l.n (opens l.last) (contents l.draft)) ∙ l.invariant.0
