use Rattle.std.proofs.Common.{◌≡◌, true, false, ◌&&◌, sym, ap, ◌∙◌, rules}
use Rattle.std.proofs.lemmas.Bool.{eqb-true}
use Rattle.std.proofs.lemmas.Result.{MatchResult-at_ok, MatchResult-at_err}
use Rattle.message.specs.Bytes.{is_identity, is_block}
use Rattle.message.specs.declared.refusal.Refusal.{Refusal}
use Rattle.sheet.specs.Reading.{refused, identity_of, header}
use Rattle.sheet.specs.Words.{fourth}
use Rattle.sheet.proofs.Header.{header_good, header_out, header_told}
use Rattle.sheet.proofs.Turns.{told_as}
use Rattle.sheet.proofs.read.header.Goals as goal

pub returns : goal.returns
returns c =
    let u = c.args.u in
    let v = c.args.v in
    let w = c.args.w in
    let k = eqb-true _ _ (sym c.if-not-is_of.ensures) in
    let l = eqb-true _ _ (sym c.if-not-is_of-2.ensures) in
    let m = eqb-true _ _ (sym c.if-not-is_of-3.ensures) in
    header_told c.new-2.result c.map.result c.map_err.result (header u v w) _ _ c.map.ensures.cases c.map_err.ensures.cases
    (λ x d e p.
    let q = MatchResult-at_ok _ _ x e c.new-2.ensures in
    let g : is_block (fourth w) ≡ true = search rules in
    search (rules, header_good))
    (λ e f h p.
    let q = MatchResult-at_err _ _ e h c.new-2.ensures in
    let n : (f.refusal ≡ e) × (f.word ≡ 2) = search rules in
    let g : (is_identity (identity_of u v w) && is_block (fourth w)) ≡ false = search rules in
    told_as f e 2 n ∙ ap (λ (x : Refusal). refused x 2) q.0 ∙ header_out u v w k l m g)
