use Rattle.std.proofs.Common.{◌≡◌, sym, ap, ◌∙◌, arith, rules}
use Rattle.sheet.specs.Drafts.{contents}
use Rattle.sheet.specs.Reading.{accepted, reads}
use Rattle.sheet.specs.Told.{says}
use Rattle.sheet.proofs.Ends.{exactly, only_these, all_these}
use Rattle.sheet.proofs.read.read_sheet.Goals as goal

pub returns-in_err-draft-clause-all : goal.returns-in_err-draft-clause-all
returns-in_err-draft-clause-all c =
    let e : says c.from_residual.result ≡ reads c.args.bytes.now = search rules in
    λ d v h. e ∙ ap reads h ∙ all_these d v

pub returns-in_err-draft-clause-law : goal.returns-in_err-draft-clause-law
returns-in_err-draft-clause-law c = exactly

-- the facts of a sheet come with its acceptance
pub make-requires : goal.make-requires
make-requires c = (only_these c.args.bytes.now (contents c.in_ok-draft.draft) (λ i. omega (arith, c.type_inv.bytes i)) (sym c.in_ok-draft.ensures)).1

pub returns-clause-only : goal.returns-clause-only
returns-clause-only c =
    let e = ap accepted c.make.ensures ∙ c.in_ok-draft.ensures in
    λ d h. only_these c.args.bytes.now d (λ i. omega (arith, c.type_inv.bytes i)) (sym e ∙ h)

pub returns-clause-all : goal.returns-clause-all
returns-clause-all c =
    let e = ap accepted c.make.ensures ∙ c.in_ok-draft.ensures in
    λ d v h. e ∙ ap reads h ∙ all_these d v

pub returns-clause-law : goal.returns-clause-law
returns-clause-law c = exactly
