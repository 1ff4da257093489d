use Rattle.std.proofs.Common.{◌≡◌, ◌+◌, ◌*◌, ◌≤◌, length}
use Rattle.sheet.specs.Words.{words}
use Rattle.sheet.specs.Entries.{opens}
use Rattle.sheet.specs.Drafts.{contents}
use Rattle.sheet.specs.Reading.{body}
use Rattle.sheet.proofs.body.body.Given as goal

-- what is left reads as the whole does
abbrev pub invariant-loop-word : goal.invariant-loop-word
invariant-loop-word l =
    (body l.n (opens l.last) (contents l.draft) (words l.left) ≡ body 3 4 (contents l.initial.draft) (words l.bytes))
    × (4 * l.n + length l.left ≤ length l.bytes + 12)

abbrev pub decreases-loop-word : goal.decreases-loop-word
decreases-loop-word l = length l.left
