-- What reading answers, in the words of its meaning.
use Rattle.std.specs.Prelude.{Ok, Err, Result}
use Rattle.host.specs.Tables.{listed}
use Rattle.layers.specs.Models.{members_of, pairs_of}
use Rattle.sheet.specs.declared.draft.Draft.{Draft}
use Rattle.sheet.specs.declared.refusal.SheetRefusal.{SheetRefusal}
use Rattle.sheet.specs.declared.sheet.Sheet.{Sheet}
use Rattle.sheet.specs.Contents.{Contents}
use Rattle.sheet.specs.Drafts.{contents}
use Rattle.sheet.specs.Reading.{Outcome, accepted, refused}

abbrev pub told : Result Draft SheetRefusal → Outcome
told (Ok d) = accepted (contents d)
told (Err e) = refused e.refusal e.word

-- the contents that a sheet holds
abbrev pub holds : Sheet → Contents
holds s =
    record {
      identity = s.identity.bytes;
      block = s.identity.block;
      rows = listed s.table.rows;
      members = members_of s.members;
      pairs = pairs_of s.pairs;
    }

abbrev pub says : Result Sheet SheetRefusal → Outcome
says (Ok s) = accepted (holds s)
says (Err e) = refused e.refusal e.word
