-- What a draft says so far.
use Rattle.sheet.specs.declared.draft.Draft.{Draft}
use Rattle.sheet.specs.Contents.{Contents}

abbrev pub contents : Draft → Contents
contents d =
    record {
      identity = d.identity.bytes;
      block = d.identity.block;
      rows = d.rows;
      members = d.members;
      pairs = d.pairs;
    }
