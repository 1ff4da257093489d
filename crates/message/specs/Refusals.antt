-- The numbers of the refusals.
use Rattle.std.specs.Prelude.{ℕ}
use Rattle.message.specs.declared.refusal.Refusal.{Refusal}
use Rattle.message.specs.declared.refusal.Refusal.TheVariants.{BufferTooSmall, NotFramed, SourceNotUsable, NotForUs, NotUnderstood, OutOfRange, RowsFixed, NoSuchRow, RowPresent, NoPlace, RowOn, NoConsent, SheetLength, SheetOrder, FieldOutOfRange, NotRising, SetCollision, ScriptFault}

abbrev pub number : Refusal → ℕ
number BufferTooSmall = 1
number NotFramed = 2
number SourceNotUsable = 3
number NotForUs = 4
number NotUnderstood = 5
number OutOfRange = 6
number RowsFixed = 7
number NoSuchRow = 8
number RowPresent = 9
number NoPlace = 10
number RowOn = 11
number NoConsent = 12
number SheetLength = 13
number SheetOrder = 14
number FieldOutOfRange = 15
number NotRising = 16
number SetCollision = 17
number ScriptFault = 18
