-- What the value means: the own number, and the list of the other devices.
use Rattle.std.specs.Prelude.{ℕ, List}
use Rattle.numbers.specs.declared.value.Numbers.{Numbers}

abbrev pub own_of : Numbers → ℕ
own_of m = m.own

abbrev pub listed_of : Numbers → List ℕ
listed_of m = m.listed
