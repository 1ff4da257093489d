-- A responder by what it knows.
use Rattle.numbers.specs.Model.{own_of, listed_of}
use Rattle.responder.specs.Steps.{State}
use Rattle.responder.specs.declared.responder.Responder.{Responder}

abbrev pub state_of : {P : Type 0} → Responder P → State P
state_of r = record { own = own_of r.numbers; others = listed_of r.numbers; host = r.host }
