-- The lists that layers hold of their own: when their entries are refused, and members of sets as entries.
use Rattle.std.specs.Prelude.{◌≡◌, Bool, true, false, ◌&&◌, List, length, Ok, Err, Result, nat_le}
use Rattle.std.specs.List.{list_all}
use Rattle.rising.specs.Order.{Key}
use Rattle.rising.specs.Lists.{rising}
use Rattle.message.specs.Bytes.{is_id}
use Rattle.message.specs.declared.refusal.Refusal.{Refusal}
use Rattle.message.specs.declared.refusal.Refusal.TheVariants.{FieldOutOfRange, NotRising}
use Rattle.layers.specs.declared.member.Member.{Member}

-- members stand in the order of their ID bytes
abbrev pub member_key : Member → Key
member_key m = m.id

-- a set of 1 to 8 and a Profile ID
abbrev pub member_ranged : Member → Bool
member_ranged m = (nat_le 1 m.set && nat_le m.set 8) && is_id m.id

-- Whether entries are refused, from whether all are in range, and whether they are in order and not too many: an entry out of range is
-- refused first.
abbrev pub judged : Bool → Bool → Result (Unit {0}) Refusal
judged false ordered = Err FieldOutOfRange
judged true false = Err NotRising
judged true true = Ok tt

-- at most 16 entries that rise strictly
abbrev pub in_order : {X : Type 0} → (X → Key) → List X → Bool
in_order key xs = nat_le (length xs) 16 && rising key xs

-- whether entries are refused
abbrev pub judged_entries : {X : Type 0} → (X → Bool) → (X → Key) → List X → Result (Unit {0}) Refusal
judged_entries ranged key xs = judged (list_all ranged xs) (in_order key xs)

-- What the making of a list answers: the refusal, or a value that means just the entries that were given.
abbrev pub Made : {X L : Type 0} → (L → List X) → List X → Result (Unit {0}) Refusal → Result L Refusal → Type 0
Made of xs (Err e) r = r ≡ Err e
Made of xs (Ok u) (Err e) = ⊥
Made of xs (Ok u) (Ok l) = of l ≡ xs
