-- A keyboard with a piano and an organ on Channel 1, of which one plays at a time.
use Rattle.std.specs.Prelude.{ℕ, Bool, true, false, cond, not, ◌&&◌, List, [], ◌∷◌, is_some, Some, None, Option, ◌==◌}
use Rattle.std.specs.Str.{bytes_eq}
use Rattle.message.specs.declared.row.Row.{Row}
use Rattle.host.specs.Rows.{row}
use Rattle.host.specs.Hosts.{Consents}
use Rattle.example_host.specs.declared.keyboard.Sound.{Sound}
use Rattle.example_host.specs.declared.keyboard.Sound.TheVariants.{Piano, Organ}

-- the Profile ID of a sound, under the manufacturer ID that is kept for examples
abbrev pub id_of : Sound → List ℕ
id_of Piano = 0x7D ∷ 0 ∷ 0 ∷ 1 ∷ 0 ∷ []
id_of Organ = 0x7D ∷ 0 ∷ 0 ∷ 2 ∷ 0 ∷ []

-- the sound at an address with an ID, if there is one
abbrev pub sound_at : ℕ → List ℕ → Option Sound
sound_at a i =
    cond (a == 0) (cond (bytes_eq i (id_of Piano)) (Some Piano) (cond (bytes_eq i (id_of Organ)) (Some Organ) None)) None

-- whether that sound plays
abbrev pub plays : Option Sound → Sound → Bool
plays None s = false
plays (Some Piano) Piano = true
plays (Some Piano) Organ = false
plays (Some Organ) Piano = false
plays (Some Organ) Organ = true

-- the listing
abbrev pub shown : Option Sound → List Row
shown p = row 0 (id_of Piano) (plays p Piano) ∷ row 0 (id_of Organ) (plays p Organ) ∷ []

-- each sound may go on and off, and its on puts the other off
abbrev pub one_at_a_time : Consents
one_at_a_time =
    record {
      on = λ a i. is_some (sound_at a i);
      off = λ a i. is_some (sound_at a i);
      names = λ a i j. is_some (sound_at a i) && (is_some (sound_at a j) && not (bytes_eq j i));
    }
