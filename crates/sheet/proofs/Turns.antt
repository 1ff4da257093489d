-- One turn of reading, at each of its ends.
use Rattle.std.proofs.Common.{◌≡◌, ℕ, ◌+◌, Bool, true, false, cond, eqb, List, [], ◌∷◌, Some, None, refl, ap, ◌∙◌}
use Rattle.std.proofs.lemmas.Bool.{eq-eqb, ne_eqb, cond-true, cond-false}
use Rattle.message.specs.declared.refusal.Refusal.{Refusal}
use Rattle.message.specs.declared.refusal.Refusal.TheVariants.{SheetOrder}
use Rattle.sheet.specs.declared.refusal.SheetRefusal.{SheetRefusal}
use Rattle.sheet.specs.Words.{kind}
use Rattle.sheet.specs.Contents.{Contents}
use Rattle.sheet.specs.Reading.{accepted, refused, opening, ending, entered, judged, body, room, fault, follows, fits}

pub body-none : (n last : ℕ) (c : Contents) → body n last c [] ≡ refused SheetOrder n
unfolding body
body-none n last c = refl

pub refused_here : (n last : ℕ) (c : Contents) (w : ℕ) (ws : List ℕ) (e : Refusal) → opening n last c w ≡ Some e → body n last c (w ∷ ws) ≡ refused e n
unfolding body
refused_here n last c w [] e h = rw h
refused_here n last c w (v ∷ ws) e h = rw h

pub at_last : (n last : ℕ) (c : Contents) (w : ℕ) → opening n last c w ≡ None → body n last c (w ∷ []) ≡ cond (eqb (kind w) 8) (accepted c) (refused SheetOrder (n + 1))
unfolding body
at_last n last c w h = rw h

pub at_two : (n last : ℕ) (c : Contents) (w v : ℕ) (ws : List ℕ) → opening n last c w ≡ None → body n last c (w ∷ v ∷ ws) ≡ cond (eqb (kind w) 8) (refused SheetOrder (n + 1)) (judged (n + 1) (ending c w v) (body (n + 2) (kind w) (entered c w v) ws))
unfolding body
at_two n last c w v ws h = rw h

-- the words ws are w and the words vs
module _ (ws : List ℕ) (n last : ℕ) (c : Contents) (w : ℕ) (vs : List ℕ) (ew : ws ≡ w ∷ vs) where
  pub body_refused : (e : Refusal) → opening n last c w ≡ Some e → body n last c ws ≡ refused e n
  body_refused e h = ap (body n last c) ew ∙ refused_here n last c w vs e h

  one : vs ≡ [] → opening n last c w ≡ None → body n last c ws ≡ cond (eqb (kind w) 8) (accepted c) (refused SheetOrder (n + 1))
  one l h = ap (body n last c) (ew ∙ ap (λ (x : List ℕ). w ∷ x) l) ∙ at_last n last c w h

  pub body_closed : vs ≡ [] → opening n last c w ≡ None → kind w ≡ 8 → body n last c ws ≡ accepted c
  body_closed l h k = one l h ∙ cond-true _ _ _ (eq-eqb _ 8 k)

  pub body_cut : vs ≡ [] → opening n last c w ≡ None → (kind w ≡ 8 → ⊥) → body n last c ws ≡ refused SheetOrder (n + 1)
  body_cut l h k = one l h ∙ cond-false _ _ _ (ne_eqb _ 8 k)

  module _ (v : ℕ) (us : List ℕ) (ev : vs ≡ v ∷ us) where
    two : opening n last c w ≡ None → body n last c ws ≡ cond (eqb (kind w) 8) (refused SheetOrder (n + 1)) (judged (n + 1) (ending c w v) (body (n + 2) (kind w) (entered c w v) us))
    two h = ap (body n last c) (ew ∙ ap (λ (x : List ℕ). w ∷ x) ev) ∙ at_two n last c w v us h

    pub body_extra : opening n last c w ≡ None → kind w ≡ 8 → body n last c ws ≡ refused SheetOrder (n + 1)
    body_extra h k = two h ∙ cond-true _ _ _ (eq-eqb _ 8 k)

    turn : opening n last c w ≡ None → (kind w ≡ 8 → ⊥) → body n last c ws ≡ judged (n + 1) (ending c w v) (body (n + 2) (kind w) (entered c w v) us)
    turn h k = two h ∙ cond-false _ _ _ (ne_eqb _ 8 k)

    pub body_bad : (e : Refusal) → opening n last c w ≡ None → (kind w ≡ 8 → ⊥) → ending c w v ≡ Some e → body n last c ws ≡ refused e (n + 1)
    body_bad e h k q = turn h k ∙ rw q

    pub body_more : opening n last c w ≡ None → (kind w ≡ 8 → ⊥) → ending c w v ≡ None → body n last c ws ≡ body (n + 2) (kind w) (entered c w v) us
    body_more h k q = turn h k ∙ rw q

pub fault-none : (order range rise : Bool) → fault order range rise ≡ None → (order ≡ true) × (range ≡ true) × (rise ≡ true)
fault-none true true true h = (refl, refl, refl)
fault-none true true false h = absurd cc
fault-none true false rise h = absurd cc
fault-none false range rise h = absurd cc

-- and so there is a place for what it opens
pub opening-room : (n last : ℕ) (c : Contents) (w : ℕ) → opening n last c w ≡ None → room c w ≡ true
opening-room n last c w h = (fault-none (follows last (kind w)) (fits n w) (room c w) h).2

-- a refusal by its parts
pub told_as : (e : SheetRefusal) (r : Refusal) (n : ℕ) → (e.refusal ≡ r) × (e.word ≡ n) → refused e.refusal e.word ≡ refused r n
told_as e r n h = cc
