-- The first three words, as identity and Function Block.
use Rattle.std.proofs.Common.{◌≡◌, ℕ, ◌/◌, Bool, true, false, ◌&&◌, List, [], sym, refl, ap, ◌∙◌}
use Rattle.std.proofs.lemmas.Bool.{and_from}
use Rattle.std.specs.Prelude.{Result, Ok, Err, MatchResult, IsOkAnd, IsErrAnd}
use Rattle.message.specs.declared.identity.Identity.{Identity}
use Rattle.message.specs.declared.refusal.Refusal.{Refusal}
use Rattle.sheet.specs.declared.draft.Draft.{Draft}
use Rattle.sheet.specs.declared.refusal.SheetRefusal.{SheetRefusal}
use Rattle.sheet.specs.Drafts.{contents}
use Rattle.sheet.specs.Told.{told}
use Rattle.message.specs.declared.refusal.Refusal.TheVariants.{FieldOutOfRange}
use Rattle.message.specs.Bytes.{sevens, is_identity, is_block}
use Rattle.sheet.specs.Words.{kind, fourth}
use Rattle.sheet.specs.Reading.{Outcome, accepted, refused, identity_of, headed, header}
use Rattle.sheet.proofs.Only.{low}
use Rattle.sheet.proofs.All.{made}

pub identity_low : (u v w : ℕ) → sevens (identity_of u v w) ≡ true
identity_low u v w =
    and_from _ _ (low (u / 2097152)) (and_from _ _ (low (u / 16384)) (and_from _ _ (low (u / 128)) (and_from _ _ (low u)
    (and_from _ _ (low (v / 2097152)) (and_from _ _ (low (v / 16384)) (and_from _ _ (low (v / 128)) (and_from _ _ (low v)
    (and_from _ _ (low (w / 2097152)) (and_from _ _ (low (w / 16384)) (and_from _ _ (low (w / 128)) refl))))))))))

-- the first three words without fault
pub header_good : (u v w : ℕ) → kind u ≡ 1 → kind v ≡ 2 → kind w ≡ 3 → is_block (fourth w) ≡ true → header u v w ≡ accepted (headed u v w)
header_good u v w k l m g = rw (k, l, m, g)

pub headed_as : (u v w : ℕ) (i : List ℕ) (b : ℕ) → identity_of u v w ≡ i → fourth w ≡ b → accepted (headed u v w) ≡ accepted (made i b [] [] [])
headed_as u v w i b p q = λ t. accepted (made (p t) (q t) [] [] [])

-- the third word with a Function Block out of range
pub header_out : (u v w : ℕ) → kind u ≡ 1 → kind v ≡ 2 → kind w ≡ 3 → (is_identity (identity_of u v w) && is_block (fourth w)) ≡ false
    → refused FieldOutOfRange 2 ≡ header u v w
header_out u v w k l m g =
    let s : is_block (fourth w) ≡ false = sym (ap (λ (x : Bool). x && is_block (fourth w)) (identity_low u v w)) ∙ g in
    rw (k, l, m, s)

-- what is told where an identity becomes a draft, and a refusal that of the third word
ap_err : {e g : Refusal} → ◌≡◌ {A = Result Draft Refusal} (Err g) (Err e) → ◌≡◌ {A = Result Identity Refusal} (Err e) (Err g)
ap_err h = cc

pub header_told : (i : Result Identity Refusal) (m : Result Draft Refusal) (r : Result Draft SheetRefusal) (q : Outcome) (P : Identity → Draft → Type 0) (Q : Refusal → SheetRefusal → Type 0)
    → MatchResult i (λ x. IsOkAnd m (P x)) (λ e. m ≡ Err e) → MatchResult m (λ x. r ≡ Ok x) (λ e. IsErrAnd r (Q e))
    → ((x : Identity) (d : Draft) → i ≡ Ok x → P x d → accepted (contents d) ≡ q)
    → ((e : Refusal) (f : SheetRefusal) → i ≡ Err e → Q e f → refused f.refusal f.word ≡ q)
    → told r ≡ q
header_told (Ok x) (Ok d) r q P Q h k a b = ap told k ∙ a x d refl h
header_told (Ok x) (Err e) r q P Q h k a b = absurd h
header_told (Err e) (Ok d) r q P Q h k a b = absurd cc
header_told (Err e) (Err g) (Ok d) q P Q h k a b = absurd k
header_told (Err e) (Err g) (Err f) q P Q h k a b = b g f (ap_err h) k
