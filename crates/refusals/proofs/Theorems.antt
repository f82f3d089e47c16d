-- Every refusal's number is on 01's list, is that of no other reason, and is not 17: by the cases of the reason, and so of every answer that holds
-- a refusal. And a refusal is its parts.
use mathlib.Core.Bool.{cond}
use mathlib.Core.List.{List, [], ◌∷◌, Memᴰ}
use mathlib.Core.Path.{◌≡◌, refl, sym, ap, ◌∙◌, subst}
use Prim.Native.Nat.{ℕ}
use lib.Dec.{T, eqb}
use Rattle.promise.specs.Member.{member}
use Rattle.promise.proofs.Tests.{of-member}
use Rattle.refusals.specs.Refusals.{reason_number, numbers, refusal_number}
use Rattle.refusals.specs.declared.Reason.{Reason}
use Rattle.refusals.specs.declared.Reason.TheVariants.{None, InvalidRes0, InvalidEc, InvalidFsc, InvalidSet, InvalidAet, InvalidAm, InvalidLd64bIss, Empty, InvalidDigit, PosOverflow, ShortBuffer, BadField, BadIndex, ShortEntry, BadLength, BadVersion, BadTable, LongRun, LongBlock, NoLayout, WideLeaf, BadRest, InvalidWu, InvalidVncr, ShortSheet, BadSheetVersion, LongPhrase, CodeNotRising}
use Rattle.refusals.specs.declared.Refusal.{Refusal}

abbrev reasons : List Reason
reasons =
    None ∷ InvalidRes0 ∷ InvalidEc ∷ InvalidFsc ∷ InvalidSet ∷ InvalidAet ∷ InvalidAm ∷ InvalidLd64bIss ∷ Empty ∷ InvalidDigit ∷ PosOverflow ∷
    ShortBuffer ∷ BadField ∷ BadIndex ∷ ShortEntry ∷ BadLength ∷ BadVersion ∷ BadTable ∷ LongRun ∷ LongBlock ∷ NoLayout ∷ WideLeaf ∷ BadRest ∷ InvalidWu ∷ InvalidVncr ∷
    ShortSheet ∷ BadSheetVersion ∷ LongPhrase ∷ CodeNotRising ∷ []

-- the reason of a number, and None where no reason has it
abbrev reason_in : List Reason → ℕ → Reason
reason_in [] n = None
reason_in (r ∷ rs) n = cond (eqb n (reason_number r)) r (reason_in rs n)

abbrev Known : Reason → Type 0
Known reason = T (member (reason_number reason) numbers) × (reason_in reasons (reason_number reason) ≡ reason)

known : (reason : Reason) → Known reason
unfolding numbers
known None = (tt, refl)
known InvalidRes0 = (tt, refl)
known InvalidEc = (tt, refl)
known InvalidFsc = (tt, refl)
known InvalidSet = (tt, refl)
known InvalidAet = (tt, refl)
known InvalidAm = (tt, refl)
known InvalidLd64bIss = (tt, refl)
known Empty = (tt, refl)
known InvalidDigit = (tt, refl)
known PosOverflow = (tt, refl)
known ShortBuffer = (tt, refl)
known BadField = (tt, refl)
known BadIndex = (tt, refl)
known ShortEntry = (tt, refl)
known BadLength = (tt, refl)
known BadVersion = (tt, refl)
known BadTable = (tt, refl)
known LongRun = (tt, refl)
known LongBlock = (tt, refl)
known NoLayout = (tt, refl)
known WideLeaf = (tt, refl)
known BadRest = (tt, refl)
known InvalidWu = (tt, refl)
known InvalidVncr = (tt, refl)
known ShortSheet = (tt, refl)
known BadSheetVersion = (tt, refl)
known LongPhrase = (tt, refl)
known CodeNotRising = (tt, refl)

pub number-listed : (f : Refusal) → Memᴰ (refusal_number f) numbers
number-listed f = of-member (refusal_number f) numbers (known f.reason).0

pub one-reason : (a b : Reason) → reason_number a ≡ reason_number b → a ≡ b
one-reason a b e = sym (known a).1 ∙ ap (reason_in reasons) e ∙ (known b).1

-- 17 is unused for good (02's #111)
pub unused : (reason : Reason) → reason_number reason ≡ 17 → ⊥
unfolding numbers
unused reason e = subst (λ (n : ℕ). T (member n numbers)) e (known reason).0

unfoldable made : ℕ → ℕ → ℕ → Reason → Refusal
made c s w reason = record { carries = c; start = s; width = w; reason = reason }

eta : (f : Refusal) → f ≡ made f.carries f.start f.width f.reason
unfolding made
eta f = refl

pub by_parts : (f g : Refusal) → f.carries ≡ g.carries → f.start ≡ g.start → f.width ≡ g.width → f.reason ≡ g.reason → f ≡ g
by_parts f g c s w e = cc (eta f, eta g)
