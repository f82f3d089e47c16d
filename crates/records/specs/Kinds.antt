-- The kinds of a row: what it asks of its field, the reason by which it refuses, and the mark that its record has.
use Rattle.std.specs.Prelude.{ℕ, suc, ◌+◌, ◌*◌, ◌/◌, ◌%◌, Bool, true, cond, List, [], ◌∷◌, eqb, get_or}
use Rattle.texts.specs.Pool.{describes}
use Rattle.refusals.specs.Refusals.{reason_number}
use Rattle.refusals.specs.declared.Reason.{Reason}
use Rattle.refusals.specs.declared.Reason.TheVariants.{None, InvalidRes0, InvalidEc, InvalidFsc, InvalidSet, InvalidAet, InvalidAm, InvalidLd64bIss}
use Rattle.records.specs.declared.Mark.{Mark}
use Rattle.records.specs.declared.Mark.TheVariants as mark

-- free; coded, on the list of its text rule or refused for this reason; reserved and checked; reserved and unchecked, as 11..13 in aborts without SET
pub data Kind : Type 0 where
  Free : Kind
  Coded : Reason → Kind
  Checked : Kind
  Unchecked : Kind

-- #109: "a mark: free, coded, reserved and checked, or reserved and unchecked"; its number is its place in this order
abbrev pub mark_of : Kind → Mark
mark_of Free = mark.Free
mark_of (Coded reason) = mark.Coded
mark_of Checked = mark.Checked
mark_of Unchecked = mark.Unchecked

abbrev pub mark_number : Mark → ℕ
mark_number mark.Free = 0
mark_number mark.Coded = 1
mark_number mark.Checked = 2
mark_number mark.Unchecked = 3

-- the reasons of coded rows
abbrev pub coding : List Reason
coding = InvalidEc ∷ InvalidFsc ∷ InvalidSet ∷ InvalidAet ∷ InvalidAm ∷ InvalidLd64bIss ∷ []

-- a row names its kind by a number: the number of its mark and, for a coded kind, four times the index of its reason in the list
abbrev pub reason_at : ℕ → Reason
reason_at i = get_or coding i None

unfoldable pub kind_of : ℕ → Kind
kind_of n = get_or (Free ∷ Coded (reason_at (n / 4)) ∷ Checked ∷ Unchecked ∷ []) (n % 4) Free

abbrev among : ℕ → List Reason → ℕ
among n [] = 0
among n (r ∷ rs) = cond (eqb n (reason_number r)) 0 (suc (among n rs))

abbrev reason_index : Kind → ℕ
reason_index Free = 0
reason_index (Coded reason) = among (reason_number reason) coding
reason_index Checked = 0
reason_index Unchecked = 0

abbrev pub kind_number : Kind → ℕ
kind_number k = mark_number (mark_of k) + 4 * reason_index k

-- what a kind asks of a value under a text rule: a coded field is on its rule's list, a checked reserved field is 0
abbrev pub allows : Kind → ℕ → ℕ → Bool
allows Free rule value = true
allows (Coded reason) rule value = describes rule value
allows Checked rule value = eqb value 0
allows Unchecked rule value = true

-- the reason by which a kind refuses; one that asks nothing has none
abbrev pub reason_of : Kind → Reason
reason_of Free = None
reason_of (Coded reason) = reason
reason_of Checked = InvalidRes0
reason_of Unchecked = None

-- #105: a checked reserved field that refuses is named, by its start and its width; of every other refusal both are 0
abbrev pub named : Kind → ℕ → ℕ
named Free n = 0
named (Coded reason) n = 0
named Checked n = n
named Unchecked n = 0
