-- A kind by its mark: the mark is what a number leaves over by four, and what a kind asks and why it refuses follow from the mark.
use mathlib.Core.Path.{◌≡◌, refl, sym, ap, ◌∙◌, subst}
use mathlib.Core.Bool.{Bool, true, false, not}
use mathlib.Core.List.{List, [], ◌∷◌, map}
use Prim.Native.Nat.{ℕ, zero, suc, ◌/◌, ◌%◌, ◌<◌}
use native.Mathlib.Omega.{arith}
use lib.Dec.{T, eqb}
use lib.ListN.{get_or, get_or-map}
use Rattle.promise.proofs.Tests.{every, both_left, both_right}
use Rattle.texts.specs.Pool.{describes}
use Rattle.refusals.specs.Refusals.{reason_number, carrying, reserved_bits}
use Rattle.refusals.specs.declared.Reason.{Reason}
use Rattle.refusals.specs.declared.Reason.TheVariants.{None, InvalidRes0}
use Rattle.refusals.specs.declared.Refusal.{Refusal}
use Rattle.records.specs.Kinds.{Kind, Free, Coded, Checked, Unchecked, mark_of, mark_number, coding, reason_at, kind_of, kind_number, allows, reason_of, named}
use Rattle.records.specs.declared.Mark.{Mark}
use Rattle.records.specs.declared.Mark.TheVariants as mark

abbrev kinds : List Kind
kinds = Free ∷ Checked ∷ Unchecked ∷ map Coded coding

-- each kind is that of its number
pub kinds_kept : map (λ k. kind_of (kind_number k)) kinds ≡ kinds
unfolding kind_of
kinds_kept = refl

pub mark-small : (m : Mark) → mark_number m < 4
mark-small mark.Free = omega arith
mark-small mark.Coded = omega arith
mark-small mark.Checked = omega arith
mark-small mark.Unchecked = omega arith

-- the kinds that a number can have, by its mark
abbrev under : ℕ → List Kind
under n = Free ∷ Coded (reason_at (n / 4)) ∷ Checked ∷ Unchecked ∷ []

pub mark-at : (n m : ℕ) → n % 4 ≡ m → get_or (mark.Free ∷ mark.Coded ∷ mark.Checked ∷ mark.Unchecked ∷ []) m mark.Free ≡ mark_of (kind_of n)
unfolding kind_of
mark-at n m e = ap (λ (k : ℕ). get_or (map mark_of (under n)) k mark.Free) (sym e) ∙ get_or-map mark_of (under n) (n % 4) Free

abbrev pub allows_by : Mark → ℕ → ℕ → Bool
allows_by mark.Free rule value = true
allows_by mark.Coded rule value = describes rule value
allows_by mark.Checked rule value = eqb value 0
allows_by mark.Unchecked rule value = true

allows-by : (k : Kind) (rule value : ℕ) → allows_by (mark_of k) rule value ≡ allows k rule value
allows-by Free rule value = refl
allows-by (Coded reason) rule value = refl
allows-by Checked rule value = refl
allows-by Unchecked rule value = refl

pub marked-allows : (k : Kind) (m x : Mark) (rule value : ℕ) → m ≡ mark_of k → m ≡ x → allows_by x rule value ≡ allows k rule value
marked-allows k m x rule value e h = ap (λ (y : Mark). allows_by y rule value) (sym h ∙ e) ∙ allows-by k rule value

-- a refusal by its mark, by the reason that a coded kind has, and by start, width and value of the field
abbrev pub refusal_by : Mark → Reason → ℕ → ℕ → ℕ → Refusal
refusal_by mark.Free reason s w x = carrying None x
refusal_by mark.Coded reason s w x = carrying reason x
refusal_by mark.Checked reason s w x = reserved_bits s w x
refusal_by mark.Unchecked reason s w x = carrying None x

abbrev refused_by : Kind → ℕ → ℕ → ℕ → Refusal
refused_by k s w x = record { carries = x; start = named k s; width = named k w; reason = reason_of k }

pub marked-refusal : (n : ℕ) (m y : Mark) (s w x : ℕ) → m ≡ mark_of (kind_of n) → m ≡ y → refusal_by y (reason_at (n / 4)) s w x ≡ refused_by (kind_of n) s w x
unfolding kind_of
marked-refusal n m y s w x e h =
    let reason : Reason = reason_at (n / 4) in
    ap (λ (z : Mark). refusal_by z reason s w x) (sym h ∙ e)
    ∙ sym (get_or-map (λ (k : Kind). refusal_by (mark_of k) reason s w x) (under n) (n % 4) Free)
    ∙ get_or-map (λ (k : Kind). refused_by k s w x) (under n) (n % 4) Free

-- No coded row refuses by 1.

abbrev is_one : Kind → Bool
is_one Free = false
is_one (Coded reason) = eqb (reason_number reason) 1
is_one Checked = false
is_one Unchecked = false

never-coded : (rs : List Reason) (j i : ℕ) → T (every (λ k r. not (eqb (reason_number r) 1)) j rs) → T (not (eqb (reason_number (get_or rs i None)) 1))
never-coded [] j i t = tt
never-coded (r ∷ rs) j zero t = both_left (not (eqb (reason_number r) 1)) _ t
never-coded (r ∷ rs) j (suc i) t = never-coded rs (suc j) i (both_right (not (eqb (reason_number r) 1)) _ t)

never : (n m : ℕ) → T (not (is_one (get_or (under n) m Free)))
never n zero = tt
never n (suc zero) = never-coded coding 0 (n / 4) tt
never n (suc (suc zero)) = tt
never n (suc (suc (suc zero))) = tt
never n (suc (suc (suc (suc m)))) = tt

pub not_res0 : (n : ℕ) → kind_of n ≡ Coded InvalidRes0 → ⊥
unfolding kind_of
not_res0 n e = subst (λ (k : Kind). T (not (is_one k))) e (never n (n % 4))
