-- What tells whether anything is refused: the number of a refusal, its reason, and what `check` makes of it.
use Prim.Native.Nat.{ℕ}
use mathlib.Core.Bool.{Bool, true, false, true≢false, cond, not}
use mathlib.Core.Path.{◌≡◌, refl, sym, ap, ◌∙◌}
use borrow.Author.Tests.{eq-eqb, ne_eqb}
use Rattle.std.specs.Prelude.{Result, Ok, Err}
use Rattle.refusals.specs.Refusals.{checked, passed, refusal_number}
use Rattle.refusals.specs.declared.Refusal.{Refusal}

module _ (f : Refusal) {n : ℕ} (is : n ≡ refusal_number f) where
  pub passed_yes : n ≡ 0 → passed f ≡ true
  passed_yes h = eq-eqb (refusal_number f) 0 (sym is ∙ h)

  pub passed_no : (n ≡ 0 → ⊥) → passed f ≡ false
  passed_no h = ne_eqb (refusal_number f) 0 (λ e. h (is ∙ e))

-- from the answer of `is_refused`
pub refused-is : (f : Refusal) {b : Bool} → b ≡ not (passed f) → b ≡ true → passed f ≡ false
refused-is f {b} is t = turned (passed f) (sym is ∙ t)
  where
    turned : (p : Bool) → not p ≡ true → p ≡ false
    turned true e = sym e
    turned false e = refl

pub passed-is : (f : Refusal) {b : Bool} → b ≡ not (passed f) → b ≡ false → passed f ≡ true
passed-is f {b} is t = turned (passed f) (sym is ∙ t)
  where
    turned : (p : Bool) → not p ≡ false → p ≡ true
    turned true e = refl
    turned false e = sym e

-- from the answer of `check`
abbrev is_ok : Result Unit Refusal → Bool
is_ok (Ok u) = true
is_ok (Err f) = false

abbrev error_in : Result Unit Refusal → Refusal → Refusal
error_in (Ok u) g = g
error_in (Err f) g = f

by_check : (f : Refusal) (p : Bool) → is_ok (cond p (Ok tt) (Err f)) ≡ p
by_check f true = refl
by_check f false = refl

pub check-ok : (f : Refusal) {r : Result Unit Refusal} {u : Unit} → r ≡ checked f → r ≡ Ok u → passed f ≡ true
check-ok f is ok = sym (by_check f (passed f)) ∙ ap is_ok (sym is ∙ ok)

pub check-err : (f : Refusal) {r : Result Unit Refusal} {g : Refusal} → r ≡ checked f → r ≡ Err g → passed f ≡ false
check-err f is err = sym (by_check f (passed f)) ∙ ap is_ok (sym is ∙ err)

abbrev by : Refusal → Bool → Result Unit Refusal
by f true = Ok tt
by f false = Err f

pub check-same : (f : Refusal) {r : Result Unit Refusal} {g : Refusal} → r ≡ checked f → r ≡ Err g → g ≡ f
check-same f {r} {g} is err = by_case (passed f) (sym is ∙ err)
  where
    by_case : (p : Bool) → cond p (by f true) (by f false) ≡ Err g → g ≡ f
    by_case true e = absurd (true≢false (ap is_ok e))
    by_case false e = sym (ap (λ (x : Result Unit Refusal). error_in x f) e)
