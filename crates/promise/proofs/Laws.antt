-- A promise that says what the outcome is decides it, since two outcomes equal to one thing are equal; one that allows all does not.
use Prim.Native.Nat.{ℕ}
use mathlib.Core.Path.{◌≡◌, sym, ◌∙◌}
use native.Mathlib.Omega.{arith}
use Rattle.promise.specs.Promise.{Decides}

pub same : {Out : Type 0} {x a b : Out} → a ≡ x → b ≡ x → a ≡ b
same p q = p ∙ sym q

-- deciding asks something: a promise that allows every outcome does not decide
pub not_vacuous : Decides {In = ℕ} {Out = ℕ} (λ i r. Unit {0}) → ⊥
not_vacuous d = let z : ◌≡◌ {A = ℕ} 0 1 = d 0 0 1 tt tt in omega arith
