-- An unpadded number has the fewest digits that hold the number: the count stops at the first that does, and no count before it was enough.
use mathlib.Core.Path.{◌≡◌, sym, subst}
use Prim.Native.Nat.{ℕ, ◌+◌, ◌^◌, ◌≤◌, ◌<◌}
use native.Mathlib.Nat.{add-zero, add-suc, suc-add, pow-le-pow_left}
use native.Mathlib.Omega.{arith}
use Rattle.digits.specs.Digits.{unpadded}
use Rattle.digits.proofs.Numerals.{enough-by}

pub fewest : (b v : ℕ) → 2 ≤ b → v < 2 ^ 64 → (v < b ^ unpadded b v) × ((n : ℕ) → 1 ≤ n → v < b ^ n → unpadded b v ≤ n)
unfolding unpadded
fewest b v two small = (holds (omega (arith, pow-le-pow_left two 64)), λ n some held. least n some held)
  where
    holds : v < b ^ (1 + 63) → v < b ^ unpadded b v
    holds =
        enough-by b v (λ n tries r. v < b ^ (n + tries) → v < b ^ r) (λ n h. rw add-zero at h) (λ n tries held h. held)
        (λ n tries r more rest h. rest (rw (add-suc, ← suc-add) at h)) 1 63

    least : (m : ℕ) → 1 ≤ m → v < b ^ m → unpadded b v ≤ m
    least m =
        enough-by b v (λ n tries r. n ≤ m → v < b ^ m → r ≤ m) (λ n l held. l) (λ n tries now l held. l)
        (λ n tries r more rest l held.
        let other : n ≡ m → ⊥ = λ e. let now : v < b ^ n = subst (λ (k : ℕ). v < b ^ k) (sym e) held in omega arith in
        rest (omega arith) held) 1 63
