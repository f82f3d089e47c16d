-- The invariant: the digits found so far stand after those still to be found, as far as the buffer goes, and `rest` is
-- what stands above them.
use mathlib.Core.Path.{◌≡◌, refl, sym, ap, ◌∙◌}
use Prim.Native.Nat.{ℕ, suc, ◌+◌, ◌-◌, ◌%◌}
use native.Mathlib.Nat.{sub_self, sub-zero, div-one, pow-zero, add-zero}
use native.Mathlib.Omega.{arith}
use lib.ListN.{length, set, length-set}
use lib.Seq.{set_out}
use Rattle.buffer.proofs.Writing.{set-sets}
use Rattle.digits.specs.Digits.{digit_char, digits_of}
use Rattle.digits.proofs.Numerals.{digit-before, rest-above, digits_put}
use Rattle.digits.proofs.put_decimal.Goals as goal
use Rattle.digits.proofs.put_decimal.Goals.{then-i-count, else-i-count}

pub loop-i-init : goal.loop-i-init
unfolding digits_of
loop-i-init c = (rw (sub_self, pow-zero, div-one), rw sub_self, refl)

pub loop-i-preserved : goal.loop-i-preserved
loop-i-preserved c =
    let l = c.loop-i in
    let a = c.args in
    let k : ℕ = a.n - l.i in
    let j : ℕ = a.at + (l.i - 1) in
    let e : a.n - (l.i - 1) ≡ suc k = omega arith in
    let i : a.at + l.i ≡ suc j = omega arith in
    let d : ℕ = digit_char (l.rest % 10) in
    let put : c.if-i-count.buf ≡ set l.buf j d =
    elim c.if-i-count.branch [
      | then-i-count w ↦ w.buf-is ∙ ap (set l.buf j) w.digit.ensures
      | else-i-count w ↦
          w.buf-is ∙ sym (set_out l.buf j d (omega arith))
    ] in (
      cc (rest-above 10 k a.value),
      cc (
        set-sets a.buf.now j (suc j) d (digits_of 10 k a.value) (omega arith),
        digit-before 10 k a.value a.buf.now j,
      ),
      ap length put ∙ simp length-set l.invariant.2,
    )

pub returns : goal.returns
returns c =
    let l = c.loop-i in
    let a = c.args in
    let z : l.i ≡ 0 = omega arith in
    digits_put 10 a.n a.value (omega arith) c.offset_after.ensures (sym (rw (z, add-zero, sub-zero) at l.invariant.1))
