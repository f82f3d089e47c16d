-- The invariant: the digits that are left, put from the next place on, make of the buffer what all of them make of it
-- at first; the next one stands on top.
use mathlib.Core.Path.{◌≡◌, refl, sym, ◌∙◌}
use Prim.Native.Nat.{ℕ, suc, ◌+◌, ◌-◌, ◌^◌, ◌<◌}
use native.Mathlib.Nat.{mul-pos, sub-zero, add-zero}
use native.Mathlib.Omega.{arith}
use lib.ListN.{length-set}
use Rattle.digits.proofs.Numerals.{digit-before, top_digit, top-next, top_small, none_to_put, digits_put}
use Rattle.digits.proofs.put_word.Goals as goal

pub returns-then-count-eq0 : goal.returns-then-count-eq0
returns-then-count-eq0 c =
    let a = c.args in
    digits_put (2 ^ a.size) a.n a.value (omega arith) c.offset_after-next.ensures
    (none_to_put (2 ^ a.size) a.value a.n a.buf.now a.at (λ some. omega arith))

pub loop-i-init : goal.loop-i-init
loop-i-init c = (rw sub-zero, rw (sub-zero, add-zero), refl)

pub overflow_shl-top : goal.overflow_shl-top
overflow_shl-top c =
    let some : 0 < c.args.n = omega arith in
    omega (arith, mul-pos c.requires.0 some)

pub digit-requires : goal.digit-requires
digit-requires c = top_small _ c.loop-i.top c.requires.1 (omega arith)

pub loop-i-preserved : goal.loop-i-preserved
loop-i-preserved c =
    let l = c.loop-i in
    let a = c.args in
    let m : ℕ = a.n - (l.i + 1) in
    let fewer : a.n - l.i ≡ suc m = omega arith in
    let further : a.at + (l.i + 1) ≡ suc (a.at + l.i) = omega arith in
    let in-n : m < a.n = omega arith in
    let next = top-next a.size a.n a.value m c.requires.2 in-n in
    let digit = top_digit a.size a.n a.value m c.requires.2 in-n in (
      cc,
      cc (digit-before (2 ^ a.size) m a.value l.buf (a.at + l.i)),
      simp length-set l.invariant.2,
    )

pub returns : goal.returns
returns c =
    let l = c.loop-i in
    let a = c.args in
    digits_put (2 ^ a.size) a.n a.value (omega arith) c.offset_after-next.ensures
    (sym l.invariant.1 ∙ none_to_put (2 ^ a.size) a.value (a.n - l.i) l.buf (a.at + l.i) (λ some. omega arith))
