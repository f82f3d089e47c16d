-- The invariant: `rest` is what stands above the digits counted so far, and the count goes on from them.
use mathlib.Core.Path.{◌≡◌, refl, sym, ◌∙◌}
use Prim.Native.Nat.{suc, ◌+◌, ◌-◌, ◌/◌, ◌^◌, ◌<◌}
use native.Mathlib.Omega.{arith}
use Rattle.digits.specs.Digits.{unpadded, radix_of}
use Rattle.digits.proofs.Numerals.{two_at_least, few-digits, rest-above, one_digit_more, enough_now}
use native.Mathlib.Nat.{pow-suc, pow-zero, one-mul, div-lt_self}
use native.Mathlib.Numerals.{add-one}
use Rattle.digits.proofs.fewest.Goals as goal

pub loop-rest-init : goal.loop-rest-init
unfolding unpadded
loop-rest-init c = (omega arith, c.above-rest.ensures ∙ rw (pow-suc, pow-zero, one-mul), refl)

pub loop-rest-smaller : goal.loop-rest-smaller
loop-rest-smaller c =
    let l = c.loop-rest in
    let some : 0 < l.rest = omega arith in
    rw c.above-rest-in-loop-rest.ensures (div-lt_self some (two_at_least c.args.base))

pub loop-rest-preserved : goal.loop-rest-preserved
loop-rest-preserved c =
    let a = c.args in
    let l = c.loop-rest in
    let b = radix_of a.base in
    let two = two_at_least a.base in
    let some : 0 < a.v / b ^ l.n = omega arith in
    let few : l.n < 64 = few-digits b two a.v l.n some (omega arith) in
    let e : 64 - l.n ≡ suc (64 - (l.n + 1)) = omega arith in
    let s = add-one l.n in (
      omega arith,
      cc (c.above-rest-in-loop-rest.ensures, rest-above b l.n a.v),
      cc
          (one_digit_more b two a.v l.n some (64 - (l.n + 1))),
    )

pub returns : goal.returns
returns c =
    let a = c.args in
    let l = c.loop-rest in
    sym (l.invariant.2 ∙ enough_now (radix_of a.base) (two_at_least a.base) a.v l.n (64 - l.n) (omega arith))
