-- As many digits as a word has are put at once; of more, zeros come first and then those of a word.
use mathlib.Core.Path.{◌≡◌}
use Prim.Native.Nat.{◌+◌, ◌-◌, ◌^◌, ◌<◌}
use native.Mathlib.Nat.{mul-le-mul_left, sub-zero}
use native.Mathlib.Omega.{arith}
use Rattle.buffer.proofs.Appending.{and_then}
use Rattle.digits.proofs.Numerals.{pow-pow, zeros-above}
use Rattle.digits.proofs.put_groups.Goals as goal

pub put_word-requires : goal.put_word-requires
put_word-requires c =
    (omega arith, omega arith, omega (arith, mul-le-mul_left c.args.size c.if-n-most.true))

pub returns : goal.returns
returns c =
    let a = c.args in
    let held : a.value < (2 ^ a.size) ^ a.most = rw (pow-pow, c.requires.2) (omega arith) in
    let e : a.n - a.most + a.most ≡ a.n = omega arith in
    rw (← e, zeros-above (2 ^ a.size) a.most a.value held (a.n - a.most) 256 (omega arith))
    (and_then (rw sub-zero at c.put_bytes-next.ensures) c.put_word-2.ensures)
