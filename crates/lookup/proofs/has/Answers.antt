-- The bit is shifted down and masked; from 64 on there is none.
use mathlib.Core.Path.{◌≡◌, sym, ap, ◌∙◌}
use mathlib.Core.Bool.{Bool, false, cond}
use Prim.Native.Nat.{ℕ, ◌/◌, ◌%◌, ◌^◌}
use lib.Bits.{and_mask}
use lib.Dec.{eqb, ltb}
use borrow.Author.Tests.{lt-ltb, le-ltb}
use Rattle.lookup.specs.Descriptions.{bit_in}
use Rattle.lookup.proofs.has.Goals as goal

pub returns-then-value-lt64 : goal.returns-then-value-lt64
unfolding bit_in
returns-then-value-lt64 c =
    let m : ℕ = c.args.values in
    let v : ℕ = c.args.value in
    ap (λ (x : ℕ). eqb x 1) (and_mask (m / 2 ^ v) 1)
    ∙ ap (λ (t : Bool). cond t (eqb (m / 2 ^ v % 2) 1) false) (sym (lt-ltb v 64 c.if-value-lt64.true))

pub returns-else-value-lt64 : goal.returns-else-value-lt64
unfolding bit_in
returns-else-value-lt64 c =
    let m : ℕ = c.args.values in
    let v : ℕ = c.args.value in
    let e : ltb v 64 ≡ false = le-ltb v 64 c.if-value-lt64.false in
    e ∙ ap (λ (t : Bool). cond t (eqb (m / 2 ^ v % 2) 1) false) (sym e)
