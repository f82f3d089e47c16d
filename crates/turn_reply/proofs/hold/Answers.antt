-- The invariant: the numbers so far are written.
use Prim.Native.Nat.{ℕ, ◌+◌, ◌≤◌, ◌<◌}
use mathlib.Core.List.{List}
use mathlib.Core.Path.{refl, sym, ap, ap₂, ◌∙◌}
use native.Mathlib.Nat.{zero-add}
use native.Mathlib.Omega.{arith}
use lib.ListN.{length, get_or, set, take}
use lib.Seq.{sets, take_all, length-sets}
use Rattle.buffer.proofs.Writing.{turn}
use Rattle.turn_fields.proofs.Laws.{few_fields}
use Rattle.turn_reply.specs.Turns.{turned}
use Rattle.turn_reply.proofs.Laws.{turned-long}
use Rattle.turn_reply.proofs.hold.Goals as goal

pub loop-i-init : goal.loop-i-init
loop-i-init c = (refl, refl)

pub value_at-requires : goal.value_at-requires
value_at-requires c =
    let a = c.args in
    omega (arith, c.loop-i-test.true, c.field_count-count.ensures, turned-long a.esr a.index a.number)

pub offset_bounds-numbers-i : goal.offset_bounds-numbers-i
offset_bounds-numbers-i c =
    let a = c.args in
    omega (arith, c.loop-i-test.true, c.field_count-count.ensures, few_fields a.esr)

pub bounds-numbers-i : goal.bounds-numbers-i
bounds-numbers-i c =
    let a = c.args in
    omega (arith, c.loop-i-test.true, c.loop-i.invariant.0, c.requires, c.field_count-count.ensures, few_fields a.esr)

pub loop-i-preserved : goal.loop-i-preserved
loop-i-preserved c =
    let a = c.args in
    let t = turned a.esr a.index a.number in
    let i = c.loop-i.i in
    let within : i < length t = omega (
      arith,
      c.loop-i-test.true,
      c.field_count-count.ensures,
      turned-long a.esr a.index a.number,
    ) in
    let written = ap₂ (λ (l : List ℕ) (x : ℕ). set l i x) c.loop-i.invariant.1 c.value_at.ensures ∙ ap
    (λ (k : ℕ). set (sets a.numbers.now 0 (take i t)) k (get_or t i 0)) (sym (zero-add i))
    ∙ turn a.numbers.now 0 t i within in
    (ap length written ∙ length-sets a.numbers.now 0 (take (i + 1) t), written)

pub returns : goal.returns
returns c =
    let a = c.args in
    let t = turned a.esr a.index a.number in
    let all : length t ≤ c.loop-i.i = omega (
      arith,
      c.loop-i-test.false,
      c.field_count-count.ensures,
      turned-long a.esr a.index a.number,
    ) in (
      c.field_count-count.ensures ∙ sym (turned-long a.esr a.index a.number),
      c.loop-i.invariant.1 ∙ ap
          (sets a.numbers.now 0) (take_all c.loop-i.i t all),
    )
