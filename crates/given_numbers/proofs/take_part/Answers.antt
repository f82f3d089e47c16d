-- The invariant says what is left: the answer is that of the reading so far on the rest of the part.
use Prim.Native.Nat.{ℕ}
use mathlib.Core.List.{List}
use mathlib.Core.Path.{sym, ap, ap₂, ◌∙◌}
use native.Mathlib.Omega.{arith}
use lib.ListN.{length, drop}
use Rattle.given_numbers.proofs.Laws.{bytes-done, line_taken, same-places}
use Rattle.given_numbers.specs.Given.{take_bytes, take_number}
use Rattle.given_numbers.specs.declared.Given.{Given}
use Rattle.line_reader.proofs.Laws.{part_moved}
use Rattle.line_reader.specs.Lines.{finish_by}
use Rattle.line_reader.specs.declared.Rest.TheVariants.{Whole}
use Rattle.number.specs.declared.NumberState.{NumberState}
use borrow.Author.Rules.{rules}
use Rattle.given_numbers.proofs.take_part.Goals as goal
use Rattle.given_numbers.proofs.take_part.Invariants.{so_far}

pub loop-next-smaller-then-taken : goal.loop-next-smaller-then-taken
loop-next-smaller-then-taken c =
    let a = c.args in
    omega (arith, part_moved c.loop-next.line a.part.now c.loop-next.next c.take_line-taken.ensures (search rules))

pub loop-next-preserved-then-taken : goal.loop-next-preserved-then-taken
loop-next-preserved-then-taken c =
    let s = c.args.part.now in
    let l = c.loop-next in
    let next = c.take_line-taken.result.next in
    let w = c.take_number-given.ensures ∙ ap (take_number (l.given, l.numbers)) c.line_number.ensures in (
      l.invariant.0
          ∙ line_taken (record { line = l.line; given = l.given }) l.numbers s l.next c.take_line-taken.ensures
          ∙ rw c.if-taken.true
          (sym
          (ap₂ (λ (st : NumberState) (out : Given × List ℕ). take_bytes (so_far st out.0 out.1) (drop next s))
          c.start-line.ensures w)),
      ap (λ (out : Given × List ℕ). length out.1) w
          ∙ same-places (l.given, l.numbers) (finish_by Whole c.take_line-taken.result.state)
          ∙ l.invariant.1,
    )

pub loop-next-smaller : goal.loop-next-smaller
loop-next-smaller c =
    let a = c.args in
    omega (arith, part_moved c.loop-next.line a.part.now c.loop-next.next c.take_line-taken.ensures (search rules))

pub loop-next-preserved : goal.loop-next-preserved
loop-next-preserved c =
    let s = c.args.part.now in
    let l = c.loop-next in (
      l.invariant.0
          ∙ line_taken (record { line = l.line; given = l.given }) l.numbers s l.next c.take_line-taken.ensures
          ∙ rw c.if-taken.false,
      l.invariant.1,
    )

pub returns : goal.returns
returns c =
    let a = c.args in
    sym
    (c.loop-next.invariant.0
    ∙ bytes-done (so_far c.loop-next.line c.loop-next.given c.loop-next.numbers) a.part.now c.loop-next.next
    (omega arith))
