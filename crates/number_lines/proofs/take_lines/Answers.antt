-- The invariant says what is left: the answer is that of the run so far on the rest of the part.
use Prim.Native.Nat.{ℕ}
use mathlib.Core.Path.{sym, ap, ◌∙◌}
use native.Mathlib.Omega.{arith}
use lib.ListN.{length, drop}
use mathlib.Core.List.{List}
use Rattle.line_reader.proofs.Laws.{part_moved}
use Rattle.number_lines.proofs.Laws.{line-ended, line-left, same-places, stopped, take_done, take_full}
use Rattle.number_lines.specs.Runs.{end_line, on_line}
use Rattle.number_lines.specs.declared.Lines.{Lines}
use borrow.Author.Tests.{not-false, not-true}
use borrow.Author.Rules.{rules}
use Rattle.number_lines.proofs.take_lines.Goals as goal

pub returns-then-is_full : goal.returns-then-is_full
returns-then-is_full c =
    let s = c.args.part.now in
    sym
    (c.loop-next.invariant.0
    ∙ take_full c.loop-next.lines c.loop-next.run c.loop-next.next (drop c.loop-next.next s)
    (sym c.is_full.ensures ∙ c.if-is_full.true))

pub returns-then-not-taken : goal.returns-then-not-taken
returns-then-not-taken c =
    let s = c.args.part.now in
    let is = c.take_line-taken.ensures in
    ap (λ (k : Lines). stopped k c.loop-next.run c.take_line-taken.result.next) c.on_line-lines.ensures
    ∙ sym
    (c.loop-next.invariant.0
    ∙ line-left c.loop-next.lines c.loop-next.run s c.loop-next.next is (sym c.is_full.ensures ∙ c.if-is_full.false)
    (not-true c.take_line-taken.result.ended c.if-not-taken.true))

pub loop-next-smaller : goal.loop-next-smaller
loop-next-smaller c =
    omega
    (arith, part_moved c.loop-next.lines.line c.args.part.now c.loop-next.next c.take_line-taken.ensures (search rules))

pub loop-next-preserved : goal.loop-next-preserved
loop-next-preserved c =
    let s = c.args.part.now in
    let is = c.take_line-taken.ensures in
    let w = c.end_line-lines.ensures ∙ ap (λ (k : Lines). end_line k c.loop-next.run) c.on_line-lines.ensures in (
      c.loop-next.invariant.0
          ∙ line-ended c.loop-next.lines c.loop-next.run s c.loop-next.next is
          (sym c.is_full.ensures ∙ c.if-is_full.false) w
          (not-false c.take_line-taken.result.ended c.if-not-taken.false),
      ap (λ (r : Lines × List ℕ). length r.1) w
          ∙ same-places (on_line c.loop-next.lines c.take_line-taken.result.state) c.loop-next.run
          ∙ c.loop-next.invariant.1,
    )

pub returns : goal.returns
returns c =
    sym
    (c.loop-next.invariant.0
    ∙ take_done c.loop-next.lines c.loop-next.run c.args.part.now c.loop-next.next (omega arith))
