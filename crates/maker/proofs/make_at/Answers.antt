-- The tests of the widths in order; then nothing wraps, since what is packed fits ISS.
use Rattle.std.proofs.Common.{◌≡◌, ℕ, ◌+◌, ◌*◌, ◌%◌, ◌^◌, ◌<◌, Bool, true, List, sym, ap, ◌∙◌, arith}
use Rattle.records.specs.declared.Row.{Row}
use Rattle.maker.specs.Laid.{Bounded}
use Rattle.maker.specs.Making.{in_widths, packed, value_of, nothing, judged}
use Rattle.maker.proofs.Choosing.{wide_leaf, wide_iss2, wide_il, all_fit, unwrapped}
use Rattle.maker.proofs.make_at.Goals as goal

-- what is packed, and that it fits ISS
module _
    (rows : List Row) (leaves : List ℕ) (bounded : Bounded rows leaves) {fit : Bool}
    (fits : fit ≡ in_widths rows leaves) (yes : fit ≡ true) where
  less : packed rows leaves < 2 ^ 25
  less = bounded (sym fits ∙ yes)

  whole : {iss : ℕ} → iss ≡ packed rows leaves % 2 ^ 64
      → iss ≡ packed rows leaves
  whole e = unwrapped _ _ less e

pub returns-then-not-in_widths : goal.returns-then-not-in_widths
returns-then-not-in_widths c =
    let a = c.args in
    ap nothing c.carrying.ensures
    ∙ wide_leaf a.class a.il a.iss2 a.rows.now a.leaves.now
    (sym c.in_widths.ensures ∙ c.if-not-in_widths.true)

pub returns-then-iss2-ge32 : goal.returns-then-iss2-ge32
returns-then-iss2-ge32 c =
    let a = c.args in
    ap nothing c.carrying-then-iss2-ge32.ensures
    ∙ wide_iss2 a.class a.il a.iss2 a.rows.now a.leaves.now
    (sym c.in_widths.ensures ∙ c.if-not-in_widths.false) (omega arith)

pub returns-then-il-ge2 : goal.returns-then-il-ge2
returns-then-il-ge2 c =
    let a = c.args in
    ap nothing c.carrying-then-il-ge2.ensures
    ∙ wide_il a.class a.il a.iss2 a.rows.now a.leaves.now
    (sym c.in_widths.ensures ∙ c.if-not-in_widths.false) (omega arith) (omega arith)

pub returns : goal.returns
unfolding value_of
returns c =
    let a = c.args in
    c.judge.ensures
    ∙ ap (λ (n : ℕ). judged (a.iss2 * 0x100000000 + (a.class * 0x4000000 + (a.il * 0x2000000 + n))))
    (whole a.rows.now a.leaves.now c.requires.2 c.in_widths.ensures c.if-not-in_widths.false c.pack-iss.ensures)
    ∙ all_fit a.class a.il a.iss2 a.rows.now a.leaves.now
    (sym c.in_widths.ensures ∙ c.if-not-in_widths.false) (omega arith) (omega arith)
