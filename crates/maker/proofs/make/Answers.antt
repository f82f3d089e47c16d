-- The class, then the rows that fit, then what is made at them.
use Rattle.std.proofs.Common.{ℕ, List, sym, ap, ◌∙◌, subst}
use Rattle.records.specs.declared.Row.{Row}
use Rattle.tables.specs.Applying.{rows_for}
use Rattle.layouts.specs.Layouts.{table_of}
use Rattle.layout_sets.specs.Fitting.{leaf_rows}
use Rattle.layout_sets.specs.Outcomes.{outcome_of}
use Rattle.maker.specs.Laid.{Low, Bounded}
use Rattle.maker.specs.Making.{no_class, no_layout, chosen, nothing, made_at}
use Rattle.maker.proofs.Choosing.{choose_none, choose_unfit, choose_fit, fits-is, served_less, low_at, bounded_at}
use Rattle.maker.proofs.make.Goals as goal

pub returns-then-number : goal.returns-then-number
returns-then-number c =
    let a = c.args in (
      no_class,
      choose_none a.class a.leaves.now c.layout_number-number.result c.layout_number-number.ensures c.if-number.true,
      ap nothing c.carrying.ensures,
    )

pub returns-in-None : goal.returns-in-None
returns-in-None c =
    let a = c.args in (
      no_layout,
      choose_unfit a.class a.leaves.now c.layout_number-number.result c.layout_number-number.ensures c.if-number.false
          c.in-None.ensures,
      ap nothing c.carrying-in-None.ensures,
    )

pub make_at-requires : goal.make_at-requires
make_at-requires c =
    let a = c.args in
    let number = c.layout_number-number.result in
    let index = c.in-Some.index in
    let rows = sym c.leaf_rows-set.ensures.rows in (
      served_less a.class number c.layout_number-number.ensures c.if-number.false,
      subst Low rows (low_at number index),
      subst (λ (rs : List Row). Bounded rs a.leaves.now) rows (bounded_at number index a.leaves.now),
    )

pub returns-in-Some : goal.returns-in-Some
returns-in-Some c =
    let a = c.args in
    let number = c.layout_number-number.result in
    let rows : List Row = rows_for (table_of number) (outcome_of c.in-Some.index) in
    let fits =
    fits-is a.class a.leaves.now number c.layout_number-number.ensures c.if-number.false
    c.in-Some.index c.in-Some.ensures in (
      chosen rows,
      choose_fit a.class a.leaves.now number c.layout_number-number.ensures c.if-number.false rows fits,
      c.make_at.ensures
          ∙ ap (λ (rs : List Row). made_at a.class a.il a.iss2 rs a.leaves.now) c.leaf_rows-set.ensures.rows
          ∙ ap (λ (k : ℕ). made_at a.class a.il a.iss2 (leaf_rows (table_of k) rows) a.leaves.now)
          c.layout_number-number.ensures,
    )
