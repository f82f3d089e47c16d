-- By whether the layout has a row at the index; where it has none at all, the only leaf is ISS itself.
use mathlib.Core.Path.{◌∙◌}
use native.Mathlib.Omega.{arith}
use Rattle.layouts.proofs.Indices.{layout-fits}
use Rattle.leaf_values.proofs.Laws.{leaf-here, leaf-past, leaf-whole}
use Rattle.leaf_values.proofs.leaf_row.Goals.{else-layout-eq0-via-then-layout-eq0+else-index-eq0, else-layout-eq0-via-else-layout-eq0}
use Rattle.leaf_values.proofs.leaf_row.Goals as goal

pub bounds-layout-index : goal.bounds-layout-index
bounds-layout-index c =
    let a = c.args in
    let f = layout-fits a.number a.iss c.layout_of-layout.result c.layout_of-layout.ensures in
    omega (arith, f.few, f.long, c.if-index-layout.true)

pub returns-then-index-layout : goal.returns-then-index-layout
returns-then-index-layout c =
    let a = c.args in
    leaf-here a.number a.iss c.layout_of-layout.result c.layout_of-layout.ensures a.index c.if-index-layout.true

pub returns-then-index-eq0 : goal.returns-then-index-eq0
returns-then-index-eq0 c =
    let a = c.args in
    c.iss_row.ensures
    ∙ leaf-whole a.number a.iss c.layout_of-layout.result c.layout_of-layout.ensures a.index
    c.if-layout-eq0.true c.if-index-eq0.true

pub returns : goal.returns
returns c =
    let a = c.args in
    leaf-past a.number a.iss c.layout_of-layout.result c.layout_of-layout.ensures a.index c.if-index-layout.false
    (λ z e. elim c.else-layout-eq0.branch [
      | else-layout-eq0-via-then-layout-eq0+else-index-eq0 w ↦ w.if-index-eq0.false e
      | else-layout-eq0-via-else-layout-eq0 w ↦ w.if-layout-eq0.false z
    ])
