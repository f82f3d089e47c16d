-- The three parts stay within 25, 31 and 25 bits, so that no shift loses a bit and no sum wraps.
use native.Mathlib.Omega.{arith}
use Rattle.leaf_values.proofs.Laws.{two_fit, three_fit, put_is}
use Rattle.leaf_values.proofs.put_at.Goals as goal

pub overflow_add-result : goal.overflow_add-result
overflow_add-result c =
    let a = c.args in
    omega (
      arith,
      two_fit a.iss a.row.start a.row.width a.x c.requires.0 c.requires.1 c.field-low.ensures c.field-high.ensures,
    )

pub overflow_add-result-2 : goal.overflow_add-result-2
overflow_add-result-2 c =
    let a = c.args in
    omega (
      arith,
      three_fit a.iss a.row.start a.row.width a.x c.requires.0 c.requires.1 c.field-low.ensures c.field-high.ensures,
    )

pub returns : goal.returns
returns c =
    let a = c.args in
    put_is a.iss a.row.start a.row.width a.x c.requires.0 c.requires.1 c.field-low.ensures c.field-high.ensures
