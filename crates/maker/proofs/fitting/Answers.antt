-- No outcome fits a class that no layout serves; of the others the one that is found.
use Rattle.std.proofs.Common.{refl}
use Rattle.maker.specs.Making.{no_class}
use Rattle.maker.proofs.Choosing.{choose_none, fitting-is}
use Rattle.maker.proofs.fitting.Goals as goal

pub returns-then-number : goal.returns-then-number
returns-then-number c =
    let a = c.args in (
      no_class,
      choose_none a.class a.leaves.now c.layout_number-number.result c.layout_number-number.ensures
          c.if-number.true,
      refl,
    )

pub returns : goal.returns
returns c =
    let a = c.args in
    fitting-is a.class a.leaves.now c.layout_number-number.result c.layout_number-number.ensures c.if-number.false
    c.index_fitting.result c.index_fitting.ensures
