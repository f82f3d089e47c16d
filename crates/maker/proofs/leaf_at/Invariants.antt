-- The invariant: what is left of rows and leaves has the leaf that all of them have.
use Rattle.std.proofs.Common.{◌≡◌}
use Rattle.std.specs.Iterator.Adapters.{zip_first, zip_second}
use Rattle.std.specs.Slice.Iter.{iter_rest}
use Rattle.layout_sets.specs.Fitting.{leaf_at}
use Rattle.maker.proofs.leaf_at.Given as goal

abbrev pub invariant-loop-row : goal.invariant-loop-row
invariant-loop-row l =
    leaf_at l.rows l.leaves l.start l.width
    ≡ leaf_at (iter_rest (zip_first l.row-iterator)) (iter_rest (zip_second l.row-iterator)) l.start l.width
