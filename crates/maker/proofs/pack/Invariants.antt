-- The invariant: the sum so far and what is left to pack are, modulo 2^64, all that is packed.
use Rattle.std.proofs.Common.{◌≡◌, ◌+◌, ◌%◌, ◌^◌, ◌<◌}
use Rattle.std.specs.Iterator.Adapters.{zip_first, zip_second}
use Rattle.std.specs.Slice.Iter.{iter_rest}
use Rattle.maker.specs.Laid.{Low}
use Rattle.maker.specs.Making.{packed}
use Rattle.maker.proofs.pack.Given as goal

abbrev pub invariant-loop-row : goal.invariant-loop-row
invariant-loop-row l =
    let rows = iter_rest (zip_first l.row-iterator) in
    let leaves = iter_rest (zip_second l.row-iterator) in
    (packed l.rows l.leaves % 2 ^ 64 ≡ (l.sum + packed rows leaves) % 2 ^ 64) × (l.sum < 2 ^ 64) × Low rows
