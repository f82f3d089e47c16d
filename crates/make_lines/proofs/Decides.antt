-- Each promise of this crate decides the next offset and the buffer: it says what both are.
use Rattle.make_lines.specs.Promises.{LeavesPut, NamePut, SetsPut, WidthPut}
use Rattle.promise.proofs.Laws.{same}
use Rattle.promise.specs.Promise.{Decides}

pub put_width_decides : Decides WidthPut
put_width_decides (before, at, width) a b p q = same p.is q.is

pub put_name_decides : Decides NamePut
put_name_decides (before, at, row) a b p q = same p.is q.is

pub put_leaf_count_decides : Decides LeavesPut
put_leaf_count_decides (before, at, count) a b p q = same p.is q.is

pub put_sets_decides : Decides SetsPut
put_sets_decides (before, at, number) a b p q = same p.is q.is
