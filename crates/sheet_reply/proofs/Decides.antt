-- Each promise of this crate decides the answer and the buffer: it says what both are.
use Rattle.promise.proofs.Laws.{same}
use Rattle.promise.specs.Promise.{Decides}
use Rattle.sheet_reply.specs.Promises.{LinesPut, IsFault, LineAdded, HeadPut, FaultPut}

pub put_lines_decides : Decides LinesPut
put_lines_decides (before, at) a b p q = same p.is q.is

pub is_fault_decides : Decides IsFault
is_fault_decides fault a b = same

pub add_line_decides : Decides LineAdded
add_line_decides (before, at, line, least) a b = same

pub put_head_decides : Decides HeadPut
put_head_decides (before, at, count) a b p q = same p.is q.is

pub put_fault_decides : Decides FaultPut
put_fault_decides (before, at, line, fault) a b p q = same p.is q.is
