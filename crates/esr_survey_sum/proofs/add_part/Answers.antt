-- Each turn passes a line feed, so what is left of the part falls; the line and the totals keep their lengths.
use Rattle.std.proofs.Common.{arith, rules}
use Rattle.line_reader.proofs.Laws.{end-within}
use Rattle.esr_survey_sum.proofs.add_part.Goals as goal

pub slice_bounds-put_bytes-count : goal.slice_bounds-put_bytes-count
slice_bounds-put_bytes-count c = omega (arith, end-within _ _ c.line_end-end.ensures (search rules))

pub slice_bounds-put_bytes-start : goal.slice_bounds-put_bytes-start
slice_bounds-put_bytes-start c = omega (arith, end-within _ _ c.line_end-end.ensures (search rules))

pub slice_bounds-put_bytes-end : goal.slice_bounds-put_bytes-end
slice_bounds-put_bytes-end c = omega (arith, end-within _ _ c.line_end-end.ensures (search rules))

pub loop-next-smaller : goal.loop-next-smaller
loop-next-smaller c = omega (arith, end-within _ _ c.line_end-end.ensures (search rules))
