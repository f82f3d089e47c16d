-- The part keeps its length.
use Rattle.std.proofs.Common.{◌≡◌, length}
use Rattle.esr_make.proofs.read_numbers.Given as goal

abbrev pub invariant-reads : goal.invariant-reads
invariant-reads l = length l.part ≡ length l.fn.part
