-- The buffers keep their lengths.
use Rattle.std.proofs.Common.{◌≡◌, length}
use Rattle.esr_survey_sum.proofs.add_surveys.Given as goal

abbrev pub invariant-reads : goal.invariant-reads
invariant-reads l =
    (length l.part ≡ length l.initial.part) × (length l.line ≡ length l.initial.line)
    × (length l.totals ≡ length l.initial.totals)
