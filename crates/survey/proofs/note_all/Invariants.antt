-- After each value the tables hold the counts of the values up to it, and with those that are left the whole counts.
use mathlib.Core.Path.{◌≡◌}
use lib.ListN.{length}
use Rattle.survey.specs.Surveys.{is_of_class, is_refused_at}
use Rattle.survey.proofs.Laws.{Counted}
use Rattle.survey.proofs.note_all.Given as goal

abbrev pub invariant-loop-value : goal.invariant-loop-value
invariant-loop-value l =
    (length l.counts ≡ 64) × (length l.refused ≡ 9)
    × Counted (is_of_class l.profile) l.values l.counts l.value-index
    × Counted (is_refused_at l.profile) l.values l.refused l.value-index
