-- The first seven of nine counts, each read at its place.
use borrow.Author.Rules.{rules}
use mathlib.Core.Path.{◌≡◌}
use native.Mathlib.Omega.{arith}
use lib.ListN.{length}
use Rattle.survey.proofs.Laws.{reads-take}
use Rattle.survey.proofs.Tally.ordinary.Goals as goal

pub returns : goal.returns
returns c =
    let nine : length c.args.self.refused ≡ 9 = search rules in
    reads-take c.args.self.refused 0 7 (omega arith)
