-- By the two tests of the index.
use mathlib.Core.Path.{◌∙◌}
use borrow.Author.Tests.{lt-ltb, le-ltb}
use Rattle.records.specs.Sets.{record_at}
use Rattle.records.proofs.Records.at.Goals as goal
use Rattle.records.proofs.Records.at.Goals.{
  then-self-index-via-then-self-index,
  then-self-index-via-else-self-index+then-index-ge-MAX,
}

pub returns-then-self-index : goal.returns-then-self-index
unfolding record_at
returns-then-self-index c =
    c.no_record.ensures
    ∙ elim c.then-self-index.branch [
      | then-self-index-via-then-self-index w ↦ simp (le-ltb _ _ w.if-self-index.true)
      | then-self-index-via-else-self-index+then-index-ge-MAX w ↦
          simp (lt-ltb _ _ w.if-self-index.false, le-ltb _ _ w.if-index-ge-MAX.true)
    ]

pub returns : goal.returns
unfolding record_at
returns c = simp (lt-ltb _ _ c.if-self-index.false, lt-ltb _ _ c.if-index-ge-MAX.false)
