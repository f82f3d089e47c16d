-- By whether the sheets are sound; past that the code is found in one of them or not.
use Rattle.phrases.specs.Sheets.{has_phrase}
use Rattle.phrases.proofs.Cases.{told_ok}
use Rattle.phrases.proofs.has_phrase.Goals as goal

pub returns-then-is_ok : goal.returns-then-is_ok
unfolding has_phrase
returns-then-is_ok c =
    rw (← told_ok _ c.sheets_refusal.ensures c.is_ok.ensures.value, c.if-is_ok.true, ← c.find.ensures) c.is_some.ensures

pub returns-else-is_ok : goal.returns-else-is_ok
unfolding has_phrase
returns-else-is_ok c =
    rw (← told_ok _ c.sheets_refusal.ensures c.is_ok.ensures.value, c.if-is_ok.false)
