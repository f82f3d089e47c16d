-- By the two codes between which the words of messages lie.
use borrow.Author.Tests.{le-leb, lt-leb}
use Rattle.sheets.specs.Standard.{is_message}
use Rattle.sheets.proofs.Laws.{firsts}
use Rattle.sheets.proofs.is_message.Goals as goal

pub returns-then-code-ge-MESSAGE_FIRST : goal.returns-then-code-ge-MESSAGE_FIRST
unfolding is_message
returns-then-code-ge-MESSAGE_FIRST c =
    rw (firsts.0, firsts.1, le-leb 483 c.args.code c.if-code-ge-MESSAGE_FIRST.true)

pub returns-else-code-ge-MESSAGE_FIRST : goal.returns-else-code-ge-MESSAGE_FIRST
unfolding is_message
returns-else-code-ge-MESSAGE_FIRST c =
    let no = lt-leb 483 c.args.code c.if-code-ge-MESSAGE_FIRST.false in
    rw (firsts.0, no)
