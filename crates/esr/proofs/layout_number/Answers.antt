-- The table lists the number of each class's layout: computed once, and read at any index. No layout serves a class
-- past it.
use mathlib.Core.Path.{sym}
use Rattle.promise.proofs.Tests.{tab-at}
use Rattle.tables.specs.Tables.{layouts}
use Rattle.layouts.specs.Layouts.{layout_number}
use Rattle.esr.proofs.Laws.{past-empty}
use borrow.Author.Rules.{rules}
use Rattle.esr.proofs.layout_number.Goals as goal

pub returns-then-class-ge64 : goal.returns-then-class-ge64
returns-then-class-ge64 c = sym (past-empty c.args.class c.if-class-ge64.true)

pub returns : goal.returns
unfolding layout_number layouts
returns c = tab-at layout_number 64 c.args.class (search rules)
