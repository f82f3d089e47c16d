-- A part of a list is no longer than the list, and a set has 19 slots.
use mathlib.Core.Path.{◌≡◌}
use native.Mathlib.Omega.{arith}
use lib.ListN.{length, length-take}
use Rattle.records.proofs.Laws.{long_as}
use borrow.Author.Rules.{rules}
use Rattle.diff_reply.proofs.counted.Goals as goal

pub returns : goal.returns
returns c =
    let s = c.args.records in
    let long : length s.items ≡ 19 = search (rules, long_as) in
    (omega (arith, length-take s.count s.items, long), omega arith)
