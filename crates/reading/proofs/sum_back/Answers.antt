-- By the count: all of up to five records are leaves; of more, the first four and those after the fifth.
use Rattle.std.proofs.Common.{◌≡◌, refl, List, length, arith, rules}
use Rattle.records.specs.declared.Record.{Record}
use Rattle.records.proofs.Laws.{long_as}
use Rattle.reading.proofs.Sums.{within, few-sum, many-sum}
use Rattle.reading.proofs.sum_back.Goals as goal

pub returns-then-count-le5 : goal.returns-then-count-le5
returns-then-count-le5 c =
    let items : List Record = c.args.records.items in
    let long : length items ≡ 19 = search (rules, long_as) in
    few-sum c.args.records c.min-count.result long c.min-count.ensures
    c.sum_of.result c.if-count-le5.true c.sum_of.ensures

pub sum_of-own-requires : goal.sum_of-own-requires
sum_of-own-requires c =
    let items : List Record = c.args.records.items in
    let long : length items ≡ 19 = search (rules, long_as) in
    (omega arith, within c.args.records c.min-count.result long c.min-count.ensures)

pub returns : goal.returns
returns c =
    let items : List Record = c.args.records.items in
    let long : length items ≡ 19 = search (rules, long_as) in
    many-sum c.args.records c.min-count.result long c.min-count.ensures c.sum_of-top.result c.sum_of-own.result _
    c.if-count-le5.false c.sum_of-top.ensures c.sum_of-own.ensures refl
