-- The invariant: the sum so far and what is left add up, modulo 2^64, to what all fields do.
use Rattle.std.proofs.Common.{◌≡◌, ℕ, ◌%◌, ◌^◌, List, length, take, drop, ◌+◌, refl, sym, ap, ◌∙◌, mod-lt, zero-add, arith, pow_pos, rules}
use Rattle.records.specs.declared.Record.{Record}
use Rattle.reading.specs.Leaves.{added_up}
use Rattle.records.proofs.Laws.{long_as}
use Rattle.reading.proofs.Sums.{sum_more, sum_done}
use Rattle.reading.proofs.sum_of.Goals as goal

pub loop-i-init : goal.loop-i-init
loop-i-init c = (
  ap (λ (n : ℕ). n % 2 ^ 64) (sym
      (zero-add (added_up (drop c.args.from (take c.args.to c.args.records.items))))),
  pow_pos 64,
)

pub loop-i-preserved : goal.loop-i-preserved
loop-i-preserved c =
    let items : List Record = c.args.records.items in
    let long : length items ≡ 19 = search (rules, long_as) in (
      c.loop-i.invariant.0
          ∙ sum_more items c.args.to c.loop-i.i c.loop-i.sum c.shifted_back-sum.result _ (omega arith)
          (omega (arith, c.requires)) c.shifted_back-sum.ensures refl,
      mod-lt (c.loop-i.sum + c.shifted_back-sum.result) (pow_pos 64),
    )

pub returns : goal.returns
returns c =
    let items : List Record = c.args.records.items in
    let long : length items ≡ 19 = search (rules, long_as) in
    sym
    (c.loop-i.invariant.0
    ∙ sum_done items c.args.to c.loop-i.i c.loop-i.sum (omega arith) (omega (arith, c.requires)) c.loop-i.invariant.1)
