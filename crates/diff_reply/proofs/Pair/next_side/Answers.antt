-- By whether either list is at its end; else by the records that are next.
use Prim.Native.Nat.{◌≤◌, ◌<◌}
use mathlib.Core.Path.{ap₂, ◌∙◌}
use native.Mathlib.Omega.{arith}
use lib.ListN.{length, drop_of_length-le}
use lib.Seq.{drop-cons}
use Rattle.records.specs.Sets.{list_of, no_record}
use Rattle.diff_reply.specs.Steps.{next_side, side_of}
use Rattle.diff_reply.proofs.Laws.{record_here}
use Rattle.diff_reply.proofs.Pair.next_side.Goals as goal

pub returns-then-counted-turn : goal.returns-then-counted-turn
unfolding next_side
returns-then-counted-turn c =
    let ys = list_of c.args.self.second.now in
    let end : length ys ≤ c.args.turn.second = omega arith in
    rw (drop_of_length-le ys end)

pub returns-then-counted-turn-2 : goal.returns-then-counted-turn-2
unfolding next_side
returns-then-counted-turn-2 c =
    let xs = list_of c.args.self.first.now in
    let ys = list_of c.args.self.second.now in
    let t = c.args.turn in
    let more : t.second < length ys = omega arith in
    let end : length xs ≤ t.first = omega arith in
    rw (drop-cons ys t.second no_record more, drop_of_length-le xs end)

pub returns : goal.returns
unfolding next_side
returns c =
    let p = c.args.self in
    let t = c.args.turn in
    let xs = list_of p.first.now in
    let ys = list_of p.second.now in
    let here : t.first < length xs = omega arith in
    let there : t.second < length ys = omega arith in
    rw (drop-cons xs t.first no_record here, drop-cons ys t.second no_record there)
    (c.of.ensures
    ∙ ap₂ side_of (c.at.ensures ∙ record_here p.first.now t.first (omega (arith, c.counted-2.ensures)))
    (c.at-2.ensures ∙ record_here p.second.now t.second (omega (arith, c.counted.ensures))))
