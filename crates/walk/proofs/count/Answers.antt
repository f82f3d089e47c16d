-- The invariant: those counted so far and those of what is left are all. An entry has 13 bytes, so that no count
-- passes the block's length.
use Rattle.std.proofs.Common.{cond, drop, ap, ◌∙◌, arith, drop-drop}
use Rattle.entry.specs.declared.Entry.{Entry}
use Rattle.walk.specs.Walks.{decodes}
use Rattle.walk.proofs.Laws.{long_at, sound_at, numbers_at, bad_at, count-more, count-done, decoded-more, decoded-done, at_most_one}
use Rattle.walk.proofs.count.Goals as goal

pub loop-entry-smaller : goal.loop-entry-smaller
loop-entry-smaller c =
    omega (arith, long_at c.args.block.now c.loop-entry.at c.read_entry.ensures c.in-Ok.is c.loop-entry.invariant.0)

pub loop-entry-preserved : goal.loop-entry-preserved
loop-entry-preserved c =
    let l = c.loop-entry in
    let s = c.args.block.now in
    let t = drop l.at s in
    let free = sound_at s l.at c.read_entry.ensures c.in-Ok.is in
    let d = decoded-more _ _ l.decoded t l.invariant.4 _ free
    (c.decoded_of-decoded.ensures
    ∙ ap (λ (x : Entry). cond (decodes c.args.profile x.esr) 1 0) (numbers_at s l.at c.read_entry.ensures c.in-Ok.is)) in (
      long_at s l.at c.read_entry.ensures c.in-Ok.is l.invariant.0,
      omega arith,
      omega (arith, at_most_one (decodes c.args.profile c.in-Ok.entry.esr), c.decoded_of-decoded.ensures),
      rw drop-drop at (count-more _ l.entries t l.invariant.3 free),
      rw drop-drop at d,
    )

pub returns : goal.returns
returns c =
    let l = c.loop-entry in
    let s = c.args.block.now in
    let none = bad_at s l.at c.read_entry.ensures c.in_default.is in (
      count-done _ l.entries (drop l.at s) l.invariant.3 none,
      decoded-done _ _ l.decoded (drop l.at s) l.invariant.4 none,
    )
