-- The invariant: the places written hold the first steps, the others are as they were, and the steps that are left
-- follow the last number read.
use Rattle.std.proofs.Common.{◌<◌, length, drop, sym, refl, ap, ◌∙◌, arith, length-set, drop-drop, rules}
use Rattle.entry.proofs.Theorems.{read-free, read-bad, numbers_are}
use Rattle.entry.specs.declared.Entry.{Entry}
use Rattle.walk.specs.Walks.{entries_of, sequences, steps_after}
use Rattle.walk.proofs.Laws.{sound-long, long_at, sound_at, numbers_at, bad_at, steps_first, steps_none, steps_room, steps_more, steps_done, drop_more}
use Rattle.walk.proofs.write_steps.Goals as goal

pub returns-in_default : goal.returns-in_default
returns-in_default c =
    let s = c.args.block.now in
    steps_none s c.args.steps.now (read-bad s (sym c.read_entry.ensures ∙ c.in_default.is))

pub loop-next-init : goal.loop-next-init
loop-next-init c =
    let s = c.args.block.now in
    let read = sym c.read_entry.ensures ∙ c.in-Ok.is in
    let free = read-free s read in (
      sound-long s free,
      search rules,
      refl,
      search rules,
      refl,
      steps_first s free
          ∙ ap (λ (e : Entry). steps_after e.sequence (sequences (entries_of (drop 13 s)))) (sym (numbers_are s read)),
    )

-- there is a place for the step
room : (c : goal.After-skipped_to) → c.loop-next.written < length c.loop-next.steps
room c =
    let l = c.loop-next in
    let s = c.args.block.now in
    steps_room _ l.steps l.written l.last (drop l.at s) l.invariant.3 l.invariant.5
    (sound_at s l.at c.read_entry-in-loop-next.ensures c.in-Ok-read_entry.is) (rw l.invariant.2 c.requires)

pub bounds-steps-written : goal.bounds-steps-written
bounds-steps-written c = room c

pub loop-next-smaller : goal.loop-next-smaller
loop-next-smaller c =
    let l = c.loop-next in
    omega (arith, long_at c.args.block.now l.at c.read_entry-in-loop-next.ensures c.in-Ok-read_entry.is l.invariant.0)

pub loop-next-preserved : goal.loop-next-preserved
loop-next-preserved c =
    let l = c.loop-next in
    let s = c.args.block.now in
    let read = c.read_entry-in-loop-next.ensures in
    let place = room c in
    let m = steps_more _ l.steps l.written l.last (drop l.at s) l.invariant.3 l.invariant.5
    (sound_at s l.at read c.in-Ok-read_entry.is) _ _ (numbers_at s l.at read c.in-Ok-read_entry.is)
    c.skipped_to.ensures place in (
      long_at s l.at read c.in-Ok-read_entry.is l.invariant.0,
      omega (arith, l.invariant.1),
      simp length-set l.invariant.2,
      simp length-set (omega (arith, place)),
      drop_more l.written _ l.steps _ l.invariant.4,
      rw drop-drop at m,
    )

pub returns : goal.returns
returns c =
    let l = c.loop-next in
    let s = c.args.block.now in
    steps_done _ l.steps l.written l.last (drop l.at s) l.invariant.3 l.invariant.5 c.args.steps.now
    (bad_at s l.at c.read_entry-in-loop-next.ensures c.in_default-read_entry.is) l.invariant.4
