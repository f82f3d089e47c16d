-- The invariant: the lines of the entries so far are what was put; the entry read is the walk's at that index.
use borrow.Author.Rules.{rules}
use Prim.Native.Nat.{ℕ, ◌*◌, ◌-◌, ◌≤◌, ◌<◌}
use mathlib.Core.List.{List}
use mathlib.Core.Path.{◌≡◌, refl, sym, ap, ◌∙◌}
use native.Mathlib.Omega.{arith}
use lib.ListN.{length, drop, get_or, take}
use lib.Seq.{take_all}
use Rattle.std.specs.Prelude.{Result, Ok}
use Rattle.buffer.proofs.Appending.{and_then, none, same_length}
use Rattle.buffer.proofs.InOrder.{one_more, no_items}
use Rattle.entry.specs.Entries.{entry_of}
use Rattle.entry.specs.declared.Entry.{Entry}
use Rattle.refusals.specs.declared.Refusal.{Refusal}
use Rattle.walk.specs.Walks.{entries_of}
use Rattle.walk.proofs.Laws.{rest, entries_fit}
use Rattle.walk.proofs.Theorems.{nothing, entry_at}
use Rattle.walk_reply.specs.Replies.{lines_at}
use Rattle.walk_reply.proofs.put_entries.Goals as goal

-- there is an entry of this index, it lies in the block, and it is read there
here : {i k : ℕ} (s : List ℕ) → i < k → k ≡ length (entries_of s) → i < length (entries_of s)
here s h e = omega (arith, h, e)

within : {i k : ℕ} (s : List ℕ) → i < k → k ≡ length (entries_of s) → 13 * i ≤ length s
within s h e = omega (arith, here s h e, entries_fit s)

read_at : {i k : ℕ} (s : List ℕ) {r : Result Entry Refusal} → i < k → k ≡ length (entries_of s)
    → r ≡ entry_of (take (length s - 13 * i) (drop (13 * i) s)) → r ≡ Ok (get_or (entries_of s) i nothing)
read_at {i} s h e read = read ∙ ap entry_of (rest s (13 * i)) ∙ entry_at i s (here s h e)

abbrev entry_in : Result Entry Refusal → Entry
entry_in (Ok e) = e
entry_in _ = nothing

pub loop-i-init : goal.loop-i-init
loop-i-init c = (rw (no_items (lines_at _ _)) (none (search rules)), refl)

pub overflow_mul-offset : goal.overflow_mul-offset
overflow_mul-offset c = omega (arith, within c.args.block.now c.loop-i-test.true c.requires)

pub slice_bounds-read_entry-count : goal.slice_bounds-read_entry-count
slice_bounds-read_entry-count c = within c.args.block.now c.loop-i-test.true c.requires

pub slice_bounds-read_entry-start : goal.slice_bounds-read_entry-start
slice_bounds-read_entry-start c = omega (arith, within c.args.block.now c.loop-i-test.true c.requires)

pub unwrap-entry-requires : goal.unwrap-entry-requires
unwrap-entry-requires c = rw (read_at c.args.block.now c.loop-i-test.true c.requires c.read_entry.ensures) (search rules)

pub loop-i-preserved : goal.loop-i-preserved
unfolding lines_at
loop-i-preserved c =
    let a = c.args in
    let s = a.block.now in
    let read =
    ap entry_in (sym c.unwrap-entry.ensures ∙ read_at s c.loop-i-test.true c.requires c.read_entry.ensures) in
    let w = and_then c.loop-i.invariant.0 (and_then c.put_entry_line-next.ensures
    (rw c.step_at.ensures at c.put_step_line-next.ensures)) in (
      rw (
        one_more (lines_at a.profile a.steps.now) (entries_of s) c.loop-i.i nothing
            (here s c.loop-i-test.true c.requires),
        ← read,
      ) w,
      same_length w,
    )

pub returns : goal.returns
returns c =
    let l = c.loop-i in
    let all = take_all l.i (entries_of c.args.block.now) (omega (arith, c.loop-i-test.false, c.requires)) in
    rw all at l.invariant.0
