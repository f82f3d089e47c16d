-- The invariant: what is filled, with the rows that are left, is the whole; each turn fills one slot or passes a row
-- over.
use mathlib.Core.Path.{◌≡◌, sym, ap, ◌∙◌, subst}
use mathlib.Core.Bool.{true, false}
use mathlib.Core.List.{List, ◌∷◌, map}
use Prim.Native.Nat.{ℕ, suc, ◌+◌, ◌-◌, ◌<◌}
use native.Mathlib.Omega.{arith}
use lib.Dec.{T}
use lib.ListN.{length, set}
use lib.Seq.{sets}
use Rattle.records.specs.declared.Row.{Row}
use Rattle.engine_table.specs.Packed.{row_word}
use Rattle.engine.specs.Engine.{applies, direct, row_in, rows_from}
use Rattle.engine.specs.Words.{slot_of}
use Rattle.engine.proofs.Direct.{row-direct}
use Rattle.engine.proofs.Filling.{Fills, fills_one, filled}
use Rattle.engine.proofs.Laws.{rows-done, row-there, row-over}
use Rattle.engine.proofs.slots.row_slots.Goals as goal
use Rattle.engine.proofs.slots.row_slots.Goals.{then-applies, else-applies}

-- a row that applies is the first of those that are left, and there is a slot for it
module _ (answers at word : ℕ) {left m : ℕ} (more : left ≡ suc m) (is : word ≡ row_word at)
    (h : applies answers word ≡ true) where
  there : rows_from answers at left ≡ row_in word ∷ rows_from answers (at + 1) m
  there = row-there answers at word more is h

  module _ {all v next : ℕ} {final slots : List (List ℕ)}
      (f : Fills all final v slots next (rows_from answers at left)) where
    small : next < length slots
    small = omega (arith, ap length there, f.counted, f.room)

moved : {all v n m : ℕ} {final s t : List (List ℕ)} {rest : List Row} → s ≡ t → n ≡ m
    → Fills all final v s n rest → Fills all final v t m rest
moved {all} {v} {n} {m} {final} {s} {t} {rest} e f x =
    subst (λ (l : List (List ℕ)). Fills all final v l m rest) e
    (subst (λ (k : ℕ). Fills all final v s k rest) f x)

pub slot-requires : goal.slot-requires
slot-requires c = subst (λ (n : ℕ). T (direct n)) (sym c.row_word-word.ensures) (row-direct c.loop-at.at)

pub bounds-slots-next : goal.bounds-slots-next
bounds-slots-next c =
    let a = c.args in
    let l = c.loop-at in
    small a.answers l.at c.row_word-word.result {m = a.first + a.count - (l.at + 1)} (omega arith)
    c.row_word-word.ensures (sym c.applies.ensures ∙ c.if-applies.true) l.invariant

pub loop-at-preserved : goal.loop-at-preserved
loop-at-preserved c =
    let a = c.args in
    let l = c.loop-at in
    let all : ℕ = 5 + length (rows_from a.answers a.first a.count) in
    let final : List (List ℕ) = sets a.slots.now 5 (map (slot_of a.iss) (rows_from a.answers a.first a.count)) in
    let word : ℕ = c.row_word-word.result in
    let left : ℕ = a.first + a.count - l.at in
    let m : ℕ = a.first + a.count - (l.at + 1) in
    let more : left ≡ suc m = omega arith in
    let rest : List Row = rows_from a.answers (l.at + 1) m in
    elim c.if-applies.branch [
      | then-applies w ↦
          let h : applies a.answers word ≡ true = sym c.applies.ensures ∙ w.if-applies.true in
          let one : Fills all final a.iss (set l.slots l.next w.slot.result) (l.next + 1) rest =
          fills_one all final a.iss l.slots l.next (row_in word) rest w.slot.result
          (subst (Fills all final a.iss l.slots l.next)
          (there a.answers l.at word more c.row_word-word.ensures h)
          l.invariant) w.slot.ensures in
          moved (sym w.slots-is) (sym w.next-is) one
      | else-applies w ↦
          let h : applies a.answers word ≡ false = sym c.applies.ensures ∙ w.if-applies.false in
          moved (sym w.slots-is) (sym w.next-is)
          (subst (Fills all final a.iss l.slots l.next) (row-over a.answers l.at word more c.row_word-word.ensures h)
          l.invariant)
    ]

pub returns : goal.returns
returns c =
    let a = c.args in
    let l = c.loop-at in
    let none : _ = rows-done a.answers l.at (a.first + a.count - l.at) (omega arith) in
    let all : ℕ = 5 + length (rows_from a.answers a.first a.count) in
    let final : List (List ℕ) = sets a.slots.now 5 (map (slot_of a.iss) (rows_from a.answers a.first a.count)) in
    filled all final a.iss l.slots l.next (subst (Fills all final a.iss l.slots l.next) none l.invariant)
