-- The invariant: what is written, with the rows that are left, is the whole; each turn writes one record or passes a
-- row over.
use mathlib.Core.Path.{◌≡◌, sym, ap, ◌∙◌, subst}
use mathlib.Core.List.{List, ◌∷◌}
use mathlib.Core.Bool.{true, false}
use Prim.Native.Nat.{ℕ, suc, ◌+◌, ◌-◌, ◌<◌}
use native.Mathlib.Omega.{arith}
use lib.Dec.{T}
use lib.ListN.{length}
use Rattle.records.specs.Sets.{set_room, records_of}
use Rattle.records.specs.declared.Records.{Records}
use Rattle.records.specs.declared.Row.{Row}
use Rattle.engine_table.specs.Packed.{place_word, row_word}
use Rattle.engine.specs.Engine.{applies, direct, row_in, rows_from, first_in, count_in, rule_in, tops_of, rows_of}
use Rattle.engine.specs.Engine.{records_by}
use Rattle.engine.proofs.Direct.{row-direct}
use Rattle.engine.proofs.Laws.{Writes, begun, writes_one, written_all, rows-done, row-there, row-over}
use Rattle.engine.proofs.Rows.{few-rows}
use Rattle.engine.proofs.all_records.Goals as goal
use Rattle.engine.proofs.all_records.Goals.{then-applies, else-applies}

walked : {a b n m k j : ℕ} → a ≡ b → n ≡ m → k ≡ j → rows_from a n k ≡ rows_from b m j
walked e f g = cc

-- a row that applies is the first of those that are left, and there is room for its record
module _ (answers at word : ℕ) {left m : ℕ} (more : left ≡ suc m) (is : word ≡ row_word at)
    (h : applies answers word ≡ true) where
  there : rows_from answers at left ≡ row_in word ∷ rows_from answers (at + 1) m
  there = row-there answers at word more is h

  module _ {all : Records} {iss : ℕ} {out : Records} (w : Writes all iss out (rows_from answers at left)) where
    small : out.count < set_room
    small = omega (arith, ap length there, w.room)

pub loop-at-init : goal.loop-at-init
unfolding records_by rows_of
loop-at-init c =
    let a = c.args in
    let place : c.place_word-place.result ≡ place_word a.class = c.place_word-place.ensures in
    let rule : c.byte.result ≡ rule_in (place_word a.class) = c.byte.ensures ∙ ap rule_in place in
    let first : ℕ = c.byte-first.result in
    let count : first + c.byte-2.result - first ≡ c.byte-2.result = omega arith in
    let rows : rows_of a.class a.iss ≡ rows_from c.answers_of-answers.result first (first + c.byte-2.result - first) =
    sym
    (walked c.answers_of-answers.ensures (c.byte-first.ensures ∙ ap first_in place)
    (count ∙ c.byte-2.ensures ∙ ap count_in place)) in
    subst (Writes (records_of (records_by a.esr a.class a.iss)) a.iss c.top_records-out.result) rows
    (begun a.esr (rule_in (place_word a.class)) a.iss c.top_records-out.result (rows_of a.class a.iss)
    (c.top_records-out.ensures ∙ ap (λ (n : ℕ). records_of (tops_of a.esr n)) rule) (few-rows a.class a.iss))

pub record_in-requires : goal.record_in-requires
record_in-requires c = subst (λ (n : ℕ). T (direct n)) (sym c.row_word-word.ensures) (row-direct c.loop-at.at)

room : (c : goal.After-record_in) → c.loop-at.out.count < set_room
room c =
    let l = c.loop-at in
    small c.answers_of-answers.result l.at c.row_word-word.result
    {m = c.byte-first.result + c.byte-2.result - (l.at + 1)} (omega arith) c.row_word-word.ensures
    (sym c.applies.ensures ∙ c.if-applies.true) l.invariant

pub offset_bounds-out-out : goal.offset_bounds-out-out
offset_bounds-out-out c = omega (arith, room c)

pub bounds-out-out : goal.bounds-out-out
bounds-out-out c = room c

pub overflow_add-out : goal.overflow_add-out
overflow_add-out c = omega (arith, room c)

pub loop-at-preserved : goal.loop-at-preserved
loop-at-preserved c =
    let a = c.args in
    let l = c.loop-at in
    let all : Records = records_of (records_by a.esr a.class a.iss) in
    let answers : ℕ = c.answers_of-answers.result in
    let word : ℕ = c.row_word-word.result in
    let left : ℕ = c.byte-first.result + c.byte-2.result - l.at in
    let m : ℕ = c.byte-first.result + c.byte-2.result - (l.at + 1) in
    let more : left ≡ suc m = omega arith in
    let rest : List Row = rows_from answers (l.at + 1) m in
    elim c.if-applies.branch [
      | then-applies w ↦
          let h : applies answers word ≡ true = sym c.applies.ensures ∙ w.if-applies.true in
          subst (λ (s : Records). Writes all a.iss s rest) (sym w.out-is)
          (writes_one all a.iss l.out (row_in word) rest w.record_in.result
          (subst (Writes all a.iss l.out) (there answers l.at word more c.row_word-word.ensures h) l.invariant)
          w.record_in.ensures)
      | else-applies w ↦
          let h : applies answers word ≡ false = sym c.applies.ensures ∙ w.if-applies.false in
          subst (λ (s : Records). Writes all a.iss s rest) (sym w.out-is)
          (subst (Writes all a.iss l.out) (row-over answers l.at word more c.row_word-word.ensures h) l.invariant)
    ]

pub returns : goal.returns
returns c =
    let a = c.args in
    let l = c.loop-at in
    let none : _ =
    rows-done c.answers_of-answers.result l.at (c.byte-first.result + c.byte-2.result - l.at) (omega arith) in
    let all : Records = records_of (records_by a.esr a.class a.iss) in
    written_all all a.iss l.out (subst (Writes all a.iss l.out) none l.invariant)
