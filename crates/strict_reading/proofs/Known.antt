-- The rows of a reading are known to the strict list: a record of one is of a line's row by its bits, name and mark exactly if its row is that row. By the lines that apply.
use mathlib.Core.List.Memᴰ
use mathlib.Core.List.{List, [], ◌∷◌}
use Prim.Native.Nat.{ℕ, suc}
use lib.Dec.{T}
use Rattle.promise.proofs.Tests.{both_left, both_right, every, every_mem}
use Rattle.records.specs.declared.Record.{Record}
use Rattle.records.specs.declared.Row.{Row}
use Rattle.tables.specs.Shape.{Line}
use Rattle.tables.specs.Tables.{layouts}
use Rattle.reading.specs.Reading.{Applying, none, there, away, Reading}
use Rattle.reading.proofs.Judge.{Each, each-cons}
use Rattle.strict.proofs.Lines.{Known, all_known_lem, all_known, is_known, line_known}

-- the rows that apply to a value are those of lines
known-rows : {v : ℕ} (i : ℕ) (ls : List Line) (rs : List Row) → T (every is_known i ls) → Applying v ls rs → Each Known rs
known-rows i [] rs t none = λ r m. absurd (Memᴰ.not-nil m)
known-rows i (l ∷ ls) rs t (there {rs = more} k a) =
    each-cons Known l.row more (line_known i l (both_left (is_known i l) _ t)) (known-rows (suc i) ls more (both_right (is_known i l) _ t) a)
known-rows i (l ∷ ls) rs t (away k a) = known-rows (suc i) ls rs (both_right (is_known i l) _ t) a

pub reading-known : (v : ℕ) (l : List Record) (k : Reading v l) → Each Known k.rows
reading-known v l k = known-rows 0 k.served.table.lines k.rows (every_mem all_known k.served 0 layouts all_known_lem k.classed.layout).1 k.applying
