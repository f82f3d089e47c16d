-- Which rows of a table apply to a value, and which of them are checked, in order.
use Rattle.std.specs.Prelude.{ℕ, Bool, true, false, cond, not, ◌&&◌, List, [], ◌∷◌, ◌++◌, eqb}
use Rattle.promise.specs.Member.{member}
use Rattle.records.specs.Bits.{field_of}
use Rattle.records.specs.Kinds.{Kind, Free, Unchecked, Checked, Coded}
use Rattle.records.specs.Rows.{row_kind}
use Rattle.records.specs.declared.Row.{Row}
use Rattle.tables.specs.Shape.{Test, Condition, Line, Table}

-- a test passes at a value if the field is among the numbers
unfoldable pub passes : ℕ → Test → Bool
passes v t = member (field_of v t.start t.width) t.among

-- conditions are met, by the answers of the tests, where each is as it must be
abbrev pub met : (Test → Bool) → List Condition → Bool
met f [] = true
met f (c ∷ cs) = cond c.holds (f c.test) (not (f c.test)) && met f cs

-- the rows of the lines whose conditions are met
abbrev pub keep : (Test → Bool) → List Line → List Row
keep f [] = []
keep f (l ∷ ls) = cond (met f l.conditions) (l.row ∷ keep f ls) (keep f ls)

unfoldable pub rows_for : Table → ℕ → List Row
rows_for t v = keep (passes v) t.lines

-- a kind asks something if it can refuse
abbrev pub is_check : Kind → Bool
is_check Free = false
is_check (Coded reason) = true
is_check Checked = true
is_check Unchecked = false

abbrev pub is_check_at : ℕ → Row → Bool
is_check_at s r = eqb r.start s && is_check (row_kind r)

-- the row that starts at s and asks something, if there is one
abbrev pub check_at : List Row → ℕ → List Row
check_at [] s = []
check_at (r ∷ rs) s = cond (is_check_at s r) (r ∷ []) (check_at rs s)

-- the rows to check, in the order of these starts
abbrev pub in_order : List Row → List ℕ → List Row
in_order rows [] = []
in_order rows (s ∷ ss) = check_at rows s ++ in_order rows ss

unfoldable pub checks_for : Table → ℕ → List Row
checks_for t v = in_order (rows_for t v) t.order
