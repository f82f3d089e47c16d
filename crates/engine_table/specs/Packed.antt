-- The one constant table that the engine walks, computed from 01's layouts: each line of a table as one number, the lines of all layouts end to end,
-- and for each class where its lines stand and which of them it checks.
use Rattle.std.specs.Prelude.{ℕ, suc, ◌+◌, ◌*◌, Bool, true, false, cond, ◌&&◌, ◌||◌, List, [], ◌∷◌, ◌++◌, map, eqb, length, get_or}
use Rattle.promise.specs.Member.{member}
use Rattle.lookup.specs.Descriptions.{bit}
use Rattle.records.specs.declared.Row.{Row}
use Rattle.tables.specs.Shape.{Test, Condition, Line, Table, tests}
use Rattle.tables.specs.Applying.{passes, is_check_at}
use Rattle.tables.specs.Tables.{Served, layouts}

-- bytes as one number, the first lowest
abbrev pub bytes_of : List ℕ → ℕ
bytes_of [] = 0
bytes_of (b ∷ bs) = b + 256 * bytes_of bs

-- the answers of tests as one number: bit i is that of the i-th
abbrev pub mask_of : List Bool → ℕ
mask_of [] = 0
mask_of (b ∷ bs) = bit b + 2 * mask_of bs

-- what a value answers to 01's tests
unfoldable pub answers_of : ℕ → ℕ
answers_of v = mask_of (map (passes v) tests)

-- Conditions as data: the tests that they name, and those that must hold.

abbrev same_numbers : List ℕ → List ℕ → Bool
same_numbers [] [] = true
same_numbers [] (y ∷ ys) = false
same_numbers (x ∷ xs) [] = false
same_numbers (x ∷ xs) (y ∷ ys) = eqb x y && same_numbers xs ys

abbrev same_test : Test → Test → Bool
same_test s t = eqb s.start t.start && (eqb s.width t.width && same_numbers s.among t.among)

abbrev pub names : List Condition → Test → Bool
names [] t = false
names (c ∷ cs) t = same_test t c.test || names cs t

abbrev pub asks : List Condition → Test → Bool
asks [] t = false
asks (c ∷ cs) t = (c.holds && same_test t c.test) || asks cs t

-- a line: the eight columns of its row and of its conditions, a byte each. Name, long name, start and width lie as in C's record.
abbrev columns : Row → List Condition → List ℕ
columns r cs =
    r.name ∷
    mask_of (map (names cs) tests) ∷
    mask_of (map (asks cs) tests) ∷
    r.rule ∷
    r.long ∷
    r.start ∷
    r.width ∷
    r.kind ∷
    []

unfoldable pub packed : Line → ℕ
packed l = bytes_of (columns l.row l.conditions)

-- the lines of all layouts
abbrev pub lines_of : List Served → List Line
lines_of [] = []
lines_of (s ∷ ss) = s.table.lines ++ lines_of ss

unfoldable pub row_words : List ℕ
row_words = map packed (lines_of layouts)

-- the row of an index; past the last, 0
unfoldable pub row_word : ℕ → ℕ
row_word i = get_or row_words i 0

-- The classes.

-- the indices, counted from n, of the lines whose row starts at s and asks something
abbrev pub askers_at : ℕ → List Line → ℕ → List ℕ
askers_at n [] s = []
askers_at n (l ∷ ls) s = cond (is_check_at s l.row) (n ∷ askers_at (suc n) ls s) (askers_at (suc n) ls s)

-- of those to check, in the order of these starts
abbrev pub askers : ℕ → List Line → List ℕ → List ℕ
askers n ls [] = []
askers n ls (s ∷ ss) = askers_at n ls s ++ askers n ls ss

-- whether a layout serves a class, 1 or 0; the index of its first line, how many it has, the rule of ISS's own text, and the lines to check
pub record Place : Type 0 where
  pub served : ℕ
  pub first : ℕ
  pub count : ℕ
  pub rule : ℕ
  pub checks : List ℕ

abbrev pub nowhere : Place
nowhere = record { served = 0; first = 0; count = 0; rule = 0; checks = [] }

abbrev pub placed : ℕ → Table → Place
placed n t = record { served = 1; first = n; count = length t.lines; rule = t.iss_rule; checks = askers n t.lines t.order }

-- the place of a class, where the lines of these layouts are counted from n
abbrev pub place_in : ℕ → List Served → ℕ → Place
place_in n [] c = nowhere
place_in n (s ∷ ss) c = cond (member c s.classes) (placed n s.table) (place_in (n + length s.table.lines) ss c)

unfoldable pub place_of : ℕ → Place
place_of c = place_in 0 layouts c

-- a place as two numbers: what it holds but the checks, and these
unfoldable pub place_word : ℕ → ℕ
place_word c =
    let p : Place = place_of c in
    bytes_of (p.first ∷ p.count ∷ p.rule ∷ length p.checks ∷ p.served ∷ [])

unfoldable pub check_word : ℕ → ℕ
check_word c = bytes_of (place_of c).checks
