-- Where the texts of a listing come from: two sheets and then, for 01's own listing, which has none, the pool. No promise
-- rests on this: one private function serves both listings.
use Rattle.std.specs.Prelude.{ℕ, Bool, cond, List, take, drop}
use Rattle.buffer.specs.Lent.{part_in}
use Rattle.phrases.specs.Sheets.{Text, missing, found, of_sheet, or_else, text_in}
use Rattle.phrases.specs.declared.Found.{Found}
use Rattle.display.specs.declared.Words.{Words}

-- what is found under a code
unfoldable pub texts_of : Bool → List ℕ → List ℕ → List ℕ → List ℕ → ℕ → Text
texts_of own lent starting workshop standard code =
    or_else (text_in workshop standard code) (cond own (found (part_in lent starting code)) missing)

-- of what is lent: its names, and its texts
abbrev pub names_by : Words → ℕ → List ℕ
names_by w = part_in w.pool.now w.starts.now

abbrev pub texts_by : Words → ℕ → Text
texts_by w = texts_of w.own w.pool.now w.starts.now w.workshop.now w.standard.now

-- the bytes of what is found in a sheet
abbrev pub bytes_there : List ℕ → List ℕ → Found → List ℕ
bytes_there workshop standard f = take f.count (drop f.start (of_sheet workshop standard f.sheet))
