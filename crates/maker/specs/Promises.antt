-- What each public function promises. A promise takes what comes in, with what the lent list holds, then what comes out. What is chosen is chosen
-- alone, so that each decides.
use Rattle.std.specs.Prelude.{◌≡◌, ℕ, List, Option, Some, None, Result}
use Rattle.layout_sets.specs.Fitting.{leaf_rows, answers}
use Rattle.layout_sets.specs.Outcomes.{index_of}
use Rattle.maker.specs.Making.{Choice, no_class, no_layout, chosen, Chooses, table_for, made_of}
use Rattle.refusals.specs.declared.Refusal.{Refusal}

-- the index of the outcome whose rows fit the list, where one does
abbrev pub index_for : ℕ → List ℕ → Choice → Option ℕ
index_for class leaves no_class = None
index_for class leaves no_layout = None
index_for class leaves (chosen rows) = Some (index_of (answers (leaf_rows (table_for class) rows) leaves))

abbrev pub Fitting : ℕ × List ℕ → Option ℕ → Type 0
Fitting (class, leaves) r = (c : Choice) × Chooses class leaves c × (r ≡ index_for class leaves c)

-- the value of a class, an IL, an ISS2 and a list of leaf values
abbrev pub Makes : ℕ × ℕ × ℕ × List ℕ → Result ℕ Refusal → Type 0
Makes (class, il, iss2, leaves) r = (c : Choice) × Chooses class leaves c × (r ≡ made_of class il iss2 leaves c)
