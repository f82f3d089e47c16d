-- The texts of a list's items, one after the other.
use Rattle.std.specs.Prelude.{ℕ, suc, List, [], ◌∷◌, ◌++◌}

-- the first item has this index
unfoldable pub each_from : {A : Type 0} → (ℕ → A → List ℕ) → ℕ → List A → List ℕ
each_from text index [] = []
each_from text index (x ∷ xs) = text index x ++ each_from text (suc index) xs

abbrev pub in_order : {A : Type 0} → (ℕ → A → List ℕ) → List A → List ℕ
in_order text items = each_from text 0 items
