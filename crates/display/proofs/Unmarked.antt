-- #109: "The listing doesn't change." It does not look at marks: what is said of a record is said of the record without its mark.
use mathlib.Core.Path.{◌≡◌, refl, sym, ap, ◌∙◌}
use mathlib.Core.List.{List, [], ◌∷◌, ◌++◌, map}
use Prim.Native.Nat.{ℕ, suc}
use Rattle.buffer.specs.InOrder.{each_from}
use Rattle.phrases.specs.Sheets.{Text}
use Rattle.records.specs.declared.Mark.TheVariants.{Free}
use Rattle.records.specs.declared.Record.{Record}
use Rattle.display.specs.Listings.{line_text, record_lines_with, listing_with}

-- all of a record but its mark
abbrev pub unmarked : Record → Record
unmarked x = record { value = x.value; name = x.name; text = x.text; long = x.long; start = x.start; width = x.width; mark = Free }

module _ (names : ℕ → List ℕ) (texts : ℕ → Text) where
  same_lines : (index : ℕ) (l : List Record) → each_from (record_lines_with names texts) index l ≡ each_from (record_lines_with names texts) index (map unmarked l)
  unfolding each_from record_lines_with line_text
  same_lines index [] = refl
  same_lines index (x ∷ xs) = ap (λ (t : List ℕ). record_lines_with names texts index x ++ t) (same_lines (suc index) xs)

  -- Records that agree but for their marks have the same listing.
  pub listing-unmarked : (l m : List Record) → map unmarked l ≡ map unmarked m → listing_with names texts l ≡ listing_with names texts m
  listing-unmarked l m e = same_lines 0 l ∙ ap (each_from (record_lines_with names texts) 0) e ∙ sym (same_lines 0 m)
