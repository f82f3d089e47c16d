-- What is found is where it is found: in the sheet that has the code, or else in the pool, if that counts. A listing
-- without sheets is 01's.
use Prim.Native.Nat.{ℕ}
use mathlib.Core.Bool.{Bool, true, false, true≢false, cond}
use mathlib.Core.List.{List, []}
use mathlib.Core.Path.{◌≡◌, refl}
use Rattle.std.specs.Prelude.{Option, Some, None as Nothing, is_some}
use Rattle.buffer.specs.Lent.{part_in}
use Rattle.buffer.proofs.InOrder.{each_same}
use Rattle.phrases.specs.Sheets.{Text, missing, found, or_else, text_in, find_in, phrases_from, place_of, place_in, text_of}
use Rattle.phrases.specs.declared.Found.{Found}
use Rattle.phrases.proofs.Theorems.{told}
use Rattle.records.specs.declared.Record.{Record}
use Rattle.display.specs.Listings.{text_line_with, record_lines_with, listing_with, every_text, listing}
use Rattle.display.specs.Sources.{texts_of, bytes_there}

pub is_nothing : (o : Option Found) → is_some o ≡ false → o ≡ Nothing
is_nothing Nothing e = refl
is_nothing (Some f) e = absurd (true≢false e)

module _ (own : Bool) (lent starting workshop standard : List ℕ) (code : ℕ) where
  pub phrase_text : {f : Found} → find_in workshop standard code ≡ Some f
      → texts_of own lent starting workshop standard code ≡ found (bytes_there workshop standard f)
  unfolding texts_of or_else
  phrase_text is = rw (told workshop standard code, is)

  pub other-text : find_in workshop standard code ≡ Nothing
      → texts_of own lent starting workshop standard code ≡ cond own (found (part_in lent starting code)) missing
  unfolding texts_of or_else
  other-text is = rw (told workshop standard code, is)

-- The two listings.

module _ (lent starting : List ℕ) where
  -- without sheets every text is the pool's
  own-text : (code : ℕ) → texts_of true lent starting [] [] code ≡ found (part_in lent starting code)
  unfolding texts_of text_in or_else text_of place_in phrases_from place_of
  own-text code = refl

  own-lines : (index : ℕ) (r : Record) → record_lines_with (part_in lent starting) (texts_of true lent starting [] []) index r ≡ record_lines_with (part_in lent starting) (every_text (part_in lent starting)) index r
  unfolding record_lines_with text_line_with
  own-lines index r = rw (own-text r.text)

  pub own-listing : (rs : List Record) → listing_with (part_in lent starting) (texts_of true lent starting [] []) rs ≡ listing (part_in lent starting) rs
  own-listing rs = each_same own-lines 0 rs

  module _ (workshop standard : List ℕ) where
    or_none : (t : Text) → or_else t missing ≡ t
    unfolding or_else
    or_none missing = refl
    or_none (found t) = refl

    sheets_text : (code : ℕ) → texts_of false lent starting workshop standard code ≡ text_in workshop standard code
    unfolding texts_of
    sheets_text code = or_none (text_in workshop standard code)

    sheets_lines : (index : ℕ) (r : Record) → record_lines_with (part_in lent starting) (texts_of false lent starting workshop standard) index r ≡ record_lines_with (part_in lent starting) (text_in workshop standard) index r
    unfolding record_lines_with text_line_with
    sheets_lines index r = rw (sheets_text r.text)

    pub sheets_listing : (rs : List Record) → listing_with (part_in lent starting) (texts_of false lent starting workshop standard) rs ≡ listing_with (part_in lent starting) (text_in workshop standard) rs
    sheets_listing rs = each_same sheets_lines 0 rs
