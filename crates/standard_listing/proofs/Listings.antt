-- A listing with the standard sheet on either side is 01's to the byte, whatever bytes follow the sheet: every record's text is found there, as the
-- pool has it.
use Prim.Native.Nat.{ℕ, suc}
use mathlib.Core.Bool.{Bool, true, false, cond}
use mathlib.Core.List.{List, [], ◌∷◌, ◌++◌}
use mathlib.Core.Path.{◌≡◌, refl, ap, ◌∙◌}
use lib.Dec.{T, eqb}
use Rattle.buffer.specs.InOrder.{each_from}
use Rattle.display.specs.Listings.{found_line, text_line_with, record_lines_with, listing_with, every_text, record_lines, listing}
use Rattle.esr.specs.Decode.{answer_of}
use Rattle.listing.specs.Requested.{listing_of, listing_with_of}
use Rattle.phrases.specs.Sheets.{Text, missing, found, judged, judged_both, text_from, or_else, text_in}
use Rattle.promise.proofs.Tests.{true_is}
use Rattle.records.specs.Sets.{list_of}
use Rattle.records.specs.declared.Record.{Record}
use Rattle.refusals.specs.declared.Reason.TheVariants.{None}
use Rattle.sheets.specs.Standard.{is_records, standard_sheet}
use Rattle.sheets.proofs.Theorems.{standard_sound, standard_texts}
use Rattle.texts.specs.Pool.{bytes_at}
use Rattle.standard_listing.proofs.Texts.{fine, Fines, record_texts}

-- A lookup that has every text of a record as the pool has it.

module _ (texts : ℕ → Text) (has : (code : ℕ) → is_records code ≡ true → texts code ≡ found (bytes_at code)) where
  same_line : (index code : ℕ) → T (fine code) → text_line_with texts index code ≡ text_line_with (every_text bytes_at) index code
  unfolding text_line_with
  same_line index code t = by (eqb code 0) t
    where
      by : (b : Bool) → T (cond b true (is_records code)) → cond b [] (found_line index (texts code)) ≡ cond b [] (found_line index (found (bytes_at code)))
      by true s = refl
      by false s = ap (found_line index) (has code (true_is (is_records code) s))

  same_lines : (index : ℕ) (rs : List Record) → Fines rs → each_from (record_lines_with bytes_at texts) index rs ≡ each_from (record_lines bytes_at) index rs
  unfolding each_from record_lines_with
  same_lines index [] f = refl
  same_lines index (r ∷ rs) f = rw (same_line index r.text f.0, same_lines (suc index) rs f.1)

  same-listing : (esr : ℕ) → listing_with bytes_at texts (list_of (answer_of esr).records) ≡ listing bytes_at (list_of (answer_of esr).records)
  same-listing esr = same_lines 0 (list_of (answer_of esr).records) (record_texts esr)

-- Two sheets, of which one is the standard sheet.

module _ (workshop standard : List ℕ) (first : judged workshop ≡ None) (second : judged standard ≡ None)
    (has : (code : ℕ) → is_records code ≡ true → text_in workshop standard code ≡ found (bytes_at code)) where
  is_01 : (esr : ℕ) → listing_with_of esr workshop standard ≡ listing_of esr
  unfolding listing_with_of listing_of judged_both
  is_01 esr = rw (first, second, same-listing (text_in workshop standard) has esr)

standard_has : (more : List ℕ) (code : ℕ) → is_records code ≡ true → text_from (standard_sheet ++ more) code ≡ found (bytes_at code)
standard_has more code h = standard_texts more code ∙ rw h

-- as the workshop's, whatever sound sheet is the standard one
pub standard_first : (more standard : List ℕ) → judged standard ≡ None → (esr : ℕ) → listing_with_of esr (standard_sheet ++ more) standard ≡ listing_of esr
unfolding text_in or_else
standard_first more standard sound esr =
    is_01 (standard_sheet ++ more) standard (standard_sound more) sound (λ code h. rw (standard_has more code h)) esr

-- as the standard one, beside a workshop's sheet that has no text of a record
pub standard_second : (workshop more : List ℕ) → judged workshop ≡ None → ((code : ℕ) → is_records code ≡ true → text_from workshop code ≡ missing) → (esr : ℕ)
    → listing_with_of esr workshop (standard_sheet ++ more) ≡ listing_of esr
unfolding text_in or_else
standard_second workshop more sound none esr =
    is_01 workshop (standard_sheet ++ more) sound (standard_sound more) (λ code h. rw (none code h) (standard_has more code h)) esr

-- beside any sheet of a workshop no text is missing, so that no line of 01's is left out
pub none_lost : (workshop more : List ℕ) (code : ℕ) → is_records code ≡ true → (t : List ℕ) × (text_in workshop (standard_sheet ++ more) code ≡ found t)
unfolding text_in or_else
none_lost workshop more code h = by (text_from workshop code)
  where
    by : (t : Text) → (u : List ℕ) × (or_else t (text_from (standard_sheet ++ more) code) ≡ found u)
    by missing = (bytes_at code, standard_has more code h)
    by (found u) = (u, refl)
