-- No listing with sheets is longer than `listing_with_most`: a record's lines have at most 260 bytes more than 01's, since a count of one byte says
-- how long a text is.
use Prim.Native.Nat.{ℕ, suc, ◌+◌, ◌*◌, ◌≤◌}
use mathlib.Core.Bool.{Bool, true, false}
use mathlib.Core.List.{List, [], ◌∷◌}
use mathlib.Core.Path.{◌≡◌, refl, sym, ap, subst}
use native.Mathlib.Omega.{arith}
use borrow.Author.Tests.{eqb-true, eqb-false}
use lib.Dec.{eqb}
use lib.ListN.{length, length-append, length-take}
use Rattle.buffer.specs.InOrder.{each_from}
use Rattle.display.specs.Listings.{text_line_with, record_lines_with, listing_with, every_text, record_lines, listing}
use Rattle.display.proofs.Cases.{indent_most, line-zero, line-missing, length_found, length-lines}
use Rattle.esr.specs.Decode.{answer_of}
use Rattle.esr.specs.declared.Answer.{Answer}
use Rattle.listing.proofs.Longest.{answer-short}
use Rattle.listing.specs.Longest.{listing_most, listing_with_most}
use Rattle.phrases.specs.Sheets.{Text, missing, found, text_in}
use Rattle.phrases.proofs.Theorems.{Short, Bytes, short_in}
use Rattle.records.specs.Sets.{list_of}
use Rattle.records.specs.declared.Record.{Record}
use Rattle.texts.specs.Pool.{bytes_at}

module _ (texts : ℕ → Text) (short : (code : ℕ) → Short (texts code)) where
  line-most : (index code : ℕ) → length (text_line_with texts index code) ≤ 260
  line-most index code = by_code (eqb code 0) refl
    where
      by-text : (some : code ≡ 0 → ⊥) (t : Text) → texts code ≡ t → Short t → length (text_line_with texts index code) ≤ 260
      by-text some missing e s = omega (arith, ap length (line-missing texts index code some e))
      by-text some (found t) e s = omega (arith, length_found texts index code some t e, indent_most index)

      by_code : (b : Bool) → eqb code 0 ≡ b → length (text_line_with texts index code) ≤ 260
      by_code true e = omega (arith, ap length (line-zero texts index code (eqb-true code 0 e)))
      by_code false e = by-text (eqb-false code 0 e) (texts code) refl (short code)

  lines-most : (index : ℕ) (r : Record) → length (record_lines_with bytes_at texts index r) ≤ length (record_lines bytes_at index r) + 260
  lines-most index r =
      omega (arith, length-lines bytes_at index texts r, length-lines bytes_at index (every_text bytes_at) r, line-most index r.text)

  each-most : (k : ℕ) (rs : List Record) → length (each_from (record_lines_with bytes_at texts) k rs) ≤ length (each_from (record_lines bytes_at) k rs) + 260 * length rs
  unfolding each_from
  each-most k [] = omega arith
  each-most k (r ∷ rs) =
      omega (
        arith,
        length-append (record_lines_with bytes_at texts k r) (each_from (record_lines_with bytes_at texts) (suc k) rs),
        length-append (record_lines bytes_at k r) (each_from (record_lines bytes_at) (suc k) rs),
        lines-most k r,
        each-most (suc k) rs,
      )

-- a buffer of so many bytes holds the listing of any value with any sheets
pub with_most : (esr : ℕ) {a : Answer} → a ≡ answer_of esr → length a.records.items ≡ 19
    → (workshop standard : List ℕ) → Bytes workshop → Bytes standard
    → length (listing_with bytes_at (text_in workshop standard) (list_of a.records)) ≤ listing_with_most
with_most esr {a} is long workshop standard w s =
    let own : length (listing bytes_at (list_of a.records)) ≤ listing_most =
    subst (λ (x : Answer). length (listing bytes_at (list_of x.records)) ≤ listing_most) (sym is) (answer-short esr) in
    omega (
      arith,
      own,
      length-take a.records.count a.records.items,
      each-most (text_in workshop standard) (short_in workshop standard w s) 0 (list_of a.records),
    )
