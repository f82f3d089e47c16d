-- The lines by cases, and how long each is; of the project's own pool they are the definition's.
use mathlib.Core.Path.{◌≡◌, refl, ◌∙◌}
use mathlib.Core.Bool.{Bool, true, false, cond}
use mathlib.Core.List.{List, [], ◌++◌}
use Prim.Native.Nat.{ℕ, ◌+◌, ◌≤◌, ◌<◌}
use native.Mathlib.Omega.{arith}
use borrow.Author.Tests.{eq-eqb, ne_eqb, lt-ltb, le-ltb}
use lib.Dec.{ltb}
use lib.ListN.{length, length-append}
use Rattle.texts.specs.Pool.{bytes, bytes_at}
use Rattle.buffer.specs.Lent.{Lent, part_in}
use Rattle.buffer.proofs.InOrder.{each_same}
use Rattle.buffer.proofs.Lent.{lent-text}
use Rattle.records.specs.declared.Record.{Record}
use Rattle.strings.specs.Fields.{field_text}
use Rattle.phrases.specs.Sheets.{Text, missing, found}
use Rattle.display.specs.Listings.{indent_at, line_text, found_line, text_line_with, record_lines_with, listing_with, every_text, text_line, record_lines, listing}

-- how long the fixed words are
words : (length (bytes ": ") ≡ 2) × (length (bytes "# ") ≡ 2) × (length (bytes "\n") ≡ 1)
unfolding bytes
words = (refl, refl, refl)

module _ (index : ℕ) where
  pub indent_top : index < 5 → indent_at index ≡ []
  unfolding indent_at
  indent_top h = rw (lt-ltb index 5 h)

  pub indent_most : length (indent_at index) ≤ 2
  unfolding indent_at bytes
  indent_most = by (ltb index 5)
    where
      by : (b : Bool) → length (cond b [] (bytes "  ")) ≤ 2
      by true = omega arith
      by false = omega arith

  pub indent_own : 5 ≤ index → indent_at index ≡ bytes "  "
  unfolding indent_at
  indent_own h = rw (le-ltb index 5 h)

-- a text's line, by its code and by what is found
module _ (texts : ℕ → Text) (index code : ℕ) where
  pub line-zero : code ≡ 0 → text_line_with texts index code ≡ []
  unfolding text_line_with
  line-zero e = rw (eq-eqb code 0 e)

  module _ (some : code ≡ 0 → ⊥) where
    pub line-missing : texts code ≡ missing → text_line_with texts index code ≡ []
    unfolding text_line_with found_line
    line-missing e = rw (ne_eqb code 0 some, e)

    pub line-found : (text : List ℕ) → texts code ≡ found text → text_line_with texts index code ≡ indent_at index ++ (bytes "# " ++ (text ++ bytes "\n"))
    unfolding text_line_with found_line
    line-found text e = rw (ne_eqb code 0 some, e)

    pub length_found : (text : List ℕ) → texts code ≡ found text → length (text_line_with texts index code) ≡ length (indent_at index) + (2 + (length text + 1))
    length_found text e = rw (line-found text e) (simp length-append (omega (arith, words)))

module _ (lookup : ℕ → List ℕ) where
  pub length-line : (r : Record) → length (line_text lookup r) ≡ length (lookup r.name) + (2 + length (field_text r.width r.value))
  unfolding line_text
  length-line r = simp length-append (omega (arith, words))

  module _ (index : ℕ) where
    pub text-none : (code : ℕ) → code ≡ 0 → text_line lookup index code ≡ []
    text-none code e = line-zero (every_text lookup) index code e

    pub length_some : (code : ℕ) → (code ≡ 0 → ⊥) → length (text_line lookup index code) ≡ length (indent_at index) + (2 + (length (lookup code) + 1))
    length_some code e = length_found (every_text lookup) index code e (lookup code) refl

    pub length-lines : (texts : ℕ → Text) (r : Record)
        → length (record_lines_with lookup texts index r) ≡ length (indent_at index) + (length (line_text lookup r) + (1 + length (text_line_with texts index r.text)))
    unfolding record_lines_with
    length-lines texts r = simp length-append (omega (arith, words))

-- Of the project's own pool.

module _ {lent starting : List ℕ} (own : Lent lent starting) where
  pub line-lent : (r : Record) → line_text (part_in lent starting) r ≡ line_text bytes_at r
  unfolding line_text
  line-lent r = rw (lent-text r.name own)

  -- with any texts
  with_lines : (texts : ℕ → Text) (index : ℕ) (r : Record) → record_lines_with (part_in lent starting) texts index r ≡ record_lines_with bytes_at texts index r
  unfolding record_lines_with
  with_lines texts index r = rw (line-lent r)

  pub with_lent : (texts : ℕ → Text) (rs : List Record) → listing_with (part_in lent starting) texts rs ≡ listing_with bytes_at texts rs
  with_lent texts rs = each_same (with_lines texts) 0 rs

  -- with its own
  own-lines : (index : ℕ) (r : Record) → record_lines_with bytes_at (every_text (part_in lent starting)) index r ≡ record_lines bytes_at index r
  unfolding record_lines_with text_line_with
  own-lines index r = rw (lent-text r.text own)

  pub listing-lent : (rs : List Record) → listing (part_in lent starting) rs ≡ listing bytes_at rs
  listing-lent rs = with_lent (every_text (part_in lent starting)) rs ∙ each_same own-lines 0 rs
