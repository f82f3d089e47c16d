-- No listing is longer than `listing_most`: a row's lines are no longer than with the longest text of its rule, whatever the value is, and one
-- computed test adds up the rows of each table under every outcome of its conditions.
use mathlib.Core.Path.{◌≡◌, refl, sym, ap, subst}
use mathlib.Core.Bool.{Bool, true, false, cond}
use mathlib.Core.List.{List, [], ◌∷◌, ◌++◌, map, Memᴰ}
use Prim.Native.Nat.{ℕ, suc, ◌+◌, ◌-◌, ◌/◌, ◌^◌, ◌≤◌, ◌<◌, max}
use native.Mathlib.Nat.{le-max_left, le-max_right}
use native.Mathlib.Omega.{arith}
use lib.Dec.{T, eqb, leb, leb→le}
use lib.ListN.{length, replicate, length-append}
use lib.Seq.{take-append_seam}
use Rattle.promise.proofs.Tests.{every, every_mem, is_true}
use Rattle.registers.specs.Registers.{registers}
use Rattle.texts.specs.Names.{names}
use Rattle.texts.specs.Rules.{Text, rules}
use Rattle.texts.specs.Pool.{bytes, bytes_at, code, index_in, texts, text_at, text_in, on_list, rule_at, description_of, describes, first_of, text_code}
use Rattle.texts.proofs.Laws.{text-described, text-short}
use Rattle.refusals.specs.Refusals.{passed}
use Rattle.records.specs.Subjects.{subject}
use Rattle.records.specs.Rows.{record_of}
use Rattle.records.specs.Sets.{set_room, no_record, records_of, list_of}
use Rattle.records.specs.declared.Record.{Record}
use Rattle.records.specs.declared.Row.{Row}
use Rattle.tables.specs.Applying.{rows_for}
use Rattle.tables.specs.Tables.{top_rows, Served, layouts, res0, wf, mcr, mcrr, ldc, sve, ld64b, bti, pauth, hvc, brk, fp, breakpoint, software_step, watchpoint, instruction_abort, data_abort, serror, msr}
use Rattle.tables.proofs.Sound.{always, always-at}
use Rattle.esr.specs.Decode.{refused, accepted, records_for, answer_of}
use Rattle.esr.specs.declared.Answer.{Answer}
use Rattle.esr.proofs.Laws.{answer-has}
use Rattle.written.specs.Outcomes as outcome
use Rattle.strings.proofs.Cases.{field-most, field-short}
use Rattle.listing.specs.Requested.{listing_of}
use Rattle.buffer.specs.InOrder.{each_from}
use Rattle.display.specs.Listings.{indent_at, line_text, text_line, every_text, record_lines, listing}
use Rattle.listing.specs.Longest.{listing_most}
use Rattle.display.proofs.Cases.{length-line, text-none, length_some, length-lines}

-- the most bytes of a text line whose text is one of these, with so many bytes beside the text; no line where there is no text
unfoldable text_most : ℕ → List Text → ℕ
text_most beside [] = 0
text_most beside (t ∷ ts) = max (beside + length (bytes t.text)) (text_most beside ts)

-- the most bytes of a value: "false"; wider, "0x", a digit for each four bits, " 0b", a digit for each bit
unfoldable value_most : ℕ → ℕ
value_most width = cond (eqb width 1) 5 (2 + (width + 3) / 4 + (3 + width))

-- the most bytes of a row's lines: indent, name, ": ", value, line feed; then indent, "# ", the longest text of the rule, line feed
unfoldable row_most : ℕ → Row → ℕ
row_most index r =
    (length (indent_at index) + length (bytes_at r.name) + 2 + value_most r.width + 1)
    + text_most (length (indent_at index) + 3) (rule_at r.rule).texts

-- of rows, of which the first has this index
unfoldable rows_most : ℕ → List Row → ℕ
rows_most index [] = 0
rows_most index (r ∷ rs) = row_most index r + rows_most (suc index) rs

-- A row.

described-most : (beside : ℕ) (ts : List Text) (v : ℕ) → T (on_list ts v) → beside + length (bytes (text_in ts v)) ≤ text_most beside ts
unfolding on_list text_in text_most
described-most beside [] v t = absurd t
described-most beside (x ∷ xs) v t = by (eqb v x.value) t (described-most beside xs v)
  where
    by : (b : Bool) → T (cond b true (on_list xs v)) → (T (on_list xs v) → beside + length (bytes (text_in xs v)) ≤ text_most beside xs)
        → beside + length (bytes (cond b x.text (text_in xs v))) ≤ max (beside + length (bytes x.text)) (text_most beside xs)
    by true s rest = le-max_left (beside + length (bytes x.text)) (text_most beside xs)
    by false s rest = omega (arith, rest s, le-max_right (beside + length (bytes x.text)) (text_most beside xs))

module _ (index rule value : ℕ) where
  abbrev Fits : Type 0
  Fits = length (text_line bytes_at index (text_code rule value)) ≤ text_most (length (indent_at index) + 3) (rule_at rule).texts

  text-most : Fits
  unfolding text_code first_of describes bytes_at description_of
  text-most = by (describes rule value) refl
    where
      by : (b : Bool) → describes rule value ≡ b → Fits
      by true e =
          let coded : text_code rule value ≡ first_of rule + value = rw e in
          omega (
            arith,
            length_some bytes_at index (text_code rule value) (λ z. omega (arith, coded, z)),
            ap (λ s. length (bytes s)) (text-described rule value),
            described-most (length (indent_at index) + 3) (rule_at rule).texts value (is_true e),
          )
      by false e = omega (arith, ap length (text-none bytes_at index (text_code rule value) (rw e)))

-- the lines of a row, for every value
row-most : (index v : ℕ) (row : Row) → length (record_lines bytes_at index (record_of v row)) ≤ row_most index row
unfolding row_most value_most record_of
row-most index v row =
    let r : Record = record_of v row in
    omega (arith, length-lines bytes_at index (every_text bytes_at) r, length-line bytes_at r, field-most r.width r.value, text-most index row.rule (subject row.rule r.value))

-- of rows: the first ones of the value, the others of its ISS
rows-most : (index esr iss : ℕ) (top own : List Row)
    → length (each_from (record_lines bytes_at) index (map (record_of esr) top ++ map (record_of iss) own)) ≤ rows_most index (top ++ own)
unfolding each_from rows_most
rows-most index esr iss [] [] = omega arith
rows-most index esr iss [] (r ∷ rs) = rw length-append (omega (arith, row-most index iss r, rows-most (suc index) esr iss [] rs))
rows-most index esr iss (r ∷ rs) own = rw length-append (omega (arith, row-most index esr r, rows-most (suc index) esr iss rs own))

-- A table.

abbrev short_rows : ℕ → List Row → Bool
short_rows rule own = leb (rows_most 0 (top_rows rule ++ own)) listing_most

abbrev short_served : ℕ → Served → Bool
short_served i s = always (short_rows s.table.iss_rule) s.table

-- the computed test
all_short : T (every short_served 0 layouts)
unfolding layouts res0 wf mcr mcrr ldc sve ld64b bti pauth hvc brk fp breakpoint software_step watchpoint instruction_abort data_abort serror msr top_rows names rules registers code index_in rule_at texts text_at bytes_at bytes indent_at rows_most row_most value_most text_most
all_short = tt

abbrev Short : Answer → Type 0
Short a = length (listing bytes_at (list_of a.records)) ≤ listing_most

accepted-short : (s : Served) → Memᴰ s layouts → (esr iss : ℕ) → Short (accepted (records_for s.table esr iss))
unfolding accepted records_of records_for
accepted-short s m esr iss =
    let l : List Record = records_for s.table esr iss in
    let top : List Row = top_rows s.table.iss_rule in
    let own : List Row = rows_for s.table iss in
    let fits : T (short_rows s.table.iss_rule own) = always-at (short_rows s.table.iss_rule) s.table (every_mem short_served s 0 layouts all_short m).1 iss in
    rw (take-append_seam l (replicate (set_room - length l) no_record))
    (omega (arith, leb→le (rows_most 0 (top ++ own)) listing_most fits, rows-most 0 esr iss top own))

pub answer-short : (esr : ℕ) → Short (answer_of esr)
unfolding refused records_of each_from
answer-short = answer-has Short (λ f. omega arith) accepted-short

-- a buffer of so many bytes holds the listing of any value
pub listing-most : (esr : ℕ) (t : List ℕ) → listing_of esr ≡ outcome.text t → length t ≤ listing_most
unfolding listing_of
listing-most esr t is = by (passed (answer_of esr).refusal) is
  where
    by : (b : Bool) → cond b (outcome.text (listing bytes_at (list_of (answer_of esr).records))) (outcome.refused (answer_of esr).refusal) ≡ outcome.text t → length t ≤ listing_most
    by true e = let same : listing bytes_at (list_of (answer_of esr).records) ≡ t = cc in rw same at (answer-short esr)
    by false e = let z : ◌≡◌ {A = ℕ} 0 1 = cc in absurd (omega arith)

-- so a usize counts it
pub small : (esr : ℕ) {a : Answer} → a ≡ answer_of esr → length (listing bytes_at (list_of a.records)) < 2 ^ 64
small esr is = subst (λ (x : Answer). length (listing bytes_at (list_of x.records)) < 2 ^ 64) (sym is) (omega (arith, answer-short esr))

-- and a record's line, whatever the record
pub line_small : (r : Record) → r.width < 256 → length (line_text bytes_at r) < 2 ^ 64
line_small r h = omega (arith, length-line bytes_at r, text-short r.name, field-short r.width r.value h)
