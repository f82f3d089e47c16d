-- The value is decoded or refused, and then the sheets; then the listing is measured; then it is written, or the
-- buffer is too short.
use borrow.Author.Rules.{rules}
use mathlib.Core.Path.{◌≡◌, refl}
use native.Mathlib.Omega.{arith}
use Prim.Native.Nat.{ℕ, ◌^◌, ◌<◌}
use lib.ListN.{length}
use Rattle.display.specs.Listings.{listing_with}
use Rattle.display.proofs.Cases.{with_lent}
use Rattle.phrases.specs.Sheets.{text_in}
use Rattle.phrases.proofs.Theorems.{Bytes}
use Rattle.esr.specs.Decode.{answer_of}
use Rattle.esr.specs.declared.Answer.{Answer}
use mathlib.Core.List.{List}
use Rattle.records.proofs.Laws.{long_as}
use Rattle.records.specs.Sets.{list_of}
use Rattle.texts.specs.Pool.{bytes_at}
use Rattle.listing.proofs.Answers.{with_no, with_bad, with_yes}
use Rattle.listing.proofs.LongestWith.{with_most}
use Rattle.written.proofs.Kept.{exit, by-refusal, by_shortness, by_writing}
use Rattle.listing.proofs.listing_with.Goals as goal

-- past the sheets' judgement: what is measured and written is small, and is the definition's
small : {a : Answer} (esr : ℕ) (workshop standard : List ℕ) → a ≡ answer_of esr
    → length a.records.items ≡ 19 → Bytes workshop → Bytes standard
    → length (listing_with bytes_at (text_in workshop standard) (list_of a.records)) < 2 ^ 64
small esr workshop standard is long w s = omega (arith, with_most esr is long workshop standard w s)

pub returns-in_err-check : goal.returns-in_err-check
returns-in_err-check c =
    by-refusal (with_no _ c.decode-answer.ensures c.check.ensures _ _ c.in_err-check.was) (exit c.from_residual.ensures)

pub returns-in_err-sheets_refusal : goal.returns-in_err-sheets_refusal
returns-in_err-sheets_refusal c =
    by-refusal
    (with_bad _ c.decode-answer.ensures c.check.ensures _ _ c.in_ok-check.was c.sheets_refusal.ensures c.in_err-sheets_refusal.was) (exit c.from_residual-in_err-sheets_refusal.ensures)

pub returns-in_err-bytes : goal.returns-in_err-bytes
returns-in_err-bytes c =
    let a = c.args in
    let d = c.decode-answer in
    let long : length d.result.records.items ≡ 19 = search (rules, long_as) in
    let own = with_lent (record { whole = c.pool_bytes-pool.ensures; each = c.text_starts-starts.ensures })
    (text_in a.workshop.now a.standard.now) (list_of d.result.records) in
    by_shortness
    (with_yes _ d.ensures c.check.ensures _ _ c.in_ok-check.was c.sheets_refusal.ensures c.in_ok-sheets_refusal.was)
    (small a.esr a.workshop.now a.standard.now d.ensures long (λ i. (c.type_inv.workshop i).fits)
    (λ i. (c.type_inv.standard i).fits)) (rw own at c.put_listing_with-measured.ensures) c.room_for.ensures
    c.in_err-bytes.was (exit c.from_residual-in_err-bytes.ensures)

pub returns : goal.returns
returns c =
    let a = c.args in
    let d = c.decode-answer in
    let long : length d.result.records.items ≡ 19 = search (rules, long_as) in
    let own = with_lent (record { whole = c.pool_bytes-pool.ensures; each = c.text_starts-starts.ensures })
    (text_in a.workshop.now a.standard.now) (list_of d.result.records) in
    by_writing
    (with_yes _ d.ensures c.check.ensures _ _ c.in_ok-check.was c.sheets_refusal.ensures c.in_ok-sheets_refusal.was)
    (small a.esr a.workshop.now a.standard.now d.ensures long (λ i. (c.type_inv.workshop i).fits)
    (λ i. (c.type_inv.standard i).fits)) (rw own at c.put_listing_with-measured.ensures) c.room_for.ensures
    c.in_ok-bytes.was (rw own at c.put_listing_with.ensures) refl
