-- The outcome of each public function by the tests that the code makes, in its order.
use mathlib.Core.Bool.{true, false}
use mathlib.Core.List.{List}
use mathlib.Core.Path.{◌≡◌, sym, ◌∙◌, subst}
use Prim.Native.Nat.{ℕ, ◌≤◌, ◌<◌}
use native.Mathlib.Omega.{arith}
use borrow.Author.Tests.{lt-ltb, le-ltb}
use lib.ListN.{length, get_or}
use lib.Seq.{get_or-take, length-take-le}
use Rattle.std.specs.Prelude.{Result, Ok, Err}
use Rattle.refusals.specs.Refusals.{bare, carrying, checked}
use Rattle.refusals.specs.declared.Refusal.{Refusal}
use Rattle.refusals.proofs.Cases.{check-ok, check-err, check-same}
use Rattle.phrases.specs.Sheets.{both_sound, judged_both, text_in}
use Rattle.refusals.specs.declared.Reason.TheVariants.{BadIndex}
use Rattle.records.specs.Sets.{set_room, no_record, record_at, list_of}
use Rattle.records.specs.declared.Record.{Record}
use Rattle.esr.specs.Decode.{answer_of}
use Rattle.esr.specs.declared.Answer.{Answer}
use Rattle.esr.proofs.Laws.{answer-room}
use Rattle.written.specs.Outcomes.{refused, text}
use Rattle.listing.specs.Requested.{line_in, record_line, listing_of, listing_with_of}
use Rattle.display.specs.Listings.{line_text, listing, listing_with}
use Rattle.texts.specs.Pool.{bytes_at}

module _ (esr : ℕ) {a : Answer} {u : Result Unit Refusal} (is : a ≡ answer_of esr)
    (checks : u ≡ checked a.refusal) where
  pub listing_no : {g : Refusal} → u ≡ Err g → listing_of esr ≡ refused g
  unfolding listing_of
  listing_no h = rw (← is, check-err a.refusal checks h, check-same a.refusal checks h)

  pub listing_yes : {v : Unit {0}} → u ≡ Ok v → listing_of esr ≡ text (listing bytes_at (list_of a.records))
  unfolding listing_of
  listing_yes h = rw (← is, check-ok a.refusal checks h)

  pub with_no : (workshop standard : List ℕ) {g : Refusal} → u ≡ Err g
      → listing_with_of esr workshop standard ≡ refused g
  unfolding listing_with_of
  with_no workshop standard h = rw (← is, check-err a.refusal checks h, check-same a.refusal checks h)

  module _ (workshop standard : List ℕ) {v : Unit {0}} (decoded : u ≡ Ok v) {w : Result Unit Refusal}
      (told : w ≡ checked (bare (judged_both workshop standard))) where
    pub with_bad : {g : Refusal} → w ≡ Err g → listing_with_of esr workshop standard ≡ refused g
    unfolding listing_with_of
    with_bad h =
        let bad : Refusal = bare (judged_both workshop standard) in
        let no : both_sound workshop standard ≡ false = check-err bad told h in
        rw (← is, check-ok a.refusal checks decoded, no, check-same bad told h)

    pub with_yes : {y : Unit {0}} → w ≡ Ok y
        → listing_with_of esr workshop standard
        ≡ text (listing_with bytes_at (text_in workshop standard) (list_of a.records))
    unfolding listing_with_of
    with_yes h =
        let yes : both_sound workshop standard ≡ true = check-ok (bare (judged_both workshop standard)) told h in
        rw (← is, check-ok a.refusal checks decoded, yes)

  pub line_refused : {g : Refusal} → u ≡ Err g → (index : ℕ) → record_line esr index ≡ refused g
  unfolding record_line
  line_refused h index = rw (← is, check-err a.refusal checks h, check-same a.refusal checks h)

  line_in_lem : {v : Unit {0}} → u ≡ Ok v → (index : ℕ) → record_line esr index ≡ line_in (list_of a.records) index
  unfolding record_line
  line_in_lem h index = rw (← is, check-ok a.refusal checks h)

  -- a set has room for what it counts
  module _ (slots : length a.records.items ≡ set_room) where
    pub room : a.records.count ≤ set_room
    room = subst (λ (x : Answer). length x.records.items ≡ set_room → x.records.count ≤ set_room) (sym is) (answer-room esr) slots

    counted : length (list_of a.records) ≡ a.records.count
    counted = length-take-le a.records.count a.records.items (omega (arith, room))

    pub line_no : {v : Unit {0}} → u ≡ Ok v → (index : ℕ) → a.records.count ≤ index
        → record_line esr index ≡ refused (carrying BadIndex a.records.count)
    unfolding line_in
    line_no h index past = line_in_lem h index ∙ rw (counted, le-ltb index a.records.count past)

    pub line_yes : {v : Unit {0}} → u ≡ Ok v → (index : ℕ) → index < a.records.count → (r : Record)
        → r ≡ record_at a.records index
        → record_line esr index ≡ text (line_text bytes_at r)
    unfolding line_in record_at
    line_yes h index within r e =
        let small : index < set_room = omega (arith, room) in
        let here : r ≡ get_or a.records.items index no_record = e ∙ rw (lt-ltb index a.records.count within, lt-ltb index set_room small) in
        line_in_lem h index
        ∙ rw (counted, lt-ltb index a.records.count within, get_or-take a.records.count a.records.items index no_record within, ← here)
