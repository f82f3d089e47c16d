-- #110's sentences, for every value and both choices: what strict accepts is the ordinary answer, it refuses what the ordinary decoder refuses, and it accepts exactly what has a strict reading.
use mathlib.Core.Bool.{Bool, true, false, cond, not, ◌&&◌}
use mathlib.Core.List.{List, ◌++◌, Memᴰ}
use mathlib.Core.Logic.{◌⊎◌, inl, inr}
use mathlib.Core.Path.{◌≡◌, refl, sym, ap, ap₂, ◌∙◌, subst}
use Prim.Native.Nat.{ℕ}
use lib.Dec.{T}
use borrow.Author.Tests.{ne_eqb}
use Rattle.promise.specs.Member.{member}
use Rattle.promise.proofs.Tests.{every, every_mem, of-member}
use Rattle.refusals.specs.Refusals.{no_refusal, passed, refusal_number}
use Rattle.refusals.specs.Values.{value_numbers}
use Rattle.refusals.specs.declared.Refusal.{Refusal}
use Rattle.records.specs.Sets.{list_of, records_of}
use Rattle.records.specs.declared.Record.{Record}
use Rattle.records.specs.declared.Records.{Records}
use Rattle.records.proofs.Laws.{list-of}
use Rattle.tables.specs.Tables.{top_rows}
use Rattle.esr.specs.Decode.{answer_of, refused}
use Rattle.esr.specs.declared.Answer.{Answer}
use Rattle.reading.specs.Reading.{Reading}
use Rattle.reading.specs.ReadAs.{ReadAs}
use Rattle.reading.specs.Refusing.{refusing}
use Rattle.reading.proofs.Judge.{Each, hold_all_is}
use Rattle.reading.proofs.Outcome.{not_zero}
use Rattle.reading.proofs.Reading.{accepted_or_refused, accepted-read, read-accepted}
use Rattle.strict.specs.Promises.{DecodedStrictly}
use Rattle.strict_reading.specs.StrictReading.{Allows, Excused, First, StrictReading, StrictRefusing, Strictly}
use Rattle.strict.specs.Strict.{answer_by, first_refusal, strict_answer_of}
use Rattle.strict.specs.Stricter.{Stricter}
use Rattle.strict.specs.declared.Profile.{Profile}
use Rattle.strict.specs.declared.Profile.TheVariants.{Ordinary, Strict, Nested}
use Rattle.strict.proofs.Lines.{top-free}
use Rattle.strict_reading.proofs.Known.{reading-known}
use Rattle.strict_reading.proofs.Strictly.{first-is, first-listed, first-number, free-first, refusal_of_rows, rows-judged, strictly-first}

accepted-refusal : (f : Refusal) → f ≡ no_refusal → passed f ≡ true
accepted-refusal f e = ap passed e

refused-is : (a : Answer) (f : Refusal) → a ≡ refused f → a.refusal ≡ f
unfolding refused
refused-is a f e = ap (λ (b : Answer). b.refusal) e

clash : {b : Bool} → b ≡ true → b ≡ false → ⊥
clash t f = subst T (sym t ∙ f) tt

module _ (nested : Bool) (esr : ℕ) (r : Answer) (d : DecodedStrictly (esr, nested) r) where
  abbrev own : Refusal
  own = first_refusal nested (list_of (answer_of esr).records)

  by_tests : (p q : Bool) → passed (answer_of esr).refusal ≡ p → passed own ≡ q → r ≡ cond (p && not q) (refused own) (answer_of esr)
  unfolding strict_answer_of
  by_tests p q e f = d ∙ ap₂ (λ (x y : Bool). cond (x && not y) (refused own) (answer_of esr)) e f

  -- "it refuses what the ordinary one refuses, with the same number" and the same carried values
  pub ordinary-refused : passed (answer_of esr).refusal ≡ false → r ≡ answer_of esr
  ordinary-refused e = by_tests false _ e refl

  -- "Everything strict accepts, the ordinary decoder accepts with the same records, marks of #109 included"
  pub accepted-same : r.refusal ≡ no_refusal → r ≡ answer_of esr
  accepted-same h = by (passed (answer_of esr).refusal) refl (passed own) refl
    where
      by : (p : Bool) → passed (answer_of esr).refusal ≡ p → (q : Bool) → passed own ≡ q → r ≡ answer_of esr
      by true e true f = by_tests true true e f
      by true e false f = absurd (clash (accepted-refusal own (sym (refused-is r own (by_tests true false e f)) ∙ h)) f)
      by false e q f = by_tests false q e f

  -- Of a value that has a reading.
  module _ (l : List Record) (k : Reading esr l) where
    ordinary : ((answer_of esr).refusal ≡ no_refusal) × ((answer_of esr).records ≡ records_of l)
    ordinary = read-accepted esr (answer_of esr) refl l k

    own-rows : own ≡ refusal_of_rows nested esr k.rows
    own-rows =
        ap (λ (s : Records). first_refusal nested (list_of s)) ordinary.1
        ∙ ap (first_refusal nested) (list-of l ∙ hold_all_is esr (top_rows k.served.table.iss_rule ++ k.rows) l k.held)
        ∙ free-first nested esr (top_rows k.served.table.iss_rule) k.rows 0 (top-free k.served.table.iss_rule)

    pub strict-accepted : Each (Strictly nested esr) k.rows → (r.refusal ≡ no_refusal) × (r.records ≡ records_of l)
    strict-accepted s =
        let none : own ≡ no_refusal = own-rows ∙ strictly-first nested esr k.rows (reading-known esr l k) s in
        let same : r ≡ answer_of esr = by_tests true true (ap passed ordinary.0) (ap passed none) in
        (ap (λ (a : Answer). a.refusal) same ∙ ordinary.0, ap (λ (a : Answer). a.records) same ∙ ordinary.1)

    pub first-refused : (f : Refusal) → First nested esr f k.rows → r ≡ refused f
    first-refused f u =
        let is : own ≡ f = own-rows ∙ first-is nested esr f k.rows (reading-known esr l k) u in
        by_tests true false (ap passed ordinary.0) (ap passed is ∙ first-number nested esr f k.rows u) ∙ ap refused is

  -- A value of which a strict reading exists is accepted, and the records of the answer are that reading.
  pub strict_read_accepted : (l : List Record) → StrictReading nested esr l → (r.refusal ≡ no_refusal) × (r.records ≡ records_of l)
  strict_read_accepted l k = strict-accepted l k.ordinary k.strict

  -- Of a value that is accepted a strict reading exists, and the records of the answer are that reading.
  pub accepted_strict_read : r.refusal ≡ no_refusal → (l : List Record) × StrictReading nested esr l × (r.records ≡ records_of l)
  accepted_strict_read h =
      let same : r ≡ answer_of esr = accepted-same h in
      let is : ReadAs esr (answer_of esr) = accepted-read esr (answer_of esr) refl (ap (λ (a : Answer). a.refusal) (sym same) ∙ h) in
      by is.list is.reading (ap (λ (a : Answer). a.records) same ∙ is.records)
      (rows-judged nested esr is.reading.rows (reading-known esr is.list is.reading))
    where
      by : (l : List Record) (k : Reading esr l) → r.records ≡ records_of l
          → Each (Strictly nested esr) k.rows ⊎ First nested esr (refusal_of_rows nested esr k.rows) k.rows
          → (m : List Record) × StrictReading nested esr m × (r.records ≡ records_of m)
      by l k e (inl s) = (l, record { ordinary = k; strict = s }, e)
      by l k e (inr u) =
          let f : Refusal = refusal_of_rows nested esr k.rows in
          absurd (clash (accepted-refusal f (sym (refused-is r f (first-refused l k f u)) ∙ h)) (first-number nested esr f k.rows u))

  -- "Where only strict refuses, its checks run after all ordinary ones, high bits first": the first row of a reading that is not as strict asks is what it refuses by
  pub refusing-refused : (f : Refusal) → StrictRefusing nested esr f → r ≡ refused f
  refusing-refused f k = first-refused k.list k.ordinary f k.first

  -- and a refusal is that, or the ordinary decoder's
  pub refused-refusing : (r.refusal ≡ no_refusal → ⊥) → (r ≡ answer_of esr) ⊎ StrictRefusing nested esr r.refusal
  refused-refusing h = by (accepted_or_refused esr (answer_of esr) refl)
    where
      judge : (l : List Record) (k : Reading esr l)
          → Each (Strictly nested esr) k.rows ⊎ First nested esr (refusal_of_rows nested esr k.rows) k.rows → StrictRefusing nested esr r.refusal
      judge l k (inl s) = absurd (h (strict-accepted l k s).0)
      judge l k (inr u) =
          let f : Refusal = refusal_of_rows nested esr k.rows in
          record { list = l; ordinary = k; first = subst (λ (g : Refusal). First nested esr g k.rows) (sym (refused-is r f (first-refused l k f u))) u }

      by : ((answer_of esr).refusal ≡ no_refusal) ⊎ Memᴰ (refusal_number (answer_of esr).refusal) refusing → (r ≡ answer_of esr) ⊎ StrictRefusing nested esr r.refusal
      by (inl e) =
          let is : ReadAs esr (answer_of esr) = accepted-read esr (answer_of esr) refl e in
          inr (judge is.list is.reading (rows-judged nested esr is.reading.rows (reading-known esr is.list is.reading)))
      by (inr m) = inl (ordinary-refused (ne_eqb (refusal_number (answer_of esr).refusal) 0 (not_zero (answer_of esr).refusal m)))

-- What strict accepts without nested virtualisation it accepts with it, and gives the same answer.
pub excused-more : (nested : Bool) (esr : ℕ) (r s : Answer) → DecodedStrictly (esr, false) r → DecodedStrictly (esr, nested) s → r.refusal ≡ no_refusal → s ≡ r
excused-more nested esr r s d e h =
    let k : _ = accepted_strict_read false esr r d h in
    let more : StrictReading nested esr k.0 = record { ordinary = k.1.ordinary; strict = λ row m line among own. either line (k.1.strict row m line among own) } in
    accepted-same nested esr s e (strict_read_accepted nested esr s e k.0 more).0 ∙ sym (accepted-same false esr r d h)
  where
    either : (line : Stricter) → Excused false line ⊎ Allows esr line → Excused nested line ⊎ Allows esr line
    either line (inl (n, x)) = absurd (clash n refl)
    either line (inr a) = inr a

-- Every profile accepts a value, or refuses it by one of the numbers that a value can be refused by.
abbrev is_listed : ℕ → ℕ → Bool
is_listed i n = member n value_numbers

ordinary-numbers : T (every is_listed 0 refusing)
unfolding value_numbers
ordinary-numbers = tt

ordinary-listed : (esr : ℕ) → (refusal_number (answer_of esr).refusal ≡ 0 → ⊥) → Memᴰ (refusal_number (answer_of esr).refusal) value_numbers
ordinary-listed esr h = by (accepted_or_refused esr (answer_of esr) refl)
  where
    by : ((answer_of esr).refusal ≡ no_refusal) ⊎ Memᴰ (refusal_number (answer_of esr).refusal) refusing → Memᴰ (refusal_number (answer_of esr).refusal) value_numbers
    by (inl e) = absurd (h (ap refusal_number e))
    by (inr m) = of-member _ value_numbers (every_mem is_listed (refusal_number (answer_of esr).refusal) 0 refusing ordinary-numbers m).1

strict-listed : (nested : Bool) (esr : ℕ) → (refusal_number (strict_answer_of nested esr).refusal ≡ 0 → ⊥)
    → Memᴰ (refusal_number (strict_answer_of nested esr).refusal) value_numbers
strict-listed nested esr h = by (refused-refusing nested esr (strict_answer_of nested esr) refl (λ e. h (ap refusal_number e)))
  where
    by : (strict_answer_of nested esr ≡ answer_of esr) ⊎ StrictRefusing nested esr (strict_answer_of nested esr).refusal
        → Memᴰ (refusal_number (strict_answer_of nested esr).refusal) value_numbers
    by (inl same) =
        subst (λ (a : Answer). Memᴰ (refusal_number a.refusal) value_numbers) (sym same)
        (ordinary-listed esr (λ e. h (ap (λ (a : Answer). refusal_number a.refusal) same ∙ e)))
    by (inr k) = first-listed nested esr (strict_answer_of nested esr).refusal k.ordinary.rows k.first

pub refused-listed : (profile : Profile) (esr : ℕ) → (refusal_number (answer_by profile esr).refusal ≡ 0 → ⊥) → Memᴰ (refusal_number (answer_by profile esr).refusal) value_numbers
refused-listed Ordinary esr h = ordinary-listed esr h
refused-listed Strict esr h = strict-listed false esr h
refused-listed Nested esr h = strict-listed true esr h
