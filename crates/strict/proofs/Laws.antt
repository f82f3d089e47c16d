-- A stored line asks what the line itself asks; the lines from an index on, and the records from one on, are what is left to look at: by induction over
-- the lists.
use mathlib.Core.Bool.{Bool, true, false, cond, not, ◌&&◌}
use mathlib.Core.List.{List, [], ◌∷◌, map}
use mathlib.Core.Path.{◌≡◌, refl, sym, ap, ap₂, ◌∙◌}
use Prim.Native.Nat.{ℕ, zero, suc, ◌+◌, ◌≤◌, ◌<◌}
use native.Mathlib.Nat.{le_of_suc-le-suc, not-suc-le-zero}
use native.Mathlib.Numerals.{add-one}
use native.Mathlib.Omega.{arith}
use lib.Dec.{T, ltb}
use lib.ListN.{length, get_or, drop}
use lib.Seq.{drop-cons, drop-length}
use borrow.Author.Tests.{ltb-true}
use Rattle.promise.specs.Member.{member}
use Rattle.promise.proofs.Tests.{both_left, both_right, every, every_mem, of-member, true_is}
use Rattle.lookup.proofs.Numbers.{bits_in}
use Rattle.refusals.specs.Refusals.{no_refusal, passed}
use Rattle.refusals.specs.declared.Refusal.{Refusal}
use Rattle.records.specs.Sets.{list_of, records_of, set_room}
use Rattle.records.specs.declared.Record.{Record}
use Rattle.esr.specs.Decode.{answer_of, refused}
use Rattle.esr.specs.declared.Answer.{Answer}
use Rattle.esr.proofs.Laws.{answer-room}
use Rattle.strict.specs.Code.{fails_as, lines, refusal_as, stored}
use Rattle.strict.specs.Strict.{answer_by, fails_by, first_refusal, is_of, record_refusal, refusal_in, strict_answer_of, strictly}
use Rattle.strict.specs.Stricter.{Stricter, refusal_by, stricter}
use Rattle.strict.specs.declared.Line.{Line}
use Rattle.strict.specs.declared.Profile.{Profile}
use Rattle.strict.specs.declared.Profile.TheVariants.{Ordinary, Strict, Nested}

-- the numbers that a line allows are below 64, so that bits can tell them
abbrev is_small : ℕ → ℕ → Bool
is_small i x = ltb x 64

abbrev few_bits : ℕ → Stricter → Bool
few_bits i d = every is_small 0 d.allowed

-- the computed test
all-few : T (every few_bits 0 stricter)
unfolding stricter
all-few = tt

module _ (nested : Bool) (x : Record) where
  stored-fails : (d : Stricter) (i : ℕ) → T (few_bits i d) → fails_as nested x (stored d) ≡ fails_by nested x d
  unfolding stored
  stored-fails d i few =
      ap (λ (b : Bool). is_of d.row x && (not (nested && d.excused) && not b))
      (bits_in (λ y. member y d.allowed) (λ y t. ltb-true y 64 (true_is (ltb y 64) (every_mem is_small y 0 d.allowed few (of-member y d.allowed t)).1)) x.value)

  stored-refusal : (d : Stricter) → refusal_as (stored d) x.value ≡ refusal_by d x.value
  unfolding stored
  stored-refusal d = refl

  turn : (ds : List Stricter) (i k : ℕ) (l : Line) → T (every few_bits k ds) → i < length ds
      → refusal_in (drop i ds) nested x
      ≡ cond (fails_as nested x (get_or (map stored ds) i l)) (refusal_as (get_or (map stored ds) i l) x.value)
      (refusal_in (drop (suc i) ds) nested x)
  unfolding refusal_in
  turn [] i k l few h = absurd (not-suc-le-zero h)
  turn (d ∷ ds) zero k l few h =
      ap (λ (b : Bool). cond b (refusal_by d x.value) (refusal_in ds nested x))
      (sym (stored-fails d k (both_left (few_bits k d) _ few)))
      ∙ ap (λ (f : Refusal). cond (fails_as nested x (stored d)) f (refusal_in ds nested x)) (sym (stored-refusal d))
  turn (d ∷ ds) (suc i) k l few h = turn ds i (suc k) l (both_right (few_bits k d) _ few) (le_of_suc-le-suc h)

  abbrev left : ℕ → Refusal
  left i = refusal_in (drop i stricter) nested x

  pub four : length stricter ≡ 4
  unfolding stricter
  four = refl

  module _ {items : List Line} (are : items ≡ lines) (i : ℕ) (h : i < 4) (l : Line) where
    asked : left i ≡ cond (fails_as nested x (get_or items i l)) (refusal_as (get_or items i l) x.value) (left (i + 1))
    unfolding lines
    asked =
        rw are
        (turn stricter i 0 l all-few (omega (arith, four))
        ∙ ap
        (λ (n : ℕ). cond (fails_as nested x (get_or lines i l)) (refusal_as (get_or lines i l) x.value) (left n))
        (sym (add-one i)))

    pub line-fails : fails_as nested x (get_or items i l) ≡ true → left i ≡ refusal_as (get_or items i l) x.value
    line-fails e = asked ∙ ap (λ (b : Bool). cond b (refusal_as (get_or items i l) x.value) (left (i + 1))) e

    pub line-passes : fails_as nested x (get_or items i l) ≡ false → left i ≡ left (i + 1)
    line-passes e = asked ∙ ap (λ (b : Bool). cond b (refusal_as (get_or items i l) x.value) (left (i + 1))) e

  pub lines-done : left 4 ≡ no_refusal
  unfolding stricter refusal_in
  lines-done = refl

-- The records from an index on.
module _ (nested : Bool) (xs : List Record) (i : ℕ) (less : i < length xs) (d : Record) {f : Refusal}
    (is : f ≡ record_refusal nested (get_or xs i d)) where
  looked : first_refusal nested (drop i xs) ≡ cond (passed f) (first_refusal nested (drop (i + 1) xs)) f
  unfolding first_refusal
  looked = rw (add-one, drop-cons xs i d less, ← is) refl

  pub record_fails : passed f ≡ false → first_refusal nested (drop i xs) ≡ f
  record_fails e = looked ∙ ap (λ (b : Bool). cond b (first_refusal nested (drop (i + 1) xs)) f) e

  pub record_passes : passed f ≡ true → first_refusal nested (drop i xs) ≡ first_refusal nested (drop (i + 1) xs)
  record_passes e = looked ∙ ap (λ (b : Bool). cond b (first_refusal nested (drop (i + 1) xs)) f) e

pub records-done : (nested : Bool) (xs : List Record) → first_refusal nested (drop (length xs) xs) ≡ no_refusal
unfolding first_refusal
records-done nested xs = ap (first_refusal nested) (drop-length xs)

-- The answer.
module _ (nested : Bool) (esr : ℕ) (a : Answer) (is : a ≡ answer_of esr) where
  by_tests : (p q : Bool) → passed a.refusal ≡ p → passed (first_refusal nested (list_of a.records)) ≡ q
      → cond (p && not q) (refused (first_refusal nested (list_of a.records))) a ≡ strict_answer_of nested esr
  unfolding strict_answer_of
  by_tests p q e f =
      ap₂ (λ (x y : Bool). cond (x && not y) (refused (first_refusal nested (list_of a.records))) a) (sym e) (sym f) ∙ ap (strictly nested) is

  pub ordinarily_refused : passed a.refusal ≡ false → a ≡ strict_answer_of nested esr
  ordinarily_refused e = by_tests false _ e refl

  module _ (accepted : passed a.refusal ≡ true) where
    pub strictly-refused : {f : Refusal} → f ≡ first_refusal nested (list_of a.records)
        → passed (first_refusal nested (list_of a.records)) ≡ false → refused f ≡ strict_answer_of nested esr
    strictly-refused first e = ap refused first ∙ by_tests true false accepted e

    pub strictly-accepted : passed (first_refusal nested (list_of a.records)) ≡ true → a ≡ strict_answer_of nested esr
    strictly-accepted e = by_tests true true accepted e

-- What the ordinary decoder refuses has the same answer by every profile.
strictly-alike : (nested : Bool) (esr : ℕ) → passed (answer_of esr).refusal ≡ false → strict_answer_of nested esr ≡ answer_of esr
unfolding strict_answer_of
strictly-alike nested esr e = rw e

pub refused-alike : (profile : Profile) (esr : ℕ) → passed (answer_of esr).refusal ≡ false → answer_by profile esr ≡ answer_of esr
refused-alike Ordinary esr e = refl
refused-alike Strict esr e = strictly-alike false esr e
refused-alike Nested esr e = strictly-alike true esr e

-- A set of records has room for what it counts, whatever the profile.
abbrev Roomy : Answer → Type 0
Roomy a = length a.records.items ≡ set_room → a.records.count ≤ set_room

refused-room : (f : Refusal) → Roomy (refused f)
unfolding refused records_of
refused-room f h = let none : (refused f).records.count ≡ 0 = refl in omega (arith, none)

strict-room : (nested : Bool) (esr : ℕ) → Roomy (strict_answer_of nested esr)
unfolding strict_answer_of
strict-room nested esr =
    let f : Refusal = first_refusal nested (list_of (answer_of esr).records) in
    by f (passed (answer_of esr).refusal && not (passed f))
  where
    by : (f : Refusal) (b : Bool) → Roomy (cond b (refused f) (answer_of esr))
    by f true = refused-room f
    by f false = answer-room esr

pub profile_room : (profile : Profile) (esr : ℕ) → Roomy (answer_by profile esr)
profile_room Ordinary esr = answer-room esr
profile_room Strict esr = strict-room false esr
profile_room Nested esr = strict-room true esr
