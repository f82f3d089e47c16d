-- Each named field can be turned so that the rows change: one table of examples, which antt computes, has one for each field that a table's conditions ask,
-- and one for the class.
use mathlib.Core.Path.{◌≡◌, refl, sym, ◌∙◌, subst}
use mathlib.Core.Bool.{Bool, true, false, cond, not, ◌&&◌}
use mathlib.Core.List.Memᴰ
use mathlib.Core.List.{List, [], ◌∷◌, map, Memᴰ}
use mathlib.Core.Logic.{◌⊎◌, inl, inr}
use Prim.Native.Nat.{ℕ, ◌/◌, ◌%◌, ◌^◌}
use lib.Dec.{T, eqb, eqb→eq, eqb_refl, T_not}
use Rattle.promise.specs.Member.{member}
use Rattle.promise.proofs.Tests.{both_left, both_right, both_intro, true_is, every, every_mem, member_of, of-member}
use Rattle.texts.specs.Rules.{rules}
use Rattle.texts.specs.Pool.{describes, on_list as on_texts, rule_at}
use Rattle.refusals.specs.Refusals.{refusal_number, no_refusal, passed}
use Rattle.records.specs.Bits.{field_of}
use Rattle.records.specs.Kinds.{kind_of}
use Rattle.records.specs.Rows.{meets, refusal_of}
use Rattle.records.specs.declared.Row.{Row}
use Rattle.tables.specs.Applying.{passes, keep, rows_for, checks_for}
use Rattle.tables.specs.Tables.{class, top_rows, Served, layouts, res0, wf, mcr, mcrr, ldc, sve, ld64b, bti, pauth, hvc, brk, fp, breakpoint, software_step, watchpoint, instruction_abort, data_abort, serror, msr}
use Rattle.esr.specs.Decode.{first_failure, refused, accepted, failure_for, table_answer, class_of, class_answer, answer_of}
use Rattle.reading.specs.Reading.{Classed}
use Rattle.reading.specs.ReadAs.{ReadAs}
use Rattle.reading.specs.Refusing.{refusing}
use Rattle.reading.proofs.HasBits.{bits_is, bits-of}
use Rattle.reading.proofs.Applies.{at_iss}
use Rattle.reading.proofs.Outcome.{not_zero}
use Rattle.reading.proofs.Reading.{accepted-read, accepted_or_refused}
use Rattle.turning.specs.Turning.{Field, bits_of, same, DifferInside, leaf_rows, named_in, on_list, Unnamed}
use Rattle.turning.specs.Examples.{Example, examples, Shown, Covered, others, Standing}
use Rattle.turning.proofs.Fields.{differ-by}
use Rattle.turning.proofs.Named.{either, on_list_lem, mem_on, same-field}
use Rattle.turning.proofs.Turned.{rows_are, others-stand}

-- Rows compared by their bits, rules and kinds.

abbrev alike : Row → Row → Bool
alike r s = eqb r.start s.start && (eqb r.width s.width && (eqb r.rule s.rule && eqb r.kind s.kind))

abbrev all_alike : List Row → List Row → Bool
all_alike [] [] = true
all_alike [] (s ∷ ss) = false
all_alike (r ∷ rs) [] = false
all_alike (r ∷ rs) (s ∷ ss) = alike r s && all_alike rs ss

alike_self : (rs : List Row) → T (all_alike rs rs)
alike_self [] = tt
alike_self (r ∷ rs) =
    both_intro (alike r r) (all_alike rs rs)
    (both_intro (eqb r.start r.start) _ (eqb_refl r.start)
    (both_intro (eqb r.width r.width) _ (eqb_refl r.width) (both_intro (eqb r.rule r.rule) _ (eqb_refl r.rule) (eqb_refl r.kind))))
    (alike_self rs)

-- The computed test.

-- the values are equal above the field and below it
abbrev stays_outside : Example → Bool
stays_outside e =
    eqb (e.first / 2 ^ e.field.start / 2 ^ e.field.width) (e.second / 2 ^ e.field.start / 2 ^ e.field.width)
    && eqb (e.first % 2 ^ e.field.start) (e.second % 2 ^ e.field.start)

abbrev is_accepted : ℕ → Bool
is_accepted v = passed (answer_of v).refusal

abbrev serves : ℕ → Served → Bool
serves v s = member (class_of v) s.classes

-- under a layout that serves the first value and one that serves the second
abbrev changes : Example → Served → Served → Bool
changes e s t =
    on_list e.field (named_in s.table)
    && (on_list e.field (map bits_of (leaf_rows 0 (keep (at_iss e.first) s.table.lines)))
    && not (all_alike (keep (at_iss e.first) s.table.lines) (keep (at_iss e.second) t.table.lines)))

abbrev changes_if : Example → Served → ℕ → Served → Bool
changes_if e s i t = cond (serves e.second t) (changes e s t) true

abbrev changes_all : Example → ℕ → Served → Bool
changes_all e i s = cond (serves e.first s) (every (changes_if e s) 0 layouts) true

abbrev shows : ℕ → Example → Bool
shows i e = stays_outside e && (is_accepted e.first && (is_accepted e.second && every (changes_all e) 0 layouts))

all_shown : T (every shows 0 examples)
unfolding examples layouts top_rows res0 wf mcr mcrr ldc sve ld64b bti pauth hvc brk fp breakpoint software_step watchpoint instruction_abort data_abort serror msr answer_of class_answer table_answer failure_for first_failure refused accepted rows_for checks_for passes meets refusal_of kind_of field_of describes on_texts rule_at rules
all_shown = tt

-- What the test shows of each example.

differs : (e : Example) → T (stays_outside e) → DifferInside e.field e.first e.second
differs e t =
    let s : ℕ = 2 ^ e.field.start in
    let w : ℕ = 2 ^ e.field.width in
    let above : Bool = eqb (e.first / s / w) (e.second / s / w) in
    differ-by e.field e.first e.second (eqb→eq (e.first / s / w) (e.second / s / w) (both_left above _ t))
    (eqb→eq (e.first % s) (e.second % s) (both_right above _ t))

-- the leaves do not depend on the rule of ISS
leaf_on : (f : Field) (rule : ℕ) (rows : List Row) → T (on_list f (map bits_of (leaf_rows 0 rows))) → Memᴰ f (map bits_of (leaf_rows rule rows))
unfolding top_rows
leaf_on f rule rows t = on_list_lem f (map bits_of (leaf_rows 0 rows)) t

-- a value that passes has a reading
module _ (v : ℕ) (t : T (is_accepted v)) where
  is_read : ReadAs v (answer_of v)
  is_read = accepted-read v (answer_of v) refl (by (accepted_or_refused v (answer_of v) refl))
    where
      by : ((answer_of v).refusal ≡ no_refusal) ⊎ Memᴰ (refusal_number (answer_of v).refusal) refusing → (answer_of v).refusal ≡ no_refusal
      by (inl e) = e
      by (inr m) = absurd (not_zero (answer_of v).refusal m (eqb→eq _ 0 t))

-- a layout that serves the class of a value passes the test of it
is-served : {v : ℕ} {s : Served} → Classed v s → serves v s ≡ true
is-served {v} {s} k = true_is (serves v s) (subst (λ (n : ℕ). T (member n s.classes)) (bits_is k.has) (member_of k.class s.classes k.serves))

if_served : (b c : Bool) → b ≡ true → T (cond b c true) → T c
if_served true c e t = t
if_served false c e t = absurd (subst T (sym e) tt)

module _ (e : Example) (m : Memᴰ e examples) where
  here : T (stays_outside e && (is_accepted e.first && (is_accepted e.second && every (changes_all e) 0 layouts)))
  here = (every_mem shows e 0 examples all_shown m).1

  both : T (is_accepted e.first && (is_accepted e.second && every (changes_all e) 0 layouts))
  both = both_right (stays_outside e) _ here

  last : T (is_accepted e.second && every (changes_all e) 0 layouts)
  last = both_right (is_accepted e.first) _ both

  changed : (s t : Served) → Classed e.first s → Classed e.second t → T (changes e s t)
  changed s t j k =
      let q : T (changes_all e 0 s) = (every_mem (changes_all e) s 0 layouts (both_right (is_accepted e.second) _ last) j.layout).1 in
      let p : T (every (changes_if e s) 0 layouts) = if_served (serves e.first s) _ (is-served j) q in
      if_served (serves e.second t) _ (is-served k) (every_mem (changes_if e s) t 0 layouts p k.layout).1

  pub shown : Shown e
  shown =
      record {
        inside = differs e (both_left (stays_outside e) _ here);
        before = a.list;
        after = b.list;
        first = a.reading;
        second = b.reading;
        leaf = subst (λ (rs : List Row). Memᴰ e.field (map bits_of (leaf_rows s.table.iss_rule rs))) (sym rows) (leaf_on e.field s.table.iss_rule kept (both_left is_leaf _ after-named));
        named = on_list_lem e.field (named_in s.table) (both_left (on_list e.field (named_in s.table)) _ change);
        other_rows = λ q. T_not (all_alike kept kept') (both_right is_leaf _ after-named) (subst (λ (rs : List Row). T (all_alike kept rs)) (sym rows ∙ q ∙ rows') (alike_self kept));
      }
    where
      a : ReadAs e.first (answer_of e.first)
      a = is_read e.first (both_left (is_accepted e.first) _ both)

      b : ReadAs e.second (answer_of e.second)
      b = is_read e.second (both_left (is_accepted e.second) _ last)

      s : Served
      s = a.reading.served

      kept : List Row
      kept = keep (at_iss e.first) s.table.lines

      kept' : List Row
      kept' = keep (at_iss e.second) b.reading.served.table.lines

      is_leaf : Bool
      is_leaf = on_list e.field (map bits_of (leaf_rows 0 kept))

      rows : a.reading.rows ≡ kept
      rows = rows_are e.first s a.reading.rows a.reading.classed a.reading.applying

      rows' : b.reading.rows ≡ kept'
      rows' = rows_are e.second b.reading.served b.reading.rows b.reading.classed b.reading.applying

      change : T (changes e s b.reading.served)
      change = changed s b.reading.served a.reading.classed b.reading.classed

      after-named : T (is_leaf && not (all_alike kept kept'))
      after-named = both_right (on_list e.field (named_in s.table)) _ change

-- Every named field but the class has an example, in each layout that names it.

abbrev is_of : Field → List ℕ → Example → Bool
is_of f classes e = same e.field f && member (class_of e.first) classes

abbrev among_examples : Field → List ℕ → List Example → Bool
among_examples f classes [] = false
among_examples f classes (e ∷ es) = cond (is_of f classes e) true (among_examples f classes es)

abbrev has_example : List ℕ → ℕ → Field → Bool
has_example classes i f = cond (same f (bits_of class)) true (among_examples f classes examples)

abbrev has_examples : ℕ → Served → Bool
has_examples i s = every (has_example s.classes) 0 (named_in s.table)

all-covered : T (every has_examples 0 layouts)
unfolding examples layouts res0 wf mcr mcrr ldc sve ld64b bti pauth hvc brk fp breakpoint software_step watchpoint instruction_abort data_abort serror msr field_of
all-covered = tt

covered : (f : Field) (classes : List ℕ) (es : List Example) → T (among_examples f classes es) → Covered f classes es
covered f classes [] t = absurd t
covered f classes (e ∷ es) t = by (either (is_of f classes e) _ t) (covered f classes es)
  where
    by : T (is_of f classes e) ⊎ T (among_examples f classes es) → (T (among_examples f classes es) → Covered f classes es) → Covered f classes (e ∷ es)
    by (inl h) rest =
        record {
          example = e;
          among = Memᴰ.head refl;
          field = same-field e.field f (both_left (same e.field f) _ h);
          class = record { class = class_of e.first; has = bits-of e.first 26 6; among = of-member (class_of e.first) classes (both_right (same e.field f) _ h) };
        }
    by (inr h) rest = let c : Covered f classes es = rest h in record { example = c.example; among = Memᴰ.tail c.among; field = c.field; class = c.class }

pub every-named : (s : Served) → Memᴰ s layouts → (f : Field) → Memᴰ f (named_in s.table) → (f ≡ bits_of class) ⊎ Covered f s.classes examples
every-named s m f n =
    by (either (same f (bits_of class)) _ (every_mem (has_example s.classes) f 0 (named_in s.table) (every_mem has_examples s 0 layouts all-covered m).1 n).1)
  where
    by : T (same f (bits_of class)) ⊎ T (among_examples f s.classes examples) → (f ≡ bits_of class) ⊎ Covered f s.classes examples
    by (inl t) = inl (same-field f (bits_of class) t)
    by (inr t) = inr (covered f s.classes examples t)

-- The fields that are not named.

abbrev is_other : Example → Served → Bool
is_other e s = not (on_list e.field (named_in s.table)) && on_list e.field (map bits_of (leaf_rows 0 (keep (at_iss e.first) s.table.lines)))

abbrev is_other_if : Example → ℕ → Served → Bool
is_other_if e i s = cond (serves e.first s) (is_other e s) true

abbrev stays : ℕ → Example → Bool
stays i e = stays_outside e && (is_accepted e.first && (is_accepted e.second && every (is_other_if e) 0 layouts))

all_stay : T (every stays 0 others)
unfolding others layouts top_rows res0 wf mcr mcrr ldc sve ld64b bti pauth hvc brk fp breakpoint software_step watchpoint instruction_abort data_abort serror msr answer_of class_answer table_answer failure_for first_failure refused accepted rows_for checks_for passes meets refusal_of kind_of field_of describes on_texts rule_at rules
all_stay = tt

module _ (e : Example) (m : Memᴰ e others) where
  told : T (stays_outside e && (is_accepted e.first && (is_accepted e.second && every (is_other_if e) 0 layouts)))
  told = (every_mem stays e 0 others all_stay m).1

  accepts : T (is_accepted e.first && (is_accepted e.second && every (is_other_if e) 0 layouts))
  accepts = both_right (stays_outside e) _ told

  rest : T (is_accepted e.second && every (is_other_if e) 0 layouts)
  rest = both_right (is_accepted e.first) _ accepts

  -- Every other record stands.
  pub standing : Standing e
  standing =
      record {
        row = leaf.0;
        field = leaf.2;
        unnamed = unnamed;
        inside = inside;
        before = a.list;
        after = b.list;
        first = a.reading;
        second = b.reading;
        stand = others-stand unnamed inside a.reading b.reading;
      }
    where
      a : ReadAs e.first (answer_of e.first)
      a = is_read e.first (both_left (is_accepted e.first) _ accepts)

      b : ReadAs e.second (answer_of e.second)
      b = is_read e.second (both_left (is_accepted e.second) _ rest)

      s : Served
      s = a.reading.served

      other : T (is_other e s)
      other = if_served (serves e.first s) _ (is-served a.reading.classed) (every_mem (is_other_if e) s 0 layouts (both_right (is_accepted e.second) _ rest) a.reading.classed.layout).1

      kept : List Row
      kept = keep (at_iss e.first) s.table.lines

      is_named : Bool
      is_named = on_list e.field (named_in s.table)

      leaf : (row : Row) × Memᴰ row (leaf_rows s.table.iss_rule kept) × (bits_of row ≡ e.field)
      leaf = Memᴰ.of_map bits_of (leaf_rows s.table.iss_rule kept) (leaf_on e.field s.table.iss_rule kept (both_right (not is_named) _ other))

      unnamed : Unnamed e.first leaf.0
      unnamed =
          record {
            served = s;
            classed = a.reading.classed;
            rows = a.reading.rows;
            applying = a.reading.applying;
            leaf = subst (λ (rs : List Row). Memᴰ leaf.0 (leaf_rows s.table.iss_rule rs))
                (sym (rows_are e.first s a.reading.rows a.reading.classed a.reading.applying)) leaf.1;
            unnamed = λ n. T_not is_named (both_left (not is_named) _ other)
                (subst (λ (f : Field). T (on_list f (named_in s.table))) leaf.2 (mem_on (bits_of leaf.0) (named_in s.table) n));
          }

      inside : DifferInside (bits_of leaf.0) e.first e.second
      inside = subst (λ (f : Field). DifferInside f e.first e.second) (sym leaf.2) (differs e (both_left (stays_outside e) _ told))
