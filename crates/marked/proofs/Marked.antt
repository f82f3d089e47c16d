-- The marked cases hold: one test over the whole table, which antt computes, and one law that turns it into what each case says.
use mathlib.Core.Bool.{Bool, true, false, ◌&&◌, ◌||◌}
use mathlib.Core.List.{List, [], ◌∷◌, Memᴰ}
use mathlib.Core.Path.{◌≡◌, refl, sym, ap, ◌∙◌, subst}
use lib.Dec.{T, eqb, eqb→eq}
use lib.ListN.{length}
use borrow.Author.Tests.{le-leb}
use lib.Text.{eqt, eqt→eq}
use Rattle.promise.proofs.Tests.{both_left, both_right}
use Rattle.registers.specs.Registers.{registers, place_in}
use Rattle.texts.specs.Names.{names}
use Rattle.texts.specs.Pool.{text_in, on_list, rule_at, describes, by_value, described, codes_of, texts, text_at, bytes_at, index_in, code, first_of, text_code, bytes}
use Rattle.texts.specs.Rules.{rules}
use Rattle.refusals.specs.Refusals.{refusal_number, no_refusal}
use Rattle.refusals.specs.declared.Refusal.{Refusal}
use Rattle.refusals.proofs.Theorems.{one-reason, by_parts}
use Rattle.records.specs.Bits.{field_of}
use Rattle.records.specs.Kinds.{kind_of}
use Rattle.records.specs.Rows.{record_of, meets, refusal_of}
use Rattle.records.specs.Subjects.{key_of, subject}
use Rattle.records.specs.Sets.{records_of, list_of}
use Rattle.records.specs.declared.Record.{Record}
use Rattle.tables.specs.Applying.{passes, rows_for, checks_for}
use Rattle.tables.specs.Tables.{top_rows, layouts, res0, wf, mcr, mcrr, ldc, sve, ld64b, bti, pauth, hvc, brk, fp, breakpoint, software_step, watchpoint, instruction_abort, data_abort, serror, msr}
use Rattle.esr.specs.Decode.{first_failure, refused, accepted as accepted_answer, failure_for, records_for, table_answer, class_answer, answer_of}
use Rattle.esr.specs.declared.Answer.{Answer}
use Rattle.listing.specs.Requested.{listing_of}
use Rattle.display.specs.Listings.{indent_at, line_text, found_line, text_line_with, record_lines_with}
use Rattle.buffer.specs.InOrder.{each_from}
use Rattle.digits.specs.Digits.{digit_char, digits_of}
use Rattle.strings.specs.Fields.{value_text, binary_text, binary_suffix, field_text}
use Rattle.written.specs.Outcomes.{Outcome, text as in_full, answered, left}
use Rattle.number.specs.Digits.{digit_of}
use Rattle.number.specs.Numbers.{number_of, number_in, read_digits, read_digit, starts_with}
use Rattle.number.specs.Rest.{is_stop, before_stop, rest_of, are_stops, whole_of}
use Rattle.number.specs.declared.Number.{Number}
use Rattle.marked.specs.Cases.{Fact, of_value, with_text, Expected, refusal, accepted, Case, cases, HoldsOf, Shown, AllShown, Met, AllHold, NumberHolds, listed, ended, ListingHolds}

-- The test.

abbrev holds_of : Fact → Record → Bool
holds_of (of_value name value) x = eqt (text_at x.name) name && eqb x.value value
holds_of (with_text name text) x = eqt (text_at x.name) name && eqt (text_at x.text) text

abbrev shown_in : Fact → List Record → Bool
shown_in f [] = false
shown_in f (x ∷ xs) = holds_of f x || shown_in f xs

abbrev all_shown : List Fact → List Record → Bool
all_shown [] l = true
all_shown (f ∷ fs) l = shown_in f l && all_shown fs l

abbrev is_empty : List Record → Bool
is_empty [] = true
is_empty (x ∷ xs) = false

abbrev same : Refusal → Refusal → Bool
same f g = eqb (refusal_number f) (refusal_number g) && (eqb f.carries g.carries && (eqb f.start g.start && eqb f.width g.width))

abbrev met : Expected → Answer → Bool
met (refusal f) r = same r.refusal f && is_empty (list_of r.records)
met (accepted facts) r = same r.refusal no_refusal && all_shown facts (list_of r.records)

abbrev all_met : List Case → Bool
all_met [] = true
all_met (c ∷ cs) = met c.expected (answer_of c.esr) && all_met cs

computed : T (all_met cases)
unfolding cases answer_of class_answer table_answer failure_for records_for accepted_answer refused top_rows first_failure layouts res0 wf mcr mcrr ldc sve ld64b bti pauth hvc brk fp breakpoint software_step watchpoint instruction_abort data_abort serror msr passes rows_for checks_for field_of record_of subject key_of place_in meets refusal_of kind_of records_of text_in on_list rule_at describes by_value described codes_of texts text_at index_in code first_of text_code names rules registers
computed = tt

-- What it shows.

holds-so : (f : Fact) (x : Record) → T (holds_of f x) → HoldsOf f x
holds-so (of_value name value) x t = (
  eqt→eq (text_at x.name) name (both_left (eqt (text_at x.name) name) (eqb x.value value) t),
  eqb→eq x.value value (both_right (eqt (text_at x.name) name) (eqb x.value value) t),
)
holds-so (with_text name text) x t = (
  eqt→eq (text_at x.name) name (both_left (eqt (text_at x.name) name) (eqt (text_at x.text) text) t),
  eqt→eq (text_at x.text) text (both_right (eqt (text_at x.name) name) (eqt (text_at x.text) text) t),
)

none-empty : (l : List Record) → T (is_empty l) → l ≡ []
none-empty [] t = refl
none-empty (x ∷ xs) t = absurd t

shown-so : (f : Fact) (l : List Record) → T (shown_in f l) → Shown f l
shown-so f [] t = absurd t
shown-so f (x ∷ xs) t = by-test (holds_of f x) refl t (shown-so f xs)
  where
    by-test : (b : Bool) → holds_of f x ≡ b → T (b || shown_in f xs) → (T (shown_in f xs) → Shown f xs) → Shown f (x ∷ xs)
    by-test true e u rest = record { which = x; among = Memᴰ.head refl; so = holds-so f x (subst T (sym e) tt) }
    by-test false e u rest =
        let s : Shown f xs = rest u in
        record { which = s.which; among = Memᴰ.tail s.among; so = s.so }

all_so : (fs : List Fact) (l : List Record) → T (all_shown fs l) → AllShown fs l
all_so [] l t = tt
all_so (f ∷ fs) l t =
    (shown-so f l (both_left (shown_in f l) (all_shown fs l) t), all_so fs l (both_right (shown_in f l) (all_shown fs l) t))

same-is : (f g : Refusal) → T (same f g) → f ≡ g
same-is f g t =
    let u : _ = both_right (eqb (refusal_number f) (refusal_number g)) _ t in
    let w : _ = both_right (eqb f.carries g.carries) _ u in
    by_parts f g (eqb→eq f.carries g.carries (both_left (eqb f.carries g.carries) _ u))
    (eqb→eq f.start g.start (both_left (eqb f.start g.start) _ w))
    (eqb→eq f.width g.width (both_right (eqb f.start g.start) _ w))
    (one-reason f.reason g.reason (eqb→eq (refusal_number f) (refusal_number g) (both_left (eqb (refusal_number f) (refusal_number g)) _ t)))

met-so : (e : Expected) (r : Answer) → T (met e r) → Met e r
met-so (refusal f) r t =
    (same-is r.refusal f (both_left (same r.refusal f) _ t), none-empty (list_of r.records) (both_right (same r.refusal f) _ t))
met-so (accepted facts) r t = (
  same-is r.refusal no_refusal (both_left (same r.refusal no_refusal) _ t),
  all_so facts (list_of r.records) (both_right (same r.refusal no_refusal) _ t),
)

all_hold : (cs : List Case) → T (all_met cs) → AllHold cs
all_hold [] t = tt
all_hold (c ∷ cs) t = (
  (λ r d. subst (Met c.expected) (sym d) (met-so c.expected (answer_of c.esr) (both_left (met c.expected (answer_of c.esr)) (all_met cs) t))),
  all_hold cs (both_right (met c.expected (answer_of c.esr)) (all_met cs) t),
)

read : whole_of (bytes "0x+f") ≡ record { value = 15; refusal = no_refusal }
unfolding bytes whole_of is_stop before_stop rest_of are_stops number_of number_in read_digits read_digit starts_with digit_of
read = refl

in_full_lem : listing_of 0x56000001 ≡ in_full (ended listed)
unfolding listed ended listing_of each_from record_lines_with text_line_with found_line indent_at line_text field_text value_text binary_text binary_suffix digits_of digit_char bytes_at bytes answer_of class_answer table_answer failure_for records_for accepted_answer refused top_rows first_failure layouts res0 wf mcr mcrr ldc sve ld64b bti pauth hvc brk fp breakpoint software_step watchpoint instruction_abort data_abort serror msr passes rows_for checks_for field_of record_of subject key_of place_in meets refusal_of kind_of records_of text_in on_list rule_at describes by_value described codes_of texts text_at index_in code first_of text_code names rules registers
in_full_lem = refl

listing-holds : ListingHolds
unfolding answered left
listing-holds before after r room p =
    let fits = le-leb (length (ended listed)) (length before) room in (
      p.0 ∙ ap (λ (o : Outcome). answered o before) in_full_lem ∙ rw fits,
      p.1 ∙ ap (λ (o : Outcome). left o before) in_full_lem ∙ rw fits,
    )

-- Each of 01's marked cases holds of every answer that the promises allow: the values', the number's, and the listing's to the byte.
pub marked : AllHold cases × NumberHolds × ListingHolds
marked = (
  all_hold cases computed,
  (λ r d. (ap (λ (n : Number). n.refusal) (d ∙ read), ap (λ (n : Number). n.value) (d ∙ read))),
  listing-holds,
)
