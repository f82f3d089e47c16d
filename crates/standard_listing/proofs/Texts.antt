-- The texts of the standard sheet are those that records can have: one computed test over the rules shows that each text of a rule that rows may name
-- is there, one over the tables that rows name no other, and one over the codes that each is the code of a rule that a row names.
use Prim.Native.Nat.{ℕ, suc, ◌+◌, ◌-◌, ◌≤◌, ◌<◌}
use mathlib.Core.Bool.{Bool, true, false, cond, not, ◌&&◌}
use mathlib.Core.List.{List, [], ◌∷◌, ◌++◌, map, Memᴰ}
use mathlib.Core.Path.{◌≡◌, refl, sym, subst}
use native.Mathlib.Omega.{arith}
use borrow.Author.Tests.{eqb-true, ltb-true, ltb-false, not-true}
use lib.Dec.{T, eqb, leb, ltb, eqb→eq}
use lib.ListN.{length, get_or, replicate, get_or-eq_default}
use lib.Seq.{take-append_seam}
use Rattle.esr.specs.Decode.{refused, accepted, records_for, answer_of}
use Rattle.esr.specs.declared.Answer.{Answer}
use Rattle.esr.proofs.Laws.{answer-has}
use Rattle.promise.specs.Member.{member}
use Rattle.promise.proofs.Tests.{both_left, both_right, true_is, is_true, or_right, every, every-at, every_mem, from, from_at}
use Rattle.records.specs.Rows.{record_of}
use Rattle.records.specs.Sets.{set_room, no_record, records_of, list_of}
use Rattle.records.specs.Subjects.{subject}
use Rattle.records.specs.declared.Record.{Record}
use Rattle.records.specs.declared.Row.{Row}
use Rattle.registers.specs.Registers.{registers}
use Rattle.sheets.specs.Standard.{is_message, is_records}
use Rattle.sheets.proofs.Laws.{codes}
use Rattle.sheets.proofs.Theorems.{no_name, no_more}
use Rattle.standard_listing.specs.Named.{rules_in, rules_named}
use Rattle.tables.specs.Applying.{rows_for}
use Rattle.tables.specs.Tables.{top_rows, Served, layouts, res0, wf, mcr, mcrr, ldc, sve, ld64b, bti, pauth, hvc, brk, fp, breakpoint, software_step, watchpoint, instruction_abort, data_abort, serror, msr}
use Rattle.tables.proofs.Sound.{always, always-at}
use Rattle.texts.specs.Names.{names}
use Rattle.texts.specs.Rules.{Text, Rule, plain, message, own_words, rules}
use Rattle.texts.specs.Pool.{name_room, code, index_in, on_list, rule_at, describes, first_of, codes_of, text_code, texts, described, by_value, text_in, text_at, bytes, bytes_at}

-- Each text of a rule that is no message's is there.

abbrev message_rule : ℕ → Bool
message_rule n = leb message.number n && leb n own_words.number

abbrev there : ℕ → ℕ → Text → Bool
there first i t = is_records (first + t.value)

abbrev rule_there : ℕ → Rule → Bool
rule_there n r = cond (message_rule n) true (every (there (first_of n)) 0 r.texts)

all_there : T (every rule_there 0 rules)
unfolding rules registers is_records is_message first_of codes_of texts described by_value text_in text_at bytes bytes_at names
all_there = tt

on_there : (first x i : ℕ) (ts : List Text) → T (every (there first) i ts) → T (on_list ts x) → T (is_records (first + x))
unfolding on_list
on_there first x i [] t o = absurd o
on_there first x i (y ∷ ys) t o =
    by (eqb x y.value) refl o (on_there first x (suc i) ys (both_right (there first i y) (every (there first) (suc i) ys) t))
  where
    by : (b : Bool) → eqb x y.value ≡ b → T (cond b true (on_list ys x)) → (T (on_list ys x) → T (is_records (first + x))) → T (is_records (first + x))
    by true e p later =
        subst (λ (v : ℕ). T (is_records (first + v))) (sym (eqb-true x y.value e)) (both_left (there first i y) (every (there first) (suc i) ys) t)
    by false e p later = later p

-- no text, or one that is there
abbrev pub fine : ℕ → Bool
fine code = cond (eqb code 0) true (is_records code)

module _ (rule x : ℕ) (free : message_rule rule ≡ false) where
  described-there : T (describes rule x) → T (is_records (first_of rule + x))
  unfolding describes rule_at on_list
  described-there d = by (ltb rule (length rules)) refl
    where
      by : (b : Bool) → ltb rule (length rules) ≡ b → T (is_records (first_of rule + x))
      by true e =
          let r : Rule = get_or rules rule plain in
          let t : T (rule_there rule r) = every-at rule_there rules plain all_there rule (ltb-true rule (length rules) e) in
          on_there (first_of rule) x 0 r.texts (subst (λ (b : Bool). T (cond b true (every (there (first_of rule)) 0 r.texts))) free t) d
      by false e =
          absurd (subst (λ (r : Rule). T (on_list r.texts x)) (get_or-eq_default rules plain (ltb-false rule (length rules) e)) d)

  fine-text : T (fine (text_code rule x))
  unfolding text_code
  fine-text = by (describes rule x) refl
    where
      by : (b : Bool) → describes rule x ≡ b → T (fine (cond b (first_of rule + x) 0))
      by true e = or_right (eqb (first_of rule + x) 0) (is_records (first_of rule + x)) (described-there (is_true e))
      by false e = tt

-- Rows name no rule of messages.

abbrev row_fine : ℕ → Row → Bool
row_fine i r = not (message_rule r.rule)

abbrev rows_fine : ℕ → List Row → Bool
rows_fine rule own = every row_fine 0 (top_rows rule ++ own)

abbrev served_fine : ℕ → Served → Bool
served_fine i s = always (rows_fine s.table.iss_rule) s.table

all_named : T (every served_fine 0 layouts)
unfolding layouts res0 wf mcr mcrr ldc sve ld64b bti pauth hvc brk fp breakpoint software_step watchpoint instruction_abort data_abort serror msr top_rows names rules code index_in
all_named = tt

-- So every record's text is there.

abbrev pub Fines : List Record → Type 0
Fines [] = Unit {0}
Fines (r ∷ rs) = T (fine r.text) × Fines rs

row_fine_lem : (v : ℕ) (i : ℕ) (r : Row) → T (row_fine i r) → T (fine (record_of v r).text)
unfolding record_of
row_fine_lem v i r t = fine-text r.rule (subject r.rule (record_of v r).value) (not-true (message_rule r.rule) (true_is (not (message_rule r.rule)) t))

fines : (i esr iss : ℕ) (top own : List Row) → T (every row_fine i (top ++ own)) → Fines (map (record_of esr) top ++ map (record_of iss) own)
fines i esr iss [] [] t = tt
fines i esr iss [] (r ∷ rs) t =
    (row_fine_lem iss i r (both_left (row_fine i r) (every row_fine (suc i) rs) t), fines (suc i) esr iss [] rs (both_right (row_fine i r) (every row_fine (suc i) rs) t))
fines i esr iss (r ∷ rs) own t =
    (row_fine_lem esr i r (both_left (row_fine i r) (every row_fine (suc i) (rs ++ own)) t), fines (suc i) esr iss rs own (both_right (row_fine i r) (every row_fine (suc i) (rs ++ own)) t))

abbrev AllFine : Answer → Type 0
AllFine a = Fines (list_of a.records)

accepted-fine : (s : Served) → Memᴰ s layouts → (esr iss : ℕ) → AllFine (accepted (records_for s.table esr iss))
unfolding accepted records_of records_for
accepted-fine s m esr iss =
    let l : List Record = records_for s.table esr iss in
    let own : List Row = rows_for s.table iss in
    let t : T (rows_fine s.table.iss_rule own) = always-at (rows_fine s.table.iss_rule) s.table (every_mem served_fine s 0 layouts all_named m).1 iss in
    rw (take-append_seam l (replicate (set_room - length l) no_record)) (fines 0 esr iss (top_rows s.table.iss_rule) own t)

-- every text that a record can have is in the standard sheet
pub record_texts : (esr : ℕ) → Fines (list_of (answer_of esr).records)
unfolding refused records_of
record_texts = answer-has AllFine (λ f. tt) accepted-fine

-- And no other: each code of the sheet is that of what a rule says of a value, and a row names the rule.

abbrev whose : ℕ → ℕ → List Rule → ℕ → ℕ
whose n first [] c = n
whose n first (r ∷ rs) c = cond (ltb c (first + r.codes)) n (whose (suc n) (first + r.codes) rs c)

abbrev rule_for : ℕ → ℕ
rule_for c = whose 0 name_room rules c

abbrev value_for : ℕ → ℕ
value_for c = c - first_of (rule_for c)

abbrev is_said : ℕ → Bool
is_said c = cond (is_records c) (eqb (text_code (rule_for c) (value_for c)) c && member (rule_for c) rules_named) true

all_said : T (from is_said name_room 469)
unfolding is_records is_message text_code describes on_list rule_at first_of codes_of rules registers texts described by_value text_in text_at bytes bytes_at names rules_in layouts res0 wf mcr mcrr ldc sve ld64b bti pauth hvc brk fp breakpoint software_step watchpoint instruction_abort data_abort serror msr top_rows
all_said = tt

pub no_other : (c : ℕ) → T (is_records c) → (rule : ℕ) × (value : ℕ) × (text_code rule value ≡ c) × T (member rule rules_named)
no_other c t =
    let past : name_room ≤ c = by-room (ltb c name_room) refl in
    let within : c < 597 = by_end (ltb c (length texts)) refl in
    let here : name_room + (c - name_room) ≡ c = omega arith in
    let said : T (is_said c) = subst (λ (k : ℕ). T (is_said k)) here (from_at is_said name_room 469 (c - name_room) all_said (omega arith)) in
    let both : T (eqb (text_code (rule_for c) (value_for c)) c && member (rule_for c) rules_named) =
    subst (λ (b : Bool). T (cond b (eqb (text_code (rule_for c) (value_for c)) c && member (rule_for c) rules_named) true)) (true_is (is_records c) t) said in (
      rule_for c,
      value_for c,
      eqb→eq (text_code (rule_for c) (value_for c)) c (both_left (eqb (text_code (rule_for c) (value_for c)) c) (member (rule_for c) rules_named) both),
      both_right (eqb (text_code (rule_for c) (value_for c)) c) (member (rule_for c) rules_named) both,
    )
  where
    by-room : (b : Bool) → ltb c name_room ≡ b → name_room ≤ c
    by-room true e = absurd (subst T (no_name c (ltb-true c name_room e)) t)
    by-room false e = ltb-false c name_room e

    by_end : (b : Bool) → ltb c (length texts) ≡ b → c < 597
    by_end true e = omega (arith, ltb-true c (length texts) e, codes)
    by_end false e = absurd (subst T (no_more c (ltb-false c (length texts) e)) t)
