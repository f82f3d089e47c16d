-- The rows of the table are read with no test: one computed test shows that each lies within 64 bits and has no register's rule; and a row's mark says what it asks.
use mathlib.Core.Path.{◌≡◌, refl, sym, ap, ◌∙◌, subst}
use mathlib.Core.Bool.{Bool, true, false, cond, not, ◌&&◌}
use mathlib.Core.List.{List, [], ◌∷◌}
use Prim.Native.Nat.{ℕ, zero, suc, ◌%◌, ◌<◌}
use native.Mathlib.Omega.{arith}
use lib.Dec.{T, eqb, ltb, ltb→lt}
use lib.ListN.{length, get_or}
use borrow.Author.Tests.{ltb-true, ltb-false}
use Rattle.promise.proofs.Tests.{both_left, both_right, every, every-at}
use Rattle.texts.specs.Names.{names}
use Rattle.registers.specs.Registers.{registers, place_in}
use Rattle.texts.specs.Pool.{code, index_in, text_code}
use Rattle.texts.specs.Rules.{system_register}
use Rattle.records.specs.Bits.{field_of}
use Rattle.records.specs.Kinds.{mark_of, mark_number, kind_of}
use Rattle.records.specs.Rows.{meets, value_in}
use Rattle.records.specs.Subjects.{key_of, subject, text_of}
use Rattle.records.specs.declared.Mark.{Mark}
use Rattle.records.specs.declared.Mark.TheVariants as mark
use Rattle.records.proofs.ByMark.{allows_by, mark-at, marked-allows}
use Rattle.tables.specs.Tables.{layouts, res0, wf, mcr, mcrr, ldc, sve, ld64b, bti, pauth, hvc, brk, fp, breakpoint, software_step, watchpoint, instruction_abort, data_abort, serror, msr}
use Rattle.engine_table.specs.Packed.{packed, row_words, row_word}
use Rattle.engine_table.proofs.Laws.{past-last}
use Rattle.engine.specs.Engine.{byte_of, row_in, applies, direct, fails}

-- each row of the table

all_direct : T (every (λ i w. direct w) 0 row_words)
unfolding row_words packed layouts res0 wf mcr mcrr ldc sve ld64b bti pauth hvc brk fp breakpoint software_step watchpoint instruction_abort data_abort serror msr names code index_in field_of
all_direct = tt

past-direct : (w : ℕ) → 0 ≡ w → T (direct w)
unfolding field_of
past-direct w e = subst (λ (x : ℕ). T (direct x)) e tt

pub row-direct : (n : ℕ) → T (direct (row_word n))
unfolding row_word
row-direct n = by (ltb n (length row_words)) refl
  where
    by : (b : Bool) → ltb n (length row_words) ≡ b → T (direct (get_or row_words n 0))
    by true e = every-at (λ i w. direct w) row_words 0 all_direct n (ltb-true n (length row_words) e)
    by false e = past-direct (get_or row_words n 0) (past-last n (ltb-false n (length row_words) e))

-- what a direct row has

module _ (w : ℕ) (d : T (direct w)) where
  pub low-start : byte_of w 5 < 64
  low-start = ltb→lt (byte_of w 5) 64 (both_left (ltb (byte_of w 5) 64) _ d)

  pub low-width : byte_of w 6 < 64
  low-width = ltb→lt (byte_of w 6) 64 (both_left (ltb (byte_of w 6) 64) _ (both_right (ltb (byte_of w 5) 64) _ d))

  not_register : eqb (byte_of w 3) system_register.number ≡ false
  not_register =
      off (eqb (byte_of w 3) system_register.number) (both_right (ltb (byte_of w 6) 64) _ (both_right (ltb (byte_of w 5) 64) _ d))
    where
      off : (b : Bool) → T (not b) → b ≡ false
      off true t = absurd t
      off false t = refl

  -- its text is that of the field's own value
  pub own-text : (value : ℕ) → text_code (byte_of w 3) value ≡ text_of (byte_of w 3) value
  unfolding subject
  own-text value =
      ap (λ (b : Bool). text_code (byte_of w 3) (cond b (place_in registers (key_of value)) value)) (sym not_register)

-- what a row asks, by its mark

abbrev marks : List Mark
marks = mark.Free ∷ mark.Coded ∷ mark.Checked ∷ mark.Unchecked ∷ []

mark-number : (m : ℕ) → m < 4 → mark_number (get_or marks m mark.Free) ≡ m
mark-number zero h = refl
mark-number (suc zero) h = refl
mark-number (suc (suc zero)) h = refl
mark-number (suc (suc (suc zero))) h = refl
mark-number (suc (suc (suc (suc m)))) h = absurd (omega arith)

pub marked-number : (n : ℕ) → n % 4 ≡ mark_number (mark_of (kind_of n))
marked-number n = sym (mark-number (n % 4) (omega arith)) ∙ ap mark_number (mark-at n (n % 4) refl)

module _ (answers v w : ℕ) where
  pub over : applies answers w ≡ false → false ≡ fails answers v w
  over h = ap (λ (b : Bool). b && not (meets v (row_in w))) (sym h)

  module _ (yes : applies answers w ≡ true) {kind : ℕ} {m : Mark} (in_row : kind ≡ byte_of w 7)
      (is : m ≡ mark_of (kind_of kind)) where
    asks : (x : Mark) → m ≡ x → allows_by x (byte_of w 3) (value_in v (row_in w)) ≡ meets v (row_in w)
    unfolding meets row_in
    asks x h =
        marked-allows (kind_of (byte_of w 7)) m x (byte_of w 3) (value_in v (row_in w))
        (is ∙ ap (λ (n : ℕ). mark_of (kind_of n)) in_row) h

    pub fails-by : (x : Mark) → m ≡ x
        → not (allows_by x (byte_of w 3) (value_in v (row_in w))) ≡ fails answers v w
    fails-by x h = ap not (asks x h) ∙ ap (λ (b : Bool). b && not (meets v (row_in w))) (sym yes)
