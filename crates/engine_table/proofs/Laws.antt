-- Past the last row there is none, and no layout serves a class of more than six bits.
use mathlib.Core.Path.{◌≡◌, refl, sym}
use mathlib.Core.Bool.{Bool, true, false, cond}
use mathlib.Core.List.{List, [], ◌∷◌}
use Prim.Native.Nat.{ℕ, ◌+◌, ◌≤◌}
use native.Mathlib.Omega.{arith}
use lib.Dec.{T, ltb, ltb→lt}
use lib.ListN.{length, get_or-eq_default}
use Rattle.promise.specs.Member.{member}
use Rattle.promise.proofs.Tests.{every, every_mem, both_left, both_right, of-member, is_true}
use Rattle.tables.specs.Tables.{Served, layouts, res0, wf, mcr, mcrr, ldc, sve, ld64b, bti, pauth, hvc, brk, fp, breakpoint, software_step, watchpoint, instruction_abort, data_abort, serror, msr}
use Rattle.engine_table.specs.Packed.{row_words, row_word, nowhere, placed, place_in, place_of}

row_count : length row_words ≡ 133
unfolding row_words layouts res0 wf mcr mcrr ldc sve ld64b bti pauth hvc brk fp breakpoint software_step watchpoint instruction_abort data_abort serror msr
row_count = refl

pub past-last : (i : ℕ) → length row_words ≤ i → 0 ≡ row_word i
unfolding row_word
past-last i h = sym (get_or-eq_default row_words 0 h)

pub past-rows : (i : ℕ) → 133 ≤ i → 0 ≡ row_word i
past-rows i h = past-last i (omega (arith, row_count))

-- no layout serves a class of more than six bits
abbrev six_bits : ℕ → Served → Bool
six_bits i s = every (λ j c. ltb c 64) 0 s.classes

six_bits_lem : T (every six_bits 0 layouts)
unfolding layouts
six_bits_lem = tt

unserved : (n i c : ℕ) (ss : List Served) → T (every six_bits i ss) → 64 ≤ c → place_in n ss c ≡ nowhere
unserved n i c [] t h = refl
unserved n i c (s ∷ ss) t h =
    by (member c s.classes) refl (unserved (n + length s.table.lines) _ c ss (both_right (six_bits i s) _ t) h)
  where
    by : (b : Bool) → member c s.classes ≡ b → place_in (n + length s.table.lines) ss c ≡ nowhere
        → cond b (placed n s.table) (place_in (n + length s.table.lines) ss c) ≡ nowhere
    by true e rest =
        let u : _ = every_mem (λ j c. ltb c 64) c 0 s.classes (both_left (six_bits i s) _ t) (of-member c s.classes (is_true e)) in
        absurd (omega (arith, ltb→lt c 64 u.1))
    by false e rest = rest

pub past-place : (c : ℕ) → 64 ≤ c → place_of c ≡ nowhere
unfolding place_of
past-place c h = unserved 0 0 c layouts six_bits_lem h
