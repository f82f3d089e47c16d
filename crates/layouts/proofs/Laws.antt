-- The layout of a table at known answers of its tests, and those answers from what the code finds.
use mathlib.Core.Path.{◌≡◌, refl, sym, ap, ap₂, ◌∙◌}
use mathlib.Core.Bool.{Bool, true, false, cond, true≢false}
use mathlib.Core.List.{List, [], ◌∷◌, map}
use Prim.Native.Nat.{ℕ}
use lib.Dec.{T, eqb}
use borrow.Author.Tests.{eq-eqb, ne_eqb, eqb-true, eqb-false}
use Rattle.promise.specs.Member.{member}
use Rattle.records.specs.Bits.{field_of}
use Rattle.records.specs.declared.Row.{Row}
use Rattle.tables.specs.Shape.{Test, Table, bit, is_status, is_external, externals}
use Rattle.tables.specs.Applying.{passes, keep, rows_for}
use Rattle.layouts.specs.Layouts.{indices_of, laid, layout_for}
use Rattle.layouts.specs.declared.Layout.{Layout}
use Rattle.tables.proofs.Laws.{given, knows_lines, keep-is}

-- the answers of tests at a value
abbrev pub Answers : ℕ → List Test → List Bool → Type 0
Answers v [] [] = Unit {0}
Answers v [] (b ∷ bs) = ⊥
Answers v (t ∷ ts) [] = ⊥
Answers v (t ∷ ts) (b ∷ bs) = (passes v t ≡ b) × Answers v ts bs

answers : (v : ℕ) (ts : List Test) (bs : List Bool) → Answers v ts bs → map (passes v) ts ≡ bs
answers v [] [] a = refl
answers v [] (b ∷ bs) a = absurd a
answers v (t ∷ ts) [] a = absurd a
answers v (t ∷ ts) (b ∷ bs) a = ap₂ ◌∷◌ a.0 (answers v ts bs a.1)

-- the layout at known answers of the tests
abbrev pub laid_by : Table → List Row → Layout
laid_by t rows = laid rows (indices_of rows t.order) t.iss_rule

pub layout-at : (t : Table) (ts : List Test) → T (knows_lines ts t.lines) → (v : ℕ) (bs : List Bool) → Answers v ts bs
    → laid_by t (keep (given ts bs) t.lines) ≡ layout_for t v
unfolding layout_for rows_for
layout-at t ts k v bs a =
    ap (λ (cs : List Bool). laid_by t (keep (given ts cs) t.lines)) (sym (answers v ts bs a))
    ∙ ap (laid_by t) (keep-is (passes v) ts t.lines k)

-- The tests of 01's conditions, from what the code finds.

module _ (v s w n : ℕ) where
  pub passes-one : field_of v s w ≡ n → passes v (record { start = s; width = w; among = n ∷ [] }) ≡ true
  unfolding passes
  passes-one e = ap (λ (b : Bool). cond b true false) (eq-eqb (field_of v s w) n e)

  pub fails-one : (field_of v s w ≡ n → ⊥) → passes v (record { start = s; width = w; among = n ∷ [] }) ≡ false
  unfolding passes
  fails-one h = ap (λ (b : Bool). cond b true false) (ne_eqb (field_of v s w) n h)

-- a bit, as as_bit gives it
pub passes-bit : (v position : ℕ) (b t : Bool) → b ≡ eqb (field_of v position 1) 1 → b ≡ t → passes v (bit position) ≡ t
passes-bit v position b true e h = passes-one v position 1 1 (eqb-true (field_of v position 1) 1 (sym e ∙ h))
passes-bit v position b false e h = fails-one v position 1 1 (eqb-false (field_of v position 1) 1 (sym e ∙ h))

pub passes-external : (v x : ℕ) (b : Bool) → x ≡ field_of v 0 6 → b ≡ member x externals → passes v is_external ≡ b
unfolding passes
passes-external v x b e h = sym (h ∙ ap (λ (y : ℕ). member y externals) e)

-- a status that is not external is not 0x10
pub fails-status : (v x : ℕ) → x ≡ field_of v 0 6 → false ≡ member x externals → passes v (is_status 0x10) ≡ false
fails-status v x e h =
    fails-one v 0 6 0x10 (λ is. true≢false (sym (h ∙ ap (λ (y : ℕ). member y externals) (e ∙ is))))
