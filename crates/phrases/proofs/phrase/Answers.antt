-- The judgement and then the sheet that has the code tell which part is handed back; it lies inside that sheet.
use Prim.Native.Nat.{◌+◌, ◌-◌}
use mathlib.Core.Path.{◌≡◌, sym, ◌∙◌}
use native.Mathlib.Omega.{arith}
use Rattle.entry.specs.Entries.{Part, lent}
use Rattle.phrases.specs.Sheets.{part_at, part_of, part_found, phrase_in}
use Rattle.phrases.specs.declared.Found.{Found}
use Rattle.phrases.proofs.Cases.{inside_workshop, inside_standard, sound_by, unsound-by}
use Rattle.phrases.proofs.phrase.Goals as goal

-- a part from one offset to another is one of so many bytes
part-is : (sheet : Part) (f : Found) → part_at sheet f.start (f.start + f.count - f.start) ≡ part_of sheet f
part-is sheet f = let e : f.start + f.count - f.start ≡ f.count = omega arith in rw e

pub returns-then-is_err : goal.returns-then-is_err
unfolding phrase_in
returns-then-is_err c = rw (unsound-by _ c.sheets_refusal.ensures c.is_err.ensures.value c.if-is_err.true)

pub returns-in_default : goal.returns-in_default
unfolding phrase_in part_found
returns-in_default c =
    rw (sound_by _ c.sheets_refusal.ensures c.is_err.ensures.value c.if-is_err.false, sym c.find.ensures ∙ c.in_default.is)

pub overflow_add-result : goal.overflow_add-result
overflow_add-result c =
    omega (arith, inside_workshop _ _ _ (sym c.find.ensures ∙ c.in-Some.is) c.in-Workshop.is)

pub slice_bounds-result-end-in-Workshop : goal.slice_bounds-result-end-in-Workshop
slice_bounds-result-end-in-Workshop c =
    omega (arith, inside_workshop _ _ _ (sym c.find.ensures ∙ c.in-Some.is) c.in-Workshop.is)

pub returns-in-Workshop : goal.returns-in-Workshop
unfolding phrase_in part_found
returns-in-Workshop c =
    let sound = sound_by _ c.sheets_refusal.ensures c.is_err.ensures.value c.if-is_err.false in
    rw (sound, sym c.find.ensures ∙ c.in-Some.is, c.in-Workshop.is) (part-is (lent c.args.workshop) c.in-Some.found)

pub overflow_add-result-in-Standard : goal.overflow_add-result-in-Standard
overflow_add-result-in-Standard c =
    omega (arith, inside_standard _ _ _ (sym c.find.ensures ∙ c.in-Some.is) c.in-Standard.is)

pub slice_bounds-result-end-in-Standard : goal.slice_bounds-result-end-in-Standard
slice_bounds-result-end-in-Standard c =
    omega (arith, inside_standard _ _ _ (sym c.find.ensures ∙ c.in-Some.is) c.in-Standard.is)

pub returns-in-Standard : goal.returns-in-Standard
unfolding phrase_in part_found
returns-in-Standard c =
    let sound = sound_by _ c.sheets_refusal.ensures c.is_err.ensures.value c.if-is_err.false in
    rw (sound, sym c.find.ensures ∙ c.in-Some.is, c.in-Standard.is) (part-is (lent c.args.standard) c.in-Some.found)
