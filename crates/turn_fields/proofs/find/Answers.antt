-- By its name; else by the number that it is.
use mathlib.Core.List.{List}
use mathlib.Core.Path.{◌≡◌, refl, ap, ◌∙◌}
use Prim.Native.Nat.{ℕ}
use Rattle.turn_fields.specs.declared.Found.{Found}
use Rattle.turn_fields.specs.declared.Found.TheVariants.{Nowhere, Once, Several}
use Rattle.turn_fields.specs.Fields.{or_bit, place_of}
use Rattle.turn_fields.proofs.find.Goals as goal

named : (v : ℕ) (word : List ℕ) (found : Found) → (found ≡ Nowhere → ⊥) → found ≡ or_bit v word found
named v word Nowhere h = absurd (h refl)
named v word (Once i) h = refl
named v word (Several p) h = refl

pub returns-in-Nowhere : goal.returns-in-Nowhere
unfolding place_of
returns-in-Nowhere c = c.by_bit.ensures ∙ ap (or_bit c.args.esr c.args.word.now) c.in-Nowhere.ensures

pub returns-in_default : goal.returns-in_default
unfolding place_of
returns-in_default c =
    let a = c.args in
    named a.esr a.word.now c.seek.result c.in_default.not-Nowhere ∙ ap (or_bit a.esr a.word.now) c.seek.ensures
