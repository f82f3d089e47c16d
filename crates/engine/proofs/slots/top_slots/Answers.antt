-- The five slots are written one after the other.
use mathlib.Core.Path.{◌≡◌, refl, ap, ap₂, ◌∙◌}
use mathlib.Core.List.{List, [], ◌∷◌}
use Prim.Native.Nat.{ℕ}
use lib.Seq.{sets}
use Rattle.records.specs.Bits.{field_of}
use Rattle.tables.specs.Tables.{top_rows}
use Rattle.engine.specs.Words.{slot_of}
use Rattle.engine.proofs.Filling.{RES0, ISS2, EC, IL}
use Rattle.engine.proofs.slots.top_slots.Goals as goal

cons : {x y : List ℕ} {xs ys : List (List ℕ)} → x ≡ y → xs ≡ ys → (x ∷ xs) ≡ (y ∷ ys)
cons e f = ap₂ ◌∷◌ e f

pub slot-requires : goal.slot-requires
unfolding field_of
slot-requires c = tt

pub slot-requires-2 : goal.slot-requires-2
unfolding field_of
slot-requires-2 c = tt

pub slot-requires-3 : goal.slot-requires-3
unfolding field_of
slot-requires-3 c = tt

pub slot-requires-4 : goal.slot-requires-4
unfolding field_of
slot-requires-4 c = tt

pub returns : goal.returns
unfolding top_rows
returns c =
    let a = c.args in
    let to = slot_of a.esr in
    ap (sets a.slots.now 0)
    (cons (c.slot.ensures ∙ ap to RES0)
    (cons (c.slot-2.ensures ∙ ap to ISS2)
    (cons (c.slot-3.ensures ∙ ap to EC)
    (cons (c.slot-4.ensures ∙ ap to IL) (cons {xs = []} {ys = []} c.iss_slot.ensures refl)))))
