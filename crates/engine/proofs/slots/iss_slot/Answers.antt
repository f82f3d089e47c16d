-- A plain ISS is the packed row; any other is its record in words.
use mathlib.Core.Path.{sym, ap, ◌∙◌}
use Prim.Native.Nat.{ℕ}
use Rattle.records.specs.Bits.{field_of}
use Rattle.tables.specs.Tables.{iss_under}
use Rattle.engine.specs.Words.{slot_of, words_of}
use Rattle.engine.proofs.Filling.{ISS}
use Rattle.engine.proofs.slots.iss_slot.Goals as goal

pub slot-requires : goal.slot-requires
unfolding field_of
slot-requires c = tt

pub returns-then-rule-eq-PLAIN : goal.returns-then-rule-eq-PLAIN
returns-then-rule-eq-PLAIN c =
    let a = c.args in
    c.slot.ensures ∙ ap (slot_of a.esr) ISS ∙ ap (λ (n : ℕ). slot_of a.esr (iss_under n)) (sym c.if-rule-eq-PLAIN.true)

pub returns : goal.returns
returns c = c.words.ensures ∙ ap words_of c.iss_record.ensures
