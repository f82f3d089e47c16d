-- A plain ISS is the packed row; any other is made by its row.
use mathlib.Core.Path.{sym, ap, ◌∙◌}
use Prim.Native.Nat.{ℕ}
use Rattle.texts.specs.Names.{names}
use Rattle.texts.specs.Pool.{code, index_in}
use Rattle.records.specs.Bits.{field_of}
use Rattle.records.specs.Rows.{record_of}
use Rattle.tables.specs.Tables.{iss_under}
use Rattle.engine.proofs.Filling.{ISS}
use Rattle.engine.proofs.iss_record.Goals as goal

pub record_in-requires : goal.record_in-requires
unfolding field_of
record_in-requires c = tt

pub returns-then-rule-eq-PLAIN : goal.returns-then-rule-eq-PLAIN
returns-then-rule-eq-PLAIN c =
    let a = c.args in
    c.record_in.ensures
    ∙ ap (record_of a.esr) ISS
    ∙ ap (λ (n : ℕ). record_of a.esr (iss_under n)) (sym c.if-rule-eq-PLAIN.true)

pub returns : goal.returns
unfolding code index_in names
returns c = c.get.ensures
