-- By the answers of the two tests: external, and the status 0x10.
-- Where an arm did not ask a test, its answer does not matter.
use mathlib.Core.Path.{sym, ◌∙◌}
use mathlib.Core.Bool.{true, false}
use mathlib.Core.List.{List, [], ◌∷◌}
use Prim.Native.Nat.{ℕ}
use Rattle.texts.specs.Names.{names}
use Rattle.texts.specs.Pool.{code, index_in}
use Rattle.tables.specs.Shape.{Test, is_status, is_external}
use Rattle.records.specs.Kinds.{kind_of}
use Rattle.tables.specs.Tables.{instruction_abort}
use lib.Dec.{T}
use Rattle.tables.proofs.Laws.{knows_lines}
use Rattle.layouts.proofs.Laws.{layout-at, passes-one, fails-one, fails-status, passes-external}
use Rattle.layouts.proofs.abort.decode_iss_instruction_abort.Goals as goal

abbrev tests : List Test
tests = is_external ∷ is_status 0x10 ∷ []

-- every condition of the table asks one of these tests: computed once, for all outcomes
knows : T (knows_lines tests instruction_abort.lines)
unfolding instruction_abort
knows = tt

pub returns-then-not-is_external_abort_fsc : goal.returns-then-not-is_external_abort_fsc
unfolding instruction_abort code index_in names kind_of
returns-then-not-is_external_abort_fsc c =
    let v : ℕ = c.args.iss in
    c.laid.ensures
    ∙ layout-at instruction_abort tests knows v (false ∷ false ∷ []) (
      passes-external v _ false c.field-status.ensures
          (sym c.if-not-is_external_abort_fsc.true ∙ c.is_external_abort_fsc.ensures),
      (
        fails-status v _ c.field-status.ensures
            (sym c.if-not-is_external_abort_fsc.true ∙ c.is_external_abort_fsc.ensures),
        tt,
      ),
    )

pub returns-then-status-ne16 : goal.returns-then-status-ne16
unfolding instruction_abort code index_in names kind_of
returns-then-status-ne16 c =
    let v : ℕ = c.args.iss in
    c.laid-then-status-ne16.ensures
    ∙ layout-at instruction_abort tests knows v (true ∷ false ∷ []) (
      passes-external v _ true c.field-status.ensures
          (sym c.if-not-is_external_abort_fsc.false ∙ c.is_external_abort_fsc.ensures),
      (fails-one v 0 6 0x10 (λ e. c.if-status-ne16.true (c.field-status.ensures ∙ e)), tt),
    )

pub returns : goal.returns
unfolding instruction_abort code index_in names kind_of
returns c =
    let v : ℕ = c.args.iss in
    c.laid-2.ensures
    ∙ layout-at instruction_abort tests knows v (true ∷ true ∷ []) (
      passes-external v _ true c.field-status.ensures
          (sym c.if-not-is_external_abort_fsc.false ∙ c.is_external_abort_fsc.ensures),
      (passes-one v 0 6 0x10 (sym c.field-status.ensures ∙ c.if-status-ne16.false), tt),
    )
