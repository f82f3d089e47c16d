-- By the answers of the four tests: bit 24, external, the status 0x10, bit 10.
-- Where an arm did not ask a test, its answer does not matter.
use mathlib.Core.Path.{◌≡◌, refl, sym, ◌∙◌}
use mathlib.Core.Bool.{true, false}
use mathlib.Core.List.{List, [], ◌∷◌}
use Prim.Native.Nat.{ℕ}
use Rattle.texts.specs.Names.{names}
use Rattle.texts.specs.Pool.{code, index_in}
use Rattle.tables.specs.Shape.{Test, bit, is_status, is_external}
use Rattle.tables.specs.Applying.{passes}
use Rattle.records.specs.Bits.{field_of}
use Rattle.records.specs.Kinds.{kind_of}
use Rattle.tables.specs.Tables.{data_abort}
use lib.Dec.{T}
use Rattle.tables.proofs.Laws.{knows_lines}
use Rattle.layouts.proofs.Laws.{layout-at, passes-one, fails-one, fails-status, passes-bit, passes-external}
use Rattle.layouts.proofs.abort.decode_iss_data_abort.Goals as goal
use Rattle.layouts.proofs.abort.decode_iss_data_abort.Goals.{then-as_bit-2, else-as_bit-2}

abbrev tests : List Test
tests = bit 24 ∷ is_external ∷ is_status 0x10 ∷ bit 10 ∷ []

-- every condition of the table asks one of these tests: computed once, for all outcomes
knows : T (knows_lines tests data_abort.lines)
unfolding data_abort
knows = tt

pub returns-then-status-ne16 : goal.returns-then-status-ne16
unfolding data_abort code index_in names kind_of
returns-then-status-ne16 c =
    let v : ℕ = c.args.iss in
    c.laid.ensures
    ∙ layout-at data_abort tests knows v (true ∷ passes v is_external ∷ false ∷ passes v (bit 10) ∷ []) (
      passes-bit v 24 _ true c.as_bit.ensures c.if-as_bit.true,
      (
        refl,
        (
          fails-one v 0 6 0x10 (λ e. c.if-status-ne16.true (c.field-status.ensures ∙ e)),
          (refl, tt),
        ),
      ),
    )

pub returns-then-as_bit : goal.returns-then-as_bit
unfolding data_abort code index_in names kind_of
returns-then-as_bit c =
    let v : ℕ = c.args.iss in
    c.laid-then-as_bit.ensures
    ∙ layout-at data_abort tests knows v (true ∷ true ∷ true ∷ passes v (bit 10) ∷ []) (
      passes-bit v 24 _ true c.as_bit.ensures c.if-as_bit.true,
      (
        passes-external v 0x10 true (sym c.if-status-ne16.false ∙ c.field-status.ensures) refl,
        (
          passes-one v 0 6 0x10 (sym c.field-status.ensures ∙ c.if-status-ne16.false),
          (refl, tt),
        ),
      ),
    )

pub returns-then-not-is_external_abort_fsc : goal.returns-then-not-is_external_abort_fsc
unfolding data_abort code index_in names kind_of
returns-then-not-is_external_abort_fsc c =
    let v : ℕ = c.args.iss in
    c.laid-then-not-is_external_abort_fsc.ensures
    ∙ layout-at data_abort tests knows v (false ∷ false ∷ false ∷ passes v (bit 10) ∷ []) (
      passes-bit v 24 _ false c.as_bit.ensures c.if-as_bit.false,
      (
        passes-external v _ false c.field-status.ensures
            (sym c.if-not-is_external_abort_fsc.true ∙ c.is_external_abort_fsc.ensures),
        (
          fails-status v _ c.field-status.ensures
              (sym c.if-not-is_external_abort_fsc.true ∙ c.is_external_abort_fsc.ensures),
          (refl, tt),
        ),
      ),
    )

pub returns-then-status-ne16-2 : goal.returns-then-status-ne16-2
unfolding data_abort code index_in names kind_of
returns-then-status-ne16-2 c =
    let v : ℕ = c.args.iss in
    c.laid-then-status-ne16-2.ensures
    ∙ layout-at data_abort tests knows v (false ∷ true ∷ false ∷ passes v (bit 10) ∷ []) (
      passes-bit v 24 _ false c.as_bit.ensures c.if-as_bit.false,
      (
        passes-external v _ true c.field-status.ensures
            (sym c.if-not-is_external_abort_fsc.false ∙ c.is_external_abort_fsc.ensures),
        (
          fails-one v 0 6 0x10 (λ e. c.if-status-ne16-2.true (c.field-status.ensures ∙ e)),
          (refl, tt),
        ),
      ),
    )

pub returns : goal.returns
unfolding data_abort code index_in names kind_of
returns c =
    let v : ℕ = c.args.iss in
    let isv : passes v (bit 24) ≡ false = passes-bit v 24 _ false c.as_bit.ensures c.if-as_bit.false in
    let is : 0x10 ≡ field_of v 0 6 = sym c.if-status-ne16-2.false ∙ c.field-status.ensures in
    let ext : passes v is_external ≡ true = passes-external v 0x10 true is refl in
    let set : passes v (is_status 0x10) ≡ true = passes-one v 0 6 0x10 (sym is) in
    c.laid-2.ensures
    ∙ elim c.if-as_bit-2.branch [
      | then-as_bit-2 w ↦
          let fnv : passes v (bit 10) ≡ true = passes-bit v 10 _ true c.as_bit-2.ensures w.if-as_bit-2.true in
          rw w.rows-is (
          layout-at data_abort tests knows v (false ∷ true ∷ true ∷ true ∷ []) (isv, (ext, (set, (fnv, tt))))
          )
      | else-as_bit-2 w ↦
          let fnv : passes v (bit 10) ≡ false = passes-bit v 10 _ false c.as_bit-2.ensures w.if-as_bit-2.false in
          rw w.rows-is (
          layout-at data_abort tests knows v (false ∷ true ∷ true ∷ false ∷ []) (isv, (ext, (set, (fnv, tt))))
          )
    ]
