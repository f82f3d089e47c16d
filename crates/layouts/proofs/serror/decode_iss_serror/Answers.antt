-- By the answers of the three tests: bit 24, the status 0x11, bit 7.
-- Where an arm did not ask a test, its answer does not matter.
use mathlib.Core.Path.{refl, sym, ◌∙◌}
use mathlib.Core.Bool.{true, false}
use mathlib.Core.List.{List, [], ◌∷◌}
use Prim.Native.Nat.{ℕ}
use Rattle.texts.specs.Names.{names}
use Rattle.texts.specs.Pool.{code, index_in}
use Rattle.tables.specs.Shape.{Test, bit, is_status}
use Rattle.tables.specs.Applying.{passes}
use Rattle.records.specs.Kinds.{kind_of}
use Rattle.tables.specs.Tables.{serror}
use lib.Dec.{T}
use Rattle.tables.proofs.Laws.{knows_lines}
use Rattle.layouts.proofs.Laws.{layout-at, passes-one, fails-one, passes-bit}
use Rattle.layouts.proofs.serror.decode_iss_serror.Goals as goal

abbrev tests : List Test
tests = bit 24 ∷ is_status 0x11 ∷ bit 7 ∷ []

-- every condition of the table asks one of these tests: computed once, for all outcomes
knows : T (knows_lines tests serror.lines)
unfolding serror
knows = tt

pub returns-then-as_bit : goal.returns-then-as_bit
unfolding serror code index_in names kind_of
returns-then-as_bit c =
    let v : ℕ = c.args.iss in
    c.laid.ensures
    ∙ layout-at serror tests knows v (true ∷ passes v (is_status 0x11) ∷ passes v (bit 7) ∷ []) (
      passes-bit v 24 _ true c.as_bit.ensures c.if-as_bit.true,
      (
        refl,
        (refl, tt),
      ),
    )

pub returns-then-field-ne17 : goal.returns-then-field-ne17
unfolding serror code index_in names kind_of
returns-then-field-ne17 c =
    let v : ℕ = c.args.iss in
    c.laid-then-field-ne17.ensures
    ∙ layout-at serror tests knows v (false ∷ false ∷ passes v (bit 7) ∷ []) (
      passes-bit v 24 _ false c.as_bit.ensures c.if-as_bit.false,
      (
        fails-one v 0 6 0x11 (λ e. c.if-field-ne17.true (c.field.ensures ∙ e)),
        (refl, tt),
      ),
    )

pub returns-then-as_bit-2 : goal.returns-then-as_bit-2
unfolding serror code index_in names kind_of
returns-then-as_bit-2 c =
    let v : ℕ = c.args.iss in
    c.laid-then-as_bit-2.ensures
    ∙ layout-at serror tests knows v (false ∷ true ∷ true ∷ []) (
      passes-bit v 24 _ false c.as_bit.ensures c.if-as_bit.false,
      (
        passes-one v 0 6 0x11 (sym c.field.ensures ∙ c.if-field-ne17.false),
        (passes-bit v 7 _ true c.as_bit-2.ensures c.if-as_bit-2.true, tt),
      ),
    )

pub returns : goal.returns
unfolding serror code index_in names kind_of
returns c =
    let v : ℕ = c.args.iss in
    c.laid-2.ensures
    ∙ layout-at serror tests knows v (false ∷ true ∷ false ∷ []) (
      passes-bit v 24 _ false c.as_bit.ensures c.if-as_bit.false,
      (
        passes-one v 0 6 0x11 (sym c.field.ensures ∙ c.if-field-ne17.false),
        (passes-bit v 7 _ false c.as_bit-2.ensures c.if-as_bit-2.false, tt),
      ),
    )
