-- By the answer of the one test, bit 24.
use mathlib.Core.Path.{◌∙◌}
use mathlib.Core.Bool.{true, false}
use mathlib.Core.List.{List, [], ◌∷◌}
use Prim.Native.Nat.{ℕ}
use Rattle.texts.specs.Names.{names}
use Rattle.texts.specs.Pool.{code, index_in}
use Rattle.tables.specs.Shape.{Test, bit}
use Rattle.records.specs.Kinds.{kind_of}
use Rattle.tables.specs.Tables.{software_step}
use Rattle.layouts.proofs.Laws.{layout-at, passes-bit}
use Rattle.layouts.proofs.breakpoint.decode_iss_software_step.Goals as goal

abbrev tests : List Test
tests = bit 24 ∷ []

pub returns-then-as_bit : goal.returns-then-as_bit
unfolding software_step code index_in names kind_of
returns-then-as_bit c =
    let v : ℕ = c.args.iss in
    c.laid.ensures ∙ layout-at software_step tests tt v (true ∷ []) (
      passes-bit v 24 _ true c.as_bit.ensures c.if-as_bit.true,
      tt,
    )

pub returns : goal.returns
unfolding software_step code index_in names kind_of
returns c =
    let v : ℕ = c.args.iss in
    c.laid-2.ensures ∙ layout-at software_step tests tt v (false ∷ []) (
      passes-bit v 24 _ false c.as_bit.ensures c.if-as_bit.false,
      tt,
    )
