-- The sums are within 64 bits, field by field, and add up to the same word in either order.
use mathlib.Core.Path.{◌≡◌, ap₂, ◌∙◌}
use mathlib.Core.List.{[], ◌∷◌}
use Prim.Native.Nat.{ℕ}
use native.Mathlib.Omega.{arith}
use Rattle.records.specs.Rows.{record_of, value_in}
use Rattle.records.specs.Subjects.{text_of}
use Rattle.texts.specs.Pool.{text_code}
use Rattle.engine.specs.Engine.{byte_of, row_in}
use Rattle.engine.specs.Words.{words_of}
use Rattle.engine.proofs.Direct.{own-text, marked-number}
use Rattle.engine.proofs.slots.slot.Goals as goal

pub returns : goal.returns
unfolding words_of record_of row_in
returns c =
    let a = c.args in
    let text : c.text_code-text.result ≡ text_of (byte_of a.word 3) (value_in a.v (row_in a.word)) =
    c.text_code-text.ensures.0
    ∙ ap₂ text_code c.byte.ensures c.value_in-value.ensures
    ∙ own-text a.word c.requires (value_in a.v (row_in a.word)) in
    ap₂ (λ (x y : ℕ). x ∷ (y ∷ [])) c.value_in-value.ensures (omega (arith, marked-number (byte_of a.word 7)))
