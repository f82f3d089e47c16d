-- Each field of the record is the row's, or what the callees promise; the text is that of the field's own value.
use mathlib.Core.Path.{◌≡◌, ap₂, ◌∙◌}
use Rattle.texts.specs.Pool.{text_code}
use Rattle.records.specs.Rows.{record_of, value_in}
use Rattle.records.specs.Subjects.{text_of}
use Rattle.engine.specs.Engine.{byte_of, row_in}
use Rattle.engine.proofs.Direct.{own-text}
use Rattle.engine.proofs.record_in.Goals as goal

pub returns : goal.returns
unfolding record_of row_in
returns c =
    let a = c.args in
    let text : c.text_code.result ≡ text_of (byte_of a.word 3) (value_in a.v (row_in a.word)) =
    c.text_code.ensures
    ∙ ap₂ text_code c.byte-2.ensures c.value_in-value.ensures
    ∙ own-text a.word c.requires (value_in a.v (row_in a.word)) in
    cc
