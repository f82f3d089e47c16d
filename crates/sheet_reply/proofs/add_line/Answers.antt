-- Past the `?` the line was taken, and its phrase is put.
use Prim.Native.Nat.{◌+◌}
use mathlib.Core.Path.{◌≡◌, ap, ◌∙◌}
use Rattle.sheet_lines.specs.Lines.{taken_of}
use Rattle.sheet_lines.specs.declared.Fault.{Fault}
use Rattle.sheet_lines.specs.declared.Taken.{Taken}
use Rattle.std.specs.Prelude.{Result, Ok}
use Rattle.sheet_reply.proofs.Laws.{taken-sound, added}
use Rattle.sheet_reply.specs.Replies.{adds, added_of}
use Rattle.sheet_reply.proofs.add_line.Goals as goal

pub put_phrase-next-requires : goal.put_phrase-next-requires
put_phrase-next-requires c =
    let a = c.args in
    let is : Ok c.in_ok-taken.taken ≡ taken_of a.line.now a.least = c.in_ok-taken.ensures in
    taken-sound a.line.now a.least is

pub returns : goal.returns
returns c =
    let a = c.args in
    let is : Ok c.in_ok-taken.taken ≡ taken_of a.line.now a.least = c.in_ok-taken.ensures in
    rw c.from.ensures
    (added (c.in_ok-taken.taken.code + 1) c.put_phrase-next.ensures
    ∙ ap (λ (r : Result Taken Fault). added_of (adds a.line.now r) (a.at, a.buf.now)) is)
