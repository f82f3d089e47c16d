-- By the code and by what is found under it: nothing, or else four appenders.
use mathlib.Core.Bool.{true≢false}
use mathlib.Core.Path.{sym, ap, ◌∙◌}
use native.Mathlib.Omega.{arith}
use Rattle.std.specs.Prelude.{is_some}
use Rattle.buffer.proofs.Appending.{none, and_then}
use Rattle.buffer.specs.Lent.{part_in}
use Rattle.phrases.proofs.Cases.{found_inside}
use Rattle.texts.specs.Pool.{bytes}
use Rattle.display.specs.Sources.{texts_by, bytes_there}
use Rattle.display.proofs.Cases.{line-zero, line-missing, line-found}
use Rattle.display.proofs.Sources.{is_nothing, phrase_text, other-text}
use Rattle.display.proofs.put_text_line.Goals as goal
use Rattle.display.proofs.put_text_line.Goals.{else-is_none-via-then-is_none+else-not-words, else-is_none-via-else-is_none}
use Rattle.display.proofs.put_text_line.Goals.{in-Some, in-None}

pub returns-then-code-eq0 : goal.returns-then-code-eq0
returns-then-code-eq0 c =
    let a = c.args in
    rw (line-zero (texts_by a.words) a.index a.code c.if-code-eq0.true) (none (omega arith))

pub returns-then-not-words : goal.returns-then-not-words
returns-then-not-words c =
    let a = c.args in
    let w = a.words in
    let is = sym c.find-found.ensures ∙ is_nothing _ c.if-is_none.ensures in
    rw (line-missing (texts_by w) a.index a.code c.if-code-eq0.false
    (other-text w.own w.pool.now w.starts.now w.workshop.now w.standard.now a.code is ∙ rw c.if-not-words.true))
    (none (omega arith))

pub put_phrase-c-requires : goal.put_phrase-c-requires
put_phrase-c-requires c = found_inside _ _ _ (sym c.find-found.ensures ∙ c.in-Some.is)

pub returns : goal.returns
unfolding bytes
returns c =
    let a = c.args in
    let w = a.words in
    let found = c.find-found.ensures in
    elim c.match-found.branch [
      | in-Some m ↦
          rw (line-found (texts_by w) a.index a.code c.if-code-eq0.false
          (bytes_there w.workshop.now w.standard.now m.in-Some.phrase)
          (phrase_text w.own w.pool.now w.starts.now w.workshop.now w.standard.now a.code (sym found ∙ m.in-Some.is)))
          (and_then c.put_indent-a.ensures
          (and_then c.put_bytes-b.ensures
          (and_then m.put_phrase-c.ensures (rw (m.c-is, m.buf-is) at c.put_bytes.ensures))))
      | in-None m ↦ elim c.else-is_none.branch [
        | else-is_none-via-then-is_none+else-not-words v ↦
            rw (line-found (texts_by w) a.index a.code c.if-code-eq0.false (part_in w.pool.now w.starts.now a.code)
            (other-text w.own w.pool.now w.starts.now w.workshop.now w.standard.now a.code (sym found ∙ m.in-None.is)
            ∙ rw v.if-not-words.false))
            (and_then c.put_indent-a.ensures
            (and_then c.put_bytes-b.ensures
            (and_then m.put_text-c.ensures (rw (m.c-is, m.buf-is) at c.put_bytes.ensures))))
        | else-is_none-via-else-is_none v ↦
            absurd (true≢false (sym v.if-is_none.ensures ∙ ap is_some m.in-None.is))
      ]
    ]
