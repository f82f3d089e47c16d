-- The text is that part of the pool which its two starts mark; where there is none, it is empty.
use mathlib.Core.Path.{sym, ap, ◌∙◌}
use mathlib.Core.List.{List}
use Prim.Native.Nat.{ℕ}
use native.Mathlib.Omega.{arith}
use borrow.Author.Rules.{rules}
use Rattle.buffer.proofs.Lent.{in_lent, lent-text, part_none, part-is}
use Rattle.turn_fields.proofs.Laws.{lent-within}
use Rattle.words.specs.Words.{same}
use Rattle.turn_fields.proofs.is_text.Goals as goal

pub returns-then-n-eq0 : goal.returns-then-n-eq0
returns-then-n-eq0 c =
    let n = c.length_in-n in
    let own = lent-text c.args.code (record { whole = c.pool_bytes.ensures; each = c.text_starts.ensures }) in
    c.is_word.ensures
    ∙ ap (λ (t : List ℕ). same t c.args.word.now)
    (sym (part_none _ _ c.args.code n.result n.ensures c.if-n-eq0.true) ∙ own)

pub bounds-starts-code : goal.bounds-starts-code
bounds-starts-code c =
    in_lent _ c.args.code c.length_in-n.result (omega (arith, c.if-n-eq0.false)) c.length_in-n.ensures

pub slice_bounds-is_word-end-2 : goal.slice_bounds-is_word-end-2
slice_bounds-is_word-end-2 c =
    let n = c.length_in-n in
    let within = lent-within c.args.code n.result
    (record { whole = c.pool_bytes.ensures; each = c.text_starts.ensures })
    n.ensures (omega (arith, c.if-n-eq0.false)) in
    search (rules, within)

pub returns : goal.returns
returns c =
    let n = c.length_in-n in
    let within = lent-within c.args.code n.result
    (record { whole = c.pool_bytes.ensures; each = c.text_starts.ensures })
    n.ensures (omega (arith, c.if-n-eq0.false)) in
    let own = lent-text c.args.code (record { whole = c.pool_bytes.ensures; each = c.text_starts.ensures }) in
    c.is_word-2.ensures
    ∙ ap (λ (t : List ℕ). same t c.args.word.now)
    (part-is _ _ c.args.code n.result n.ensures within ∙ own)
