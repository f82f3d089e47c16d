-- The chain finds the first line feed among the bytes from the offset on.
use Prim.Native.Nat.{◌-◌}
use mathlib.Core.Path.{ap, ◌∙◌}
use lib.ListN.{length, take, drop}
use Rattle.std.proofs.lemmas.Iterator.{YieldsList-from_slice}
use Rattle.std.proofs.lemmas.Iterator.Search.{position_from_yields_List}
use borrow.Author.Rules.{rules}
use Rattle.line_reader.proofs.Laws.{end-first, feeds, rest-from}
use Rattle.line_reader.specs.Lines.{line_end}
use Rattle.line_reader.proofs.line_end.Goals as goal

pub returns : goal.returns
returns c =
    let s = c.args.s.now in
    let rest = take (length s - c.min.result) (drop c.min.result s) in
    end-first c.args.from rest
    (position_from_yields_List feeds _ _ _ c.position.ensures.ran (YieldsList-from_slice rest cc)
    (λ x b q k. search rules)) c.unwrap_or.ensures
    ∙ ap (line_end c.args.from) (rest-from s c.args.from c.min.ensures)
