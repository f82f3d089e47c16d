-- By the pool's own starts the length is the text's.
use mathlib.Core.Path.{ap, ◌∙◌}
use Rattle.texts.specs.Pool.{length_in}
use Rattle.texts.proofs.Laws.{length_at}
use Rattle.lookup.proofs.length_of.Goals as goal

pub returns : goal.returns
returns c =
    c.length_in.ensures
    ∙ ap (λ l. length_in l c.args.code) c.text_starts-starts.ensures
    ∙ length_at c.args.code
