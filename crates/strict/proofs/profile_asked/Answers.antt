-- What the comparisons of the words say is what the option asks for.
use mathlib.Core.Bool.{Bool, cond}
use mathlib.Core.Path.{sym, ap, ap₂, ◌∙◌}
use Rattle.texts.specs.Pool.{bytes}
use Rattle.words.specs.Words.{same}
use Rattle.strict.specs.declared.Profile.{Profile}
use Rattle.strict.specs.declared.Profile.TheVariants.{Ordinary, Strict, Nested}
use Rattle.strict.proofs.profile_asked.Goals as goal

abbrev by : Bool → Bool → Profile
by strict nested = cond strict Strict (cond nested Nested Ordinary)

pub returns-then-is_word : goal.returns-then-is_word
unfolding bytes
returns-then-is_word c =
    ap (λ (b : Bool). by b (same c.args.option.now (bytes "--nested"))) (sym c.if-is_word.true ∙ c.is_word.ensures)

pub returns-then-is_word-2 : goal.returns-then-is_word-2
unfolding bytes
returns-then-is_word-2 c =
    ap₂ by (sym c.if-is_word.false ∙ c.is_word.ensures) (sym c.if-is_word-2.true ∙ c.is_word-2.ensures)

pub returns : goal.returns
unfolding bytes
returns c =
    ap₂ by (sym c.if-is_word.false ∙ c.is_word.ensures) (sym c.if-is_word-2.false ∙ c.is_word-2.ensures)
