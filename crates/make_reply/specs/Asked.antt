-- Why nothing was made, of what a value is asked for with: the texts of Reasons and Replies.
use Rattle.std.specs.Prelude.{ℕ, List, Option, length}
use Rattle.layouts.specs.Layouts.{layout_number}
use Rattle.make_reasons.specs.Reasons.{no_layout, too_wide}
use Rattle.make_reply.specs.Replies.{unmade}
use Rattle.make_reply.specs.declared.Asked.{Asked}
use Rattle.refusals.specs.declared.Refusal.{Refusal}

abbrev pub no_layout_of : Asked → List ℕ
no_layout_of a = no_layout a.class (layout_number a.class) (length a.leaves.now)

abbrev pub too_wide_of : Asked → ℕ → List ℕ
too_wide_of a iss = too_wide a.il a.iss2 (layout_number a.class) iss a.leaves.now

abbrev pub unmade_of : Asked → Refusal → Option ℕ → List ℕ
unmade_of a f k = unmade a.class a.il a.iss2 a.leaves.now f k
