-- What each public function promises. A promise takes what comes in, then what comes out.
use Rattle.std.specs.Prelude.{ℕ, ◌≡◌}
use Rattle.layouts.specs.Layouts.{layout_number}
use Rattle.esr.specs.Decode.{answer_of}
use Rattle.esr.specs.declared.Answer.{Answer}

abbrev pub Decoded : ℕ → Answer → Type 0
Decoded esr r = r ≡ answer_of esr

-- the number of the layout that serves a class, or the mark that none does
abbrev pub LayoutNumber : ℕ → ℕ → Type 0
LayoutNumber class r = r ≡ layout_number class
