-- What the public function promises: what esr_decode does.
use Rattle.std.specs.Prelude.{ℕ, List, ◌≡◌}
use Rattle.capi.specs.Words.{decoding}
use Rattle.capi.specs.declared.Filled.{Filled}
use Rattle.strict.specs.declared.Profile.TheVariants.{Ordinary}

abbrev pub FilledByLayouts : ℕ × List (List ℕ) → Filled × List (List ℕ) → Type 0
FilledByLayouts (esr, before) r = r ≡ decoding Ordinary esr before
