-- What the public function promises. A promise takes what comes in, with what a lent run holds at entry, then what comes
-- out, with what it holds at exit.
use Rattle.std.specs.Prelude.{◌≡◌, ℕ, List, Result}
use Rattle.refusals.specs.declared.Refusal.{Refusal}
use Rattle.strict.specs.declared.Profile.{Profile}
use Rattle.walk.specs.Walks.{walking}
use Rattle.walk.specs.declared.Walked.{Walked}

-- of any block and any run, its values read by a profile
abbrev pub BlockWalked : Profile × List ℕ × List ℕ → Result Walked Refusal × List ℕ → Type 0
BlockWalked (profile, block, before) out = out ≡ walking profile block before
