-- What each public function promises. A promise takes what comes in, then what comes out.
use Rattle.std.specs.Prelude.{ℕ, Bool, List, ◌≡◌}
use Rattle.esr.specs.declared.Answer.{Answer}
use Rattle.strict.specs.Strict.{answer_by, profile_asked, strict_answer_of}
use Rattle.strict.specs.declared.Profile.{Profile}

abbrev pub DecodedStrictly : ℕ × Bool → Answer → Type 0
DecodedStrictly (esr, nested) r = r ≡ strict_answer_of nested esr

abbrev pub DecodedBy : Profile × ℕ → Answer → Type 0
DecodedBy (profile, esr) r = r ≡ answer_by profile esr

abbrev pub ProfileAsked : List ℕ → Profile → Type 0
ProfileAsked option r = r ≡ profile_asked option
