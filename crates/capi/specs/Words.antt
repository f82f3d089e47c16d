-- The slots of the caller's array: the records of an answer, each in two words of 64 bits.
use Rattle.std.specs.Prelude.{ℕ, cond, List, map, eqb, Result, Ok, Err}
use Rattle.engine.specs.Engine.{readings}
use Rattle.engine.specs.Words.{words_of}
use Rattle.records.specs.Sets.{list_of}
use Rattle.records.specs.declared.Records.{Records}
use Rattle.refusals.specs.Refusals.{passed}
use Rattle.refusals.specs.declared.Refusal.{Refusal}
use Rattle.strict.specs.Strict.{answer_by}
use Rattle.strict.specs.declared.Profile.{Profile}
use Rattle.strict.specs.declared.Profile.TheVariants.{Strict, Nested}
use Rattle.capi.specs.Buffers.{refusing, filling}
use Rattle.capi.specs.declared.Filled.{Filled}

-- those of the records that a set counts, in order
abbrev pub all_words : Records → List (List ℕ)
all_words s = map words_of (list_of s)

-- of a value, read by a profile; a refusal of the value comes before 11
unfoldable pub decoding : Profile → ℕ → List (List ℕ) → Filled × List (List ℕ)
decoding profile esr before =
    cond (passed (answer_by profile esr).refusal)
    (filling (all_words (answer_by profile esr).records) before)
    (refusing (answer_by profile esr).refusal before)

-- how C says that the core has nested virtualisation: by any number but 0
abbrev pub strict_of : ℕ → Profile
strict_of nested = cond (eqb nested 0) Strict Nested

-- what is done with a value that was judged: the engine's records of it, or the refusal
unfoldable pub judged_filling : Result Unit Refusal → ℕ → List (List ℕ) → Filled × List (List ℕ)
judged_filling (Ok u) esr before = filling (map words_of (readings esr)) before
judged_filling (Err f) esr before = refusing f before
