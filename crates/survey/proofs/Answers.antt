-- The three answers of a survey, by the tests that choose them.
use Prim.Native.Nat.{ℕ, ◌^◌, ◌≤◌, ◌<◌}
use mathlib.Core.Bool.{Bool, true, false, cond, not}
use mathlib.Core.List.{List}
use mathlib.Core.Path.{◌≡◌, refl}
use lib.Dec.{eqb, leb}
use lib.ListN.{length}
use borrow.Author.Tests.{eq-eqb, ne_eqb, le-leb, lt-leb}
use Rattle.std.specs.Prelude.{Result, Ok, Err}
use Rattle.refusals.specs.Refusals.{bare}
use Rattle.refusals.specs.declared.Refusal.{Refusal}
use Rattle.refusals.specs.declared.Reason.TheVariants.{BadTable, LongRun}
use Rattle.strict.specs.declared.Profile.{Profile}
use Rattle.survey.specs.Surveys.{class_counts, refused_counts, survey_of}
use Rattle.survey.specs.declared.Tally.{Tally}

module _ (profile : Profile) (values before : List ℕ) where
  abbrev answer : Bool → Bool → Result Tally Refusal × List ℕ
  answer places long =
      cond (not places) (Err (bare BadTable), before)
      (cond long (Err (bare LongRun), before) (Ok (record { refused = refused_counts profile values }), class_counts profile values))

  by_tests : (a b : Bool) → eqb (length before) 64 ≡ a → leb (2 ^ 32) (length values) ≡ b → survey_of profile values before ≡ answer a b
  unfolding survey_of
  by_tests a b e f = rw (e, f) refl

  pub bad_table : (length before ≡ 64 → ⊥) → survey_of profile values before ≡ (Err (bare BadTable), before)
  bad_table h = by_tests false (leb (2 ^ 32) (length values)) (ne_eqb (length before) 64 h) refl

  module _ (e : length before ≡ 64) where
    pub long_run : 2 ^ 32 ≤ length values → survey_of profile values before ≡ (Err (bare LongRun), before)
    long_run h = by_tests true true (eq-eqb (length before) 64 e) (le-leb (2 ^ 32) (length values) h)

    pub counted : length values < 2 ^ 32 → survey_of profile values before ≡ (Ok (record { refused = refused_counts profile values }), class_counts profile values)
    counted h = by_tests true false (eq-eqb (length before) 64 e) (lt-leb (2 ^ 32) (length values) h)
