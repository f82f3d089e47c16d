-- An ISS for each outcome of the tests that 01's conditions name, and the index of an outcome.
use Rattle.std.specs.Prelude.{ℕ, ◌+◌, ◌*◌, ◌/◌, ◌%◌, Bool, cond, [], ◌∷◌, get_or}
use Rattle.promise.specs.Member.{member}
use Rattle.tables.specs.Shape.{Test, bit, is_status, is_external, externals}

-- so many outcomes: three bits, and a status that is none of these, 0x10, 0x11, or another that is external
abbrev pub sets : ℕ
sets = 32

abbrev pub status_at : ℕ → ℕ
status_at kind = get_or (0x00 ∷ 0x10 ∷ 0x11 ∷ 0x12 ∷ []) kind 0

unfoldable pub outcome_of : ℕ → ℕ
outcome_of k = k / 16 % 2 * 0x1000000 + k / 8 % 2 * 0x400 + k / 4 % 2 * 0x80 + status_at (k % 4)

-- the index of the outcome that has these answers
abbrev pub kind_by : Bool → Bool → Bool → ℕ
kind_by is_abort is_tag external = cond is_abort 1 (cond is_tag 2 (cond external 3 0))

abbrev pub index_by : Bool → Bool → Bool → ℕ → ℕ
index_by a b c kind = cond a 16 0 + cond b 8 0 + cond c 4 0 + kind

unfoldable pub index_of : (Test → Bool) → ℕ
index_of f = index_by (f (bit 24)) (f (bit 10)) (f (bit 7)) (kind_by (f (is_status 0x10)) (f (is_status 0x11)) (f is_external))

-- the same where these numbers stand at the bits of the tests
unfoldable pub kind_of : ℕ → ℕ
kind_of status = kind_by (member status (0x10 ∷ [])) (member status (0x11 ∷ [])) (member status externals)

unfoldable pub index_at : ℕ → ℕ → ℕ → ℕ → ℕ
index_at a b c status = index_by (member a (1 ∷ [])) (member b (1 ∷ [])) (member c (1 ∷ [])) (kind_of status)
