-- A sheet written from its phrases, codes and texts; and what such a list has under a code.
use Rattle.std.specs.Prelude.{ℕ, ◌+◌, ◌/◌, ◌%◌, Bool, true, cond, ◌&&◌, List, [], ◌∷◌, ◌++◌, eqb, leb, length}
use Rattle.phrases.specs.Sheets.{Text, missing, found}

-- a two-byte number, big-endian
abbrev pub word_bytes : ℕ → List ℕ
word_bytes n = n / 256 ∷ n % 256 ∷ []

-- "each of a two-byte text code, a one-byte count and that many bytes"
abbrev pub phrase_bytes : ℕ × List ℕ → List ℕ
phrase_bytes (code, text) = word_bytes code ++ (length text ∷ text)

unfoldable pub phrases_bytes : List (ℕ × List ℕ) → List ℕ
phrases_bytes [] = []
phrases_bytes (p ∷ ps) = phrase_bytes p ++ phrases_bytes ps

-- "two bytes of length (bytes that follow), big-endian, one version byte 1, then phrases"
unfoldable pub sheet_bytes : List (ℕ × List ℕ) → List ℕ
sheet_bytes ps = word_bytes (1 + length (phrases_bytes ps)) ++ (1 ∷ phrases_bytes ps)

-- "codes strictly rising", from this one on
unfoldable pub rising : ℕ → List (ℕ × List ℕ) → Bool
rising least [] = true
rising least ((code, text) ∷ ps) = leb least code && rising (code + 1) ps

unfoldable pub look_up : ℕ → List (ℕ × List ℕ) → Text
look_up code [] = missing
look_up code ((c, text) ∷ ps) = cond (eqb c code) (found text) (look_up code ps)
