-- A pool and its starts, as they are lent: whatever they hold, and the project's own.
use Rattle.std.specs.Prelude.{ℕ, ◌+◌, cond, List, [], ◌≡◌, leb, length, get_or, take, drop}
use Rattle.texts.specs.Pool.{length_in, pool, starts}

-- the text of a code: from its own start on, as long as the starts say; where that part does not lie in the pool, no text
unfoldable pub part_in : List ℕ → List ℕ → ℕ → List ℕ
part_in lent starting code =
    cond (leb (get_or starting code 0 + length_in starting code) (length lent)) (take (length_in starting code) (drop (get_or starting code 0) lent)) []

-- the project's own. No promise rests on this: the crates above say it of their own appenders
pub record Lent (bytes starting : List ℕ) : Type 0 where
  pub whole : bytes ≡ pool
  pub each : starting ≡ starts
