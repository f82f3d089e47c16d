-- Counts added to totals, each to its place: a sum of 64 bits, or the total stays and the answer is no.
use Rattle.std.specs.Prelude.{ℕ, ◌+◌, ◌^◌, Bool, true, false, cond, ◌&&◌, List, [], ◌∷◌, ltb, length, get_or, set}
use Rattle.survey_reply.specs.Replies.{classes, no_number}

unfoldable pub add_count : List ℕ → ℕ → ℕ → Bool × List ℕ
add_count totals place count =
    cond (ltb place (length totals) && ltb (get_or totals place 0 + count) (2 ^ 64)) (true, set totals place (get_or totals place 0 + count)) (false, totals)

-- counts from a place on, whether all were added
unfoldable pub add_each : List ℕ → ℕ → List ℕ → Bool × List ℕ
add_each totals place [] = (true, totals)
add_each totals place (c ∷ cs) =
    ((add_count totals place c).0 && (add_each (add_count totals place c).1 (place + 1) cs).0, (add_each (add_count totals place c).1 (place + 1) cs).1)

-- what a survey counted in a run of lines: of each class, of each refusal, and the lines that held no number
unfoldable pub add_run : List ℕ → List ℕ → List ℕ → ℕ → Bool × List ℕ
add_run totals counts refused none =
    let a = add_each totals 0 counts in
    let b = add_each a.1 classes refused in
    let c = add_count b.1 no_number none in
    (a.0 && b.0 && c.0, c.1)
