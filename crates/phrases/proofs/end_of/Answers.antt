-- By how long the sheet is: too short for a phrase, shorter than its length says, or not.
use Prim.Native.Nat.{ℕ, ◌+◌, ◌-◌, ◌≤◌}
use mathlib.Core.List.{List}
use mathlib.Core.Path.{◌≡◌, sym, ap, ◌∙◌}
use native.Mathlib.Omega.{arith}
use lib.ListN.{length, take, drop, length-drop}
use lib.Seq.{take_all}
use Rattle.phrases.specs.Sheets.{word_at}
use Rattle.phrases.proofs.end_of.Goals as goal

-- past the last byte the end does not matter
same-part : (s : List ℕ) (a b : ℕ) → length s ≤ 3 + a → length s ≤ 3 + b → take a (drop 3 s) ≡ take b (drop 3 s)
same-part s a b h g =
    take_all a (drop 3 s) (omega (arith, length-drop 3 s)) ∙ sym
    (take_all b (drop 3 s) (omega (arith, length-drop 3 s)))

pub returns-then-sheet-lt-FIRST : goal.returns-then-sheet-lt-FIRST
returns-then-sheet-lt-FIRST c =
    let s = c.args.sheet.now in (omega arith, same-part s (2 + word_at s 0 - 3) 0 (omega arith) (omega arith))

pub returns-then-sheet-said : goal.returns-then-sheet-said
returns-then-sheet-said c =
    let s = c.args.sheet.now in
    (omega arith, same-part s (2 + word_at s 0 - 3) (length s - 3) (omega (arith, c.word.ensures)) (omega arith))

pub returns : goal.returns
returns c =
    let s = c.args.sheet.now in
    (omega arith, ap (λ (n : ℕ). take (2 + n - 3) (drop 3 s)) (sym c.word.ensures))
