-- What the promise comes to: the answer is yes just where the words are equal, as a slice's own `==` decides it.
use Prim.Native.Nat.{ℕ}
use mathlib.Core.Bool.{true}
use mathlib.Core.List.{List}
use mathlib.Core.Path.{◌≡◌, refl, sym, ◌∙◌}
use lib.Pointwise.{bytes_decides}
use Rattle.words.specs.Words.{same}
use Rattle.words.proofs.Laws.{pointwise_same}

pub equal : (a b : List ℕ) → same a b ≡ true → a ≡ b
equal a b e = (bytes_decides a b).0 (pointwise_same a b ∙ e)

pub itself : (a : List ℕ) → same a a ≡ true
itself a = sym (pointwise_same a a) ∙ (bytes_decides a a).1 refl
