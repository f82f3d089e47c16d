-- The texts that a test tells apart, by what was found.
use mathlib.Core.Path.{◌≡◌}
use mathlib.Core.List.{◌++◌}
use Prim.Native.Nat.{ℕ, ◌≤◌, ◌<◌}
use borrow.Author.Tests.{lt-ltb, le-ltb, eq-eqb, ne_eqb}
use Rattle.record_lines.specs.Lines.{depth_at, text_part}
use Rattle.texts.specs.Pool.{bytes, bytes_at}

pub depth_top : (index : ℕ) → index < 5 → depth_at index ≡ bytes "0"
unfolding depth_at
depth_top index h = rw (lt-ltb index 5 h)

pub depth_own : (index : ℕ) → 5 ≤ index → depth_at index ≡ bytes "1"
unfolding depth_at
depth_own index h = rw (le-ltb index 5 h)

pub part_none : (code : ℕ) → code ≡ 0 → text_part code ≡ bytes "|" ++ bytes "-"
unfolding text_part
part_none code e = rw (eq-eqb code 0 e)

pub part-text : (code : ℕ) → (code ≡ 0 → ⊥) → text_part code ≡ bytes "|" ++ bytes_at code
unfolding text_part
part-text code h = rw (ne_eqb code 0 h)
