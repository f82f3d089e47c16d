-- The invariant: the bytes so far stand in the buffer, one run of stores. It ends where the bytes do, or the buffer.
use mathlib.Core.Path.{◌≡◌, refl, ap, ap₂, ◌∙◌}
use mathlib.Core.List.{List}
use Prim.Native.Nat.{ℕ, ◌<◌, min}
use lib.ListN.{length, take, length-set}
use lib.Seq.{sets}
use native.Mathlib.Omega.{arith}
use Rattle.std.proofs.lemmas.List.{take_min}
use Rattle.buffer.specs.Appending.{room, appended}
use Rattle.buffer.proofs.Appending.{offset-is}
use Rattle.buffer.proofs.Writing.{turn}
use Rattle.buffer.proofs.put_bytes.Goals as goal

-- as many as there are, at most
taken : (s : List ℕ) (count room : ℕ) → count ≡ min (length s) room → take count s ≡ take room s
taken s count room e = ap (λ (k : ℕ). take k s) (omega arith) ∙ take_min room s

pub loop-j-init : goal.loop-j-init
loop-j-init c = (refl, refl)

pub loop-j-preserved : goal.loop-j-preserved
loop-j-preserved c =
    let a = c.args in
    let j = c.loop-j.j in
    let h : j < length a.src.now = omega arith in
    (cc (turn a.buf.now a.at a.src.now j h), simp length-set c.loop-j.invariant.1)

pub returns : goal.returns
unfolding appended
returns c =
    let a = c.args in
    let l = c.loop-j in
    let count : ℕ = c.min-count.result in
    let room-is : room a.buf.now a.at ≡ c.saturating_sub.result =
    omega (arith, offset-is (length a.buf.now) (omega arith)) in
    let same : take count a.src.now ≡ take (room a.buf.now a.at) a.src.now = taken a.src.now count _ (omega arith) in
    let e : l.j ≡ count = omega arith in
    record {
      is =
          ap₂ (λ (n : ℕ) (m : List ℕ). (n, m)) c.offset_after.ensures
          (l.invariant.0 ∙ ap (λ (k : ℕ). sets a.buf.now a.at (take k a.src.now)) e
          ∙ ap (sets a.buf.now a.at) same);
    }
