-- Each promise of this crate decides its answer and the buffer: it says what both are.
use mathlib.Core.Path.{◌≡◌, ap₂}
use mathlib.Core.List.{List}
use Prim.Native.Nat.{ℕ}
use Rattle.std.specs.Prelude.{Result}
use Rattle.promise.proofs.Laws.{same}
use Rattle.promise.specs.Promise.{Decides}
use Rattle.refusals.specs.declared.Refusal.{Refusal}
use Rattle.written.specs.Outcomes.{Outcome, Answers}
use Rattle.written.specs.Promises.{BinaryString, Message, RoomFor, ValueString, WrittenRefused}

-- an outcome and a buffer leave one answer and one buffer
pub only : (o : Outcome) (before : List ℕ) → (a b : Result ℕ Refusal × List ℕ) → Answers o before a
    → Answers o before b → a ≡ b
only o before a b p q = ap₂ (λ (r : Result ℕ Refusal) (after : List ℕ). (r, after)) (same p.0 q.0) (same p.1 q.1)

pub refused_decides : Decides WrittenRefused
refused_decides (reason, carries) a b = same

-- by its name of before
pub Written-refused_decides : Decides WrittenRefused
Written-refused_decides = refused_decides

pub room_for_decides : Decides RoomFor
room_for_decides (bytes, buf) a b = same

pub value_string_decides : Decides ValueString
value_string_decides (width, value, before) = only _ before

pub value_binary_string_decides : Decides BinaryString
value_binary_string_decides (width, value, before) = only _ before

pub message_decides : Decides Message
message_decides (number, carried, start, width, before) = only _ before
