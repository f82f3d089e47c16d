-- A refusal of the value comes first; then what the engine put is the records' words, where there is room for them.
use mathlib.Core.Path.{sym, ap, ◌∙◌}
use mathlib.Core.List.{List, map}
use Prim.Native.Nat.{ℕ, ◌≤◌, ◌<◌}
use native.Mathlib.Omega.{arith}
use lib.ListN.{length}
use Rattle.engine.specs.Engine.{readings}
use Rattle.engine.specs.Words.{words_of}
use Rattle.std.specs.Prelude.{Result}
use Rattle.refusals.specs.declared.Refusal.{Refusal}
use Rattle.capi.specs.Words.{judged_filling}
use Rattle.capi.specs.declared.Filled.{Filled}
use Rattle.capi.proofs.Laws.{filled-short, filled-whole, put_count, put_none, put_front}
use Rattle.capi.proofs.fill.Goals as goal

pub returns-in-Err : goal.returns-in-Err
unfolding judged_filling
returns-in-Err c =
    let a = c.args in
    rw c.in-Err.is (ap (λ (x : Filled). (x, a.slots.now)) c.filled_of.ensures)

-- the words of a value's records
abbrev words : ℕ → List (List ℕ)
words esr = map words_of (readings esr)

pub returns-then-slots-count : goal.returns-then-slots-count
unfolding judged_filling
returns-then-slots-count c =
    let a = c.args in
    let put = c.put_records-count in
    let short = c.filled_of-then-slots-count in
    let all = put_count (words a.esr) a.slots.now _ put.result put.ensures in
    let less : length a.slots.now < put.result = omega arith in
    let none = put_none (words a.esr) a.slots.now _ put.result put.ensures less in
    ap (λ (l : List (List ℕ)). (short.result, l)) none
    ∙ filled-short (words a.esr) a.slots.now all less c.carrying.ensures short.ensures
    ∙ ap (λ (r : Result Unit Refusal). judged_filling r a.esr a.slots.now) (sym c.in_default.is)

pub returns : goal.returns
unfolding judged_filling
returns c =
    let a = c.args in
    let put = c.put_records-count in
    let all = put_count (words a.esr) a.slots.now _ put.result put.ensures in
    let room : put.result ≤ length a.slots.now = omega arith in
    let whole = put_front (words a.esr) a.slots.now _ put.result put.ensures room in
    filled-whole (words a.esr) a.slots.now all room c.filled_of-2.ensures whole
    ∙ ap (λ (r : Result Unit Refusal). judged_filling r a.esr a.slots.now) (sym c.in_default.is)
