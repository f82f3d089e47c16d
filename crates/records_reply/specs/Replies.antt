-- What is said of one line of the input to machines, byte for byte.
use Rattle.std.specs.Prelude.{ℕ, cond, List, ◌++◌}
use Rattle.number.specs.declared.Number.{Number}
use Rattle.record_lines.specs.Lines.{record_lines}
use Rattle.refusals.specs.Refusals.{passed, refusal_number}
use Rattle.reply_lines.specs.Lines.{carried_line, number_line}
use Rattle.strict.specs.Strict.{answer_by}
use Rattle.strict.specs.declared.Profile.{Profile}
use Rattle.texts.specs.Pool.{bytes}

-- `esr number`: ok 0xH, or refused N
unfoldable pub number_reply : Number → List ℕ
number_reply n =
    cond (passed n.refusal)
    (number_line (bytes "ok 0x") 16 n.value)
    (number_line (bytes "refused ") 10 (refusal_number n.refusal))

-- `esr records`: > 0xH, then a line for each record, or the refusal with what it carries; of a line that holds no number the refusal alone, as above

-- of a value, read ordinarily or strictly (#110)
unfoldable pub decoded : Profile → ℕ → List ℕ
decoded profile esr =
    cond (passed (answer_by profile esr).refusal)
    (record_lines (answer_by profile esr).records)
    (carried_line (answer_by profile esr).refusal)

unfoldable pub records_reply : Profile → Number → List ℕ
records_reply profile n = cond (passed n.refusal) (number_line (bytes "> 0x") 16 n.value ++ decoded profile n.value) (number_reply n)
