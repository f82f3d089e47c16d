-- 01's numbers, a byte at a time: a stage says what the next byte may be besides a digit, and what stands behind the number (#107).
use Prim.Native.Char.{code}
use Rattle.std.specs.Prelude.{◌≡◌, ℕ, zero, suc, ◌+◌, Bool, true, false, cond, List, [], ◌∷◌, length, drop, ◌==◌}
use Rattle.number.specs.Numbers.{refused, read_digit, read_digits, number_of}
use Rattle.number.specs.Rest.{is_stop, before_stop, bad_rest}
use Rattle.number.specs.declared.Lead.{Lead}
use Rattle.number.specs.declared.Number.{Number}
use Rattle.number.specs.declared.NumberState.{NumberState}
use Rattle.number.specs.declared.Stage.{Stage}
use Rattle.number.specs.declared.Stage.TheVariants.{Begin, Zero, Prefix, Sign, Digits, Stopped, Remark}
use Rattle.refusals.specs.Refusals.{bare}
use Rattle.refusals.specs.declared.Reason.{Reason}
use Rattle.refusals.specs.declared.Reason.TheVariants.{Empty, InvalidDigit, None}

-- before the first character
abbrev pub start : NumberState
start = record { value = 0; reason = None; hex = false; stage = Begin }

-- by a byte that is no stop: an exact "0x" selects base 16; then one "+" may stand; behind a stop it is a remark
unfoldable pub stage_after : Stage → ℕ → Stage
stage_after Begin b = cond (b == (code "+")) Sign (cond (b == (code "0")) Zero Digits)
stage_after Zero b = cond (b == (code "x")) Prefix Digits
stage_after Prefix b = cond (b == (code "+")) Sign Digits
stage_after Sign b = Digits
stage_after Digits b = Digits
stage_after Stopped b = Remark
stage_after Remark b = Remark

-- the base at a stage, by the base before it
abbrev pub hex_at : Stage → Bool → Bool
hex_at Begin hex = hex
hex_at Zero hex = hex
hex_at Prefix hex = true
hex_at Sign hex = hex
hex_at Digits hex = hex
hex_at Stopped hex = hex
hex_at Remark hex = hex

-- the stage that a character leads to, and the base there
abbrev pub advance_of : NumberState → ℕ → NumberState
advance_of st b =
    record { value = st.value; reason = st.reason; hex = hex_at (stage_after st.stage b) st.hex; stage = stage_after st.stage b }

abbrev pub is_digits : Stage → Bool
is_digits Begin = false
is_digits Zero = false
is_digits Prefix = false
is_digits Sign = false
is_digits Digits = true
is_digits Stopped = false
is_digits Remark = false

-- a byte that is no stop: what leads to the digits is read as a digit
abbrev pub character_of : NumberState → ℕ → NumberState
character_of st b = cond (is_digits (stage_after st.stage b)) (read_digit (advance_of st b) b) (advance_of st b)

-- the reason at the end: no character after any "0x" is 8, a lone "+" is 9
abbrev pub end_reason : Stage → Reason → Reason
end_reason Begin reason = Empty
end_reason Zero reason = reason
end_reason Prefix reason = Empty
end_reason Sign reason = InvalidDigit
end_reason Digits reason = reason
end_reason Stopped reason = reason
end_reason Remark reason = reason

abbrev pub is_remark : Stage → Bool
is_remark Begin = false
is_remark Zero = false
is_remark Prefix = false
is_remark Sign = false
is_remark Digits = false
is_remark Stopped = false
is_remark Remark = true

-- a stop is the number's end; within a remark it changes nothing
abbrev pub stop_of : NumberState → NumberState
stop_of st =
    cond (is_remark st.stage) st
    (record { value = st.value; reason = end_reason st.stage st.reason; hex = st.hex; stage = Stopped })

-- one byte: the first offender answers
unfoldable pub step_of : NumberState → ℕ → NumberState
step_of st b = cond (refused st.reason) st (cond (is_stop b) (stop_of st) (character_of st b))

-- the state after each byte is handed on to the next
unfoldable pub handed_on : (NumberState → ℕ → NumberState) → NumberState → List ℕ → NumberState
handed_on step st [] = st
handed_on step st (b ∷ bs) = handed_on step (step st b) bs

abbrev pub steps_of : NumberState → List ℕ → NumberState
steps_of st s = handed_on step_of st s

-- whether there was a byte
abbrev pub has_character : Stage → Bool
has_character Begin = false
has_character Zero = true
has_character Prefix = true
has_character Sign = true
has_character Digits = true
has_character Stopped = true
has_character Remark = true

-- the number before the first stop, whatever stands behind it
abbrev pub finish_before_of : NumberState → Number
finish_before_of st = record { value = st.value; refusal = bare (end_reason st.stage st.reason) }

-- the number of the whole, which a remark is no part of
abbrev pub finish_of : NumberState → Number
finish_of st = cond (is_remark st.stage) bad_rest (finish_before_of st)

-- what parse_number takes ahead of its loop over the digits: one character that stands before them, if there is one
unfoldable pub lead_of : Lead → List ℕ → Lead
lead_of l [] = l
lead_of l (b ∷ bs) = cond (is_digits (stage_after l.state.stage b)) l (record { state = advance_of l.state b; at = l.at + 1 })

-- so many of them
unfoldable pub leads_of : ℕ → Lead → List ℕ → Lead
leads_of zero l s = l
leads_of (suc k) l s = leads_of k (lead_of l (drop l.at s)) s

-- what read_number's loop gives: the number before the first stop, and how many bytes stand before it
abbrev pub StepsTo : List ℕ → Lead → Type 0
StepsTo s r = (finish_before_of r.state ≡ number_of (before_stop s)) × (r.at ≡ length (before_stop s))

-- what parse_number's loop over the digits gives: the state after those that stand before the first stop; where none of them is refused, all of them are taken
abbrev pub DigitsTo : Lead → List ℕ → Lead → Type 0
DigitsTo l s r =
    (r.state ≡ read_digits l.state (before_stop s)) × (refused r.state.reason ≡ false → r.at ≡ l.at + length (before_stop s))
