-- What each public function promises. A promise takes what comes in, then what comes out.
use Rattle.std.specs.Prelude.{ℕ, List, ◌≡◌, drop}
use Rattle.line_reader.specs.Lines.{part_of, line_end, finish_by, rest_asked}
use Rattle.line_reader.specs.declared.LinePart.{LinePart}
use Rattle.line_reader.specs.declared.Rest.{Rest}
use Rattle.number.specs.declared.Number.{Number}
use Rattle.number.specs.declared.NumberState.{NumberState}

-- what a part of the input, from an offset on, adds to a line
abbrev pub TookLine : NumberState × List ℕ × ℕ → LinePart → Type 0
TookLine (st, s, from) r = r ≡ part_of st from (drop from s)

-- where a line ends that goes on at an offset: at its line feed, or with the bytes
abbrev pub LineEnded : List ℕ × ℕ → ℕ → Type 0
LineEnded (s, from) r = r ≡ line_end from (drop from s)

-- the number of a line by the state at its end: a rest of anything but stops is refused, or it is passed over, as the caller says
abbrev pub NumberOfLine : NumberState × Rest → Number → Type 0
NumberOfLine (st, rest) r = r ≡ finish_by rest st

-- what a program does with the rest of a line, by its option
abbrev pub RestAsked : List ℕ → Rest → Type 0
RestAsked option r = r ≡ rest_asked option
