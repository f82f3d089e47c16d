-- A slot of the caller's array holds a record in two words of 64 bits.
use Rattle.std.specs.Prelude.{ℕ, ◌+◌, ◌*◌, ◌^◌, cond, List, [], ◌∷◌, ◌++◌, leb, length, drop}
use Rattle.records.specs.Kinds.{mark_number}
use Rattle.records.specs.Rows.{record_of}
use Rattle.records.specs.declared.Record.{Record}
use Rattle.records.specs.declared.Row.{Row}

-- the value; then from low bits to high the codes of name and text, 16 bits each, and the code of the long name, start, width and the mark's number, 8 bits each
unfoldable pub words_of : Record → List ℕ
words_of x =
    x.value ∷
    (x.name + x.text * 2 ^ 16 + x.long * 2 ^ 32 + x.start * 2 ^ 40 + x.width * 2 ^ 48 + mark_number x.mark * 2 ^ 56) ∷
    []

-- those of a row's record of a value
abbrev pub slot_of : ℕ → Row → List ℕ
slot_of v r = words_of (record_of v r)

-- how many there are, and the slots afterwards: these in the front where they have room, else all as it was
unfoldable pub putting : {A : Type 0} → List A → List A → ℕ × List A
putting content before = (length content, cond (leb (length content) (length before)) (content ++ drop (length content) before) before)
