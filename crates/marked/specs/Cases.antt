-- 01, "Marked cases, proved together as one table", and the cases of #102 and #108: what is asked of the answer to each value. Names and texts are strings; refusal
-- 1 names its bits (#105).
use Rattle.std.specs.Prelude.{ℕ, ◌≤◌, ◌≡◌, length, drop, Result, Ok}
use Prim.Native.String.{String}
use mathlib.Core.List.{List, [], ◌∷◌, ◌++◌, Memᴰ}
use Rattle.texts.specs.Pool.{bytes, text_at}
use Rattle.refusals.specs.Refusals.{reserved_bits, carrying, no_refusal}
use Rattle.refusals.specs.declared.Reason.TheVariants.{InvalidEc, InvalidFsc, InvalidSet, InvalidAet, InvalidAm, InvalidLd64bIss}
use Rattle.refusals.specs.declared.Refusal.{Refusal}
use Rattle.records.specs.Sets.{list_of}
use Rattle.records.specs.declared.Record.{Record}
use Rattle.esr.specs.Promises.{Decoded}
use Rattle.esr.specs.declared.Answer.{Answer}
use Rattle.listing.specs.Promises.{Listing}
use Rattle.number.specs.Promises.{Parsed}
use Rattle.number.specs.declared.Number.{Number}

-- a record of this name with this value; one of this name with this text
pub data Fact : Type 0 where
  of_value : String → ℕ → Fact
  with_text : String → String → Fact

-- refused so; or accepted, with these facts
pub data Expected : Type 0 where
  refusal : Refusal → Expected
  accepted : List Fact → Expected

pub record Case : Type 0 where
  pub esr : ℕ
  pub expected : Expected

infix 70 ◌gives◌
abbrev pub ◌gives◌ : ℕ → Expected → Case
v gives e = record { esr = v; expected = e }

unfoldable pub cases : List Case
cases =
    0x0 gives accepted [] ∷
    0x56000001 gives accepted [] ∷
    0x2000000000 gives refusal (reserved_bits 37 27 1) ∷
    0xFC000000 gives refusal (carrying InvalidEc 0x3F) ∷
    0x20FC000000 gives refusal (reserved_bits 37 27 1) ∷
    0x54010000 gives refusal (reserved_bits 16 9 1) ∷
    0x90000810 gives refusal (carrying InvalidSet 1) ∷
    0x90000804 gives accepted (of_value "RES0" 1 ∷ []) ∷
    0x90010010 gives accepted (with_text "WU" "Reserved" ∷ []) ∷
    0xBC001000 gives refusal (carrying InvalidAet 4) ∷
    0xBC001002 gives refusal (carrying InvalidFsc 2) ∷
    0xBDFFFFFF gives accepted [] ∷
    0xBC000051 gives refusal (reserved_bits 6 1 1) ∷
    0x1800000A gives refusal (carrying InvalidAm 5) ∷
    0x28000003 gives refusal (carrying InvalidLd64bIss 3) ∷
    -- #102: 0x12 is external, so that PFV and WU are read; the four are on the list of aborts; of other lists only the debug layouts' has one, its single 0x22
    0x90004012 gives accepted (with_text "PFV" "PFAR is valid" ∷ with_text "DFSC" "External abort on table walk, level -2" ∷ []) ∷
    0x90030012 gives accepted (of_value "WU" 3 ∷ []) ∷
    0x80004012 gives accepted (with_text "PFV" "PFAR is valid" ∷ with_text "IFSC" "External abort on table walk, level -2" ∷ []) ∷
    0x9000002A gives accepted (with_text "DFSC" "Translation fault, level -2" ∷ []) ∷
    0x9000002C gives accepted (with_text "DFSC" "Address size fault, level -2" ∷ []) ∷
    0x90000022 gives accepted (with_text "DFSC" "Granule protection fault on table walk, level -2" ∷ []) ∷
    0xC2000022 gives accepted (with_text "IFSC" "Debug exception" ∷ []) ∷
    0xC200002A gives refusal (carrying InvalidFsc 0x2A) ∷
    0xBC000012 gives refusal (carrying InvalidFsc 0x12) ∷
    -- #108: MRS x0, SCTLR_EL1, an instruction of 32 bits; and RES0 22..25
    0x62300401 gives accepted (with_text "ISS" "SCTLR_EL1" ∷ of_value "Op0" 3 ∷ of_value "CRn" 1 ∷ with_text "Direction" "Read" ∷ []) ∷
    0x62400000 gives refusal (reserved_bits 22 3 1) ∷
    []

-- what a fact says of a record
abbrev pub HoldsOf : Fact → Record → Type 0
HoldsOf (of_value name value) x = (text_at x.name ≡ name) × (x.value ≡ value)
HoldsOf (with_text name text) x = (text_at x.name ≡ name) × (text_at x.text ≡ text)

-- a record of a list of which it is so
pub record Shown (f : Fact) (l : List Record) : Type 0 where
  pub which : Record
  pub among : Memᴰ which l
  pub so : HoldsOf f which

abbrev pub AllShown : List Fact → List Record → Type 0
AllShown [] l = Unit {0}
AllShown (f ∷ fs) l = Shown f l × AllShown fs l

abbrev pub Met : Expected → Answer → Type 0
Met (refusal f) r = (r.refusal ≡ f) × (list_of r.records ≡ [])
Met (accepted facts) r = (r.refusal ≡ no_refusal) × AllShown facts (list_of r.records)

-- every answer that decode's promise allows is as the case says
abbrev pub Holds : Case → Type 0
Holds c = (r : Answer) → Decoded c.esr r → Met c.expected r

abbrev pub AllHold : List Case → Type 0
AllHold [] = Unit {0}
AllHold (c ∷ cs) = Holds c × AllHold cs

-- "0x+f": 15, of every answer that parse_number's promise allows
abbrev pub NumberHolds : Type 0
NumberHolds = (r : Number) → Parsed (bytes "0x+f") r → (r.refusal ≡ no_refusal) × (r.value ≡ 15)

-- "Value 0x56000001 in full": its listing, line by line, each ended by one line feed
unfoldable pub listed : List String
listed =
    "RES0: 0x0000000 0b000000000000000000000000000" ∷
    "ISS2: 0x00 0b00000" ∷
    "EC: 0x15 0b010101" ∷
    "# SVC instruction execution in AArch64 state" ∷
    "IL: true" ∷
    "# 32-bit instruction trapped" ∷
    "ISS: 0x0000001 0b0000000000000000000000001" ∷
    "  RES0: 0x000 0b000000000" ∷
    "  imm16: 0x0001 0b0000000000000001" ∷
    []

unfoldable pub ended : List String → List ℕ
ended [] = []
ended (line ∷ lines) = bytes line ++ (bytes "\n" ++ ended lines)

-- in every buffer with room for it, by every answer that listing's promise allows, and after it what stood there
abbrev pub ListingHolds : Type 0
ListingHolds =
    (before after : List ℕ) (r : Result ℕ Refusal)
    → length (ended listed) ≤ length before
    → Listing (0x56000001, before) (r, after)
    → (r ≡ Ok (length (ended listed))) × (after ≡ ended listed ++ drop (length (ended listed)) before)
