-- 01's top rows, and its layouts with that of #108: rows from high bits to low, and the starts of the rows that ask something in the order of the checks, as
-- 01 gives it; where 01 is silent, from high to low. Above each table stands 01's line and the Arm manual's ISS encoding (DDI 0487, ESR_ELx) that it is,
-- from memory: the manual was not at hand.
use Rattle.std.specs.Prelude.{List, [], ◌∷◌, ℕ}
use Prim.Native.String.{String}
use Rattle.texts.specs.Pool.{code}
use Rattle.texts.specs.Rules.{Rule, plain, class_name, il, iss_res0, cv, rv, ti, mcr_read, offset_sign, am, ldc_read, ld64b_iss, i_or_d, a_or_b, tfv, idf, ixf, uff, off, dzf, iof, debug_status, step_valid, ex, watch_wn_r, fault_status, set_type, fnv, pfv, isv, sas, sf, ar, wu, fnp, fnp_not_valid, wnr, ids, aet, serror_status, els, vfv, iesb, wnrv, wnr_not_valid, msr_read, system_register}
use Rattle.records.specs.Kinds.{Kind, Free, Unchecked, Checked, Coded, kind_number}
use Rattle.refusals.specs.declared.Reason.TheVariants.{InvalidEc, InvalidFsc, InvalidSet, InvalidAet, InvalidAm, InvalidLd64bIss}
use Rattle.records.specs.declared.Row.{Row}
use Rattle.tables.specs.Shape.{Table, bits, unnamed, ◌when◌, ◌unless◌, ◌checking◌, ◌iss_by◌, bit, ◌is◌, status, external}

-- "Top records in order: RES0 37..64, ISS2 32..37 (unchecked), EC 26..32 with the class text, IL 25, ISS 0..25, then ISS's own."
-- the manual: the field descriptions of ESR_ELx. ISS2 is free: nothing is asked of it, which is 01's "(unchecked)", and it is not reserved.
abbrev pub top : ℕ → ℕ → String → String → Kind → Rule → Row
top a b name long kind rule = (bits a b name long kind rule).row

abbrev pub reserved : Row
reserved = top 37 64 "RES0" "Reserved" Checked plain

abbrev pub class : Row
class = top 26 32 "EC" "Exception Class" (Coded InvalidEc) class_name

-- ISS, its text by the rule that the layout has for it
abbrev pub iss_under : ℕ → Row
iss_under rule = record { start = 0; width = 25; name = code "ISS"; long = code "Instruction Specific Syndrome"; rule = rule; kind = kind_number Free }

unfoldable pub top_rows : ℕ → List Row
top_rows rule =
    reserved ∷
    top 32 37 "ISS2" unnamed Free plain ∷
    class ∷
    top 25 26 "IL" "Instruction Length" Free il ∷
    iss_under rule ∷
    []

-- res0 (0x00, 0x0E, 0x19, 0x22, 0x26): 0..25 zero. The manual: exceptions with an unknown reason, and others whose ISS is RES0
unfoldable pub res0 : Table
res0 =
    bits 0 25 "RES0" "Reserved" Checked iss_res0 ∷
    [] checking 0 ∷ []

-- wf (0x01): 24; 20..24; 10..20 zero; 5..10; 3..5 zero; 2; 0..2. The manual: ISS encoding for an exception from a WF* instruction
unfoldable pub wf : Table
wf =
    bits 24 25 "CV" "Condition code valid" Free cv ∷
    bits 20 24 "COND" "Condition code of the trapped instruction" Free plain ∷
    bits 10 20 "RES0" "Reserved" Checked plain ∷
    bits 5 10 "RN" "Register Number" Free plain ∷
    bits 3 5 "RES0" "Reserved" Checked plain ∷
    bits 2 3 "RV" "Register Valid" Free rv ∷
    bits 0 2 "TI" "Trapped Instruction" Free ti ∷
    [] checking 10 ∷ 3 ∷ []

-- mcr (0x03, 0x05): 24; 20..24; 17..20; 14..17; 10..14; 5..10; 1..5; 0. The manual: ISS encoding for an exception from an MCR or MRC access
unfoldable pub mcr : Table
mcr =
    bits 24 25 "CV" "Condition code valid" Free cv ∷
    bits 20 24 "COND" "Condition code of the trapped instruction" Free plain ∷
    bits 17 20 "Opc2" unnamed Free plain ∷
    bits 14 17 "Opc1" unnamed Free plain ∷
    bits 10 14 "CRn" unnamed Free plain ∷
    bits 5 10 "Rt" unnamed Free plain ∷
    bits 1 5 "CRm" unnamed Free plain ∷
    bits 0 1 "Direction" "Direction of the trapped instruction" Free mcr_read ∷
    [] checking []

-- mcrr (0x04, 0x0C): 24; 20..24; 16..20; 15 zero; 10..15; 5..10; 1..5; 0. "The Rust names 16..20 "Opc2"; the manual says Opc1. Keep and list."
-- the manual: ISS encoding for an exception from an MCRR or MRRC access
unfoldable pub mcrr : Table
mcrr =
    bits 24 25 "CV" "Condition code valid" Free cv ∷
    bits 20 24 "COND" "Condition code of the trapped instruction" Free plain ∷
    bits 16 20 "Opc2" unnamed Free plain ∷
    bits 15 16 "RES0" "Reserved" Checked plain ∷
    bits 10 15 "Rt2" unnamed Free plain ∷
    bits 5 10 "Rt" unnamed Free plain ∷
    bits 1 5 "CRm" unnamed Free plain ∷
    bits 0 1 "Direction" "Direction of the trapped instruction" Free mcr_read ∷
    [] checking 15 ∷ []

-- ldc (0x06): 24; 20..24; 12..20; 10..12 zero; 5..10; 4; AM 1..4; 0. The zero check precedes AM. The manual: ISS encoding for an exception from an LDC or STC instruction
unfoldable pub ldc : Table
ldc =
    bits 24 25 "CV" "Condition code valid" Free cv ∷
    bits 20 24 "COND" "Condition code of the trapped instruction" Free plain ∷
    bits 12 20 "imm8" "Immediate value of the trapped instruction" Free plain ∷
    bits 10 12 "RES0" "Reserved" Checked plain ∷
    bits 5 10 "Rn" "General-purpose register number of the trapped instruction" Free plain ∷
    bits 4 5 "Offset" "Whether the offset is added or subtracted" Free offset_sign ∷
    bits 1 4 "AM" "Addressing Mode" (Coded InvalidAm) am ∷
    bits 0 1 "Direction" "Direction of the trapped instruction" Free ldc_read ∷
    [] checking 10 ∷ 1 ∷ []

-- sve (0x07): 24; 20..24; 0..20 zero. The manual: ISS encoding for an exception from an access to SVE, Advanced SIMD or floating-point functionality
unfoldable pub sve : Table
sve =
    bits 24 25 "CV" "Condition code valid" Free cv ∷
    bits 20 24 "COND" "Condition code of the trapped instruction" Free plain ∷
    bits 0 20 "RES0" "Reserved" Checked plain ∷
    [] checking 0 ∷ []

-- ld64b (0x0A): 0..25. The manual: ISS encoding for an exception from an LD64B or ST64B* instruction
unfoldable pub ld64b : Table
ld64b =
    bits 0 25 "ISS" unnamed (Coded InvalidLd64bIss) ld64b_iss ∷
    [] checking 0 ∷ []

-- bti (0x0D): 2..25 zero; 0..2. The manual: ISS encoding for an exception from a Branch Target Identification instruction
unfoldable pub bti : Table
bti =
    bits 2 25 "RES0" "Reserved" Checked plain ∷
    bits 0 2 "BTYPE" "PSTATE.BTYPE value" Free plain ∷
    [] checking 2 ∷ []

-- pauth (0x1C): 2..25 zero; 1; 0. The manual: ISS encoding for an exception from a Pointer Authentication instruction authentication failure
unfoldable pub pauth : Table
pauth =
    bits 2 25 "RES0" "Reserved" Checked plain ∷
    bits 1 2 "IorD" "Instruction key or Data key" Free i_or_d ∷
    bits 0 1 "AorB" "A key or B key" Free a_or_b ∷
    [] checking 2 ∷ []

-- hvc (0x11, 0x15, 0x16, 0x17): 16..25 zero; 0..16. The manual: ISS encoding for an exception from HVC or SVC instruction execution
unfoldable pub hvc : Table
hvc =
    bits 16 25 "RES0" "Reserved" Checked plain ∷
    bits 0 16 "imm16" "Value of the immediate field" Free plain ∷
    [] checking 16 ∷ []

-- BKPT/BRK (0x38, 0x3C): 16..25 zero; 0..16. The manual: ISS encoding for an exception from execution of a Breakpoint instruction
unfoldable pub brk : Table
brk =
    bits 16 25 "RES0" "Reserved" Checked plain ∷
    bits 0 16 "Comment" "Instruction comment field or immediate field" Free plain ∷
    [] checking 16 ∷ []

-- fp (0x28, 0x2C): 24 zero; 23; 11..23 zero; 8..11; 7; 5..7 zero; 4; 3; 2; 1; 0. The manual: ISS encoding for an exception from a trapped floating-point exception
unfoldable pub fp : Table
fp =
    bits 24 25 "RES0" "Reserved" Checked plain ∷
    bits 23 24 "TFV" "Trapped Fault Valid" Free tfv ∷
    bits 11 23 "RES0" "Reserved" Checked plain ∷
    bits 8 11 "VECITR" "RES1 or UNKNOWN" Free plain ∷
    bits 7 8 "IDF" "Input Denormal" Free idf ∷
    bits 5 7 "RES0" "Reserved" Checked plain ∷
    bits 4 5 "IXF" "Inexact" Free ixf ∷
    bits 3 4 "UFF" "Underflow" Free uff ∷
    bits 2 3 "OFF" "Overflow" Free off ∷
    bits 1 2 "DZF" "Divide by Zero" Free dzf ∷
    bits 0 1 "IOF" "Invalid Operation" Free iof ∷
    [] checking 24 ∷ 11 ∷ 5 ∷ []

-- breakpoint (0x30, 0x31): 6..25 zero; status. The manual: ISS encoding for an exception from a Breakpoint or Vector Catch debug exception
unfoldable pub breakpoint : Table
breakpoint =
    bits 6 25 "RES0" "Reserved" Checked plain ∷
    bits 0 6 "IFSC" "Instruction Fault Status Code" (Coded InvalidFsc) debug_status ∷
    [] checking 6 ∷ 0 ∷ []

-- software step (0x32, 0x33): 24; 7..24 zero; 6, zero if bit 24 is 0; status. The manual: ISS encoding for an exception from a Software Step exception
unfoldable pub software_step : Table
software_step =
    bits 24 25 "ISV" "Instruction Syndrome Valid" Free step_valid ∷
    bits 7 24 "RES0" "Reserved" Checked plain ∷
    bits 6 7 "EX" "Exclusive operation" Free ex when bit 24 is 1 ∷
    bits 6 7 "RES0" "Reserved because ISV is false" Checked plain when bit 24 is 0 ∷
    bits 0 6 "IFSC" "Instruction Fault Status Code" (Coded InvalidFsc) debug_status ∷
    [] checking 7 ∷ 6 ∷ 0 ∷ []

-- watchpoint (0x34, 0x35): 15..25 zero; 14 zero; 13; 9..13 zero; 8; 7 zero; 6; status. The manual: ISS encoding for an exception from a Watchpoint exception
unfoldable pub watchpoint : Table
watchpoint =
    bits 15 25 "RES0" "Reserved" Checked plain ∷
    bits 14 15 "RES0" "Reserved" Checked plain ∷
    bits 13 14 "VNCR" unnamed Free plain ∷
    bits 9 13 "RES0" "Reserved" Checked plain ∷
    bits 8 9 "CM" "Cache Maintenance" Free plain ∷
    bits 7 8 "RES0" "Reserved" Checked plain ∷
    bits 6 7 "WnR" "Write not Read" Free watch_wn_r ∷
    bits 0 6 "DFSC" "Data Fault Status Code" (Coded InvalidFsc) debug_status ∷
    [] checking 15 ∷ 14 ∷ 9 ∷ 7 ∷ 0 ∷ []

-- instruction abort (0x20, 0x21): 15..25 zero; 14; 13 zero; 11..13; 10; 9; 8 zero; 7; 6 zero; status. Order: 15..25, 8, 6, status, 14
-- (zero unless status is external), 13, SET. 11..13 is SET if status is 0x10, else a field named RES0 that is not checked
-- the manual: ISS encoding for an exception from an Instruction Abort
unfoldable pub instruction_abort : Table
instruction_abort =
    bits 15 25 "RES0" "Reserved" Checked plain ∷
    bits 14 15 "PFV" "PFAR Valid" Free pfv when external ∷
    bits 14 15 "RES0" "Reserved" Checked plain unless external ∷
    bits 13 14 "RES0" "Reserved" Checked plain ∷
    bits 11 13 "SET" "Synchronous Error Type" (Coded InvalidSet) set_type when status 0x10 ∷
    bits 11 13 "RES0" "Reserved" Unchecked plain unless status 0x10 ∷
    bits 10 11 "FnV" "FAR not Valid" Free fnv ∷
    bits 9 10 "EA" "External abort type" Free plain ∷
    bits 8 9 "RES0" "Reserved" Checked plain ∷
    bits 7 8 "S1PTW" "Stage-1 translation table walk" Free plain ∷
    bits 6 7 "RES0" "Reserved" Checked plain ∷
    bits 0 6 "IFSC" "Instruction Fault Status Code" (Coded InvalidFsc) fault_status ∷
    [] checking 15 ∷ 8 ∷ 6 ∷ 0 ∷ 14 ∷ 13 ∷ 11 ∷ []

-- data abort (0x24, 0x25): 24; then if bit 24 is 1: 22..24; 21; 16..21; 15; 14. If 0: 21..24 zero; for an external status 18..21 zero and
-- WU 16..18, else 16..21 zero; FnP 15; 14, zero unless external. Then 13; 11..13; 10; 9; 8; 7; 6; status. The zero checks go from high to
-- low, then status, then SET. WU refuses nothing. The manual: ISS encoding for an exception from a Data Abort
unfoldable pub data_abort : Table
data_abort =
    bits 24 25 "ISV" "Instruction Syndrome Valid" Free isv ∷
    bits 22 24 "SAS" "Syndrome Access Size" Free sas when bit 24 is 1 ∷
    bits 21 22 "SSE" "Syndrome Sign Extend" Free plain when bit 24 is 1 ∷
    bits 16 21 "SRT" "Syndrome Register Transfer" Free plain when bit 24 is 1 ∷
    bits 15 16 "SF" "Sixty-Four" Free sf when bit 24 is 1 ∷
    bits 14 15 "AR" "Acquire/Release" Free ar when bit 24 is 1 ∷
    bits 21 24 "RES0" "Reserved" Checked plain when bit 24 is 0 ∷
    bits 18 21 "RES0" "Reserved" Checked plain when bit 24 is 0 when external ∷
    bits 16 18 "WU" "Write Update" Free wu when bit 24 is 0 when external ∷
    bits 16 21 "RES0" "Reserved" Checked plain when bit 24 is 0 unless external ∷
    bits 15 16 "FnP" "FAR not Precise" Free fnp when bit 24 is 0 unless status 0x10 ∷
    bits 15 16 "FnP" "FAR not Precise" Free fnp when bit 24 is 0 when status 0x10 when bit 10 is 0 ∷
    bits 15 16 "FnP" "FAR not Precise" Free fnp_not_valid when bit 24 is 0 when status 0x10 when bit 10 is 1 ∷
    bits 14 15 "PFV" "PFAR Valid" Free pfv when bit 24 is 0 when external ∷
    bits 14 15 "RES0" "Reserved" Checked plain when bit 24 is 0 unless external ∷
    bits 13 14 "VNCR" unnamed Free plain ∷
    bits 11 13 "SET" "Synchronous Error Type" (Coded InvalidSet) set_type when status 0x10 ∷
    bits 11 13 "RES0" "Reserved" Unchecked plain unless status 0x10 ∷
    bits 10 11 "FnV" "FAR not Valid" Free fnv ∷
    bits 9 10 "EA" "External abort type" Free plain ∷
    bits 8 9 "CM" "Cache Maintenance" Free plain ∷
    bits 7 8 "S1PTW" "Stage-1 translation table walk" Free plain ∷
    bits 6 7 "WnR" "Write not Read" Free wnr ∷
    bits 0 6 "DFSC" "Data Fault Status Code" (Coded InvalidFsc) fault_status ∷
    [] checking 21 ∷ 18 ∷ 16 ∷ 14 ∷ 0 ∷ 11 ∷ []

-- SError (0x2F): 24; if 1, 0..24 free. If 0: status 0x00 or 0x11, then AET 10..13, then for 0x11: 19..24 zero; 18; 16..18; 15; 14; 13; AET;
-- 9; 8 zero; 7; 6, zero if bit 7 is 0; status. For 0x00: 14..24 zero; 13 zero; AET; 9; 6..9 zero; status.
-- "For 0x00" is `unless status 0x11`: a status that is neither is refused by the first check, whatever the rows. The manual: ISS encoding for an SError interrupt
unfoldable pub serror : Table
serror =
    bits 24 25 "IDS" "Implementation Defined Syndrome" Free ids ∷
    bits 0 24 "IMPDEF" "Implementation defined" Free plain when bit 24 is 1 ∷
    bits 19 24 "RES0" "Reserved" Checked plain when bit 24 is 0 when status 0x11 ∷
    bits 18 19 "ELS" "Meaning of ELR_ELx" Free els when bit 24 is 0 when status 0x11 ∷
    bits 16 18 "WU" "Write Update" Free wu when bit 24 is 0 when status 0x11 ∷
    bits 15 16 "VFV" "FAR Valid" Free vfv when bit 24 is 0 when status 0x11 ∷
    bits 14 15 "PFV" "PFAR Valid" Free pfv when bit 24 is 0 when status 0x11 ∷
    bits 13 14 "IESB" "Implicit Error Synchronisation event" Free iesb when bit 24 is 0 when status 0x11 ∷
    bits 14 24 "RES0" "Reserved" Checked plain when bit 24 is 0 unless status 0x11 ∷
    bits 13 14 "RES0" "Reserved for this DFSC value" Checked plain when bit 24 is 0 unless status 0x11 ∷
    bits 10 13 "AET" "Asynchronous Error Type" (Coded InvalidAet) aet when bit 24 is 0 ∷
    bits 9 10 "EA" "External Abort type" Free plain when bit 24 is 0 ∷
    bits 8 9 "RES0" "Reserved" Checked plain when bit 24 is 0 when status 0x11 ∷
    bits 7 8 "WnRV" "WnR Valid" Free wnrv when bit 24 is 0 when status 0x11 ∷
    bits 6 7 "WnR" "Write not Read" Free wnr when bit 24 is 0 when status 0x11 when bit 7 is 1 ∷
    bits 6 7 "WnR" "Write not Read" Checked wnr_not_valid when bit 24 is 0 when status 0x11 when bit 7 is 0 ∷
    bits 6 9 "RES0" "Reserved" Checked plain when bit 24 is 0 unless status 0x11 ∷
    bits 0 6 "DFSC" "Data Fault Status Code" (Coded InvalidFsc) serror_status when bit 24 is 0 ∷
    [] checking 0 ∷ 10 ∷ 19 ∷ 14 ∷ 13 ∷ 8 ∷ 6 ∷ []

-- msr (0x18), as #108 has it: "RES0 22..25 checked, Op0 20..22, Op2 17..20, Op1 14..17, CRn 10..14, Rt 5..10, CRm 1..5, Direction 0"; "the ISS record
-- gets the name as its text". The manual: ISS encoding for an exception from MSR, MRS or System instruction execution
unfoldable pub msr : Table
msr =
    bits 22 25 "RES0" "Reserved" Checked plain ∷
    bits 20 22 "Op0" unnamed Free plain ∷
    bits 17 20 "Op2" unnamed Free plain ∷
    bits 14 17 "Op1" unnamed Free plain ∷
    bits 10 14 "CRn" unnamed Free plain ∷
    bits 5 10 "Rt" unnamed Free plain ∷
    bits 1 5 "CRm" unnamed Free plain ∷
    bits 0 1 "Direction" "Direction of the trapped instruction" Free msr_read ∷
    [] checking 22 ∷ [] iss_by system_register

-- a table and the classes that it serves
pub record Served : Type 0 where
  pub table : Table
  pub classes : List ℕ

infix 68 ◌serves◌
abbrev pub ◌serves◌ : Table → List ℕ → Served
t serves cs = record { table = t; classes = cs }

-- the layouts, each with its classes
unfoldable pub layouts : List Served
layouts =
    res0 serves (0x00 ∷ 0x0E ∷ 0x19 ∷ 0x22 ∷ 0x26 ∷ []) ∷
    wf serves (0x01 ∷ []) ∷
    mcr serves (0x03 ∷ 0x05 ∷ []) ∷
    mcrr serves (0x04 ∷ 0x0C ∷ []) ∷
    ldc serves (0x06 ∷ []) ∷
    sve serves (0x07 ∷ []) ∷
    ld64b serves (0x0A ∷ []) ∷
    bti serves (0x0D ∷ []) ∷
    pauth serves (0x1C ∷ []) ∷
    hvc serves (0x11 ∷ 0x15 ∷ 0x16 ∷ 0x17 ∷ []) ∷
    brk serves (0x38 ∷ 0x3C ∷ []) ∷
    fp serves (0x28 ∷ 0x2C ∷ []) ∷
    breakpoint serves (0x30 ∷ 0x31 ∷ []) ∷
    software_step serves (0x32 ∷ 0x33 ∷ []) ∷
    watchpoint serves (0x34 ∷ 0x35 ∷ []) ∷
    instruction_abort serves (0x20 ∷ 0x21 ∷ []) ∷
    data_abort serves (0x24 ∷ 0x25 ∷ []) ∷
    serror serves (0x2F ∷ []) ∷
    msr serves (0x18 ∷ []) ∷
    []
