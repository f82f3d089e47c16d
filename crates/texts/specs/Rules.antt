-- The text rules: what each says of a value. House texts and abort statuses are spelled as 01 has them, those of #102, #105 and #108 as 02 or the manual has
-- them; `own_words` are ours, and the others are the Rust's.
use Rattle.std.specs.Prelude.{List, [], ◌∷◌, ℕ, suc}
use Prim.Native.String.{String}
use Rattle.registers.specs.Registers.{Register, registers}

-- a value and its text
pub record Text : Type 0 where
  pub value : ℕ
  pub text : String

infix 70 ◌means◌
abbrev pub ◌means◌ : ℕ → String → Text
v means s = record { value = v; text = s }

-- A rule's number, by which a row names it; how many values, from 0 on, have a code; its texts by rising value.
pub record Rule : Type 0 where
  pub number : ℕ
  pub codes : ℕ
  pub texts : List Text

abbrev pub rule : ℕ → ℕ → List Text → Rule
rule n p ts = record { number = n; codes = p; texts = ts }

-- a rule of one bit: the texts of 1, then of 0, as 01 gives them
abbrev pub bit_rule : ℕ → String → String → Rule
bit_rule n one zero = rule n 2 (0 means zero ∷ 1 means one ∷ [])

-- a field without text
abbrev pub plain : Rule
plain = rule 0 0 []

-- IL (mod.rs, describe_il)
abbrev pub il : Rule
il = bit_rule 1 "32-bit instruction trapped" "16-bit instruction trapped"

-- CV (common.rs, describe_cv)
abbrev pub cv : Rule
cv = bit_rule 2 "COND is valid" "COND is not valid"

-- RV (wf.rs, describe_rv)
abbrev pub rv : Rule
rv = bit_rule 3 "RN is valid" "RN is not valid"

-- Direction (mcr.rs, describe_direction)
abbrev pub mcr_read : Rule
mcr_read = bit_rule 4 "Read from system register (MRC or VMRS)" "Write to system register (MCR)"

-- Offset (ldc.rs, describe_offset)
abbrev pub offset_sign : Rule
offset_sign = bit_rule 5 "Add offset" "Subtract offset"

-- Direction (ldc.rs, describe_direction)
abbrev pub ldc_read : Rule
ldc_read = bit_rule 6 "Read from memory (LDC)" "Write to memory (STC)"

-- IorD (pauth.rs, describe_instruction_or_data)
abbrev pub i_or_d : Rule
i_or_d = bit_rule 7 "Data Key" "Instruction Key"

-- AorB (pauth.rs, describe_a_or_b)
abbrev pub a_or_b : Rule
a_or_b = bit_rule 8 "B Key" "A Key"

-- TFV (fp.rs, describe_tfv)
abbrev pub tfv : Rule
tfv =
    bit_rule 9
    "One or more floating-point exceptions occurred; IDF, IXF, UFF, OFF, DZF and IOF hold information about what."
    "IDF, IXF, UFF, OFF, DZF and IOF do not hold valid information."

-- IDF (fp.rs, describe_idf)
abbrev pub idf : Rule
idf =
    bit_rule 10
    "Input denormal floating-point exception occurred."
    "Input denormal floating-point exception did not occur."

-- IXF (fp.rs, describe_ixf)
abbrev pub ixf : Rule
ixf =
    bit_rule 11
    "Inexact floating-point exception occurred."
    "Inexact floating-point exception did not occur."

-- UFF (fp.rs, describe_uff)
abbrev pub uff : Rule
uff =
    bit_rule 12
    "Underflow floating-point exception occurred."
    "Underflow floating-point exception did not occur."

-- OFF (fp.rs, describe_off)
abbrev pub off : Rule
off =
    bit_rule 13
    "Overflow floating-point exception occurred."
    "Overflow floating-point exception did not occur."

-- DZF (fp.rs, describe_dzf)
abbrev pub dzf : Rule
dzf =
    bit_rule 14
    "Divide by Zero floating-point exception occurred."
    "Divide by Zero floating-point exception did not occur."

-- IOF (fp.rs, describe_iof)
abbrev pub iof : Rule
iof =
    bit_rule 15
    "Invalid Operation floating-point exception occurred."
    "Invalid Operation floating-point exception did not occur."

-- ISV of software step (breakpoint.rs, describe_isv)
abbrev pub step_valid : Rule
step_valid = bit_rule 16 "EX bit is valid" "EX bit is RES0"

-- EX (breakpoint.rs, describe_ex)
abbrev pub ex : Rule
ex =
    bit_rule 17
    "A Load-Exclusive instruction was stepped"
    "Some instruction other than a Load-Exclusive was stepped"

-- WnR of watchpoint (breakpoint.rs, describe_wnr)
abbrev pub watch_wn_r : Rule
watch_wn_r = bit_rule 18 "Watchpoint caused by writing to memory" "Watchpoint caused by reading from memory"

-- FnV, a house text
abbrev pub fnv : Rule
fnv = bit_rule 19 "FAR is not valid" "FAR is valid"

-- PFV, a house text
abbrev pub pfv : Rule
pfv = bit_rule 20 "PFAR is valid" "PFAR is not valid"

-- ISV of data aborts, a house text
abbrev pub isv : Rule
isv = bit_rule 21 "Instruction syndrome valid" "No instruction syndrome"

-- SF, a house text
abbrev pub sf : Rule
sf = bit_rule 22 "64-bit register" "32-bit register"

-- AR, a house text
abbrev pub ar : Rule
ar = bit_rule 23 "Acquire or release" "No acquire or release"

-- FnP, a house text
abbrev pub fnp : Rule
fnp = bit_rule 24 "FAR is not precise" "FAR is precise"

-- FnP where the status is 0x10 and bit 10 is 1, a house text
abbrev pub fnp_not_valid : Rule
fnp_not_valid = bit_rule 25 "FAR is not valid" "FAR is not valid"

-- WnR of aborts and SError, a house text
abbrev pub wnr : Rule
wnr = bit_rule 26 "Caused by writing" "Caused by reading"

-- IDS (serror.rs, describe_ids)
abbrev pub ids : Rule
ids =
    bit_rule 27
    "The rest of the ISS is encoded in an implementation-defined format"
    "The rest of the ISS is encoded according to the platform"

-- ELS (serror.rs, describe_els)
abbrev pub els : Rule
els =
    bit_rule 28
    "Synchronous, the exception was triggered by the instruction at ELR_ELx"
    "Asynchronous, does not indicate the trigger for the exception"

-- VFV (serror.rs, describe_vfv)
abbrev pub vfv : Rule
vfv =
    bit_rule 29
    "FAR_ELx contains a valid virtual address associated with the error"
    "FAR_ELx is not valid, it holds an unknown value"

-- IESB (serror.rs, describe_iesb)
abbrev pub iesb : Rule
iesb =
    bit_rule 30
    "The SError interrupt was synchronized by the implicit error synchronization event and taken immediately."
    "The SError interrupt was not synchronized by the implicit error synchronization event or not taken immediately."

-- WnRV (serror.rs, describe_wnrv)
abbrev pub wnrv : Rule
wnrv = bit_rule 31 "WnR is valid" "WnR is not valid and has been set to 0"

-- RES0 of a class whose ISS is reserved (mod.rs, decode_iss_res0)
abbrev pub iss_res0 : Rule
iss_res0 =
    rule 32 1 (
    0 means "ISS is RES0" ∷
    [])

-- EC (mod.rs, decode): the class text. 35 classes of 64
abbrev pub class_name : Rule
class_name =
    rule 33 64 (
    0x00 means "Unknown reason" ∷
    0x01 means "Wrapped WF* instruction execution" ∷
    0x03 means "Trapped MCR or MRC access with coproc=0b1111" ∷
    0x04 means "Trapped MCRR or MRRC access with coproc=0b1111" ∷
    0x05 means "Trapped MCR or MRC access with coproc=0b1110" ∷
    0x06 means "Trapped LDC or STC access" ∷
    0x07 means "Trapped access to SVE, Advanced SIMD or floating point" ∷
    0x0A means "Trapped execution of an LD64B, ST64B, ST64BV, or ST64BV0 instruction" ∷
    0x0C means "Trapped MRRC access with (coproc==0b1110)" ∷
    0x0D means "Branch Target Exception" ∷
    0x0E means "Illegal Execution state" ∷
    0x11 means "SVC instruction execution in AArch32 state" ∷
    0x15 means "SVC instruction execution in AArch64 state" ∷
    0x16 means "HVC instruction execution in AArch64 state" ∷
    0x17 means "SMC instruction execution in AArch64 state" ∷
    0x18 means "Trapped MSR, MRS or System instruction execution in AArch64 state" ∷
    0x19 means "Access to SVE functionality trapped as a result of CPACR_EL1.ZEN, CPTR_EL2.ZEN, CPTR_EL2.TZ, or CPTR_EL3.EZ" ∷
    0x1C means "Exception from a Pointer Authentication instruction authentication failure" ∷
    0x20 means "Instruction Abort from a lower Exception level" ∷
    0x21 means "Instruction Abort taken without a change in Exception level" ∷
    0x22 means "PC alignment fault exception" ∷
    0x24 means "Data Abort from a lower Exception level" ∷
    0x25 means "Data Abort taken without a change in Exception level" ∷
    0x26 means "SP alignment fault exception" ∷
    0x28 means "Trapped floating-point exception taken from AArch32 state" ∷
    0x2C means "Trapped floating-point exception taken from AArch64 state" ∷
    0x2F means "SError interrupt" ∷
    0x30 means "Breakpoint exception from a lower Exception level" ∷
    0x31 means "Breakpoint exception taken without a change in Exception level" ∷
    0x32 means "Software Step exception from a lower Exception level" ∷
    0x33 means "Software Step exception taken without a change in Exception level" ∷
    0x34 means "Watchpoint exception from a lower Exception level" ∷
    0x35 means "Watchpoint exception taken without a change in Exception level" ∷
    0x38 means "BKPT instruction execution in AArch32 state" ∷
    0x3C means "BRK instruction execution in AArch64 state" ∷
    [])

-- TI (wf.rs, describe_ti)
abbrev pub ti : Rule
ti =
    rule 34 4 (
    0 means "WFI trapped" ∷
    1 means "WFE trapped" ∷
    2 means "WFIT trapped" ∷
    3 means "WFET trapped" ∷
    [])

-- AM (ldc.rs, describe_am); 5 and 7 are not on the list
abbrev pub am : Rule
am =
    rule 35 8 (
    0 means "Immediate unindexed" ∷
    1 means "Immediate post-indexed" ∷
    2 means "Immediate offset" ∷
    3 means "Immediate pre-indexed" ∷
    4 means "Reserved for trapped STR or T32 LDC" ∷
    6 means "Reserved for trapped STC" ∷
    [])

-- ISS of 0x0A (ld64b.rs, describe_iss_ld64b)
abbrev pub ld64b_iss : Rule
ld64b_iss =
    rule 36 3 (
    0 means "ST64BV trapped" ∷
    1 means "ST64BV0 trapped" ∷
    2 means "LD64B or ST64B trapped" ∷
    [])

-- the status of the debug layouts (breakpoint.rs, describe_fsc)
abbrev pub debug_status : Rule
debug_status =
    rule 37 64 (
    0x22 means "Debug exception" ∷
    [])

-- the status of aborts: 01's list of 42 and 02's four of level -2 (#102), their words with the first letter large and ", level N" where there is a level
abbrev pub fault_status : Rule
fault_status =
    rule 38 64 (
    0x00 means "Address size fault, level 0" ∷
    0x01 means "Address size fault, level 1" ∷
    0x02 means "Address size fault, level 2" ∷
    0x03 means "Address size fault, level 3" ∷
    0x04 means "Translation fault, level 0" ∷
    0x05 means "Translation fault, level 1" ∷
    0x06 means "Translation fault, level 2" ∷
    0x07 means "Translation fault, level 3" ∷
    0x08 means "Access flag fault, level 0" ∷
    0x09 means "Access flag fault, level 1" ∷
    0x0A means "Access flag fault, level 2" ∷
    0x0B means "Access flag fault, level 3" ∷
    0x0C means "Permission fault, level 0" ∷
    0x0D means "Permission fault, level 1" ∷
    0x0E means "Permission fault, level 2" ∷
    0x0F means "Permission fault, level 3" ∷
    0x10 means "External abort" ∷
    0x11 means "Tag check fault" ∷
    0x12 means "External abort on table walk, level -2" ∷
    0x13 means "External abort on table walk, level -1" ∷
    0x14 means "External abort on table walk, level 0" ∷
    0x15 means "External abort on table walk, level 1" ∷
    0x16 means "External abort on table walk, level 2" ∷
    0x17 means "External abort on table walk, level 3" ∷
    0x18 means "Parity or ECC error" ∷
    0x1B means "Parity or ECC error on table walk, level -1" ∷
    0x1C means "Parity or ECC error on table walk, level 0" ∷
    0x1D means "Parity or ECC error on table walk, level 1" ∷
    0x1E means "Parity or ECC error on table walk, level 2" ∷
    0x1F means "Parity or ECC error on table walk, level 3" ∷
    0x21 means "Alignment fault" ∷
    0x22 means "Granule protection fault on table walk, level -2" ∷
    0x23 means "Granule protection fault on table walk, level -1" ∷
    0x24 means "Granule protection fault on table walk, level 0" ∷
    0x25 means "Granule protection fault on table walk, level 1" ∷
    0x26 means "Granule protection fault on table walk, level 2" ∷
    0x27 means "Granule protection fault on table walk, level 3" ∷
    0x28 means "Granule protection fault" ∷
    0x29 means "Address size fault, level -1" ∷
    0x2A means "Translation fault, level -2" ∷
    0x2B means "Translation fault, level -1" ∷
    0x2C means "Address size fault, level -2" ∷
    0x30 means "TLB conflict abort" ∷
    0x31 means "Unsupported atomic hardware update" ∷
    0x34 means "Lockdown" ∷
    0x35 means "Unsupported exclusive or atomic access" ∷
    [])

-- SET (abort.rs, describe_set); 1 is not on the list
abbrev pub set_type : Rule
set_type =
    rule 39 4 (
    0 means "Recoverable state (UER)" ∷
    2 means "Uncontainable (UC)" ∷
    3 means "Restartable state (UEO)" ∷
    [])

-- SAS (abort.rs, SyndromeAccessSize)
abbrev pub sas : Rule
sas =
    rule 40 4 (
    0 means "byte" ∷
    1 means "halfword" ∷
    2 means "word" ∷
    3 means "doubleword" ∷
    [])

-- WU (abort.rs, describe_wu)
abbrev pub wu : Rule
wu =
    rule 41 4 (
    0 means "Not a store instruction or translation table update, or the location might have been updated" ∷
    1 means "Reserved" ∷
    2 means "Store instruction or translation table update that did not update the location" ∷
    3 means "Store instruction or translation table update that updated the location" ∷
    [])

-- AET (serror.rs, describe_aet); 4, 5 and 7 are not on the list
abbrev pub aet : Rule
aet =
    rule 42 8 (
    0 means "Uncontainable (UC)" ∷
    1 means "Unrecoverable state (UEU)" ∷
    2 means "Restartable state (UEO)" ∷
    3 means "Recoverable state (UER)" ∷
    6 means "Corrected (CE)" ∷
    [])

-- the status of SError (serror.rs, describe_dfsc)
abbrev pub serror_status : Rule
serror_status =
    rule 43 64 (
    0x00 means "Uncategorized error" ∷
    0x11 means "Asynchronous SError interrupt" ∷
    [])

-- WnR of SError where WnRV is 0 (serror.rs, decode_iss_serror)
abbrev pub wnr_not_valid : Rule
wnr_not_valid =
    rule 44 1 (
    0 means "Not valid (see WnRV)" ∷
    [])

-- The Rust's messages of refusals (lib.rs, DecodeError), by the refusal's number: what stands before the number that the refusal carries, and
-- what stands after it. That of 1 goes on with the bits of its field (#105).
abbrev pub message : Rule
message =
    rule 45 8 (
    1 means "Invalid ESR, res0 is " ∷
    2 means "Invalid EC " ∷
    3 means "Invalid DFSC or IFSC " ∷
    4 means "Invalid SET " ∷
    5 means "Invalid AET " ∷
    6 means "Invalid AM " ∷
    7 means "Invalid ISS " ∷
    [])

abbrev pub message_end : Rule
message_end =
    rule 46 8 (
    1 means ", bits " ∷
    7 means " for trapped LD64B or ST64B*" ∷
    [])

-- Words of our own for the refusals of lines, of entries, of blocks, of strict reading and of sheets, by the refusal's number.
abbrev pub own_words : Rule
own_words =
    rule 47 32 (
    8 means "there is no digit" ∷
    9 means "a character is no digit" ∷
    10 means "the number does not fit 64 bits" ∷
    14 means "the bytes end before the entry does" ∷
    15 means "the entry's length is not 11" ∷
    16 means "the entry's version is not 1" ∷
    20 means "the block is longer than 65,536 bytes" ∷
    23 means "something else stands behind the number" ∷
    24 means "WU is 1, which is reserved" ∷
    25 means "VNCR is not 0, and the core has no nested virtualisation" ∷
    26 means "the sheet ends too early" ∷
    27 means "the sheet's version is not 1" ∷
    28 means "a phrase runs past the end of its sheet" ∷
    29 means "a phrase's code is not above the one before it" ∷
    [])

-- Direction of MSR and MRS (#108: "text Read (1) or Write (0)")
abbrev pub msr_read : Rule
msr_read = bit_rule 48 "Read" "Write"

-- ISS of MSR and MRS (#108: "the ISS record gets the name as its text"): the name at each place of the table of registers, which has at most 64
abbrev pub at_places : ℕ → List Register → List Text
at_places n [] = []
at_places n (r ∷ rs) = n means r.name ∷ at_places (suc n) rs

abbrev pub system_register : Rule
system_register = rule 49 64 (at_places 0 registers)

unfoldable pub rules : List Rule
rules =
    plain ∷ il ∷ cv ∷ rv ∷ mcr_read ∷ offset_sign ∷ ldc_read ∷ i_or_d ∷
    a_or_b ∷ tfv ∷ idf ∷ ixf ∷ uff ∷ off ∷ dzf ∷ iof ∷
    step_valid ∷ ex ∷ watch_wn_r ∷ fnv ∷ pfv ∷ isv ∷ sf ∷ ar ∷
    fnp ∷ fnp_not_valid ∷ wnr ∷ ids ∷ els ∷ vfv ∷ iesb ∷ wnrv ∷
    iss_res0 ∷ class_name ∷ ti ∷ am ∷ ld64b_iss ∷ debug_status ∷ fault_status ∷ set_type ∷
    sas ∷ wu ∷ aet ∷ serror_status ∷ wnr_not_valid ∷ message ∷ message_end ∷ own_words ∷
    msr_read ∷ system_register ∷
    []
