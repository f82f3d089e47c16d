-- #108: "a constant table of at most 64 of the manual's names sorted by key, no key twice". A key has 16 bits: Op0 on top, then Op1, CRn, CRm, Op2.
use Rattle.std.specs.Prelude.{ℕ, suc, cond, List, [], ◌∷◌, eqb}
use Prim.Native.String.{String}

-- a system register: its key, and the manual's name
pub record Register : Type 0 where
  pub key : ℕ
  pub name : String

infix 70 ◌names◌
abbrev pub ◌names◌ : ℕ → String → Register
k names s = record { key = k; name = s }

unfoldable pub registers : List Register
registers =
    0x8004 names "DBGBVR0_EL1" ∷
    0x8012 names "MDSCR_EL1" ∷
    0x8084 names "OSLAR_EL1" ∷
    0x808C names "OSLSR_EL1" ∷
    0xC000 names "MIDR_EL1" ∷
    0xC005 names "MPIDR_EL1" ∷
    0xC006 names "REVIDR_EL1" ∷
    0xC020 names "ID_AA64PFR0_EL1" ∷
    0xC021 names "ID_AA64PFR1_EL1" ∷
    0xC028 names "ID_AA64DFR0_EL1" ∷
    0xC030 names "ID_AA64ISAR0_EL1" ∷
    0xC031 names "ID_AA64ISAR1_EL1" ∷
    0xC038 names "ID_AA64MMFR0_EL1" ∷
    0xC039 names "ID_AA64MMFR1_EL1" ∷
    0xC03A names "ID_AA64MMFR2_EL1" ∷
    0xC080 names "SCTLR_EL1" ∷
    0xC081 names "ACTLR_EL1" ∷
    0xC082 names "CPACR_EL1" ∷
    0xC100 names "TTBR0_EL1" ∷
    0xC101 names "TTBR1_EL1" ∷
    0xC102 names "TCR_EL1" ∷
    0xC200 names "SPSR_EL1" ∷
    0xC201 names "ELR_EL1" ∷
    0xC230 names "ICC_PMR_EL1" ∷
    0xC288 names "AFSR0_EL1" ∷
    0xC289 names "AFSR1_EL1" ∷
    0xC290 names "ESR_EL1" ∷
    0xC300 names "FAR_EL1" ∷
    0xC3A0 names "PAR_EL1" ∷
    0xC510 names "MAIR_EL1" ∷
    0xC518 names "AMAIR_EL1" ∷
    0xC600 names "VBAR_EL1" ∷
    0xC608 names "ISR_EL1" ∷
    0xC659 names "ICC_DIR_EL1" ∷
    0xC65D names "ICC_SGI1R_EL1" ∷
    0xC660 names "ICC_IAR1_EL1" ∷
    0xC661 names "ICC_EOIR1_EL1" ∷
    0xC663 names "ICC_BPR1_EL1" ∷
    0xC664 names "ICC_CTLR_EL1" ∷
    0xC665 names "ICC_SRE_EL1" ∷
    0xC667 names "ICC_IGRPEN1_EL1" ∷
    0xC681 names "CONTEXTIDR_EL1" ∷
    0xC684 names "TPIDR_EL1" ∷
    0xC708 names "CNTKCTL_EL1" ∷
    0xC800 names "CCSIDR_EL1" ∷
    0xC801 names "CLIDR_EL1" ∷
    0xD000 names "CSSELR_EL1" ∷
    0xD801 names "CTR_EL0" ∷
    0xD807 names "DCZID_EL0" ∷
    0xDCE0 names "PMCR_EL0" ∷
    0xDCE1 names "PMCNTENSET_EL0" ∷
    0xDCE3 names "PMOVSCLR_EL0" ∷
    0xDCE8 names "PMCCNTR_EL0" ∷
    0xDCF0 names "PMUSERENR_EL0" ∷
    0xDE82 names "TPIDR_EL0" ∷
    0xDE83 names "TPIDRRO_EL0" ∷
    0xDF00 names "CNTFRQ_EL0" ∷
    0xDF01 names "CNTPCT_EL0" ∷
    0xDF02 names "CNTVCT_EL0" ∷
    0xDF10 names "CNTP_TVAL_EL0" ∷
    0xDF11 names "CNTP_CTL_EL0" ∷
    0xDF12 names "CNTP_CVAL_EL0" ∷
    0xDF19 names "CNTV_CTL_EL0" ∷
    0xDF1A names "CNTV_CVAL_EL0" ∷
    []

-- the place of a key in a table; past the last where it is not there
unfoldable pub place_in : List Register → ℕ → ℕ
place_in [] k = 0
place_in (r ∷ rs) k = cond (eqb k r.key) 0 (suc (place_in rs k))
