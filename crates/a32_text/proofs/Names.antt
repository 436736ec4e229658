-- Each name that is printed is read again.
use Rattle.std.proofs.Common.{◌≡◌, ℕ, ◌<◌, Bool, true, false, not, ◌&&◌, ◌++◌, Some, refl}
use Rattle.std.specs.Prelude.{codes, if◌then◌else◌}
use Rattle.std.specs.List.{list_all}
use Rattle.a32_isa.specs.Registers.{is_comparison}
use Rattle.a32_isa.specs.Names.{data_name, long_name, half_name, condition_name, register_name, shift_name}
use Rattle.a32_isa.specs.Text.{where_set, mode_name}
use Rattle.a32_text.specs.Token.{is_word}
use Rattle.a32_text.specs.declared.head.Head.TheVariants.{Data, Mul, Mla, Long, Mem, Half, Multi, Branch}
use Rattle.a32_text.specs.Word.{register_of, shift_of}
use Rattle.a32_text.proofs.Cases.{each4, each15, each16}
use Rattle.a32_text.proofs.Naming.{IsRead}
use Rattle.a32_text.proofs.DataNames.{read_and, read_ands, read_eor, read_eors, read_sub, read_subs, read_rsb, read_rsbs, read_add, read_adds, read_adc, read_adcs, read_sbc, read_sbcs, read_rsc, read_rscs, read_tst, read_teq, read_cmp, read_cmn, read_orr, read_orrs, read_mov, read_movs, read_bic, read_bics, read_mvn, read_mvns}
use Rattle.a32_text.proofs.FactorNames.{read_mul, read_muls, read_mla, read_mlas, read_umull, read_umulls, read_umlal, read_umlals, read_smull, read_smulls, read_smlal, read_smlals}
use Rattle.a32_text.proofs.AccessNames.{read_ldr, read_str, read_ldrb, read_strb, read_strh, read_ldrh, read_ldrsb, read_ldrsh, read_ldmia, read_ldmib, read_ldmda, read_ldmdb, read_stmia, read_stmib, read_stmda, read_stmdb, read_b, read_bl}

pub data_named : (op : ℕ) (s : Bool) → op < 16 → IsRead (data_name op ++ where_set (s && not (is_comparison op)) (codes "s")) (Data op (s && not (is_comparison op)))
unfolding data_name
data_named op true h = each16 (λ op. IsRead (data_name op ++ where_set (true && not (is_comparison op)) (codes "s")) (Data op (true && not (is_comparison op)))) read_ands read_eors read_subs read_rsbs read_adds read_adcs read_sbcs read_rscs read_tst read_teq read_cmp read_cmn read_orrs read_movs read_bics read_mvns op h
data_named op false h = each16 (λ op. IsRead (data_name op ++ where_set (false && not (is_comparison op)) (codes "s")) (Data op (false && not (is_comparison op)))) read_and read_eor read_sub read_rsb read_add read_adc read_sbc read_rsc read_tst read_teq read_cmp read_cmn read_orr read_mov read_bic read_mvn op h

pub mul_named : (s : Bool) → IsRead (codes "mul" ++ where_set s (codes "s")) (Mul s)
mul_named true = read_muls
mul_named false = read_mul

pub mla_named : (s : Bool) → IsRead (codes "mla" ++ where_set s (codes "s")) (Mla s)
mla_named true = read_mlas
mla_named false = read_mla

pub long_named : (kind : ℕ) (s : Bool) → kind < 4 → IsRead (long_name kind ++ where_set s (codes "s")) (Long kind s)
unfolding long_name
long_named kind true h = each4 (λ kind. IsRead (long_name kind ++ codes "s") (Long kind true)) read_umulls read_umlals read_smulls read_smlals kind h
long_named kind false h = each4 (λ kind. IsRead (long_name kind ++ where_set false (codes "s")) (Long kind false)) read_umull read_umlal read_smull read_smlal kind h

pub mem_named : (load byte : Bool) → IsRead ((if load then codes "ldr" else codes "str") ++ where_set byte (codes "b")) (Mem load byte)
mem_named true true = read_ldrb
mem_named true false = read_ldr
mem_named false true = read_strb
mem_named false false = read_str

pub half_named : (kind : ℕ) → kind < 4 → IsRead (half_name kind) (Half kind)
unfolding half_name
half_named kind h = each4 (λ kind. IsRead (half_name kind) (Half kind)) read_strh read_ldrh read_ldrsb read_ldrsh kind h

pub multi_named : (load p u : Bool) → IsRead ((if load then codes "ldm" else codes "stm") ++ mode_name p u) (Multi load p u)
multi_named true false true = read_ldmia
multi_named true true true = read_ldmib
multi_named true false false = read_ldmda
multi_named true true false = read_ldmdb
multi_named false false true = read_stmia
multi_named false true true = read_stmib
multi_named false false false = read_stmda
multi_named false true false = read_stmdb

pub branch_named : (link : Bool) → IsRead (codes "b" ++ where_set link (codes "l")) (Branch link)
branch_named true = read_bl
branch_named false = read_b

pub condition_word : (cond : ℕ) → cond < 15 → list_all is_word (condition_name cond) ≡ true
unfolding condition_name is_word
condition_word cond h = each15 (λ cond. list_all is_word (condition_name cond) ≡ true) refl refl refl refl refl refl refl refl refl refl refl refl refl refl refl cond h

pub register_read : (r : ℕ) → r < 16 → register_of (register_name r) ≡ Some r
unfolding register_of register_name
register_read r h = each16 (λ r. register_of (register_name r) ≡ Some r) refl refl refl refl refl refl refl refl refl refl refl refl refl refl refl refl r h

pub shift_read : (k : ℕ) → k < 4 → shift_of (shift_name k) ≡ Some k
unfolding shift_of shift_name
shift_read k h = each4 (λ k. shift_of (shift_name k) ≡ Some k) refl refl refl refl k h
