-- The same of multiplications, and of what has no kinds. Each is `refl` for each of the conditions.
use Rattle.std.proofs.Common.{◌≡◌, ◌++◌, true, false, Some, refl}
use Rattle.std.specs.Prelude.{codes}
use Rattle.a32_isa.specs.Names.{data_name, long_name, half_name, condition_name}
use Rattle.a32_text.specs.Token.{is_word}
use Rattle.a32_text.specs.declared.head.Head.TheVariants.{Mul, Mla, Long, Clz, Movw, Movt, Nop}
use Rattle.a32_text.specs.Word.{condition_of, data_head, single_head, branch_head, multi_head, plain_head, long_head, half_head, head_of, mnemonic_with, conditional_of, mnemonic_of}
use Rattle.a32_text.proofs.Cases.{each15}
use Rattle.a32_text.proofs.Naming.{IsRead}

pub read_mul : IsRead (codes "mul") (Mul false)
unfolding mnemonic_of conditional_of head_of data_head single_head branch_head multi_head plain_head long_head half_head condition_of condition_name data_name long_name half_name is_word
read_mul = (refl, each15 (λ cond. mnemonic_of (codes "mul" ++ condition_name cond) ≡ Some (mnemonic_with cond (Mul false))) refl refl refl refl refl refl refl refl refl refl refl refl refl refl refl)

pub read_muls : IsRead (codes "muls") (Mul true)
unfolding mnemonic_of conditional_of head_of data_head single_head branch_head multi_head plain_head long_head half_head condition_of condition_name data_name long_name half_name is_word
read_muls = (refl, each15 (λ cond. mnemonic_of (codes "muls" ++ condition_name cond) ≡ Some (mnemonic_with cond (Mul true))) refl refl refl refl refl refl refl refl refl refl refl refl refl refl refl)

pub read_mla : IsRead (codes "mla") (Mla false)
unfolding mnemonic_of conditional_of head_of data_head single_head branch_head multi_head plain_head long_head half_head condition_of condition_name data_name long_name half_name is_word
read_mla = (refl, each15 (λ cond. mnemonic_of (codes "mla" ++ condition_name cond) ≡ Some (mnemonic_with cond (Mla false))) refl refl refl refl refl refl refl refl refl refl refl refl refl refl refl)

pub read_mlas : IsRead (codes "mlas") (Mla true)
unfolding mnemonic_of conditional_of head_of data_head single_head branch_head multi_head plain_head long_head half_head condition_of condition_name data_name long_name half_name is_word
read_mlas = (refl, each15 (λ cond. mnemonic_of (codes "mlas" ++ condition_name cond) ≡ Some (mnemonic_with cond (Mla true))) refl refl refl refl refl refl refl refl refl refl refl refl refl refl refl)

pub read_umull : IsRead (codes "umull") (Long 0 false)
unfolding mnemonic_of conditional_of head_of data_head single_head branch_head multi_head plain_head long_head half_head condition_of condition_name data_name long_name half_name is_word
read_umull = (refl, each15 (λ cond. mnemonic_of (codes "umull" ++ condition_name cond) ≡ Some (mnemonic_with cond (Long 0 false))) refl refl refl refl refl refl refl refl refl refl refl refl refl refl refl)

pub read_umulls : IsRead (codes "umulls") (Long 0 true)
unfolding mnemonic_of conditional_of head_of data_head single_head branch_head multi_head plain_head long_head half_head condition_of condition_name data_name long_name half_name is_word
read_umulls = (refl, each15 (λ cond. mnemonic_of (codes "umulls" ++ condition_name cond) ≡ Some (mnemonic_with cond (Long 0 true))) refl refl refl refl refl refl refl refl refl refl refl refl refl refl refl)

pub read_umlal : IsRead (codes "umlal") (Long 1 false)
unfolding mnemonic_of conditional_of head_of data_head single_head branch_head multi_head plain_head long_head half_head condition_of condition_name data_name long_name half_name is_word
read_umlal = (refl, each15 (λ cond. mnemonic_of (codes "umlal" ++ condition_name cond) ≡ Some (mnemonic_with cond (Long 1 false))) refl refl refl refl refl refl refl refl refl refl refl refl refl refl refl)

pub read_umlals : IsRead (codes "umlals") (Long 1 true)
unfolding mnemonic_of conditional_of head_of data_head single_head branch_head multi_head plain_head long_head half_head condition_of condition_name data_name long_name half_name is_word
read_umlals = (refl, each15 (λ cond. mnemonic_of (codes "umlals" ++ condition_name cond) ≡ Some (mnemonic_with cond (Long 1 true))) refl refl refl refl refl refl refl refl refl refl refl refl refl refl refl)

pub read_smull : IsRead (codes "smull") (Long 2 false)
unfolding mnemonic_of conditional_of head_of data_head single_head branch_head multi_head plain_head long_head half_head condition_of condition_name data_name long_name half_name is_word
read_smull = (refl, each15 (λ cond. mnemonic_of (codes "smull" ++ condition_name cond) ≡ Some (mnemonic_with cond (Long 2 false))) refl refl refl refl refl refl refl refl refl refl refl refl refl refl refl)

pub read_smulls : IsRead (codes "smulls") (Long 2 true)
unfolding mnemonic_of conditional_of head_of data_head single_head branch_head multi_head plain_head long_head half_head condition_of condition_name data_name long_name half_name is_word
read_smulls = (refl, each15 (λ cond. mnemonic_of (codes "smulls" ++ condition_name cond) ≡ Some (mnemonic_with cond (Long 2 true))) refl refl refl refl refl refl refl refl refl refl refl refl refl refl refl)

pub read_smlal : IsRead (codes "smlal") (Long 3 false)
unfolding mnemonic_of conditional_of head_of data_head single_head branch_head multi_head plain_head long_head half_head condition_of condition_name data_name long_name half_name is_word
read_smlal = (refl, each15 (λ cond. mnemonic_of (codes "smlal" ++ condition_name cond) ≡ Some (mnemonic_with cond (Long 3 false))) refl refl refl refl refl refl refl refl refl refl refl refl refl refl refl)

pub read_smlals : IsRead (codes "smlals") (Long 3 true)
unfolding mnemonic_of conditional_of head_of data_head single_head branch_head multi_head plain_head long_head half_head condition_of condition_name data_name long_name half_name is_word
read_smlals = (refl, each15 (λ cond. mnemonic_of (codes "smlals" ++ condition_name cond) ≡ Some (mnemonic_with cond (Long 3 true))) refl refl refl refl refl refl refl refl refl refl refl refl refl refl refl)

pub read_clz : IsRead (codes "clz") Clz
unfolding mnemonic_of conditional_of head_of data_head single_head branch_head multi_head plain_head long_head half_head condition_of condition_name data_name long_name half_name is_word
read_clz = (refl, each15 (λ cond. mnemonic_of (codes "clz" ++ condition_name cond) ≡ Some (mnemonic_with cond Clz)) refl refl refl refl refl refl refl refl refl refl refl refl refl refl refl)

pub read_movw : IsRead (codes "movw") Movw
unfolding mnemonic_of conditional_of head_of data_head single_head branch_head multi_head plain_head long_head half_head condition_of condition_name data_name long_name half_name is_word
read_movw = (refl, each15 (λ cond. mnemonic_of (codes "movw" ++ condition_name cond) ≡ Some (mnemonic_with cond Movw)) refl refl refl refl refl refl refl refl refl refl refl refl refl refl refl)

pub read_movt : IsRead (codes "movt") Movt
unfolding mnemonic_of conditional_of head_of data_head single_head branch_head multi_head plain_head long_head half_head condition_of condition_name data_name long_name half_name is_word
read_movt = (refl, each15 (λ cond. mnemonic_of (codes "movt" ++ condition_name cond) ≡ Some (mnemonic_with cond Movt)) refl refl refl refl refl refl refl refl refl refl refl refl refl refl refl)

pub read_nop : IsRead (codes "nop") Nop
unfolding mnemonic_of conditional_of head_of data_head single_head branch_head multi_head plain_head long_head half_head condition_of condition_name data_name long_name half_name is_word
read_nop = (refl, each15 (λ cond. mnemonic_of (codes "nop" ++ condition_name cond) ≡ Some (mnemonic_with cond Nop)) refl refl refl refl refl refl refl refl refl refl refl refl refl refl refl)
