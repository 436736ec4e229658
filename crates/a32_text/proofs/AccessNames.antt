-- The same of loads, stores and branches. Each is `refl` for each of the conditions.
use Rattle.std.proofs.Common.{◌≡◌, ◌++◌, true, false, Some, refl}
use Rattle.std.specs.Prelude.{codes}
use Rattle.a32_isa.specs.Names.{data_name, long_name, half_name, condition_name}
use Rattle.a32_text.specs.Token.{is_word}
use Rattle.a32_text.specs.declared.head.Head.TheVariants.{Mem, Half, Multi, Branch, Bx, Blx, Svc}
use Rattle.a32_text.specs.Word.{condition_of, data_head, single_head, branch_head, multi_head, plain_head, long_head, half_head, head_of, mnemonic_with, conditional_of, mnemonic_of}
use Rattle.a32_text.proofs.Cases.{each15}
use Rattle.a32_text.proofs.Naming.{IsRead}

pub read_ldr : IsRead (codes "ldr") (Mem true false)
unfolding mnemonic_of conditional_of head_of data_head single_head branch_head multi_head plain_head long_head half_head condition_of condition_name data_name long_name half_name is_word
read_ldr = (refl, each15 (λ cond. mnemonic_of (codes "ldr" ++ condition_name cond) ≡ Some (mnemonic_with cond (Mem true false))) refl refl refl refl refl refl refl refl refl refl refl refl refl refl refl)

pub read_str : IsRead (codes "str") (Mem false false)
unfolding mnemonic_of conditional_of head_of data_head single_head branch_head multi_head plain_head long_head half_head condition_of condition_name data_name long_name half_name is_word
read_str = (refl, each15 (λ cond. mnemonic_of (codes "str" ++ condition_name cond) ≡ Some (mnemonic_with cond (Mem false false))) refl refl refl refl refl refl refl refl refl refl refl refl refl refl refl)

pub read_ldrb : IsRead (codes "ldrb") (Mem true true)
unfolding mnemonic_of conditional_of head_of data_head single_head branch_head multi_head plain_head long_head half_head condition_of condition_name data_name long_name half_name is_word
read_ldrb = (refl, each15 (λ cond. mnemonic_of (codes "ldrb" ++ condition_name cond) ≡ Some (mnemonic_with cond (Mem true true))) refl refl refl refl refl refl refl refl refl refl refl refl refl refl refl)

pub read_strb : IsRead (codes "strb") (Mem false true)
unfolding mnemonic_of conditional_of head_of data_head single_head branch_head multi_head plain_head long_head half_head condition_of condition_name data_name long_name half_name is_word
read_strb = (refl, each15 (λ cond. mnemonic_of (codes "strb" ++ condition_name cond) ≡ Some (mnemonic_with cond (Mem false true))) refl refl refl refl refl refl refl refl refl refl refl refl refl refl refl)

pub read_strh : IsRead (codes "strh") (Half 0)
unfolding mnemonic_of conditional_of head_of data_head single_head branch_head multi_head plain_head long_head half_head condition_of condition_name data_name long_name half_name is_word
read_strh = (refl, each15 (λ cond. mnemonic_of (codes "strh" ++ condition_name cond) ≡ Some (mnemonic_with cond (Half 0))) refl refl refl refl refl refl refl refl refl refl refl refl refl refl refl)

pub read_ldrh : IsRead (codes "ldrh") (Half 1)
unfolding mnemonic_of conditional_of head_of data_head single_head branch_head multi_head plain_head long_head half_head condition_of condition_name data_name long_name half_name is_word
read_ldrh = (refl, each15 (λ cond. mnemonic_of (codes "ldrh" ++ condition_name cond) ≡ Some (mnemonic_with cond (Half 1))) refl refl refl refl refl refl refl refl refl refl refl refl refl refl refl)

pub read_ldrsb : IsRead (codes "ldrsb") (Half 2)
unfolding mnemonic_of conditional_of head_of data_head single_head branch_head multi_head plain_head long_head half_head condition_of condition_name data_name long_name half_name is_word
read_ldrsb = (refl, each15 (λ cond. mnemonic_of (codes "ldrsb" ++ condition_name cond) ≡ Some (mnemonic_with cond (Half 2))) refl refl refl refl refl refl refl refl refl refl refl refl refl refl refl)

pub read_ldrsh : IsRead (codes "ldrsh") (Half 3)
unfolding mnemonic_of conditional_of head_of data_head single_head branch_head multi_head plain_head long_head half_head condition_of condition_name data_name long_name half_name is_word
read_ldrsh = (refl, each15 (λ cond. mnemonic_of (codes "ldrsh" ++ condition_name cond) ≡ Some (mnemonic_with cond (Half 3))) refl refl refl refl refl refl refl refl refl refl refl refl refl refl refl)

pub read_ldmia : IsRead (codes "ldmia") (Multi true false true)
unfolding mnemonic_of conditional_of head_of data_head single_head branch_head multi_head plain_head long_head half_head condition_of condition_name data_name long_name half_name is_word
read_ldmia = (refl, each15 (λ cond. mnemonic_of (codes "ldmia" ++ condition_name cond) ≡ Some (mnemonic_with cond (Multi true false true))) refl refl refl refl refl refl refl refl refl refl refl refl refl refl refl)

pub read_ldmib : IsRead (codes "ldmib") (Multi true true true)
unfolding mnemonic_of conditional_of head_of data_head single_head branch_head multi_head plain_head long_head half_head condition_of condition_name data_name long_name half_name is_word
read_ldmib = (refl, each15 (λ cond. mnemonic_of (codes "ldmib" ++ condition_name cond) ≡ Some (mnemonic_with cond (Multi true true true))) refl refl refl refl refl refl refl refl refl refl refl refl refl refl refl)

pub read_ldmda : IsRead (codes "ldmda") (Multi true false false)
unfolding mnemonic_of conditional_of head_of data_head single_head branch_head multi_head plain_head long_head half_head condition_of condition_name data_name long_name half_name is_word
read_ldmda = (refl, each15 (λ cond. mnemonic_of (codes "ldmda" ++ condition_name cond) ≡ Some (mnemonic_with cond (Multi true false false))) refl refl refl refl refl refl refl refl refl refl refl refl refl refl refl)

pub read_ldmdb : IsRead (codes "ldmdb") (Multi true true false)
unfolding mnemonic_of conditional_of head_of data_head single_head branch_head multi_head plain_head long_head half_head condition_of condition_name data_name long_name half_name is_word
read_ldmdb = (refl, each15 (λ cond. mnemonic_of (codes "ldmdb" ++ condition_name cond) ≡ Some (mnemonic_with cond (Multi true true false))) refl refl refl refl refl refl refl refl refl refl refl refl refl refl refl)

pub read_stmia : IsRead (codes "stmia") (Multi false false true)
unfolding mnemonic_of conditional_of head_of data_head single_head branch_head multi_head plain_head long_head half_head condition_of condition_name data_name long_name half_name is_word
read_stmia = (refl, each15 (λ cond. mnemonic_of (codes "stmia" ++ condition_name cond) ≡ Some (mnemonic_with cond (Multi false false true))) refl refl refl refl refl refl refl refl refl refl refl refl refl refl refl)

pub read_stmib : IsRead (codes "stmib") (Multi false true true)
unfolding mnemonic_of conditional_of head_of data_head single_head branch_head multi_head plain_head long_head half_head condition_of condition_name data_name long_name half_name is_word
read_stmib = (refl, each15 (λ cond. mnemonic_of (codes "stmib" ++ condition_name cond) ≡ Some (mnemonic_with cond (Multi false true true))) refl refl refl refl refl refl refl refl refl refl refl refl refl refl refl)

pub read_stmda : IsRead (codes "stmda") (Multi false false false)
unfolding mnemonic_of conditional_of head_of data_head single_head branch_head multi_head plain_head long_head half_head condition_of condition_name data_name long_name half_name is_word
read_stmda = (refl, each15 (λ cond. mnemonic_of (codes "stmda" ++ condition_name cond) ≡ Some (mnemonic_with cond (Multi false false false))) refl refl refl refl refl refl refl refl refl refl refl refl refl refl refl)

pub read_stmdb : IsRead (codes "stmdb") (Multi false true false)
unfolding mnemonic_of conditional_of head_of data_head single_head branch_head multi_head plain_head long_head half_head condition_of condition_name data_name long_name half_name is_word
read_stmdb = (refl, each15 (λ cond. mnemonic_of (codes "stmdb" ++ condition_name cond) ≡ Some (mnemonic_with cond (Multi false true false))) refl refl refl refl refl refl refl refl refl refl refl refl refl refl refl)

pub read_b : IsRead (codes "b") (Branch false)
unfolding mnemonic_of conditional_of head_of data_head single_head branch_head multi_head plain_head long_head half_head condition_of condition_name data_name long_name half_name is_word
read_b = (refl, each15 (λ cond. mnemonic_of (codes "b" ++ condition_name cond) ≡ Some (mnemonic_with cond (Branch false))) refl refl refl refl refl refl refl refl refl refl refl refl refl refl refl)

pub read_bl : IsRead (codes "bl") (Branch true)
unfolding mnemonic_of conditional_of head_of data_head single_head branch_head multi_head plain_head long_head half_head condition_of condition_name data_name long_name half_name is_word
read_bl = (refl, each15 (λ cond. mnemonic_of (codes "bl" ++ condition_name cond) ≡ Some (mnemonic_with cond (Branch true))) refl refl refl refl refl refl refl refl refl refl refl refl refl refl refl)

pub read_bx : IsRead (codes "bx") Bx
unfolding mnemonic_of conditional_of head_of data_head single_head branch_head multi_head plain_head long_head half_head condition_of condition_name data_name long_name half_name is_word
read_bx = (refl, each15 (λ cond. mnemonic_of (codes "bx" ++ condition_name cond) ≡ Some (mnemonic_with cond Bx)) refl refl refl refl refl refl refl refl refl refl refl refl refl refl refl)

pub read_blx : IsRead (codes "blx") Blx
unfolding mnemonic_of conditional_of head_of data_head single_head branch_head multi_head plain_head long_head half_head condition_of condition_name data_name long_name half_name is_word
read_blx = (refl, each15 (λ cond. mnemonic_of (codes "blx" ++ condition_name cond) ≡ Some (mnemonic_with cond Blx)) refl refl refl refl refl refl refl refl refl refl refl refl refl refl refl)

pub read_svc : IsRead (codes "svc") Svc
unfolding mnemonic_of conditional_of head_of data_head single_head branch_head multi_head plain_head long_head half_head condition_of condition_name data_name long_name half_name is_word
read_svc = (refl, each15 (λ cond. mnemonic_of (codes "svc" ++ condition_name cond) ≡ Some (mnemonic_with cond Svc)) refl refl refl refl refl refl refl refl refl refl refl refl refl refl refl)
