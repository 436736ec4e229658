-- Names of data operations that are printed are read again. Each is `refl` for each of the conditions.
use Rattle.std.proofs.Common.{◌≡◌, ◌++◌, true, false, Some, refl}
use Rattle.std.specs.Prelude.{codes}
use Rattle.a32_isa.specs.Names.{data_name, long_name, half_name, condition_name}
use Rattle.a32_text.specs.Token.{is_word}
use Rattle.a32_text.specs.declared.head.Head.TheVariants.{Data}
use Rattle.a32_text.specs.Word.{condition_of, data_head, single_head, branch_head, multi_head, plain_head, long_head, half_head, head_of, mnemonic_with, conditional_of, mnemonic_of}
use Rattle.a32_text.proofs.Cases.{each15}
use Rattle.a32_text.proofs.Naming.{IsRead}

pub read_and : IsRead (codes "and") (Data 0 false)
unfolding mnemonic_of conditional_of head_of data_head single_head branch_head multi_head plain_head long_head half_head condition_of condition_name data_name long_name half_name is_word
read_and = (refl, each15 (λ cond. mnemonic_of (codes "and" ++ condition_name cond) ≡ Some (mnemonic_with cond (Data 0 false))) refl refl refl refl refl refl refl refl refl refl refl refl refl refl refl)

pub read_ands : IsRead (codes "ands") (Data 0 true)
unfolding mnemonic_of conditional_of head_of data_head single_head branch_head multi_head plain_head long_head half_head condition_of condition_name data_name long_name half_name is_word
read_ands = (refl, each15 (λ cond. mnemonic_of (codes "ands" ++ condition_name cond) ≡ Some (mnemonic_with cond (Data 0 true))) refl refl refl refl refl refl refl refl refl refl refl refl refl refl refl)

pub read_eor : IsRead (codes "eor") (Data 1 false)
unfolding mnemonic_of conditional_of head_of data_head single_head branch_head multi_head plain_head long_head half_head condition_of condition_name data_name long_name half_name is_word
read_eor = (refl, each15 (λ cond. mnemonic_of (codes "eor" ++ condition_name cond) ≡ Some (mnemonic_with cond (Data 1 false))) refl refl refl refl refl refl refl refl refl refl refl refl refl refl refl)

pub read_eors : IsRead (codes "eors") (Data 1 true)
unfolding mnemonic_of conditional_of head_of data_head single_head branch_head multi_head plain_head long_head half_head condition_of condition_name data_name long_name half_name is_word
read_eors = (refl, each15 (λ cond. mnemonic_of (codes "eors" ++ condition_name cond) ≡ Some (mnemonic_with cond (Data 1 true))) refl refl refl refl refl refl refl refl refl refl refl refl refl refl refl)

pub read_sub : IsRead (codes "sub") (Data 2 false)
unfolding mnemonic_of conditional_of head_of data_head single_head branch_head multi_head plain_head long_head half_head condition_of condition_name data_name long_name half_name is_word
read_sub = (refl, each15 (λ cond. mnemonic_of (codes "sub" ++ condition_name cond) ≡ Some (mnemonic_with cond (Data 2 false))) refl refl refl refl refl refl refl refl refl refl refl refl refl refl refl)

pub read_subs : IsRead (codes "subs") (Data 2 true)
unfolding mnemonic_of conditional_of head_of data_head single_head branch_head multi_head plain_head long_head half_head condition_of condition_name data_name long_name half_name is_word
read_subs = (refl, each15 (λ cond. mnemonic_of (codes "subs" ++ condition_name cond) ≡ Some (mnemonic_with cond (Data 2 true))) refl refl refl refl refl refl refl refl refl refl refl refl refl refl refl)

pub read_rsb : IsRead (codes "rsb") (Data 3 false)
unfolding mnemonic_of conditional_of head_of data_head single_head branch_head multi_head plain_head long_head half_head condition_of condition_name data_name long_name half_name is_word
read_rsb = (refl, each15 (λ cond. mnemonic_of (codes "rsb" ++ condition_name cond) ≡ Some (mnemonic_with cond (Data 3 false))) refl refl refl refl refl refl refl refl refl refl refl refl refl refl refl)

pub read_rsbs : IsRead (codes "rsbs") (Data 3 true)
unfolding mnemonic_of conditional_of head_of data_head single_head branch_head multi_head plain_head long_head half_head condition_of condition_name data_name long_name half_name is_word
read_rsbs = (refl, each15 (λ cond. mnemonic_of (codes "rsbs" ++ condition_name cond) ≡ Some (mnemonic_with cond (Data 3 true))) refl refl refl refl refl refl refl refl refl refl refl refl refl refl refl)

pub read_add : IsRead (codes "add") (Data 4 false)
unfolding mnemonic_of conditional_of head_of data_head single_head branch_head multi_head plain_head long_head half_head condition_of condition_name data_name long_name half_name is_word
read_add = (refl, each15 (λ cond. mnemonic_of (codes "add" ++ condition_name cond) ≡ Some (mnemonic_with cond (Data 4 false))) refl refl refl refl refl refl refl refl refl refl refl refl refl refl refl)

pub read_adds : IsRead (codes "adds") (Data 4 true)
unfolding mnemonic_of conditional_of head_of data_head single_head branch_head multi_head plain_head long_head half_head condition_of condition_name data_name long_name half_name is_word
read_adds = (refl, each15 (λ cond. mnemonic_of (codes "adds" ++ condition_name cond) ≡ Some (mnemonic_with cond (Data 4 true))) refl refl refl refl refl refl refl refl refl refl refl refl refl refl refl)

pub read_adc : IsRead (codes "adc") (Data 5 false)
unfolding mnemonic_of conditional_of head_of data_head single_head branch_head multi_head plain_head long_head half_head condition_of condition_name data_name long_name half_name is_word
read_adc = (refl, each15 (λ cond. mnemonic_of (codes "adc" ++ condition_name cond) ≡ Some (mnemonic_with cond (Data 5 false))) refl refl refl refl refl refl refl refl refl refl refl refl refl refl refl)

pub read_adcs : IsRead (codes "adcs") (Data 5 true)
unfolding mnemonic_of conditional_of head_of data_head single_head branch_head multi_head plain_head long_head half_head condition_of condition_name data_name long_name half_name is_word
read_adcs = (refl, each15 (λ cond. mnemonic_of (codes "adcs" ++ condition_name cond) ≡ Some (mnemonic_with cond (Data 5 true))) refl refl refl refl refl refl refl refl refl refl refl refl refl refl refl)

pub read_sbc : IsRead (codes "sbc") (Data 6 false)
unfolding mnemonic_of conditional_of head_of data_head single_head branch_head multi_head plain_head long_head half_head condition_of condition_name data_name long_name half_name is_word
read_sbc = (refl, each15 (λ cond. mnemonic_of (codes "sbc" ++ condition_name cond) ≡ Some (mnemonic_with cond (Data 6 false))) refl refl refl refl refl refl refl refl refl refl refl refl refl refl refl)

pub read_sbcs : IsRead (codes "sbcs") (Data 6 true)
unfolding mnemonic_of conditional_of head_of data_head single_head branch_head multi_head plain_head long_head half_head condition_of condition_name data_name long_name half_name is_word
read_sbcs = (refl, each15 (λ cond. mnemonic_of (codes "sbcs" ++ condition_name cond) ≡ Some (mnemonic_with cond (Data 6 true))) refl refl refl refl refl refl refl refl refl refl refl refl refl refl refl)

pub read_rsc : IsRead (codes "rsc") (Data 7 false)
unfolding mnemonic_of conditional_of head_of data_head single_head branch_head multi_head plain_head long_head half_head condition_of condition_name data_name long_name half_name is_word
read_rsc = (refl, each15 (λ cond. mnemonic_of (codes "rsc" ++ condition_name cond) ≡ Some (mnemonic_with cond (Data 7 false))) refl refl refl refl refl refl refl refl refl refl refl refl refl refl refl)

pub read_rscs : IsRead (codes "rscs") (Data 7 true)
unfolding mnemonic_of conditional_of head_of data_head single_head branch_head multi_head plain_head long_head half_head condition_of condition_name data_name long_name half_name is_word
read_rscs = (refl, each15 (λ cond. mnemonic_of (codes "rscs" ++ condition_name cond) ≡ Some (mnemonic_with cond (Data 7 true))) refl refl refl refl refl refl refl refl refl refl refl refl refl refl refl)

pub read_tst : IsRead (codes "tst") (Data 8 false)
unfolding mnemonic_of conditional_of head_of data_head single_head branch_head multi_head plain_head long_head half_head condition_of condition_name data_name long_name half_name is_word
read_tst = (refl, each15 (λ cond. mnemonic_of (codes "tst" ++ condition_name cond) ≡ Some (mnemonic_with cond (Data 8 false))) refl refl refl refl refl refl refl refl refl refl refl refl refl refl refl)

pub read_teq : IsRead (codes "teq") (Data 9 false)
unfolding mnemonic_of conditional_of head_of data_head single_head branch_head multi_head plain_head long_head half_head condition_of condition_name data_name long_name half_name is_word
read_teq = (refl, each15 (λ cond. mnemonic_of (codes "teq" ++ condition_name cond) ≡ Some (mnemonic_with cond (Data 9 false))) refl refl refl refl refl refl refl refl refl refl refl refl refl refl refl)

pub read_cmp : IsRead (codes "cmp") (Data 10 false)
unfolding mnemonic_of conditional_of head_of data_head single_head branch_head multi_head plain_head long_head half_head condition_of condition_name data_name long_name half_name is_word
read_cmp = (refl, each15 (λ cond. mnemonic_of (codes "cmp" ++ condition_name cond) ≡ Some (mnemonic_with cond (Data 10 false))) refl refl refl refl refl refl refl refl refl refl refl refl refl refl refl)

pub read_cmn : IsRead (codes "cmn") (Data 11 false)
unfolding mnemonic_of conditional_of head_of data_head single_head branch_head multi_head plain_head long_head half_head condition_of condition_name data_name long_name half_name is_word
read_cmn = (refl, each15 (λ cond. mnemonic_of (codes "cmn" ++ condition_name cond) ≡ Some (mnemonic_with cond (Data 11 false))) refl refl refl refl refl refl refl refl refl refl refl refl refl refl refl)

pub read_orr : IsRead (codes "orr") (Data 12 false)
unfolding mnemonic_of conditional_of head_of data_head single_head branch_head multi_head plain_head long_head half_head condition_of condition_name data_name long_name half_name is_word
read_orr = (refl, each15 (λ cond. mnemonic_of (codes "orr" ++ condition_name cond) ≡ Some (mnemonic_with cond (Data 12 false))) refl refl refl refl refl refl refl refl refl refl refl refl refl refl refl)

pub read_orrs : IsRead (codes "orrs") (Data 12 true)
unfolding mnemonic_of conditional_of head_of data_head single_head branch_head multi_head plain_head long_head half_head condition_of condition_name data_name long_name half_name is_word
read_orrs = (refl, each15 (λ cond. mnemonic_of (codes "orrs" ++ condition_name cond) ≡ Some (mnemonic_with cond (Data 12 true))) refl refl refl refl refl refl refl refl refl refl refl refl refl refl refl)

pub read_mov : IsRead (codes "mov") (Data 13 false)
unfolding mnemonic_of conditional_of head_of data_head single_head branch_head multi_head plain_head long_head half_head condition_of condition_name data_name long_name half_name is_word
read_mov = (refl, each15 (λ cond. mnemonic_of (codes "mov" ++ condition_name cond) ≡ Some (mnemonic_with cond (Data 13 false))) refl refl refl refl refl refl refl refl refl refl refl refl refl refl refl)

pub read_movs : IsRead (codes "movs") (Data 13 true)
unfolding mnemonic_of conditional_of head_of data_head single_head branch_head multi_head plain_head long_head half_head condition_of condition_name data_name long_name half_name is_word
read_movs = (refl, each15 (λ cond. mnemonic_of (codes "movs" ++ condition_name cond) ≡ Some (mnemonic_with cond (Data 13 true))) refl refl refl refl refl refl refl refl refl refl refl refl refl refl refl)

pub read_bic : IsRead (codes "bic") (Data 14 false)
unfolding mnemonic_of conditional_of head_of data_head single_head branch_head multi_head plain_head long_head half_head condition_of condition_name data_name long_name half_name is_word
read_bic = (refl, each15 (λ cond. mnemonic_of (codes "bic" ++ condition_name cond) ≡ Some (mnemonic_with cond (Data 14 false))) refl refl refl refl refl refl refl refl refl refl refl refl refl refl refl)

pub read_bics : IsRead (codes "bics") (Data 14 true)
unfolding mnemonic_of conditional_of head_of data_head single_head branch_head multi_head plain_head long_head half_head condition_of condition_name data_name long_name half_name is_word
read_bics = (refl, each15 (λ cond. mnemonic_of (codes "bics" ++ condition_name cond) ≡ Some (mnemonic_with cond (Data 14 true))) refl refl refl refl refl refl refl refl refl refl refl refl refl refl refl)

pub read_mvn : IsRead (codes "mvn") (Data 15 false)
unfolding mnemonic_of conditional_of head_of data_head single_head branch_head multi_head plain_head long_head half_head condition_of condition_name data_name long_name half_name is_word
read_mvn = (refl, each15 (λ cond. mnemonic_of (codes "mvn" ++ condition_name cond) ≡ Some (mnemonic_with cond (Data 15 false))) refl refl refl refl refl refl refl refl refl refl refl refl refl refl refl)

pub read_mvns : IsRead (codes "mvns") (Data 15 true)
unfolding mnemonic_of conditional_of head_of data_head single_head branch_head multi_head plain_head long_head half_head condition_of condition_name data_name long_name half_name is_word
read_mvns = (refl, each15 (λ cond. mnemonic_of (codes "mvns" ++ condition_name cond) ≡ Some (mnemonic_with cond (Data 15 true))) refl refl refl refl refl refl refl refl refl refl refl refl refl refl refl)
