-- Texts assembled by hand.
use Rattle.std.proofs.Common.{ℕ, List, [], ◌∷◌, ◌++◌, refl, Some}
use Rattle.std.specs.Prelude.{codes}
use Rattle.elf_model.specs.Symbols.{null_symbol}
use Rattle.elf_model.specs.declared.object.Place.TheVariants as at
use Rattle.a32_text.specs.declared.refusal.AsmKind.TheVariants.{Range, LabelTwice, NoLabel}
use Rattle.a32_text.specs.Address.{take_number_off, take_off_shift, take_register_off, take_off, take_behind_base, take_inner, take_address}
use Rattle.a32_text.specs.Arg.{shift_field, take_amount, take_shift_by, take_shift, rotation_of, constant_arg, rotated_arg, take_constant, take_arg_amount, take_arg_shift_by, take_arg_shift, take_arg}
use Rattle.a32_text.specs.List.{bits_from, take_list}
use Rattle.a32_text.specs.Operands.{data_behind, data_operands, mem_operands, half_operands, take_base, multi_operands, stack_operands, branch_by, branch_operands, clz_operands, mul_operands, four_operands, mla_operands, long_operands, wide_operands, svc_by, operands_of}
use Rattle.a32_text.specs.Statement.{literal_of, named_of, statement_with, instruction_of, is_apart, statement_of}
use Rattle.a32_text.specs.Taking.{take_register, take_number, take_next_register, take_immediate, take_pair, take_name}
use Rattle.a32_text.specs.Token.{is_word, with_byte, tokens_of}
use Rattle.a32_text.specs.Word.{other_register, register_of, shift_of, condition_of, data_head, single_head, branch_head, multi_head, plain_head, long_head, half_head, head_of, conditional_of, mnemonic_of, is_name}
use Rattle.a32_isa.specs.Immediate.{constant_of, gives, is_lowest}
use Rattle.a32_isa.specs.Names.{register_name, condition_name, data_name, long_name, half_name, shift_name}
use Rattle.fd_base.specs.Texts.{numeral_of, number_of}
use Rattle.a32_asm.specs.Directive.{naming, putting, directive_of, kind_of, take_kind, relocation_of, take_added, take_operator, take_behind_name, take_value, is_of_text, closed_text, text_of, operands_of as asm_operands_of}
use Rattle.a32_asm.specs.Layout.{with_said, fits_at, place_refusal}
use Rattle.a32_asm.specs.Line.{of_directive, statement_of as asm_statement_of, has_label, said_in, said_of}
use Rattle.a32_asm.specs.Object.{kept, locals, others, object_of}
use Rattle.a32_asm.specs.SecondPass.{settled, field_to, put_of}
use Rattle.a32_asm.specs.Section.{section_name}
use Rattle.a32_asm.specs.Text.{assembled, IsAssembled, IsRefused}

-- a line with its end, and another text behind it
abbrev line : List ℕ → List ℕ → List ℕ
line text behind = text ++ 0x0a ∷ behind

nothing : IsAssembled [] (record { sections = []; symbols = null_symbol ∷ [] })
unfolding take_number_off take_off_shift take_register_off take_off take_behind_base take_inner take_address shift_field take_amount take_shift_by take_shift rotation_of constant_arg rotated_arg take_constant take_arg_amount take_arg_shift_by take_arg_shift take_arg bits_from take_list data_behind data_operands mem_operands half_operands take_base multi_operands stack_operands branch_by branch_operands clz_operands mul_operands four_operands mla_operands long_operands wide_operands svc_by operands_of literal_of named_of statement_with instruction_of is_apart statement_of take_register take_number take_next_register take_immediate take_pair take_name is_word with_byte tokens_of other_register register_of shift_of condition_of data_head single_head branch_head multi_head plain_head long_head half_head head_of conditional_of mnemonic_of is_name constant_of gives is_lowest register_name condition_name data_name long_name half_name shift_name numeral_of number_of naming putting directive_of kind_of take_kind relocation_of take_added take_operator take_behind_name take_value is_of_text closed_text text_of asm_operands_of with_said fits_at place_refusal of_directive asm_statement_of has_label said_in said_of kept locals others object_of settled field_to put_of section_name assembled
nothing = refl

twice : IsRefused (line [] (line (codes "a:") (line (codes ".word 5") (line [] (line (codes "a: nop") []))))) (record { line = 5; kind = LabelTwice })
unfolding take_number_off take_off_shift take_register_off take_off take_behind_base take_inner take_address shift_field take_amount take_shift_by take_shift rotation_of constant_arg rotated_arg take_constant take_arg_amount take_arg_shift_by take_arg_shift take_arg bits_from take_list data_behind data_operands mem_operands half_operands take_base multi_operands stack_operands branch_by branch_operands clz_operands mul_operands four_operands mla_operands long_operands wide_operands svc_by operands_of literal_of named_of statement_with instruction_of is_apart statement_of take_register take_number take_next_register take_immediate take_pair take_name is_word with_byte tokens_of other_register register_of shift_of condition_of data_head single_head branch_head multi_head plain_head long_head half_head head_of conditional_of mnemonic_of is_name constant_of gives is_lowest register_name condition_name data_name long_name half_name shift_name numeral_of number_of naming putting directive_of kind_of take_kind relocation_of take_added take_operator take_behind_name take_value is_of_text closed_text text_of asm_operands_of with_said fits_at place_refusal of_directive asm_statement_of has_label said_in said_of kept locals others object_of settled field_to put_of section_name assembled
twice = refl

too_wide : IsRefused (line [] (line [] (line (codes "mov r0, #0x101") []))) (record { line = 3; kind = Range })
unfolding take_number_off take_off_shift take_register_off take_off take_behind_base take_inner take_address shift_field take_amount take_shift_by take_shift rotation_of constant_arg rotated_arg take_constant take_arg_amount take_arg_shift_by take_arg_shift take_arg bits_from take_list data_behind data_operands mem_operands half_operands take_base multi_operands stack_operands branch_by branch_operands clz_operands mul_operands four_operands mla_operands long_operands wide_operands svc_by operands_of literal_of named_of statement_with instruction_of is_apart statement_of take_register take_number take_next_register take_immediate take_pair take_name is_word with_byte tokens_of other_register register_of shift_of condition_of data_head single_head branch_head multi_head plain_head long_head half_head head_of conditional_of mnemonic_of is_name constant_of gives is_lowest register_name condition_name data_name long_name half_name shift_name numeral_of number_of naming putting directive_of kind_of take_kind relocation_of take_added take_operator take_behind_name take_value is_of_text closed_text text_of asm_operands_of with_said fits_at place_refusal of_directive asm_statement_of has_label said_in said_of kept locals others object_of settled field_to put_of section_name assembled
too_wide = refl

foo : IsAssembled (line (codes ".global foo") (line (codes ".type foo func") (line (codes "foo:  mov r0, #7 @ seven") (line (codes " bx lr") []))))
    (record {
      sections = record { name = Some (codes ".text"); kind = 1; flags = 6; align = 4; size = 8; filled = 0x07 ∷ 0x00 ∷ 0xa0 ∷ 0xe3 ∷ 0x1e ∷ 0xff ∷ 0x2f ∷ 0xe1 ∷ []; rels = [] } ∷ [];
      symbols = null_symbol ∷ record { name = Some (codes "foo"); value = 0; size = 0; binding = 1; kind = 2; visibility = 0; place = at.Section 0 } ∷ [];
    })
unfolding take_number_off take_off_shift take_register_off take_off take_behind_base take_inner take_address shift_field take_amount take_shift_by take_shift rotation_of constant_arg rotated_arg take_constant take_arg_amount take_arg_shift_by take_arg_shift take_arg bits_from take_list data_behind data_operands mem_operands half_operands take_base multi_operands stack_operands branch_by branch_operands clz_operands mul_operands four_operands mla_operands long_operands wide_operands svc_by operands_of literal_of named_of statement_with instruction_of is_apart statement_of take_register take_number take_next_register take_immediate take_pair take_name is_word with_byte tokens_of other_register register_of shift_of condition_of data_head single_head branch_head multi_head plain_head long_head half_head head_of conditional_of mnemonic_of is_name constant_of gives is_lowest register_name condition_name data_name long_name half_name shift_name numeral_of number_of naming putting directive_of kind_of take_kind relocation_of take_added take_operator take_behind_name take_value is_of_text closed_text text_of asm_operands_of with_said fits_at place_refusal of_directive asm_statement_of has_label said_in said_of kept locals others object_of settled field_to put_of section_name assembled
foo = refl

relocated : IsAssembled (line (codes ".data") (line (codes "w: .word w+1") (line (codes " .word b(GOT)") (line (codes ".text") (line (codes "bl far") (line (codes "s: b s") []))))))
    (record {
      sections = record { name = Some (codes ".text"); kind = 1; flags = 6; align = 4; size = 8; filled = 0xfe ∷ 0xff ∷ 0xff ∷ 0xeb ∷ 0xfe ∷ 0xff ∷ 0xff ∷ 0xea ∷ []; rels = record { site = 0; kind = 28; symbol = 3 } ∷ [] }
          ∷ record { name = Some (codes ".data"); kind = 1; flags = 3; align = 4; size = 8; filled = 1 ∷ 0 ∷ 0 ∷ 0 ∷ 0 ∷ 0 ∷ 0 ∷ 0 ∷ []; rels = record { site = 0; kind = 2; symbol = 1 } ∷ record { site = 4; kind = 26; symbol = 2 } ∷ [] } ∷ [];
      symbols = null_symbol ∷ record { name = Some (codes "w"); value = 0; size = 0; binding = 0; kind = 0; visibility = 0; place = at.Section 1 }
          ∷ record { name = Some (codes "b"); value = 0; size = 0; binding = 1; kind = 0; visibility = 0; place = at.Undefined }
          ∷ record { name = Some (codes "far"); value = 0; size = 0; binding = 1; kind = 0; visibility = 0; place = at.Undefined } ∷ [];
    })
unfolding take_number_off take_off_shift take_register_off take_off take_behind_base take_inner take_address shift_field take_amount take_shift_by take_shift rotation_of constant_arg rotated_arg take_constant take_arg_amount take_arg_shift_by take_arg_shift take_arg bits_from take_list data_behind data_operands mem_operands half_operands take_base multi_operands stack_operands branch_by branch_operands clz_operands mul_operands four_operands mla_operands long_operands wide_operands svc_by operands_of literal_of named_of statement_with instruction_of is_apart statement_of take_register take_number take_next_register take_immediate take_pair take_name is_word with_byte tokens_of other_register register_of shift_of condition_of data_head single_head branch_head multi_head plain_head long_head half_head head_of conditional_of mnemonic_of is_name constant_of gives is_lowest register_name condition_name data_name long_name half_name shift_name numeral_of number_of naming putting directive_of kind_of take_kind relocation_of take_added take_operator take_behind_name take_value is_of_text closed_text text_of asm_operands_of with_said fits_at place_refusal of_directive asm_statement_of has_label said_in said_of kept locals others object_of settled field_to put_of section_name assembled
relocated = refl

-- `w` stands in another section
other_section : IsRefused (line (codes "ldr r6, w") (line (codes ".data") (line (codes "w: .asciz \"a@b\"") []))) (record { line = 1; kind = NoLabel })
unfolding take_number_off take_off_shift take_register_off take_off take_behind_base take_inner take_address shift_field take_amount take_shift_by take_shift rotation_of constant_arg rotated_arg take_constant take_arg_amount take_arg_shift_by take_arg_shift take_arg bits_from take_list data_behind data_operands mem_operands half_operands take_base multi_operands stack_operands branch_by branch_operands clz_operands mul_operands four_operands mla_operands long_operands wide_operands svc_by operands_of literal_of named_of statement_with instruction_of is_apart statement_of take_register take_number take_next_register take_immediate take_pair take_name is_word with_byte tokens_of other_register register_of shift_of condition_of data_head single_head branch_head multi_head plain_head long_head half_head head_of conditional_of mnemonic_of is_name constant_of gives is_lowest register_name condition_name data_name long_name half_name shift_name numeral_of number_of naming putting directive_of kind_of take_kind relocation_of take_added take_operator take_behind_name take_value is_of_text closed_text text_of asm_operands_of with_said fits_at place_refusal of_directive asm_statement_of has_label said_in said_of kept locals others object_of settled field_to put_of section_name assembled
other_section = refl
