-- How long a file of few sections can be, and with it that of a text.
use Rattle.std.proofs.Common.{◌≡◌, ℕ, ◌+◌, ◌-◌, ◌*◌, ◌%◌, ◌^◌, ◌<◌, ◌≤◌, true, List, [], ◌∷◌, ◌++◌, length, map, subst, arith, Option, Some, None, Result, Ok, Err, length-append}
use Rattle.std.specs.Prelude.{All, IfSome, filter}
use Rattle.std.specs.List.{flat_map, sum_by}
use Rattle.std.proofs.Math.Nat.{mod-lt}
use Rattle.std.proofs.lemmas.List.{length-map}
use Rattle.std.proofs.lemmas.List.Sums.{sum_by-cons, length-filter, count_by-le-length}
use Rattle.std.proofs.lemmas.List.Elements.{All-nil, All-cons, All-head, All-tail}
use Rattle.fd_base.specs.Lines.{lines_of}
use Rattle.elf_model.specs.declared.constants.TheConstants.{MAX_ENTRIES}
use Rattle.elf_model.specs.declared.object.Symbol.{Symbol}
use Rattle.elf_model.specs.declared.relocatable.RelObject.{RelObject}
use Rattle.elf_model.specs.declared.relocatable.RelSection.{RelSection}
use Rattle.elf_model.specs.RelSections.{is_section_align}
use Rattle.elf_model.specs.RelSound.{IsNameText, IsSectionSound, IsSymbolSound}
use Rattle.a32_asm.specs.declared.section.TheConstants.{SECTIONS}
use Rattle.elf_write.specs.Words.{aligned, step_of}
use Rattle.elf_write.specs.Strings.{name_bytes}
use Rattle.elf_write.specs.RelFile.{end_of, end_of_all, has_rels, rel_file}
use Rattle.elf_write.specs.WritableRel.{IsWritableRel}
use Rattle.elf_write.proofs.Lengths.{file_length}
use Rattle.elf_write.proofs.Named.{text_of}
use Rattle.elf_write.proofs.Placed.{section_strings_size}
use Rattle.a32_asm.specs.declared.refusal.AsmRefusal.{AsmRefusal}
use Rattle.a32_asm.specs.Layout.{Layout, start}
use Rattle.a32_asm.specs.FirstPass.{Passed, first_pass}
use Rattle.a32_asm.specs.SecondPass.{Contents, nothing_yet, second_pass}
use Rattle.a32_asm.specs.Object.{kept, locals, others, section_of, object_of}
use Rattle.a32_asm.specs.Text.{with_contents, after_first, assembled, IsAssembled}
use Rattle.a32_asm.proofs.Writing.{kept_few, assembled_writable}

-- ---- sections

step_small : (align : ℕ) → is_section_align align ≡ true → (0 < step_of align) × (step_of align ≤ 4096)
step_small align is = grind arith

aligned_near : (align at : ℕ) → is_section_align align ≡ true → aligned align at ≤ at + 4096
aligned_near align at is =
    let step = step_small align is in
    let less = mod-lt (0 % step_of align + step_of align - at % step_of align) step.0 in
    omega (arith, step.1, less)

end_near : (at symbols : ℕ) (s : RelSection) → IsSectionSound symbols s → end_of at s ≤ at + 2 ^ 23
end_near at symbols s sound =
    let near = aligned_near s.align at sound.aligned in
    let filled : length s.filled ≤ 4194304 = grind (arith, sound.filled', sound.small) in
    omega (arith, near, filled)

ends_near : (at symbols : ℕ) (ss : List RelSection) → All (IsSectionSound symbols) ss → end_of_all at ss ≤ at + 2 ^ 23 * length ss
ends_near at symbols [] sound = omega arith
ends_near at symbols (s ∷ ss) sound =
    let here = end_near at symbols s (All-head (IsSectionSound symbols) s ss sound) in
    let rest = ends_near (end_of at s) symbols ss (All-tail (IsSectionSound symbols) s ss sound) in
    omega (arith, here, rest)

few_rels : (ss : List RelSection) → All (λ s. length s.rels ≤ MAX_ENTRIES) ss → sum_by (λ s. length s.rels) ss ≤ 2 ^ 16 * length ss
few_rels [] few = omega arith
few_rels (s ∷ ss) few =
    let here = All-head (λ (x : RelSection). length x.rels ≤ MAX_ENTRIES) s ss few in
    let rest = few_rels ss (All-tail (λ (x : RelSection). length x.rels ≤ MAX_ENTRIES) s ss few) in
    let count : RelSection → ℕ = λ x. length x.rels in
    let all = sum_by-cons count s ss in
    omega (arith, here, rest, all)

few_tables : (ss : List RelSection) → length (filter has_rels ss) ≤ length ss
few_tables ss = let count = length-filter has_rels ss in let most = count_by-le-length has_rels ss in omega (arith, count, most)

-- ---- names

name_short : (name : Option (List ℕ)) → IfSome name IsNameText → length (name_bytes name) ≤ 256
name_short None is = omega arith
name_short (Some name) is =
    let short = (text_of name is).short in
    let whole = length-append name (0 ∷ []) in
    omega (arith, short, whole)

names_short : (names : List (Option (List ℕ))) → All (λ name. IfSome name IsNameText) names → length (flat_map name_bytes names) ≤ 256 * length names
names_short [] are = omega arith
names_short (name ∷ names) are =
    let here = name_short name (All-head (λ (n : Option (List ℕ)). IfSome n IsNameText) name names are) in
    let rest = names_short names (All-tail (λ (n : Option (List ℕ)). IfSome n IsNameText) name names are) in
    let whole = length-append (name_bytes name) (flat_map name_bytes names) in
    omega (arith, here, rest, whole)

named_all : {X : Type 0} (P : X → Type 0) (name : X → Option (List ℕ)) (xs : List X) → All P xs → ((x : X) → P x → IfSome (name x) IsNameText) → All (λ n. IfSome n IsNameText) (map name xs)
named_all P name [] all each = All-nil (λ n. IfSome n IsNameText)
named_all P name (x ∷ xs) all each =
    All-cons (λ n. IfSome n IsNameText) (name x) (map name xs) (each x (All-head P x xs all)) (named_all P name xs (All-tail P x xs all) each)

-- ---- the whole

pub file_short : (r : RelObject) → IsWritableRel r → length r.sections ≤ SECTIONS → length (rel_file r) < 2 ^ 32
file_short r writable few =
    let sound = writable.sound in
    let symbols = length r.symbols in
    let whole = file_length r in
    let ends = ends_near 52 symbols r.sections sound.sound_sections in
    let rels = few_rels r.sections writable.few_rels in
    let tables = few_tables r.sections in
    let of_symbol : Symbol → Option (List ℕ) = λ s. s.name in
    let of_section : RelSection → Option (List ℕ) = λ s. s.name in
    let of_symbols = names_short (map of_symbol r.symbols) (named_all (IsSymbolSound (length r.sections)) of_symbol r.symbols sound.sound_symbols (λ s is. is.named)) in
    let of_sections = names_short (map of_section r.sections) (named_all (IsSectionSound symbols) of_section r.sections sound.sound_sections (λ s is. is.named)) in
    let strings = section_strings_size r.sections in
    let symbol_count = length-map r.symbols of_symbol in
    let section_count = length-map r.sections of_section in
    omega (arith, whole, ends, rels, tables, of_symbols, of_sections, strings, symbol_count, section_count, sound.few_symbols, few)

-- ---- that of a text

sections_few : (all : Layout) (contents : Contents) → length (object_of all contents).sections ≤ SECTIONS
unfolding object_of
sections_few all contents =
    let count = length-map (kept all) (section_of all contents (locals all contents ++ others all)) in
    let few = kept_few all in
    omega (arith, count, few)

same_object : (a b : RelObject) → ◌≡◌ {A = Result RelObject AsmRefusal} (Ok a) (Ok b) → a ≡ b
same_object a b e = cc

behind_second : (all : Layout) (r : Result Contents AsmRefusal) (object : RelObject) → with_contents all r ≡ Ok object → length object.sections ≤ SECTIONS
behind_second all (Err refusal) object e = absurd cc
behind_second all (Ok contents) object e =
    subst (λ (o : RelObject). length o.sections ≤ SECTIONS) (same_object (object_of all contents) object e) (sections_few all contents)

behind_first : (r : Result Passed AsmRefusal) (object : RelObject) → after_first r ≡ Ok object → length object.sections ≤ SECTIONS
behind_first (Err refusal) object e = absurd cc
behind_first (Ok passed) object e = behind_second passed.layout (second_pass passed.layout.known 1 start nothing_yet passed.saids) object e

pub assembled_short : (text : List ℕ) (object : RelObject) → IsAssembled text object → length (rel_file object) < 2 ^ 32
unfolding assembled
assembled_short text object is =
    file_short object (assembled_writable text object is) (behind_first (first_pass 1 (record { saids = []; layout = start }) (lines_of text)) object is)
