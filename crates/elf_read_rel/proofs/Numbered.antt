-- The numbers of kept sections by index, and the names and tables that symbols are read from.
use Rattle.std.proofs.Common.{◌≡◌, ℕ, ◌/◌, ◌<◌, ◌≤◌, Bool, true, false, not, cond, ◌&&◌, ◌||◌, ◌==◌, List, length, get_or, Option, Some, None, refl, sym, ap, ◌∙◌, arith}
use Rattle.std.specs.Prelude.{nat_lt, is_none}
use Rattle.std.specs.Option.{option_map_or}
use Rattle.std.proofs.lemmas.Bool.{le-ltb, lt-ltb}
use Rattle.std.proofs.lemmas.List.FromFn.{length-map-range_with_len, get_or-map-range_with_len}
use Rattle.elf_model.specs.declared.constants.TheConstants.{SYM_SIZE, STB_LOCAL}
use Rattle.elf_model.specs.declared.table.SymbolEntry.{SymbolEntry}
use Rattle.elf_model.specs.Header.{e_shnum}
use Rattle.elf_model.specs.Sections.{section_header}
use Rattle.elf_model.specs.Strings.{string_at, name_at}
use Rattle.elf_model.specs.Symbols.{binding_of}
use Rattle.elf_model.specs.RelSections.{is_kept, is_kept_at, kept_number}
use Rattle.elf_model.specs.RelSymbols.{has_name, symbol_section, symbol_count}
use Rattle.elf_read_rel.specs.parts.Kept.{number_of, number_at, numbers_of}

as_many : (bytes : List ℕ) (numbers : List (Option ℕ)) → numbers ≡ numbers_of bytes → length numbers ≡ e_shnum bytes
as_many bytes numbers is = ap length is ∙ length-map-range_with_len (number_of bytes) 0 (e_shnum bytes)

pub numbered : (bytes : List ℕ) (numbers : List (Option ℕ)) (i : ℕ) (x : Option ℕ) → i < length numbers → x ≡ get_or numbers i x → numbers ≡ numbers_of bytes → x ≡ number_at bytes i
unfolding is_kept_at
numbered bytes numbers i x lt at is =
    let inside : i < e_shnum bytes = omega (arith, lt, as_many bytes numbers is) in
    let here : nat_lt i (e_shnum bytes) ≡ true = lt-ltb i (e_shnum bytes) inside in
    at ∙ ap (λ ns. get_or ns i x) is ∙ get_or-map-range_with_len (number_of bytes) 0 (e_shnum bytes) i i x inside (omega arith)
    ∙ sym (ap (λ b. cond (b && is_kept (section_header bytes i)) (Some (kept_number bytes i)) None) here)

pub unnumbered : (bytes : List ℕ) (numbers : List (Option ℕ)) (i : ℕ) → length numbers ≤ i → numbers ≡ numbers_of bytes → None ≡ number_at bytes i
unfolding is_kept_at
unnumbered bytes numbers i past is =
    let outside : nat_lt i (e_shnum bytes) ≡ false = le-ltb i (e_shnum bytes) (omega (arith, past, as_many bytes numbers is)) in
    sym (ap (λ b. cond (b && is_kept (section_header bytes i)) (Some (kept_number bytes i)) None) outside)

-- a symbol without the text of a name
pub nameless : (names : List ℕ) (e : SymbolEntry) → None ≡ cond (has_name names e) (string_at names e.name) None → has_name names e ≡ false
unfolding has_name
nameless names e none = by_text (string_at names e.name) (binding_of e == STB_LOCAL || not (is_none (name_at names e.name))) none
  where
    by_text : (o : Option (List ℕ)) (b : Bool) → None ≡ cond (not (is_none o) && b) o None → (not (is_none o) && b) ≡ false
    by_text None b none = refl
    by_text (Some text) true none = absurd cc
    by_text (Some text) false none = refl

-- how many symbols the table has
pub count_of : (bytes : List ℕ) (o : Option ℕ) → o ≡ symbol_section bytes → symbol_count bytes ≡ option_map_or (λ i. (section_header bytes i).size / SYM_SIZE) o 0
unfolding symbol_count
count_of bytes o is = sym (ap (λ s. option_map_or (λ i. (section_header bytes i).size / SYM_SIZE) s 0) is)
