-- One more section header is done.
use Rattle.std.proofs.Common.{◌≡◌, ℕ, ◌+◌, ◌≤◌, true, false, cond, List, [], ◌∷◌, ◌++◌, length, map, Some, None, sym, ap, ◌∙◌, arith, append-nil, length-append}
use Rattle.std.specs.List.{range_with_len, sum_by}
use Rattle.std.proofs.lemmas.List.FromFn.{map-range_with_len_more, filter_of_map_range_with_len_more}
use Rattle.std.proofs.lemmas.List.Sums.{sum_by-append}
use Rattle.elf_model.specs.declared.constants.TheConstants.{MAX_SECTION_BYTES}
use Rattle.elf_model.specs.Sections.{section_header}
use Rattle.elf_model.specs.RelSections.{is_kept, kept_below, kept_number, bytes_in_file, bytes_so_far}
use Rattle.elf_read_rel.specs.declared.kept.Kept.{Kept}
use Rattle.elf_read_rel.specs.parts.Kept.{HasKept, number_of}

kept_more : (bytes : List ℕ) (i : ℕ) → kept_below bytes (i + 1) ≡ kept_below bytes i ++ cond (is_kept (section_header bytes i)) (section_header bytes i ∷ []) []
kept_more bytes i = filter_of_map_range_with_len_more is_kept (section_header bytes) 0 i i (omega arith)

numbers_more : (bytes : List ℕ) (i : ℕ) → map (number_of bytes) (range_with_len 0 (i + 1)) ≡ map (number_of bytes) (range_with_len 0 i) ++ number_of bytes i ∷ []
numbers_more bytes i = map-range_with_len_more (number_of bytes) 0 i i (omega arith)

pub one_kept : (bytes : List ℕ) (i : ℕ) (old new : Kept) → HasKept bytes i old → is_kept (section_header bytes i) ≡ true
    → new.numbers.items ≡ old.numbers.items ++ Some old.count ∷ [] → new.count ≡ old.count + 1
    → new.bytes ≡ bytes_so_far bytes i → new.bytes ≤ MAX_SECTION_BYTES → HasKept bytes (i + 1) new
one_kept bytes i old new before kept numbers count all small =
    let more : kept_below bytes (i + 1) ≡ kept_below bytes i ++ section_header bytes i ∷ [] =
    kept_more bytes i ∙ ap (λ b. kept_below bytes i ++ cond b (section_header bytes i ∷ []) []) kept in
    let number : number_of bytes i ≡ Some old.count = ap (λ b. cond b (Some (kept_number bytes i)) None) kept ∙ ap Some (sym before.count) in
    let one : sum_by bytes_in_file (section_header bytes i ∷ []) ≡ bytes_in_file (section_header bytes i) = omega arith in
    record {
      numbers = numbers ∙ ap (λ ns. ns ++ Some old.count ∷ []) before.numbers ∙ ap (λ n. map (number_of bytes) (range_with_len 0 i) ++ n ∷ []) (sym number) ∙ sym (numbers_more bytes i);
      count = count ∙ ap (λ n. n + 1) before.count ∙ sym (ap length more ∙ length-append (kept_below bytes i) (section_header bytes i ∷ []));
      few = (let f = before.few in omega (arith, f, count));
      bytes' = all ∙ sym (ap (sum_by bytes_in_file) more ∙ sum_by-append bytes_in_file (kept_below bytes i) (section_header bytes i ∷ []) ∙ ap (λ n. sum_by bytes_in_file (kept_below bytes i) + n) one);
      small = small;
    }

pub one_left_out : (bytes : List ℕ) (i : ℕ) (old new : Kept) → HasKept bytes i old → is_kept (section_header bytes i) ≡ false
    → new.numbers.items ≡ old.numbers.items ++ None ∷ [] → new.count ≡ old.count → new.bytes ≡ old.bytes → HasKept bytes (i + 1) new
one_left_out bytes i old new before out numbers count all =
    let same : kept_below bytes (i + 1) ≡ kept_below bytes i =
    kept_more bytes i ∙ ap (λ b. kept_below bytes i ++ cond b (section_header bytes i ∷ []) []) out ∙ append-nil (kept_below bytes i) in
    let number : number_of bytes i ≡ None = ap (λ b. cond b (Some (kept_number bytes i)) None) out in
    record {
      numbers = numbers ∙ ap (λ ns. ns ++ None ∷ []) before.numbers ∙ ap (λ n. map (number_of bytes) (range_with_len 0 i) ++ n ∷ []) (sym number) ∙ sym (numbers_more bytes i);
      count = count ∙ before.count ∙ sym (ap length same);
      few = (let f = before.few in omega (arith, f, count));
      bytes' = all ∙ before.bytes' ∙ sym (ap (sum_by bytes_in_file) same);
      small = (let s = before.small in omega (arith, s, all));
    }
