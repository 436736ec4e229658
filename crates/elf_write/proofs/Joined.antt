-- Parts that were put in their order are the whole.
use Rattle.std.proofs.Common.{◌≡◌, ℕ, List, [], ◌∷◌, ◌++◌, map, sym, ap, ◌∙◌, append_assoc}
use Rattle.std.specs.List.{flat_map}
use Rattle.fd_base.specs.Words.{word_bytes}
use Rattle.elf_model.specs.declared.relocatable.RelObject.{RelObject}
use Rattle.elf_model.specs.declared.table.SectionHeader.{SectionHeader}
use Rattle.elf_write.specs.Words.{table_bytes, header_row, section_row}
use Rattle.elf_write.specs.RelFile as spec
use Rattle.elf_write.specs.RelFile.{contents, rel_bytes, symbol_rows, kept_headers, rel_headers, table_headers, headers_of, layout_of, symbol_strings, section_strings, rel_file}
use Rattle.elf_write.proofs.Putting.{headers_join}

-- a part behind others
pub joined : (out a b x y : List ℕ) → a ≡ out ++ x → b ≡ a ++ y → b ≡ out ++ (x ++ y)
joined out a b x y first second = second ∙ ap (λ bs. bs ++ y) first ∙ append_assoc out x y

pub three_headers : (out a b c : List ℕ) (x y z : SectionHeader) → a ≡ out ++ word_bytes (section_row x) → b ≡ a ++ word_bytes (section_row y) → c ≡ b ++ word_bytes (section_row z)
    → c ≡ out ++ table_bytes (map section_row (x ∷ y ∷ z ∷ []))
three_headers out a b c x y z first second third =
    joined out a c (word_bytes (section_row x)) (word_bytes (section_row y) ++ word_bytes (section_row z)) first (joined a b c (word_bytes (section_row y)) (word_bytes (section_row z)) second third)

pub all_headers : (r : RelObject) (out a b c d : List ℕ) → a ≡ out ++ word_bytes (section_row spec.null_header)
    → b ≡ a ++ table_bytes (map section_row (kept_headers 52 1 r.sections))
    → c ≡ b ++ table_bytes (map section_row (rel_headers (layout_of r).symtab (layout_of r).rels 1 r.sections))
    → d ≡ c ++ table_bytes (map section_row (table_headers (layout_of r) (spec.table_names_place r) (spec.local_count r.symbols)))
    → d ≡ out ++ table_bytes (map section_row (headers_of r))
all_headers r out a b c d first second third fourth =
    let l = layout_of r in
    let kept = kept_headers 52 1 r.sections in
    let rels = rel_headers l.symtab l.rels 1 r.sections in
    let tables = table_headers l (spec.table_names_place r) (spec.local_count r.symbols) in
    let bytes : List SectionHeader → List ℕ = λ hs. table_bytes (map section_row hs) in
    let later : d ≡ b ++ (bytes rels ++ bytes tables) = joined b c d (bytes rels) (bytes tables) third fourth in
    let last : d ≡ a ++ (bytes kept ++ (bytes rels ++ bytes tables)) = joined a b d (bytes kept) (bytes rels ++ bytes tables) second later in
    let whole : d ≡ out ++ (word_bytes (section_row spec.null_header) ++ (bytes kept ++ (bytes rels ++ bytes tables))) =
    joined out a d (word_bytes (section_row spec.null_header)) (bytes kept ++ (bytes rels ++ bytes tables)) first last in
    whole
    ∙ sym (ap (λ bs. out ++ (word_bytes (section_row spec.null_header) ++ bs)) (headers_join kept (rels ++ tables) ∙ ap (λ bs. bytes kept ++ bs) (headers_join rels tables)))

pub all_parts : (r : RelObject) (out a b c d e f g : List ℕ) → a ≡ out ++ word_bytes (header_row (spec.file_header (layout_of r)))
    → b ≡ a ++ contents 52 r.sections → c ≡ b ++ flat_map rel_bytes r.sections → d ≡ c ++ table_bytes (symbol_rows 1 r.symbols)
    → e ≡ d ++ symbol_strings r → f ≡ e ++ section_strings r → g ≡ f ++ table_bytes (map section_row (headers_of r)) → g ≡ out ++ rel_file r
unfolding rel_file
all_parts r out a b c d e f g p1 p2 p3 p4 p5 p6 p7 =
    let h = word_bytes (header_row (spec.file_header (layout_of r))) in
    let k = contents 52 r.sections in
    let t = flat_map rel_bytes r.sections in
    let y = table_bytes (symbol_rows 1 r.symbols) in
    let s = symbol_strings r in
    let n = section_strings r in
    let x = table_bytes (map section_row (headers_of r)) in
    let q6 : g ≡ e ++ (n ++ x) = joined e f g n x p6 p7 in
    let q5 : g ≡ d ++ (s ++ (n ++ x)) = joined d e g s (n ++ x) p5 q6 in
    let q4 : g ≡ c ++ (y ++ (s ++ (n ++ x))) = joined c d g y (s ++ (n ++ x)) p4 q5 in
    let q3 : g ≡ b ++ (t ++ (y ++ (s ++ (n ++ x)))) = joined b c g t (y ++ (s ++ (n ++ x))) p3 q4 in
    let q2 : g ≡ a ++ (k ++ (t ++ (y ++ (s ++ (n ++ x))))) = joined a b g k (t ++ (y ++ (s ++ (n ++ x)))) p2 q3 in
    joined out a g h (k ++ (t ++ (y ++ (s ++ (n ++ x))))) p1 q2
