-- One more item is put, counted or passed over: what is left begins behind it.
use Rattle.std.proofs.Common.{◌≡◌, ℕ, ◌+◌, ◌<◌, List, ◌∷◌, ◌++◌, length, map, drop, get_or, sym, ap, ◌∙◌}
use Rattle.std.proofs.lemmas.List.{drop_more}
use Rattle.fd_base.specs.Words.{word_bytes}
use Rattle.elf_model.specs.declared.object.Place.{Place}
use Rattle.elf_model.specs.declared.object.Rel.{Rel}
use Rattle.elf_model.specs.declared.object.Symbol.{Symbol}
use Rattle.elf_model.specs.declared.relocatable.RelSection.{RelSection}
use Rattle.elf_write.specs.Words.{table_bytes, section_row, symbol_row, rel_row}
use Rattle.elf_write.specs.Strings.{behind, place_of}
use Rattle.elf_write.specs.RelFile.{end_of, end_of_all, kept_header, kept_headers}
use Rattle.elf_write.proofs.Putting.{put_more}

-- an item and those behind it
pub item_drop : {X : Type 0} (xs : List X) (i : ℕ) (x : X) → i < length xs → x ≡ get_or xs i x → drop i xs ≡ x ∷ drop (i + 1) xs
item_drop xs i x lt is = drop_more xs i x lt ∙ ap (λ y. y ∷ drop (i + 1) xs) (sym is)

module _ (sections : List RelSection) (i : ℕ) (s : RelSection) (more : drop i sections ≡ s ∷ drop (i + 1) sections) where
  abbrev rest : List RelSection
  rest = drop (i + 1) sections

  pub ends_more : (at next total : ℕ) → next ≡ end_of at s → end_of_all at (drop i sections) ≡ total → end_of_all next rest ≡ total
  ends_more at next total is so_far = ap (λ n. end_of_all n rest) is ∙ sym (ap (end_of_all at) more) ∙ so_far

  pub kept_headers_more : (now after all : List ℕ) (at next name named : ℕ) → after ≡ now ++ word_bytes (section_row (kept_header at name s)) → next ≡ end_of at s → named ≡ behind name s.name
      → now ++ table_bytes (map section_row (kept_headers at name (drop i sections))) ≡ all → after ++ table_bytes (map section_row (kept_headers next named rest)) ≡ all
  kept_headers_more now after all at next name named put is is' so_far =
      ap (λ n. after ++ table_bytes (map section_row (kept_headers n named rest))) is
      ∙ ap (λ n. after ++ table_bytes (map section_row (kept_headers (end_of at s) n rest))) is'
      ∙ put_more now after (word_bytes (section_row (kept_header at name s))) (table_bytes (map section_row (kept_headers (end_of at s) (behind name s.name) rest)))
      (table_bytes (map section_row (kept_headers at name (drop i sections)))) all put (ap (λ ss. table_bytes (map section_row (kept_headers at name ss))) more) so_far

-- rows of symbols by whatever gives the index of a symbol's section
module _ (index_of : Place → ℕ) (rows : ℕ → List Symbol → List (List ℕ)) (first : (at : ℕ) (s : Symbol) (ss : List Symbol) → rows at (s ∷ ss) ≡ symbol_row (place_of at s.name) (index_of s.place) s ∷ rows (behind at s.name) ss) (symbols : List Symbol) (i : ℕ) (y : Symbol) (follow : drop i symbols ≡ y ∷ drop (i + 1) symbols) where
  abbrev others : List Symbol
  others = drop (i + 1) symbols

  pub symbols_more : (now after all : List ℕ) (at next : ℕ) → after ≡ now ++ word_bytes (symbol_row (place_of at y.name) (index_of y.place) y) → next ≡ behind at y.name
      → now ++ table_bytes (rows at (drop i symbols)) ≡ all → after ++ table_bytes (rows next others) ≡ all
  symbols_more now after all at next put is so_far =
      ap (λ n. after ++ table_bytes (rows n others)) is
      ∙ put_more now after (word_bytes (symbol_row (place_of at y.name) (index_of y.place) y)) (table_bytes (rows (behind at y.name) others)) (table_bytes (rows at (drop i symbols))) all put
      (ap table_bytes (ap (rows at) follow ∙ first at y others)) so_far

pub rel_rows_more : (rels : List Rel) (i : ℕ) (d : Rel) → i < length rels → (now after all : List ℕ) → after ≡ now ++ word_bytes (rel_row (get_or rels i d))
    → now ++ table_bytes (map rel_row (drop i rels)) ≡ all → after ++ table_bytes (map rel_row (drop (i + 1) rels)) ≡ all
rel_rows_more rels i d lt now after all put so_far =
    put_more now after (word_bytes (rel_row (get_or rels i d))) (table_bytes (map rel_row (drop (i + 1) rels))) (table_bytes (map rel_row (drop i rels))) all put
    (ap (λ rs. table_bytes (map rel_row rs)) (drop_more rels i d lt)) so_far
