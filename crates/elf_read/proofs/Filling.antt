-- The sites of entries in turn.
use Rattle.std.proofs.Common.{◌≡◌, ℕ, ◌+◌, ◌<◌, List, [], ◌∷◌, ◌++◌, length, get_or, take, map, append_assoc, sym, ap, ◌∙◌, subst}
use Rattle.std.proofs.lemmas.List.{take_more, map-append}
use Rattle.std.proofs.lemmas.List.Elements.{filter-append}
use Rattle.elf_model.specs.declared.table.RelEntry.{RelEntry}
use Rattle.elf_model.specs.declared.table.Site.{Site}
use Rattle.elf_model.specs.Relocations.{fills, site_of, sites_of, sites_before, got_header, word_site}
use Rattle.elf_read.specs.declared.sites.Taken.{Taken}
use Rattle.elf_read.specs.parts.Taken.{Has}

sites_of-append : (es fs : List RelEntry) → sites_of (es ++ fs) ≡ sites_of es ++ sites_of fs
sites_of-append es fs = ap (λ (xs : List RelEntry). map site_of xs) (filter-append fills es fs) ∙ map-append site_of _ _

pub sites_more : (got : ℕ) (entries : List RelEntry) (k : ℕ) (d : RelEntry) → k < length entries → sites_before got entries (k + 1) ≡ sites_before got entries k ++ sites_of (get_or entries k d ∷ [])
sites_more got entries k d lt =
    ap (λ (es : List RelEntry). got_header got ∷ sites_of es) (take_more entries k d lt)
    ∙ ap (λ (ss : List Site). got_header got ∷ ss) (sites_of-append (take k entries) (get_or entries k d ∷ []))

pub has_sites_more : (got : ℕ) (entries : List RelEntry) (k : ℕ) (d : RelEntry) (old new : Taken) → k < length entries → Has old (sites_before got entries k)
    → ((sites : List Site) → Has old sites → Has new (sites ++ sites_of (get_or entries k d ∷ []))) → Has new (sites_before got entries (k + 1))
has_sites_more got entries k d old new lt has more = subst (λ (ss : List Site). Has new ss) (sym (sites_more got entries k d lt)) (more (sites_before got entries k) has)

-- one more fixup is filled
pub has_fixups_more : (sites : List Site) (fixups : List ℕ) (k d : ℕ) (new : Taken) → k < length fixups
    → Has new (sites ++ map word_site (take k fixups) ++ word_site (get_or fixups k d) ∷ []) → Has new (sites ++ map word_site (take (k + 1) fixups))
has_fixups_more sites fixups k d new lt has =
    let more : map word_site (take (k + 1) fixups) ≡ map word_site (take k fixups) ++ word_site (get_or fixups k d) ∷ [] =
    ap (λ (xs : List ℕ). map word_site xs) (take_more fixups k d lt) ∙ map-append word_site (take k fixups) (get_or fixups k d ∷ []) in
    subst (λ (ss : List Site). Has new ss) (append_assoc sites _ _ ∙ ap (λ (ss : List Site). sites ++ ss) (sym more)) has
