-- The object is built of what was made of its parts.
use Rattle.std.proofs.Common.{◌≡◌, ℕ, ◌+◌, ◌<◌, Bool, List, [], ◌∷◌, ◌++◌, length, get_or, take, map, sym, ap, ◌∙◌}
use Rattle.std.specs.Prelude.{◌==◌}
use Rattle.std.specs.List.{position_or_len}
use Rattle.std.proofs.lemmas.List.{map_more, map-append}
use Rattle.elf_model.specs.Symbols.{null_symbol}
use Rattle.elf_model.specs.declared.object.Rel.{Rel}
use Rattle.elf_model.specs.declared.object.Symbol.{Symbol}
use Rattle.elf_model.specs.declared.relocatable.RelObject.{RelObject}
use Rattle.elf_model.specs.declared.relocatable.RelSection.{RelSection}
use Rattle.a32_asm.specs.declared.contents.RelTo.{RelTo as RelRead}
use Rattle.a32_asm.specs.Known.{Names, place_of}
use Rattle.a32_asm.specs.Layout.{Layout}
use Rattle.a32_asm.specs.SecondPass.{Contents}
use Rattle.a32_asm.specs.Object.{kept, locals, others, symbol_of, rel_of, section_of, object_of}
use Rattle.a32_asm.specs.Shown.{shown_rel}
use Rattle.a32_asm.specs.parts.Made.{IsMade}
use Rattle.a32_asm.specs.parts.Numbered.{AreNamed}
use Rattle.a32_asm.proofs.Numbering.{marked_locals, locals_are}

-- one relocation more
pub rels_more : (all : Layout) (numbered : List ℕ) (rels : List RelRead) (i : ℕ) (d : RelRead) (place symbol : ℕ) (known : Names) (made new : List Rel) → place ≡ place_of (get_or rels i d).name.now known.names
    → known ≡ all.known → symbol ≡ 1 + position_or_len (λ k. k == place) numbered → new ≡ made ++ record { site = (get_or rels i d).site; kind = (get_or rels i d).kind; symbol = symbol } ∷ []
    → i < length rels → made ≡ map (rel_of all numbered) (map shown_rel (take i rels)) → new ≡ map (rel_of all numbered) (map shown_rel (take (i + 1) rels))
rels_more all numbered rels i d place symbol known made new at same is pushed l so_far =
    let rel = get_or rels i d in
    let number : symbol ≡ 1 + position_or_len (λ k. k == place_of rel.name.now all.known.names) numbered =
    is ∙ ap (λ p. 1 + position_or_len (λ k. k == p) numbered) (at ∙ ap (λ (ns : Names). place_of rel.name.now ns.names) same) in
    pushed ∙ ap (λ n. made ++ record { site = rel.site; kind = rel.kind; symbol = n } ∷ []) number ∙ ap (λ (rs : List Rel). rs ++ rel_of all numbered (shown_rel rel) ∷ []) so_far
    ∙ sym (ap (map (rel_of all numbered)) (map_more shown_rel rels i d l) ∙ map-append (rel_of all numbered) (map shown_rel (take i rels)) (shown_rel rel ∷ []))

pub object_is : (all : Layout) (contents : Contents) (named : List Bool) (numbered places kept_here : List ℕ) (sections : List RelSection) (symbols : List Symbol) → IsMade all → AreNamed all.known.names contents.rels named
    → numbered ≡ marked_locals all named ++ others all → places ≡ numbered → kept_here ≡ kept all → sections ≡ map (section_of all contents numbered) kept_here → symbols ≡ null_symbol ∷ map (symbol_of all) places
    → ◌≡◌ {A = RelObject} (record { sections = sections; symbols = symbols }) (object_of all contents)
unfolding object_of
object_is all contents named numbered places kept_here sections symbols m h are at keeps ss ys =
    let all_places = locals all contents ++ others all in
    let numbers : numbered ≡ all_places = are ∙ ap (λ ns. ns ++ others all) (locals_are all contents named m h) in
    let made = map (section_of all contents all_places) (kept all) in
    let left : sections ≡ made = ss ∙ ap (map (section_of all contents numbered)) keeps ∙ ap (λ ns. map (section_of all contents ns) (kept all)) numbers in
    let right : symbols ≡ null_symbol ∷ map (symbol_of all) all_places = ys ∙ ap (λ ns. null_symbol ∷ map (symbol_of all) ns) (at ∙ numbers) in
    ap (λ (s : List RelSection). record { sections = s; symbols = symbols }) left ∙ ap (λ (y : List Symbol). record { sections = made; symbols = y }) right
