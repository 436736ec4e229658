-- One relocation more of a section.
use Rattle.std.proofs.Common.{◌≡◌, ℕ, ◌<◌, Bool, true, false, List, [], ◌∷◌, ◌++◌, map, length, get_or, slice_set, Ok, Err, Some, refl, sym, ap, ◌∙◌, arith}
use Rattle.std.specs.Prelude.{nat_le, if◌then◌else◌}
use Rattle.std.proofs.lemmas.List.{get_or_read, get_or-map, length-map, map-append, map-set}
use Rattle.a32_text.specs.declared.refusal.AsmKind.TheVariants.{Range}
use Rattle.a32_asm.specs.declared.contents.RelTo.{RelTo as RelRead}
use Rattle.a32_asm.specs.declared.limits.TheConstants.{RELS_MAX}
use Rattle.a32_asm.specs.SecondPass.{RelTo, Contents, with_rel}
use Rattle.a32_asm.specs.Shown.{shown_rel}

abbrev shown : List RelRead → List RelTo
shown rels = map shown_rel rels

module _ (filled : List (List ℕ)) (rels : List (List RelRead)) (section : ℕ) (rel : RelRead) (now : List RelRead) (there : section < length rels) (is : now ≡ get_or rels section now) where
  abbrev contents : List (List RelRead) → Contents
  contents all = record { filled = filled; rels = map shown all }

  earlier : get_or (map shown rels) section [] ≡ shown now
  earlier = get_or-map shown rels section [] [] there ∙ ap shown (sym (get_or_read rels section now there is []))

  count : length (get_or (map shown rels) section []) ≡ length now
  count = ap (length {A = RelTo}) earlier ∙ length-map now shown_rel

  abbrev more : List RelTo → List RelTo
  more rs = rs ++ shown_rel rel ∷ []

  abbrev with_more : Contents
  with_more = record { filled = filled; rels = slice_set (map shown rels) section (more (get_or (map shown rels) section [])) }

  by_room : (full : Bool) → full ≡ false → (if full then Err Range else Ok with_more) ≡ Ok with_more
  by_room true e = absurd cc
  by_room false e = refl

  pub added : length now < RELS_MAX → (new : List RelRead) → new ≡ now ++ rel ∷ [] → with_rel section rel.site (Some (rel.kind, rel.name.now)) (contents rels) ≡ Ok (contents (slice_set rels section new))
  added room new put =
      let free : nat_le RELS_MAX (length (get_or (map shown rels) section [])) ≡ false = rw count (grind arith) in
      let all : slice_set (map shown rels) section (more (get_or (map shown rels) section [])) ≡ map shown (slice_set rels section new) =
      ap (λ (rs : List RelTo). slice_set (map shown rels) section (more rs)) earlier
      ∙ ap (slice_set (map shown rels) section) (sym (ap shown put ∙ map-append shown_rel now (rel ∷ [])))
      ∙ sym (map-set shown rels section new) in
      by_room (nat_le RELS_MAX (length (get_or (map shown rels) section []))) free ∙ ap (λ (rs : List (List RelTo)). Ok (record { filled = filled; rels = rs })) all
