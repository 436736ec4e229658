-- New modules have images.
use Rattle.std.proofs.Common.{ℕ, ◌+◌, Bool, List, [], ◌∷◌, map, arith}
use Rattle.std.specs.List.{range_with_len}
use Rattle.std.proofs.lemmas.List.FromFn.{get_or-map-range_with_len, length-map-range_with_len}
use Rattle.load_map.specs.declared.entry.MapEntry.{MapEntry}
use Rattle.load_map.specs.Maps.{map_at}
use Rattle.elf_model.specs.declared.object.Object.{Object}
use Rattle.load_model.specs.declared.module.Joining.{Joining}
use Rattle.load_model.specs.Definition.{Linkage}
use Rattle.load_model.specs.Image.{IsImage, IsPart, Placing, image_of}
use Rattle.load_model.specs.Unbound.{unbound_at_first}
use Rattle.load_state.specs.Accepted.{AreFinished}

module _ (l : Linkage) (p : Placing) (lazy : Bool) where
  -- the bytes of one placed segment
  part_of : ℕ → Object → MapEntry → List ℕ
  part_of m o e = map (λ i. image_of l p m o (unbound_at_first lazy o) (e.vaddr + i)) (range_with_len 0 e.memsz)

  is_part : (m : ℕ) (o : Object) (e : MapEntry) → IsPart l p m o (unbound_at_first lazy o) e (part_of m o e)
  unfolding part_of
  is_part m o e = record {
    len = length-map-range_with_len (λ i. image_of l p m o (unbound_at_first lazy o) (e.vaddr + i)) 0 e.memsz;
    bytes = λ i lt. get_or-map-range_with_len (λ k. image_of l p m o (unbound_at_first lazy o) (e.vaddr + k)) 0 e.memsz i i 0 lt (omega arith);
  }

  parts_of : ℕ → Object → List MapEntry → List (List ℕ)
  parts_of m o [] = []
  parts_of m o (e ∷ es) = part_of m o e ∷ parts_of m o es

  is_image : (m : ℕ) (o : Object) (es : List MapEntry) → IsImage l p m o (unbound_at_first lazy o) es (parts_of m o es)
  unfolding parts_of
  is_image m o [] = tt
  is_image m o (e ∷ es) = (is_part m o e, is_image m o es)

  pub images_of : List (List MapEntry) → List Joining → List (List (List ℕ))
  images_of maps [] = []
  images_of maps (j ∷ joining) = parts_of j.number j.object (map_at maps j.number) ∷ images_of maps joining

  pub are_finished : (maps : List (List MapEntry)) (joining : List Joining) → AreFinished l p lazy joining maps (images_of maps joining)
  unfolding images_of
  are_finished maps [] = tt
  are_finished maps (j ∷ joining) = (is_image j.number j.object (map_at maps j.number), are_finished maps joining)
