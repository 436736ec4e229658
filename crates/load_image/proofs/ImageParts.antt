-- One more part of an image.
use Rattle.std.proofs.Common.{◌≡◌, ℕ, Bool, ◌+◌, ◌-◌, ◌<◌, ◌≤◌, List, [], ◌∷◌, ◌++◌, length, get_or, slice_index, take, sym, ap, subst, ◌∙◌, arith, cond}
use Rattle.std.specs.List.{AllZip}
use Rattle.std.proofs.lemmas.List.{take_all, take_more}
use Rattle.load_map.specs.declared.entry.MapEntry.{MapEntry}
use Rattle.elf_model.specs.declared.object.Segment.{Segment}
use Rattle.elf_model.specs.declared.object.Object.{Object}
use Rattle.elf_model.specs.Places.{file_byte}
use Rattle.load_model.specs.declared.words.LinkWord.{LinkWord}
use Rattle.load_model.specs.Definition.{Linkage}
use Rattle.load_model.specs.Image.{Placing, is_in_word, byte_over, words_of, image_of, IsPart, IsImage}
use Rattle.load_image.specs.parts.Bounds.{IsMapOf}
use Rattle.fd_base.proofs.Lists.{zip-get_or, zip_length, zip_push}

-- what lies under the words counts at the place itself alone
pub byte_over-same : (ws : List LinkWord) (f g : ℕ → ℕ) (v : ℕ) → f v ≡ g v → byte_over ws f v ≡ byte_over ws g v
byte_over-same [] f g v e = e
byte_over-same (w ∷ ws) f g v e = ap (cond (is_in_word w v) _) (byte_over-same ws f g v e)

-- a segment's bytes under the words are those of the file
pub part_byte : (ws : List LinkWord) (bytes : List ℕ) (below : ℕ → ℕ) (vaddr i new old : ℕ)
    → new ≡ byte_over ws (λ v. slice_index bytes (v - vaddr)) (vaddr + i)
    → slice_index bytes i ≡ old → below (vaddr + i) ≡ old → new ≡ byte_over ws below (vaddr + i)
part_byte ws bytes below vaddr i new old is raw file =
    let place : vaddr + i - vaddr ≡ i = omega arith in
    is ∙ byte_over-same ws (λ v. slice_index bytes (v - vaddr)) below (vaddr + i) (ap (slice_index bytes) place ∙ raw ∙ sym file)

pub part_more : (l : Linkage) (p : Placing) (load_map : List MapEntry) (m : ℕ) (o : Object) (unbound : List Bool) (words : List LinkWord) (image : List (List ℕ)) (i : ℕ) (s : Segment) (part : List ℕ)
    → IsMapOf o.segments load_map → i < length o.segments → s ≡ get_or o.segments i s → words ≡ words_of l p m o unbound
    → AllZip (IsPart l p m o unbound) (take i load_map) image
    → length part ≡ s.memsz → ((j : ℕ) → j < s.memsz → slice_index part j ≡ byte_over words (file_byte o.segments) (s.vaddr + j))
    → AllZip (IsPart l p m o unbound) (take (i + 1) load_map) (image ++ part ∷ [])
part_more l p load_map m o unbound words image i s part mapped lt at all before size bytes =
    let R = IsPart l p m o unbound in
    let d : MapEntry = record { addr = 0; vaddr = 0; memsz = 0 } in
    let e = get_or load_map i d in
    let same = zip-get_or (λ t f. (f.vaddr ≡ t.vaddr) × (f.memsz ≡ t.memsz)) o.segments load_map i s d mapped lt in
    let vaddr : e.vaddr ≡ s.vaddr = same.0 ∙ ap (λ t. t.vaddr) (sym at) in
    let memsz : e.memsz ≡ s.memsz = same.1 ∙ ap (λ t. t.memsz) (sym at) in
    let within : i < length load_map = omega (arith, zip_length (λ t f. (f.vaddr ≡ t.vaddr) × (f.memsz ≡ t.memsz)) o.segments load_map mapped) in
    let is_part : R e part = record {
      len = size ∙ sym memsz;
      bytes = λ j in'. bytes j (omega arith) ∙ ap (λ ws. byte_over ws (file_byte o.segments) (s.vaddr + j)) all
          ∙ ap (λ n. image_of l p m o unbound (n + j)) (sym vaddr);
    } in
    let P : List MapEntry → Type 0 = λ es. AllZip R es (image ++ part ∷ []) in
    subst P (sym (take_more load_map i d within)) (zip_push R (take i load_map) image e part before is_part)

pub all_parts : (l : Linkage) (p : Placing) (load_map : List MapEntry) (m : ℕ) (o : Object) (unbound : List Bool) (image : List (List ℕ)) (i : ℕ)
    → IsMapOf o.segments load_map → length o.segments ≤ i → AllZip (IsPart l p m o unbound) (take i load_map) image → IsImage l p m o unbound load_map image
all_parts l p load_map m o unbound image i mapped le all =
    let within : length load_map ≤ i = omega (arith, zip_length (λ t f. (f.vaddr ≡ t.vaddr) × (f.memsz ≡ t.memsz)) o.segments load_map mapped) in
    let P : List MapEntry → Type 0 = λ es. AllZip (IsPart l p m o unbound) es image in
    subst P (take_all i load_map within) all
