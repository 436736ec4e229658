-- Offsets of needs in the GOT, one after the other.
use Rattle.std.proofs.Common.{◌≡◌, ℕ, ◌+◌, ◌*◌, ◌<◌, ◌≤◌, ◌^◌, inl, inr, List, [], ◌∷◌, ◌++◌, length, get_or, take, Some, refl, ap, sym, ◌∙◌, arith, length-append}
use Rattle.std.specs.Prelude.{slice_get}
use Rattle.std.proofs.lemmas.List.{length-map, length-take, get_or_default}
use Rattle.std.proofs.lemmas.List.Sums.{count_by_more_no, count_by_more_yes, count_by-le-length}
use Rattle.std.proofs.lemmas.Bool.{cases_lt}
use Rattle.std.proofs.lemmas.Option.{slice_get-get_or}
use Rattle.std.proofs.Math.ListN.{get_or-map}
use Rattle.fd_base.proofs.Lists.{front_at}
use Rattle.link_model.specs.declared.need.Need.{Need}
use Rattle.link_model.specs.declared.need.UseKind.{UseKind}
use Rattle.link_model.specs.declared.need.UseKind.TheVariants.{Word, FuncWord, Descriptor, Slot}
use Rattle.link_model.specs.GotLayout.{is_word, is_descriptor, is_slot, offset_behind, slots_start, descriptors_start}
use Rattle.link_model.specs.Needs.{kind_of}
use Rattle.link_places.specs.declared.got.Next.{Next}
use Rattle.link_places.specs.parts.Got.{kinds_of, place_for, next_after, next_behind}

-- ---- the next of each kind

next-more-at : (uses : List UseKind) (i : ℕ) (kind : UseKind) → i < length uses → get_or uses i Word ≡ kind → next_after kind (next_behind uses i) ≡ next_behind uses (i + 1)
next-more-at uses i Word lt is =
    let a = count_by_more_yes is_word uses i Word lt (ap is_word is) in
    let b = count_by_more_no is_descriptor uses i Word lt (ap is_descriptor is) in
    let d = count_by_more_no is_slot uses i Word lt (ap is_slot is) in
    let w : offset_behind uses i Word + 4 ≡ offset_behind uses (i + 1) Word = omega (arith, a) in
    λ j. record { word = w j; descriptor = descriptors_start uses + 8 * sym b j; slot = slots_start uses + 8 * sym d j }
next-more-at uses i FuncWord lt is =
    let a = count_by_more_yes is_word uses i Word lt (ap is_word is) in
    let b = count_by_more_no is_descriptor uses i Word lt (ap is_descriptor is) in
    let d = count_by_more_no is_slot uses i Word lt (ap is_slot is) in
    let w : offset_behind uses i Word + 4 ≡ offset_behind uses (i + 1) Word = omega (arith, a) in
    λ j. record { word = w j; descriptor = descriptors_start uses + 8 * sym b j; slot = slots_start uses + 8 * sym d j }
next-more-at uses i Descriptor lt is =
    let a = count_by_more_no is_word uses i Word lt (ap is_word is) in
    let b = count_by_more_yes is_descriptor uses i Word lt (ap is_descriptor is) in
    let d = count_by_more_no is_slot uses i Word lt (ap is_slot is) in
    let w : offset_behind uses i Descriptor + 8 ≡ offset_behind uses (i + 1) Descriptor = omega (arith, b) in
    λ j. record { word = 12 + 4 * sym a j; descriptor = w j; slot = slots_start uses + 8 * sym d j }
next-more-at uses i Slot lt is =
    let a = count_by_more_no is_word uses i Word lt (ap is_word is) in
    let b = count_by_more_no is_descriptor uses i Word lt (ap is_descriptor is) in
    let d = count_by_more_yes is_slot uses i Word lt (ap is_slot is) in
    let w : offset_behind uses i Slot + 8 ≡ offset_behind uses (i + 1) Slot = omega (arith, d) in
    λ j. record { word = 12 + 4 * sym a j; descriptor = descriptors_start uses + 8 * sym b j; slot = w j }

place-behind : (uses : List UseKind) (i : ℕ) (kind : UseKind) → place_for kind (next_behind uses i) ≡ offset_behind uses i kind
place-behind uses i Word = refl
place-behind uses i FuncWord = refl
place-behind uses i Descriptor = refl
place-behind uses i Slot = refl

pub record IsNear (next : Next) : Type 0 where
  pub few : next.word + next.descriptor + next.slot ≤ 2 ^ 31

pub near : (needs : List Need) (i : ℕ) (next : Next) → length needs ≤ 65536 → next ≡ next_behind (kinds_of needs) i → IsNear next
near needs i next few is =
    let uses = kinds_of needs in
    let n = length-map needs kind_of in
    let a = count_by-le-length is_word uses in
    let b = count_by-le-length is_descriptor uses in
    let d = count_by-le-length is_word (take i uses) in
    let e = count_by-le-length is_descriptor (take i uses) in
    let f = count_by-le-length is_slot (take i uses) in
    let t : length (take i uses) ≤ length uses = grind (arith, length-take) in
    let words : next.word ≡ offset_behind uses i Word = ap (λ (x : Next). x.word) is in
    let descriptors : next.descriptor ≡ offset_behind uses i Descriptor = ap (λ (x : Next). x.descriptor) is in
    let slots : next.slot ≡ offset_behind uses i Slot = ap (λ (x : Next). x.slot) is in
    record { few = omega (arith, n, a, b, d, e, f, t, words, descriptors, slots) }

last_at : (xs : List ℕ) (x : ℕ) → slice_get (xs ++ x ∷ []) (length xs) ≡ Some x
last_at [] x = refl
last_at (y ∷ xs) x = last_at xs x

-- ---- one need more

pub record StandUpTo (needs : List Need) (i : ℕ) (offsets : List ℕ) (next : Next) : Type 0 where
  pub len : length offsets ≡ i
  pub next' : next ≡ next_behind (kinds_of needs) i
  pub each : (k : ℕ) (need : Need) → k < i → slice_get needs k ≡ Some need → slice_get offsets k ≡ Some (offset_behind (kinds_of needs) k (kind_of need))

module _ (needs : List Need) where
  kind-at : (i : ℕ) (need : Need) → i < length needs → need ≡ get_or needs i need → get_or (kinds_of needs) i Word ≡ kind_of need
  kind-at i need lt is =
      let within : i < length (kinds_of needs) = omega (arith, length-map needs kind_of) in
      get_or_default (kinds_of needs) i Word (kind_of need) within ∙ get_or-map kind_of needs i need ∙ ap kind_of (sym is)

  pub one-more : (i place : ℕ) (need : Need) (old new : List ℕ) (next after : Next) → StandUpTo needs i old next → i < length needs → need ≡ get_or needs i need
      → place ≡ place_for (kind_of need) next → after ≡ next_after (kind_of need) next → new ≡ old ++ place ∷ [] → StandUpTo needs (i + 1) new after
  one-more i place need old new next after up lt is at' then pushed =
      let within : i < length (kinds_of needs) = omega (arith, length-map needs kind_of) in
      let here : place ≡ offset_behind (kinds_of needs) i (kind_of need) = at' ∙ ap (place_for (kind_of need)) up.next' ∙ place-behind (kinds_of needs) i (kind_of need) in
      record {
        len = ap length pushed ∙ length-append old (place ∷ []) ∙ omega (arith, up.len);
        next' = then ∙ ap (next_after (kind_of need)) up.next' ∙ next-more-at (kinds_of needs) i (kind_of need) within (kind-at i need lt is);
        each = λ k other le there. elim (cases_lt k i) [
          | inl before ↦ ap (λ xs. slice_get xs k) pushed ∙ front_at old (place ∷ []) k (offset_behind (kinds_of needs) k (kind_of other)) (up.each k other before there)
          | inr last ↦
              let same : k ≡ i = omega arith in
              let found : Some need ≡ Some other = ap Some is ∙ sym (slice_get-get_or needs i need lt) ∙ ap (slice_get needs) (sym same) ∙ there in
              let one : need ≡ other = cc in
              let end : k ≡ length old = omega (arith, same, up.len) in
              ap (slice_get new) end ∙ ap (λ xs. slice_get xs (length old)) pushed ∙ last_at old place ∙ ap Some here ∙ (λ j. Some (offset_behind (kinds_of needs) (sym same j) (kind_of (one j))))
        ];
      }
