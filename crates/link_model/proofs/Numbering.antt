-- Sections and relocations at their numbers, and what is known of those of accepted files.
use Rattle.std.proofs.Common.{◌≡◌, ℕ, zero, suc, ◌+◌, ◌≤◌, Bool, true, false, cond, List, [], ◌∷◌, ◌++◌, length, take, inl, inr, Some, refl, ap, sym, subst, ◌∙◌, arith, All}
use Rattle.std.specs.Prelude.{slice_get, option_map, Contains}
use Rattle.std.specs.List.{enumerate_from, flat_map, sum_by}
use Rattle.std.proofs.lemmas.List.{length-map}
use Rattle.std.proofs.lemmas.List.Sums.{sum_by-cons}
use Rattle.fd_base.proofs.Lists.{front_at}
use Rattle.std.proofs.lemmas.List.Elements.{All-contains}
use Rattle.std.proofs.lemmas.Option.{slice_get-map}
use Rattle.fd_base.proofs.Members.{nothing_in, first_or_later, contains_at, all_contained, in_map, in_flat_map}
use Rattle.fd_base.proofs.Options.{one_value}
use Rattle.elf_model.specs.declared.relocatable.RelObject.{RelObject}
use Rattle.elf_model.specs.declared.relocatable.RelSection.{RelSection}
use Rattle.elf_model.specs.RelSound.{IsRelSound, IsSectionSound, IsRelSoundIn, filled_size}
use Rattle.link_model.specs.Inputs.{InputSection, InputRel, numbered, sections_in, sections_of, section_number, rels_in, all_rels}
use Rattle.link_model.specs.Sections.{is_nobits}
use Rattle.link_model.specs.parts.Laws.{IsRelOf}

-- ---- numbers

module _ {X : Type 0} where
  numbered_from : (n : ℕ) (xs : List X) (e : ℕ × X) → Contains (enumerate_from n xs) e → (k : ℕ) × (e.0 ≡ n + k) × (slice_get xs k ≡ Some e.1)
  numbered_from n [] e there = absurd (nothing_in e there)
  numbered_from n (x ∷ xs) e there =
      elim (first_or_later (n, x) e (enumerate_from (n + 1) xs) there) [
        | inl is ↦
            let number : n ≡ e.0 = ap (λ (p : ℕ × X). p.0) is in
            (0, omega (arith, number), ap (λ (p : ℕ × X). Some p.1) is)
        | inr later ↦
            let rest = numbered_from (n + 1) xs e later in
            (suc rest.0, omega (arith, rest.1), rest.2)
      ]

  pub numbered_at : (xs : List X) (e : ℕ × X) → Contains (numbered xs) e → slice_get xs e.0 ≡ Some e.1
  numbered_at xs e there =
      let found = numbered_from 0 xs e there in
      let place : e.0 ≡ found.0 = omega (arith, found.1) in
      ap (slice_get xs) place ∙ found.2

  at_number : (n k : ℕ) (xs : List X) (x : X) → slice_get xs k ≡ Some x → slice_get (enumerate_from n xs) k ≡ Some (n + k, x)
  at_number n k [] x is = absurd cc
  at_number n zero (y ∷ xs) x is =
      let same : y ≡ x = cc in
      let number : n ≡ n + 0 = omega arith in
      λ i. Some (number i, same i)
  at_number n (suc k) (y ∷ xs) x is =
      let number : n + 1 + k ≡ n + suc k = omega arith in
      at_number (n + 1) k xs x is ∙ (λ i. Some (number i, x))

  pub in_numbered : (xs : List X) (k : ℕ) (x : X) → slice_get xs k ≡ Some x → Contains (numbered xs) (k, x)
  in_numbered xs k x is =
      let zero_more : 0 + k ≡ k = omega arith in
      contains_at (numbered xs) k (k, x) (at_number 0 k xs x is ∙ (λ i. Some (zero_more i, x)))

  length_numbered : (n : ℕ) (xs : List X) → length (enumerate_from n xs) ≡ length xs
  length_numbered n [] = refl
  length_numbered n (x ∷ xs) = ap suc (length_numbered (n + 1) xs)

  behind_at : (xs ys : List X) (k : ℕ) → slice_get (xs ++ ys) (length xs + k) ≡ slice_get ys k
  behind_at [] ys k = let none : 0 + k ≡ k = omega arith in ap (slice_get ys) none
  behind_at (x ∷ xs) ys k = let more : suc (length xs) + k ≡ suc (length xs + k) = omega arith in ap (slice_get (x ∷ xs ++ ys)) more ∙ behind_at xs ys k

-- ---- sections

abbrev section_count : RelObject → ℕ
section_count o = length o.sections

-- section n of file i, among those of files that are numbered from k on
part_at : (k i n : ℕ) (os : List RelObject) (o : RelObject) (s : RelSection) → slice_get os i ≡ Some o → slice_get o.sections n ≡ Some s
    → slice_get (flat_map sections_in (enumerate_from k os)) (sum_by section_count (take i os) + n) ≡ Some (k + i, n, s)
part_at k i n [] o s is in' = absurd cc
part_at k zero n (p ∷ os) o s is in' =
    let same : p ≡ o = cc in
    let place : 0 + n ≡ n = omega arith in
    let file : k ≡ k + 0 = omega arith in
    let here : slice_get p.sections n ≡ Some s = ap (λ (q : RelObject). slice_get q.sections n) same ∙ in' in
    let first : slice_get (sections_in (k, p)) n ≡ Some (k, 0 + n, s) =
    slice_get-map (λ e. (k, e.0, e.1)) (numbered p.sections) n ∙ ap (option_map (λ e. (k, e.0, e.1))) (at_number 0 n p.sections s here) in
    ap (slice_get (sections_in (k, p) ++ flat_map sections_in (enumerate_from (k + 1) os))) place
    ∙ front_at (sections_in (k, p)) (flat_map sections_in (enumerate_from (k + 1) os)) n (k, 0 + n, s) first ∙ (λ i. Some (file i, place i, s))
part_at k (suc i) n (p ∷ os) o s is in' =
    let rest = part_at (k + 1) i n os o s is in' in
    let size : length (sections_in (k, p)) ≡ section_count p = length-map (numbered p.sections) (λ e. (k, e.0, e.1)) ∙ length_numbered 0 p.sections in
    let sum : sum_by section_count (p ∷ take i os) ≡ section_count p + sum_by section_count (take i os) = sum_by-cons section_count p (take i os) in
    let place : sum_by section_count (p ∷ take i os) + n ≡ length (sections_in (k, p)) + (sum_by section_count (take i os) + n) = omega (arith, size, sum) in
    let file : k + 1 + i ≡ k + suc i = omega arith in
    ap (slice_get (sections_in (k, p) ++ flat_map sections_in (enumerate_from (k + 1) os))) place
    ∙ behind_at (sections_in (k, p)) (flat_map sections_in (enumerate_from (k + 1) os)) (sum_by section_count (take i os) + n) ∙ rest ∙ (λ j. Some (file j, n, s))

module _ (inputs : List RelObject) where
  abbrev parts : List (ℕ × ℕ × RelSection)
  parts = flat_map sections_in (numbered inputs)

  abbrev made : ℕ × (ℕ × ℕ × RelSection) → InputSection
  made e = record { index = e.0; input = (e.1).0; number = (e.1).1; section = (e.1).2 }

  pub section_at : (x : InputSection) → Contains (sections_of inputs) x → slice_get (sections_of inputs) x.index ≡ Some x
  section_at x there =
      let from = in_map made (numbered parts) x there in
      let e = from.0 in
      let at = at_number 0 e.0 parts e.1 (numbered_at parts e from.1) in
      let number : e.0 ≡ x.index = ap (λ (y : InputSection). y.index) from.2 in
      let here : slice_get (sections_of inputs) e.0 ≡ Some (made (0 + e.0, e.1)) = slice_get-map made (numbered parts) e.0 ∙ ap (option_map made) at in
      let zero_more : 0 + e.0 ≡ e.0 = omega arith in
      ap (slice_get (sections_of inputs)) (sym number) ∙ here ∙ ap (λ k. Some (made (k, e.1))) zero_more ∙ ap Some from.2

  -- a section has the number that its input and its own number there give
  pub section_numbered : (i n : ℕ) (o : RelObject) (s : RelSection) → slice_get inputs i ≡ Some o → slice_get o.sections n ≡ Some s
      → slice_get (sections_of inputs) (section_number inputs i n) ≡ Some (record { index = section_number inputs i n; input = i; number = n; section = s })
  section_numbered i n o s is in' =
      let k = section_number inputs i n in
      let file : 0 + i ≡ i = omega arith in
      let number : 0 + k ≡ k = omega arith in
      slice_get-map made (numbered parts) k ∙ ap (option_map made) (at_number 0 k parts (0 + i, n, s) (part_at 0 i n inputs o s is in')) ∙ (λ j. Some (made (number j, (file j, n, s))))

  -- sections with one number are one
  pub one_section : (x y : InputSection) → Contains (sections_of inputs) x → Contains (sections_of inputs) y → x.index ≡ y.index → x ≡ y
  one_section x y one two same =
      one_value (slice_get (sections_of inputs) x.index) x y (section_at x one) (ap (slice_get (sections_of inputs)) same ∙ section_at y two)

  pub section_sound : All IsRelSound inputs → (x : InputSection) → Contains (sections_of inputs) x → (n : ℕ) × IsSectionSound n x.section
  section_sound sound x there =
      let from = in_map made (numbered parts) x there in
      let e = from.0 in
      let part = in_flat_map sections_in (numbered inputs) e.1 (contains_at parts e.0 e.1 (numbered_at parts e from.1)) in
      let o = part.0 in
      let own = in_map (λ s. (o.0, s.0, s.1)) (numbered (o.1).sections) e.1 part.2 in
      let s = own.0 in
      let file = All-contains IsRelSound inputs o.1 sound (contains_at inputs o.0 o.1 (numbered_at inputs o part.1)) in
      let n = length (o.1).symbols in
      let is = All-contains (IsSectionSound n) (o.1).sections s.1 file.sound_sections (contains_at (o.1).sections s.0 s.1 (numbered_at (o.1).sections s own.1)) in
      let same : s.1 ≡ x.section = ap (λ (p : ℕ × ℕ × RelSection). p.2) own.2 ∙ ap (λ (y : InputSection). y.section) from.2 in
      (n, subst (IsSectionSound n) same is)

  -- ---- relocations

  pub section_of_rel : (x : InputRel) → Contains (all_rels inputs) x → Contains (sections_of inputs) x.at × Contains (rels_in x.at) x
  section_of_rel x there =
      let from = in_flat_map rels_in (sections_of inputs) x there in
      let own = in_map (λ e. record { at = from.0; place = e.0; rel = e.1 }) (numbered ((from.0).section).rels) x from.2 in
      let at : from.0 ≡ x.at = ap (λ (y : InputRel). y.at) own.2 in
      subst (λ s. Contains (sections_of inputs) s × Contains (rels_in s) x) at (from.1, from.2)

  pub rel_is : (x : InputRel) → Contains (all_rels inputs) x → IsRelOf inputs x
  rel_is x there =
      let own = section_of_rel x there in
      let from = in_map (λ e. record { at = x.at; place = e.0; rel = e.1 }) (numbered ((x.at).section).rels) x own.1 in
      let e = from.0 in
      let place : e.0 ≡ x.place = ap (λ (y : InputRel). y.place) from.2 in
      let rel : e.1 ≡ x.rel = ap (λ (y : InputRel). y.rel) from.2 in
      record {
        section' = section_at x.at own.0;
        rel' = ap (slice_get ((x.at).section).rels) (sym place) ∙ numbered_at ((x.at).section).rels e from.1 ∙ ap Some rel;
      }

  pub all_are_rels : All (IsRelOf inputs) (all_rels inputs)
  all_are_rels = all_contained (IsRelOf inputs) (all_rels inputs) rel_is

  -- relocations of one place are one
  pub one_rel : (x y : InputRel) → Contains (all_rels inputs) x → Contains (all_rels inputs) y → (x.at).index ≡ (y.at).index → x.place ≡ y.place → x ≡ y
  one_rel x y one two number place =
      let a = rel_is x one in
      let b = rel_is y two in
      let at : x.at ≡ y.at = one_section x.at y.at (section_of_rel x one).0 (section_of_rel y two).0 number in
      let there : slice_get ((x.at).section).rels x.place ≡ Some y.rel = ap (λ (s : InputSection). slice_get (s.section).rels x.place) at ∙ ap (slice_get ((y.at).section).rels) place ∙ b.rel' in
      let rel : x.rel ≡ y.rel = one_value (slice_get ((x.at).section).rels x.place) x.rel y.rel a.rel' there in
      λ i. record { at = at i; place = place i; rel = rel i }

  -- a relocation lies in the bytes of its section, which are not zeros
  pub record IsInside (x : InputRel) : Type 0 where
    pub within : (x.rel).site + 4 ≤ ((x.at).section).size
    pub bytes : is_nobits x.at ≡ false

  pub rel_inside : All IsRelSound inputs → (x : InputRel) → Contains (all_rels inputs) x → IsInside x
  rel_inside sound x there =
      let own = section_of_rel x there in
      let s = section_sound sound x.at own.0 in
      let rels = (s.1).fills in
      let is = All-contains (IsRelSoundIn (filled_size (x.at).section) s.0) ((x.at).section).rels x.rel rels (contains_at ((x.at).section).rels x.place x.rel (rel_is x there).rel') in
      by (is_nobits x.at) refl is.inside
    where
      by : (b : Bool) → is_nobits x.at ≡ b → (x.rel).site + 4 ≤ filled_size (x.at).section → IsInside x
      by true is le =
          let none : filled_size (x.at).section ≡ 0 = ap (λ b. cond b 0 ((x.at).section).size) is in
          absurd (omega (arith, none, le))
      by false is le =
          let all : filled_size (x.at).section ≡ ((x.at).section).size = ap (λ b. cond b 0 ((x.at).section).size) is in
          record { within = omega (arith, all, le); bytes = is }
