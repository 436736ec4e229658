-- Words with an address that the linker settles.
use Rattle.std.proofs.Common.{◌≡◌, ℕ, ◌+◌, ◌⊎◌, inl, inr, true, false, ◌||◌, List, [], ◌++◌, Some, refl, sym, ap, subst, ◌∙◌, arith}
use Rattle.std.specs.Prelude.{◌==◌, Contains, option_map}
use Rattle.std.proofs.lemmas.Bool.{eqb-true, or_cases, false≢true}
use Rattle.std.proofs.lemmas.List.Elements.{All-contains, Contains-append_left}
use Rattle.fd_base.proofs.Members.{contains_first, filter_map_in}
use Rattle.elf_model.specs.declared.constants.TheConstants.{R_ARM_ABS32, R_ARM_TARGET1, R_ARM_RELATIVE}
use Rattle.elf_model.specs.declared.object.Object.{Object}
use Rattle.elf_model.specs.declared.object.Rel.{Rel}
use Rattle.elf_model.specs.declared.object.Segment.{Segment}
use Rattle.elf_model.specs.declared.relocatable.RelObject.{RelObject}
use Rattle.elf_model.specs.Filled.{fixup_at}
use Rattle.elf_model.specs.Places.{file_byte, file_word}
use Rattle.load_image.specs.parts.Laws.{HasWord}
use Rattle.load_map.specs.Translation.{placed}
use Rattle.load_model.specs.Definition.{Linkage}
use Rattle.load_model.specs.Image.{Placing}
use Rattle.link_model.specs.declared.input.Mode.{Mode}
use Rattle.link_model.specs.declared.target.Reach.TheVariants.{Settled}
use Rattle.link_model.specs.declared.target.Target.{Target}
use Rattle.link_model.specs.Inputs.{InputRel, all_rels}
use Rattle.link_model.specs.Needs.{target_at, all_needs}
use Rattle.link_model.specs.Sections.{is_writable}
use Rattle.link_model.specs.Segments.{word_at, site_words, plt_words, got_words, words_of, segments_of}
use Rattle.link_model.specs.Sites.{site_address, site_word, site_rels, dynamic_rel, is_address_kind, sum_of, word_of}
use Rattle.link_model.specs.Targets.{is_absolute}
use Rattle.link_model.specs.parts.Laws.{AreClear}
use Rattle.link_model.proofs.Written.{words_are_linked}
use Rattle.link_sites.specs.Loaded.{LoadedWord, HoldsWord}
use Rattle.link_sites.specs.parts.Linked.{IsRelative}
use Rattle.link_sites.proofs.Sites.{relative}
use Rattle.link_means.specs.Values.{address_by}
use Rattle.link_means.specs.parts.Laws.{SettledAddressesMean}
use Rattle.link_means.proofs.Held.{held_stays, in_data, data_holds, word_small, word_of_bytes}
use Rattle.link_means.proofs.Listed.{in_dynamic, fixup_listed}

-- ---- kinds

pub address_kinds : (kind : ℕ) → is_address_kind kind ≡ true → (kind ≡ R_ARM_ABS32) ⊎ (kind ≡ R_ARM_TARGET1)
address_kinds kind is = elim (or_cases (R_ARM_ABS32 == kind) (R_ARM_TARGET1 == kind || false) is) [
  | inl e ↦ inl (sym (eqb-true R_ARM_ABS32 kind e))
  | inr more ↦ elim (or_cases (R_ARM_TARGET1 == kind) false more) [
    | inl e ↦ inr (sym (eqb-true R_ARM_TARGET1 kind e))
    | inr no' ↦ absurd (false≢true no')
  ]
]

pub its_word : (mode : Mode) (inputs : List RelObject) (x : InputRel) → is_address_kind (x.rel).kind ≡ true → (target_at mode inputs x).reach ≡ Settled
    → site_word mode inputs x ≡ Some (word_of (sum_of mode inputs x))
unfolding site_word target_at site_address all_needs
its_word mode inputs x kind settled = elim (address_kinds (x.rel).kind kind) [ inl is ↦ rw (is, settled) refl | inr is ↦ rw (is, settled) refl ]

its_rels : (mode : Mode) (inputs : List RelObject) (x : InputRel) → is_address_kind (x.rel).kind ≡ true → (target_at mode inputs x).reach ≡ Settled
    → is_absolute (target_at mode inputs x).spot ≡ false → site_rels mode inputs x ≡ dynamic_rel (site_address mode inputs x) R_ARM_RELATIVE 0
unfolding site_rels target_at site_address
its_rels mode inputs x kind settled off = rw (kind, settled, off) refl

-- ---- the word in the file

module _ (mode : Mode) (inputs : List RelObject) (clear : AreClear inputs) (x : InputRel) (there : Contains (all_rels inputs) x) where
  -- the word that the linker writes stands in the segments
  pub word_stands : (w : ℕ) → site_word mode inputs x ≡ Some w → HoldsWord (file_byte (segments_of mode inputs)) (site_address mode inputs x) w
  word_stands w is =
      let at = word_at (site_address mode inputs x) w in
      let own : Contains (site_words mode inputs) at =
      filter_map_in (λ y. option_map (word_at (site_address mode inputs y)) (site_word mode inputs y)) (all_rels inputs) x at there
      (ap (option_map (word_at (site_address mode inputs x))) is) in
      All-contains (HasWord (file_byte (segments_of mode inputs))) (words_of mode inputs) at (words_are_linked.words mode inputs clear)
      (Contains-append_left (site_words mode inputs) (plt_words mode inputs ++ got_words mode inputs) at own)

  -- and in the data of an object with these segments
  pub data_word_stands : (others : List Segment) (w : ℕ) → is_writable x.at ≡ true → site_word mode inputs x ≡ Some w
      → HoldsWord (file_byte (segments_of mode inputs ++ others)) (site_address mode inputs x) w
  data_word_stands others w writable is = λ i lt.
      let inside = in_data mode inputs x clear there writable in
      held_stays (segments_of mode inputs) others (site_address mode inputs x + i)
      (data_holds mode inputs (site_address mode inputs x + i) (omega (arith, inside.from)) (omega (arith, inside.to, lt)))
      ∙ word_stands w is i lt

-- ---- the law

placed_word : (mode : Mode) (inputs : List RelObject) (l : Linkage) (p : Placing) (m : ℕ) (o : Object) (x : InputRel) (t : Target) → t.reach ≡ Settled → is_absolute t.spot ≡ false
    → placed (p.maps m) (word_of (sum_of mode inputs x)) ≡ address_by mode inputs l p m o x t t.reach
placed_word mode inputs l p m o x t settled off = rw (settled, off) refl

pub settled_addresses_mean : SettledAddressesMean
settled_addresses_mean mode inputs o l p m x clear out is there kind writable settled off =
    let v = site_address mode inputs x in
    let w = word_of (sum_of mode inputs x) in
    let small = word_small (sum_of mode inputs x) in
    let bytes = data_word_stands mode inputs clear x there out.others w writable (its_word mode inputs x kind settled) in
    let word = word_of_bytes (segments_of mode inputs ++ out.others) v w small bytes in
    let own : Contains (site_rels mode inputs x) (fixup_at v) =
    subst (λ (rs : List Rel). Contains rs (fixup_at v)) (sym (its_rels mode inputs x kind settled off)) (contains_first (fixup_at v) (fixup_at v) [] refl) in
    let fact : IsRelative o v w = record {
      rel = fixup_at v;
      listed = fixup_listed mode inputs o v out (in_dynamic mode inputs x (fixup_at v) there own);
      kind' = refl;
      site' = refl;
      word = ap (λ ss. file_word ss v) out.segments' ∙ word;
    } in
    subst (LoadedWord l p m o v) (placed_word mode inputs l p m o x (target_at mode inputs x) settled off) (relative l p m o v w is fact)
