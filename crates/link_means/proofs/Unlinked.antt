-- Words with an address, and distances, that the linker doesn't settle; and words with a number.
use Rattle.std.proofs.Common.{◌≡◌, ℕ, inl, inr, true, false, ◌||◌, List, [], None, refl, subst}
use Rattle.std.specs.Prelude.{◌==◌, Contains}
use Rattle.std.proofs.lemmas.Bool.{eqb-true, false≢true, or_cases}
use Rattle.elf_model.specs.declared.constants.TheConstants.{R_ARM_GOTOFF32, R_ARM_REL32}
use Rattle.elf_model.specs.declared.object.Object.{Object}
use Rattle.elf_model.specs.declared.relocatable.RelObject.{RelObject}
use Rattle.load_model.specs.Definition.{Linkage}
use Rattle.load_model.specs.Image.{Placing}
use Rattle.link_model.specs.declared.input.Mode.{Mode}
use Rattle.link_model.specs.declared.target.Reach.TheVariants.{Settled, Nothing}
use Rattle.link_model.specs.Inputs.{InputRel, all_rels}
use Rattle.link_model.specs.Needs.{is_idle, target_at, all_needs}
use Rattle.link_model.specs.Sites.{input_word, is_address_kind, site_address, site_rels, site_word, sum_of, word_of}
use Rattle.link_model.specs.Targets.{is_absolute}
use Rattle.link_model.specs.parts.Laws.{AreClear}
use Rattle.link_sites.specs.Loaded.{IsModule, LoadedWord}
use Rattle.link_sites.proofs.Sites.{plain}
use Rattle.link_means.specs.Means.{is_distance_kind}
use Rattle.link_means.specs.Values.{address_word}
use Rattle.link_means.specs.parts.Laws.{AreOfBytes, IsOutput, is_filled_kind}
use Rattle.link_means.proofs.Addresses.{address_kinds, its_word}
use Rattle.link_means.proofs.Apart.{unfilled_free}
use Rattle.link_means.proofs.Kept.{kept_is_plain}
use Rattle.link_means.proofs.Staying.{free_word_is_plain}

-- ---- kinds

distance_kinds : (P : ℕ → Type 0) (kind : ℕ) → P R_ARM_REL32 → P R_ARM_GOTOFF32 → is_distance_kind kind ≡ true → P kind
distance_kinds P kind a b is = elim (or_cases (R_ARM_REL32 == kind) (R_ARM_GOTOFF32 == kind || false) is) [
  | inl e ↦ subst P (eqb-true R_ARM_REL32 kind e) a
  | inr more ↦ elim (or_cases (R_ARM_GOTOFF32 == kind) false more) [
    | inl e ↦ subst P (eqb-true R_ARM_GOTOFF32 kind e) b
    | inr no' ↦ absurd (false≢true no')
  ]
]

pub address_busy : (kind : ℕ) → is_address_kind kind ≡ true → is_idle kind ≡ false
address_busy kind is = elim (address_kinds kind is) [ inl e ↦ rw e refl | inr e ↦ rw e refl ]

module _ (mode : Mode) (inputs : List RelObject) (x : InputRel) where
  address_unwritten : is_address_kind (x.rel).kind ≡ true → (target_at mode inputs x).reach ≡ Nothing → site_word mode inputs x ≡ None
  unfolding site_word target_at site_address all_needs
  address_unwritten kind nothing = elim (address_kinds (x.rel).kind kind) [ inl is ↦ rw (is, nothing) refl | inr is ↦ rw (is, nothing) refl ]

  address_free : is_address_kind (x.rel).kind ≡ true → (target_at mode inputs x).reach ≡ Nothing → site_rels mode inputs x ≡ []
  unfolding site_rels target_at site_address
  address_free kind nothing = rw (kind, nothing) refl

  number_free : is_address_kind (x.rel).kind ≡ true → (target_at mode inputs x).reach ≡ Settled → is_absolute (target_at mode inputs x).spot ≡ true → site_rels mode inputs x ≡ []
  unfolding site_rels target_at site_address
  number_free kind settled number = rw (kind, settled, number) refl

  distance_unwritten : is_distance_kind (x.rel).kind ≡ true → (target_at mode inputs x).reach ≡ Nothing → site_word mode inputs x ≡ None
  unfolding site_word target_at site_address all_needs
  distance_unwritten kind nothing =
      distance_kinds (λ k. (x.rel).kind ≡ k → site_word mode inputs x ≡ None) (x.rel).kind (λ is. rw (is, nothing) refl) (λ is. rw (is, nothing) refl) kind refl

-- ---- what they mean

module _ (mode : Mode) (inputs : List RelObject) (o : Object) (l : Linkage) (p : Placing) (m : ℕ) (x : InputRel)
    (clear : AreClear inputs) (bytes : AreOfBytes inputs) (out : IsOutput mode inputs o) (is : IsModule l p m o) (there : Contains (all_rels inputs) x) where
  number_word : is_address_kind (x.rel).kind ≡ true → (target_at mode inputs x).reach ≡ Settled → is_absolute (target_at mode inputs x).spot ≡ true
      → word_of (sum_of mode inputs x) ≡ address_word mode inputs l p m o x
  number_word kind settled number = rw (settled, number) refl

  -- an address that is a number
  pub number_means : is_address_kind (x.rel).kind ≡ true → (target_at mode inputs x).reach ≡ Settled → is_absolute (target_at mode inputs x).spot ≡ true
      → LoadedWord l p m o (site_address mode inputs x) (address_word mode inputs l p m o x)
  number_means kind settled number =
      let v = site_address mode inputs x in
      let w = word_of (sum_of mode inputs x) in
      let fact = free_word_is_plain mode inputs o x w clear out is.sound there (number_free mode inputs x kind settled number) (its_word mode inputs x kind settled) in
      let same : w ≡ address_word mode inputs l p m o x = number_word kind settled number in
      subst (LoadedWord l p m o v) same (plain l p m o v w is fact)

  -- an address of nothing
  pub no_address_means : is_address_kind (x.rel).kind ≡ true → (target_at mode inputs x).reach ≡ Nothing
      → LoadedWord l p m o (site_address mode inputs x) (address_word mode inputs l p m o x)
  no_address_means kind nothing =
      let v = site_address mode inputs x in
      let fact = kept_is_plain mode inputs clear x there (address_busy (x.rel).kind kind) (address_unwritten mode inputs x kind nothing) bytes o out is.sound (address_free mode inputs x kind nothing) in
      let same : input_word x ≡ address_word mode inputs l p m o x = rw nothing refl in
      subst (LoadedWord l p m o v) same (plain l p m o v (input_word x) is fact)

  -- a distance from nothing
  pub no_distance_means : is_distance_kind (x.rel).kind ≡ true → (target_at mode inputs x).reach ≡ Nothing → LoadedWord l p m o (site_address mode inputs x) (input_word x)
  no_distance_means kind nothing =
      let other : is_filled_kind (x.rel).kind ≡ false = distance_kinds (λ k. is_filled_kind k ≡ false) (x.rel).kind refl refl kind in
      let busy : is_idle (x.rel).kind ≡ false = distance_kinds (λ k. is_idle k ≡ false) (x.rel).kind refl refl kind in
      plain l p m o (site_address mode inputs x) (input_word x) is
      (kept_is_plain mode inputs clear x there busy (distance_unwritten mode inputs x kind nothing) bytes o out is.sound (unfilled_free mode inputs x other))
