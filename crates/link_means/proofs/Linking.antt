-- What a link is that passes its tests.
use Rattle.std.proofs.Common.{◌≡◌, ℕ, ◌%◌, inl, inr, Bool, true, false, not, length, ◌&&◌, ◌||◌, List, [], ◌∷◌, None, refl, sym, ap, ◌∙◌, All}
use Rattle.std.specs.Prelude.{◌==◌, Contains}
use Rattle.std.proofs.lemmas.Bool.{eqb-true, false≢true, or_cases, or_parts}
use Rattle.std.proofs.lemmas.List.Elements.{All-contains}
use Rattle.fd_base.proofs.Members.{all_contained}
use Rattle.elf_model.specs.declared.constants.TheConstants.{R_ARM_ABS32, R_ARM_FUNCDESC, R_ARM_GOTOFF32, R_ARM_GOTOFFFUNCDESC, R_ARM_NONE, R_ARM_REL32, R_ARM_TARGET1, R_ARM_V4BX}
use Rattle.elf_model.specs.declared.object.Object.{Object}
use Rattle.elf_model.specs.declared.relocatable.RelObject.{RelObject}
use Rattle.elf_model.specs.Header.{is_one_of}
use Rattle.elf_model.specs.RelSound.{IsRelSound}
use Rattle.elf_model.specs.Test.{first_failing}
use Rattle.load_map.specs.Translation.{placed}
use Rattle.load_model.specs.Definition.{Linkage}
use Rattle.load_model.specs.Image.{Placing}
use Rattle.link_model.specs.declared.input.Lib.{Lib}
use Rattle.link_model.specs.declared.input.Mode.{Mode}
use Rattle.link_model.specs.declared.need.Need.TheVariants.{Descriptor}
use Rattle.link_model.specs.declared.target.Reach.{Reach}
use Rattle.link_model.specs.declared.target.Reach.TheVariants.{Settled, Nothing, Dynamic}
use Rattle.link_model.specs.declared.target.Target.{Target}
use Rattle.link_model.specs.Inputs.{InputRel, all_rels}
use Rattle.link_model.specs.Needs.{all_needs, is_branch, is_idle, target_at}
use Rattle.link_model.specs.Places.{need_place}
use Rattle.link_model.specs.Refusals.{tests}
use Rattle.link_model.specs.Sections.{is_writable}
use Rattle.link_model.specs.SiteTests.{is_cross, meets_earlier}
use Rattle.link_model.specs.Sites.{is_address_kind, site_address}
use Rattle.link_model.specs.Targets.{is_absolute, is_dynamic, is_nothing}
use Rattle.link_model.specs.parts.Laws.{AreClear, IsWellTyped}
use Rattle.link_model.proofs.Passed.{passing_is_fitting}
use Rattle.link_writes.specs.Linked.{written_sizes}
use Rattle.elf_write.specs.ObjectFile.{object_file}
use Rattle.link_writes.proofs.Tested.{IsPassed, all_passed}
use Rattle.link_sites.specs.Loaded.{IsModule, LoadedWord}
use Rattle.link_means.specs.Means.{Means}
use Rattle.link_means.specs.Values.{address_word, own_descriptor}
use Rattle.link_means.specs.parts.Laws.{AreOfBytes, IsOutput}
use Rattle.link_means.proofs.Addresses.{address_kinds, settled_addresses_mean}
use Rattle.link_means.proofs.Branches.{settled_branches_mean}
use Rattle.link_means.proofs.Distances.{distances_mean}
use Rattle.link_means.proofs.Dynamic.{dynamic_address, dynamic_descriptor, dynamic_got_descriptor, dynamic_got_word}
use Rattle.link_means.proofs.GotKinds.{idle_descriptor, idle_got_descriptor, idle_got_word, settled_descriptor, settled_descriptor_distance, settled_got_descriptor, settled_got_word}
use Rattle.link_means.proofs.IdleBranches.{idle_branches_mean}
use Rattle.link_means.proofs.SlotCalls.{slot_call}
use Rattle.link_means.proofs.Sums.{sum_means}
use Rattle.link_means.proofs.Unlinked.{no_address_means, no_distance_means, number_means}

-- ---- kinds

pub branch_busy : (kind : ℕ) → is_branch kind ≡ true → is_idle kind ≡ false
branch_busy kind is = by (is_idle kind) refl
  where
    never : is_idle kind ≡ true → is_branch kind ≡ false
    never idle = elim (or_cases (R_ARM_NONE == kind) (R_ARM_V4BX == kind || false) idle) [
      | inl e ↦ ap is_branch (sym (eqb-true R_ARM_NONE kind e))
      | inr more ↦ elim (or_cases (R_ARM_V4BX == kind) false more) [
        | inl e ↦ ap is_branch (sym (eqb-true R_ARM_V4BX kind e))
        | inr no' ↦ absurd (false≢true no')
      ]
    ]

    by : (b : Bool) → is_idle kind ≡ b → is_idle kind ≡ false
    by true idle = absurd (false≢true (sym (never idle) ∙ is))
    by false busy = busy

abbrev filled_kinds : List ℕ
filled_kinds = R_ARM_ABS32 ∷ R_ARM_TARGET1 ∷ R_ARM_FUNCDESC ∷ []

address_filled : (kind : ℕ) → is_address_kind kind ≡ true → is_one_of filled_kinds kind ≡ true
address_filled kind is = elim (address_kinds kind is) [ inl e ↦ ap (is_one_of filled_kinds) e | inr e ↦ ap (is_one_of filled_kinds) e ]

-- ---- by who settles a symbol

by_reach : {P : Type 0} (given : Reach) → (given ≡ Settled → P) → (given ≡ Nothing → P) → (given ≡ Dynamic → P) → P
by_reach Settled a b c = a refl
by_reach Nothing a b c = b refl
by_reach Dynamic a b c = c refl

-- ---- one relocation

module _ (mode : Mode) (inputs : List RelObject) (o : Object) (l : Linkage) (p : Placing) (m : ℕ) (x : InputRel)
    (clear : AreClear inputs) (bytes : AreOfBytes inputs) (out : IsOutput mode inputs o) (is : IsModule l p m o) (there : Contains (all_rels inputs) x)
    (typed : IsWellTyped mode inputs x) (near : is_cross mode inputs x ≡ false)
    (own : (a : ℕ) → Contains (all_needs mode inputs) (Descriptor a) → own_descriptor mode inputs p m a ≡ placed (p.maps m) (need_place mode inputs (Descriptor a))) where
  abbrev t : Target
  t = target_at mode inputs x

  writable : is_one_of filled_kinds (x.rel).kind ≡ true → is_writable x.at ≡ true
  writable kind = by (is_one_of filled_kinds (x.rel).kind) (is_writable x.at) (not (site_address mode inputs x % 4 == 0)) typed.fillable kind
    where
      by : (k w r : Bool) → (k && (not w || r)) ≡ false → k ≡ true → w ≡ true
      by true true r e k = refl
      by true false r e k = absurd cc
      by false w r e k = absurd cc

  settled_address : is_address_kind (x.rel).kind ≡ true → t.reach ≡ Settled → LoadedWord l p m o (site_address mode inputs x) (address_word mode inputs l p m o x)
  settled_address kind settled = by (is_absolute t.spot) refl
    where
      by : (b : Bool) → is_absolute t.spot ≡ b → LoadedWord l p m o (site_address mode inputs x) (address_word mode inputs l p m o x)
      by true number = number_means mode inputs o l p m x clear bytes out is there kind settled number
      by false off = settled_addresses_mean mode inputs o l p m x clear out is there kind (writable (address_filled (x.rel).kind kind)) settled off

  -- a descriptor's distance is the linker's to settle
  distance_settled : {P : Type 0} → (x.rel).kind ≡ R_ARM_GOTOFFFUNCDESC → (t.reach ≡ Settled → P) → P
  distance_settled kind settled =
      let parts = or_parts (is_one_of (R_ARM_REL32 ∷ R_ARM_GOTOFF32 ∷ R_ARM_GOTOFFFUNCDESC ∷ []) (x.rel).kind && is_dynamic t.reach) ((x.rel).kind == R_ARM_GOTOFFFUNCDESC && is_nothing t.reach) typed.offset in
      by_reach t.reach settled
      (λ e. absurd (false≢true (sym parts.1 ∙ (λ i. kind i == R_ARM_GOTOFFFUNCDESC && is_nothing (e i)))))
      (λ e. absurd (false≢true (sym parts.0 ∙ (λ i. is_one_of (R_ARM_REL32 ∷ R_ARM_GOTOFF32 ∷ R_ARM_GOTOFFFUNCDESC ∷ []) (kind i) && is_dynamic (e i)))))

  pub means : Means mode inputs l p m o x
  means = record {
    branch = λ kind settled. settled_branches_mean mode inputs o l p m x clear out is there kind settled near;
    call = λ kind left. slot_call mode inputs o l p m x clear out is there typed kind left near;
    goes_on = λ kind nothing. idle_branches_mean mode inputs o l p m x clear out is there kind nothing;
    address = λ kind. by_reach t.reach (settled_address kind) (λ e. no_address_means mode inputs o l p m x clear bytes out is there kind e) (dynamic_address mode inputs o l p m x clear out is there typed bytes kind (writable (address_filled (x.rel).kind kind)));
    sum = λ kind settled within. sum_means mode inputs o l p m x clear out is there kind (writable (address_filled (x.rel).kind kind)) near settled within;
    distance = λ kind settled. distances_mean.relative mode inputs o l p m x clear out is there kind settled near;
    got_distance = λ kind settled. distances_mean.from_got mode inputs o l p m x clear out is there kind settled near;
    no_distance = λ kind nothing. no_distance_means mode inputs o l p m x clear bytes out is there kind nothing;
    got_word = λ kind. by_reach t.reach (settled_got_word mode inputs o l p m x clear out is there typed kind) (idle_got_word mode inputs o l p m x clear out is there typed kind) (dynamic_got_word mode inputs o l p m x clear out is there typed kind);
    got_descriptor = λ kind.
        by_reach t.reach (settled_got_descriptor mode inputs o l p m x clear out is there typed own kind) (idle_got_descriptor mode inputs o l p m x clear out is there typed kind) (dynamic_got_descriptor mode inputs o l p m x clear out is there typed kind);
    descriptor_distance = λ kind. distance_settled kind (settled_descriptor_distance mode inputs o l p m x clear out is there typed own kind);
    descriptor = λ kind.
        by_reach t.reach (settled_descriptor mode inputs o l p m x clear out is there typed own kind (writable (ap (is_one_of filled_kinds) kind)))
        (idle_descriptor mode inputs o l p m x clear out is there typed own kind bytes) (dynamic_descriptor mode inputs o l p m x clear out is there typed bytes kind (writable (ap (is_one_of filled_kinds) kind)));
  }

-- ---- a link

pub record IsClearLink (mode : Mode) (inputs : List RelObject) : Type 0 where
  pub clear : AreClear inputs
  pub typed : (x : InputRel) → Contains (all_rels inputs) x → IsWellTyped mode inputs x
  pub near : (x : InputRel) → Contains (all_rels inputs) x → is_cross mode inputs x ≡ false

pub clear_link : (mode : Mode) (soname : List ℕ) (inputs : List RelObject) (libs : List Lib) → All IsRelSound inputs → first_failing (tests written_sizes mode soname inputs libs) ≡ None → IsClearLink mode inputs
clear_link mode soname inputs libs sound passes =
    let sites = (all_passed mode inputs (λ o. length (object_file o)) soname libs passes).sites in
    let typed : (x : InputRel) → Contains (all_rels inputs) x → IsWellTyped mode inputs x =
    λ x there. passing_is_fitting.types mode inputs x (All-contains (IsPassed mode inputs) (all_rels inputs) x sites there).typed in
    record {
      clear = record { sound = sound; clear = all_contained (λ x. meets_earlier x ≡ false) (all_rels inputs) (λ x there. (typed x there).clear) };
      typed = typed;
      near = λ x there. (All-contains (IsPassed mode inputs) (all_rels inputs) x sites there).near;
    }
