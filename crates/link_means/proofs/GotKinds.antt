-- Relocations whose words lead into the GOT, and descriptors, of what the linker settles and of what is nowhere defined.
use Rattle.std.proofs.Common.{◌≡◌, ℕ, ◌+◌, ◌*◌, ◌%◌, ◌^◌, ◌<◌, ◌≤◌, Bool, true, false, cond, not, ◌&&◌, List, [], ◌∷◌, ◌++◌, Some, None, refl, sym, ap, subst, ◌∙◌, arith}
use Rattle.std.specs.Prelude.{◌==◌, Contains, slice_get}
use Rattle.std.proofs.lemmas.Bool.{eqb-true, or_parts}
use Rattle.fd_base.proofs.Members.{contains_first, contains_later}
use Rattle.elf_model.specs.declared.constants.TheConstants.{R_ARM_FUNCDESC, R_ARM_GLOB_DAT, R_ARM_GOTFUNCDESC, R_ARM_GOTOFFFUNCDESC, R_ARM_GOT_BREL, R_ARM_RELATIVE}
use Rattle.elf_model.specs.declared.object.Object.{Object}
use Rattle.elf_model.specs.declared.object.Rel.{Rel}
use Rattle.elf_model.specs.declared.relocatable.RelObject.{RelObject}
use Rattle.elf_model.specs.Filled.{fixup_at}
use Rattle.elf_model.specs.Places.{file_word}
use Rattle.elf_model.specs.Header.{is_one_of}
use Rattle.arm_relocs.specs.Branch.{imm24}
use Rattle.load_map.specs.Translation.{placed}
use Rattle.load_model.specs.Definition.{Linkage}
use Rattle.load_model.specs.Image.{Placing, got_of, image_of}
use Rattle.link_model.specs.declared.input.Mode.{Mode}
use Rattle.link_model.specs.declared.need.Need.{Need}
use Rattle.link_model.specs.declared.need.Need.TheVariants.{Word, FuncWord, Descriptor, NoFunction}
use Rattle.link_model.specs.declared.target.Reach.TheVariants.{Settled, Nothing}
use Rattle.link_model.specs.declared.target.Target.{Target}
use Rattle.link_model.specs.DynamicRels.{need_rels}
use Rattle.link_model.specs.GotLayout.{use_size}
use Rattle.link_model.specs.Inputs.{InputRel, all_rels}
use Rattle.link_model.specs.Needs.{all_needs, descriptor_need, is_branch, is_function_kind, is_idle, kind_of, needs_for, offset_of, only_if, slot_key, target_at}
use Rattle.link_model.specs.Places.{address_of, need_place}
use Rattle.link_model.specs.Sections.{function_address, is_function, is_writable}
use Rattle.link_model.specs.Segments.{descriptor_word, need_values, segments_of, symbol_word}
use Rattle.link_model.specs.Sites.{address_rels, dynamic_rel, input_word, site_address, site_rels, site_word}
use Rattle.link_model.specs.Targets.{is_absolute, is_dynamic, is_nowhere, is_settled, target_of_key}
use Rattle.link_model.specs.parts.Laws.{AreClear, IsWellTyped}
use Rattle.link_model.proofs.Naming.{names_are_numbered}
use Rattle.link_sites.specs.Loaded.{IsModule, LoadedWord}
use Rattle.link_sites.specs.parts.Linked.{IsRelative}
use Rattle.link_sites.proofs.Sites.{plain, relative}
use Rattle.link_means.specs.Means.{HasInGot}
use Rattle.link_means.specs.Values.{descriptor_of_target, own_descriptor, value_of_target}
use Rattle.link_means.specs.parts.Laws.{AreOfBytes, IsOutput, is_filled_kind}
use Rattle.link_means.proofs.Addresses.{data_word_stands}
use Rattle.link_means.proofs.Defined.{function_of_text, settled_there}
use Rattle.link_means.proofs.Got.{free_need_means, is_needed, leads_to, need_below, placed_need_means, usable}
use Rattle.link_means.proofs.Held.{word_of_bytes}
use Rattle.link_means.proofs.Kept.{kept_is_plain}
use Rattle.link_means.proofs.Listed.{fixup_listed, in_dynamic}
use Rattle.link_means.proofs.Sharing.{data_small}
use Rattle.link_means.proofs.Words.{holds_same}

-- ---- a word of the GOT with an address

module _ (mode : Mode) (inputs : List RelObject) (o : Object) (l : Linkage) (p : Placing) (m : ℕ) (clear : AreClear inputs) (out : IsOutput mode inputs o) (is : IsModule l p m o)
    (n : Need) (needed : Contains (all_needs mode inputs) n) (kind v : ℕ) (t : Target) (room : 4 ≤ use_size (kind_of n)) (no_slot : slot_key n ≡ None)
    (rels : need_rels mode inputs n ≡ address_rels mode inputs (need_place mode inputs n) kind t) (value : slice_get (need_values mode inputs n) 0 ≡ Some v) where
  begin : need_place mode inputs n + 4 * 0 ≡ need_place mode inputs n
  begin = omega arith

  got_free : address_rels mode inputs (need_place mode inputs n) kind t ≡ [] → LoadedWord l p m o (need_place mode inputs n) v
  got_free free = subst (λ a. LoadedWord l p m o a v) begin (free_need_means mode inputs n needed clear o out 0 v (omega (arith, room)) value l p m is (rels ∙ free) no_slot)

  pub got_number : t.reach ≡ Settled → is_absolute t.spot ≡ true → LoadedWord l p m o (need_place mode inputs n) v
  got_number settled number = got_free (rw (settled, number) refl)

  pub got_nothing : t.reach ≡ Nothing → LoadedWord l p m o (need_place mode inputs n) v
  got_nothing nothing = got_free (rw nothing refl)

  pub got_placed : t.reach ≡ Settled → is_absolute t.spot ≡ false → v < 2 ^ 32 → LoadedWord l p m o (need_place mode inputs n) (placed (p.maps m) v)
  got_placed settled off small =
      let at = need_place mode inputs n in
      let one : address_rels mode inputs at kind t ≡ dynamic_rel at R_ARM_RELATIVE 0 = rw (settled, off) refl in
      let first : Contains (need_rels mode inputs n) (fixup_at at) = subst (λ (rs : List Rel). Contains rs (fixup_at at)) (sym (rels ∙ one)) (contains_first (fixup_at at) (fixup_at at) [] refl) in
      let listed : Contains (need_rels mode inputs n) (fixup_at (at + 4 * 0)) = subst (λ a. Contains (need_rels mode inputs n) (fixup_at a)) (sym begin) first in
      subst (λ a. LoadedWord l p m o a (placed (p.maps m) v)) begin (placed_need_means mode inputs n needed clear o out 0 v (omega (arith, room)) value l p m is small listed)

-- ---- relocations

module _ (mode : Mode) (inputs : List RelObject) (o : Object) (l : Linkage) (p : Placing) (m : ℕ) (x : InputRel)
    (clear : AreClear inputs) (out : IsOutput mode inputs o) (is : IsModule l p m o) (there : Contains (all_rels inputs) x) (typed : IsWellTyped mode inputs x) where
  abbrev t : Target
  t = target_at mode inputs x

  pub key_is : target_of_key mode inputs (target_at mode inputs x).key ≡ target_at mode inputs x
  unfolding target_at
  key_is = names_are_numbered.keys mode inputs (x.at).input (x.rel).symbol

  needs_as : (n : Need) → is_idle (x.rel).kind ≡ false → Contains (needs_for inputs (x.rel).kind (target_at mode inputs x)) n → Contains (all_needs mode inputs) n
  needs_as n busy own = is_needed mode inputs x n there (usable mode inputs x typed.usable busy) own

  -- ---- a word of the GOT with S

  module _ (kind : (x.rel).kind ≡ R_ARM_GOT_BREL) where
    pub word_needed : Contains (all_needs mode inputs) (Word t.key)
    word_needed =
        let needs : needs_for inputs (x.rel).kind t ≡ Word t.key ∷ [] = ap (λ k. needs_for inputs k t) kind in
        needs_as (Word t.key) (ap is_idle kind) (subst (λ (ns : List Need). Contains ns (Word t.key)) (sym needs) (contains_first (Word t.key) (Word t.key) [] refl))

    word_written : site_word mode inputs x ≡ Some (offset_of (all_needs mode inputs) (Word t.key))
    unfolding site_word target_at all_needs
    word_written = rw kind refl

    pub got_value : LoadedWord l p m o (need_place mode inputs (Word t.key)) (value_of_target mode inputs l p m o t) → HasInGot l p m o (site_address mode inputs x) (value_of_target mode inputs l p m o t)
    got_value loaded =
        let lead = leads_to mode inputs o l p m x clear out is there (Word t.key) word_needed (ap is_filled_kind kind) word_written in
        record { offset = offset_of (all_needs mode inputs) (Word t.key); place = need_place mode inputs (Word t.key); loaded = lead.loaded; leads = lead.leads; there = loaded }

    pub word_rels : need_rels mode inputs (Word t.key) ≡ address_rels mode inputs (need_place mode inputs (Word t.key)) R_ARM_GLOB_DAT t
    word_rels = ap (address_rels mode inputs (need_place mode inputs (Word t.key)) R_ARM_GLOB_DAT) key_is

    pub word_value : slice_get (need_values mode inputs (Word t.key)) 0 ≡ Some (symbol_word mode inputs t)
    word_value = ap (λ u. Some (symbol_word mode inputs u)) key_is

    pub settled_got_word : t.reach ≡ Settled → HasInGot l p m o (site_address mode inputs x) (value_of_target mode inputs l p m o t)
    settled_got_word settled = got_value (by (is_absolute t.spot) refl)
      where
        at : ℕ
        at = need_place mode inputs (Word t.key)

        a : ℕ
        a = address_of mode inputs t.spot % 2 ^ 32

        value : slice_get (need_values mode inputs (Word t.key)) 0 ≡ Some a
        value = word_value ∙ ap (λ r. Some (cond (is_settled r) a 0)) settled

        by : (b : Bool) → is_absolute t.spot ≡ b → LoadedWord l p m o at (value_of_target mode inputs l p m o t)
        by true number =
            let loaded = got_number mode inputs o l p m clear out is (Word t.key) word_needed R_ARM_GLOB_DAT a t (omega arith) refl word_rels value settled number in
            let same : address_of mode inputs t.spot ≡ value_of_target mode inputs l p m o t = rw (settled, number) refl in
            λ unbound. holds_same (image_of l p m o unbound) at a (value_of_target mode inputs l p m o t) (omega arith ∙ ap (λ k. k % 2 ^ 32) same) (loaded unbound)
        by false off =
            let loaded = got_placed mode inputs o l p m clear out is (Word t.key) word_needed R_ARM_GLOB_DAT a t (omega arith) refl word_rels value settled off (omega arith) in
            let same : placed (p.maps m) a ≡ value_of_target mode inputs l p m o t = rw (settled, off) refl in
            subst (LoadedWord l p m o at) same loaded

    pub idle_got_word : t.reach ≡ Nothing → HasInGot l p m o (site_address mode inputs x) (value_of_target mode inputs l p m o t)
    idle_got_word nothing =
        let value : slice_get (need_values mode inputs (Word t.key)) 0 ≡ Some 0 = word_value ∙ ap (λ r. Some (cond (is_settled r) (address_of mode inputs t.spot % 2 ^ 32) 0)) nothing in
        let loaded = got_nothing mode inputs o l p m clear out is (Word t.key) word_needed R_ARM_GLOB_DAT 0 t (omega arith) refl word_rels value nothing in
        let same : 0 ≡ value_of_target mode inputs l p m o t = rw nothing refl in
        got_value (subst (LoadedWord l p m o (need_place mode inputs (Word t.key))) same loaded)

  -- ---- a word of the GOT with a descriptor's address

  module _ (kind : (x.rel).kind ≡ R_ARM_GOTFUNCDESC) where
    pub func_needs : needs_for inputs (x.rel).kind t ≡ FuncWord t.key ∷ only_if (is_settled t.reach) (descriptor_need inputs t)
    func_needs = ap (λ k. needs_for inputs k t) kind

    pub func_needed : Contains (all_needs mode inputs) (FuncWord t.key)
    func_needed =
        needs_as (FuncWord t.key) (ap is_idle kind)
        (subst (λ (ns : List Need). Contains ns (FuncWord t.key)) (sym func_needs) (contains_first (FuncWord t.key) (FuncWord t.key) (only_if (is_settled t.reach) (descriptor_need inputs t)) refl))

    func_written : site_word mode inputs x ≡ Some (offset_of (all_needs mode inputs) (FuncWord t.key))
    unfolding site_word target_at all_needs
    func_written = rw kind refl

    pub func_rels : need_rels mode inputs (FuncWord t.key) ≡ address_rels mode inputs (need_place mode inputs (FuncWord t.key)) R_ARM_FUNCDESC t
    func_rels = ap (address_rels mode inputs (need_place mode inputs (FuncWord t.key)) R_ARM_FUNCDESC) key_is

    pub func_value : slice_get (need_values mode inputs (FuncWord t.key)) 0 ≡ Some (descriptor_word mode inputs t)
    func_value = ap (λ u. Some (descriptor_word mode inputs u)) key_is

    pub got_func : LoadedWord l p m o (need_place mode inputs (FuncWord t.key)) (descriptor_of_target mode inputs l p m o t) → HasInGot l p m o (site_address mode inputs x) (descriptor_of_target mode inputs l p m o t)
    got_func loaded =
        let lead = leads_to mode inputs o l p m x clear out is there (FuncWord t.key) func_needed (ap is_filled_kind kind) func_written in
        record { offset = offset_of (all_needs mode inputs) (FuncWord t.key); place = need_place mode inputs (FuncWord t.key); loaded = lead.loaded; leads = lead.leads; there = loaded }

    pub idle_got_descriptor : t.reach ≡ Nothing → HasInGot l p m o (site_address mode inputs x) (descriptor_of_target mode inputs l p m o t)
    idle_got_descriptor nothing =
        let value : slice_get (need_values mode inputs (FuncWord t.key)) 0 ≡ Some 0 = func_value ∙ ap (λ r. Some (cond (is_settled r) (need_place mode inputs (descriptor_need inputs t)) 0)) nothing in
        let loaded = got_nothing mode inputs o l p m clear out is (FuncWord t.key) func_needed R_ARM_FUNCDESC 0 t (omega arith) refl func_rels value nothing in
        let same : 0 ≡ descriptor_of_target mode inputs l p m o t = rw nothing refl in
        got_func (subst (LoadedWord l p m o (need_place mode inputs (FuncWord t.key))) same loaded)

  -- ---- descriptors of the object's own functions

  pub record IsOwnFunction : Type 0 where
    pub function : is_function inputs t.spot ≡ true
    pub off : is_absolute t.spot ≡ false
    pub need : descriptor_need inputs t ≡ Descriptor (address_of mode inputs t.spot)

  own_function : is_function_kind (x.rel).kind ≡ true → is_idle (x.rel).kind ≡ false → t.reach ≡ Settled → IsOwnFunction
  unfolding target_at
  own_function kind busy settled =
      let there' : is_nowhere t.spot ≡ false = settled_there mode inputs clear.sound (x.at).input (x.rel).symbol (usable mode inputs x typed.usable busy) settled in
      let function : is_function inputs t.spot ≡ true = shown (is_function_kind (x.rel).kind) (is_nowhere t.spot) (is_function inputs t.spot) typed.function kind there' in
      let text = function_of_text mode inputs t.spot function in
      record {
        function = function;
        off = text.off;
        need = ap (λ b. cond b (Descriptor (function_address inputs t.spot)) (NoFunction t.key)) function ∙ ap Descriptor (sym text.address);
      }
    where
      shown : (k n f : Bool) → (k && (not n && not f)) ≡ false → k ≡ true → n ≡ false → f ≡ true
      shown true false true e a b = refl
      shown true false false e a b = absurd cc
      shown true true f e a b = absurd cc
      shown false n f e a b = absurd cc

  module _ (own : (a : ℕ) → Contains (all_needs mode inputs) (Descriptor a) → own_descriptor mode inputs p m a ≡ placed (p.maps m) (need_place mode inputs (Descriptor a))) where
    abbrev its_place : ℕ
    its_place = need_place mode inputs (Descriptor (address_of mode inputs (target_at mode inputs x).spot))

    own_means : t.reach ≡ Settled → Contains (all_needs mode inputs) (Descriptor (address_of mode inputs t.spot)) → placed (p.maps m) its_place ≡ descriptor_of_target mode inputs l p m o t
    own_means settled needed = sym (own (address_of mode inputs t.spot) needed) ∙ made
      where
        made : own_descriptor mode inputs p m (address_of mode inputs t.spot) ≡ descriptor_of_target mode inputs l p m o t
        made = rw settled refl

    place_small : Contains (all_needs mode inputs) (Descriptor (address_of mode inputs t.spot)) → its_place < 2 ^ 32
    place_small needed =
        let below = need_below mode inputs (Descriptor (address_of mode inputs t.spot)) needed in
        let small = data_small mode inputs o out is.sound in
        omega (arith, below, small)

    -- a word of the GOT with a descriptor's address
    module _ (kind : (x.rel).kind ≡ R_ARM_GOTFUNCDESC) where
      pub settled_got_descriptor : t.reach ≡ Settled → HasInGot l p m o (site_address mode inputs x) (descriptor_of_target mode inputs l p m o t)
      settled_got_descriptor settled =
          let f = own_function (ap is_function_kind kind) (ap is_idle kind) settled in
          let d = Descriptor (address_of mode inputs t.spot) in
          let all : needs_for inputs (x.rel).kind t ≡ FuncWord t.key ∷ d ∷ [] = func_needs kind ∙ ap (λ r. FuncWord t.key ∷ only_if (is_settled r) (descriptor_need inputs t)) settled ∙ ap (λ n. FuncWord t.key ∷ n ∷ []) f.need in
          let needed = needs_as d (ap is_idle kind) (subst (λ (ns : List Need). Contains ns d) (sym all) (contains_later (FuncWord t.key) d (d ∷ []) (contains_first d d [] refl))) in
          let value : slice_get (need_values mode inputs (FuncWord t.key)) 0 ≡ Some its_place =
          func_value kind ∙ ap (λ r. Some (cond (is_settled r) (need_place mode inputs (descriptor_need inputs t)) 0)) settled ∙ ap (λ n. Some (need_place mode inputs n)) f.need in
          let loaded = got_placed mode inputs o l p m clear out is (FuncWord t.key) (func_needed kind) R_ARM_FUNCDESC its_place t (omega arith) refl (func_rels kind) value settled f.off (place_small needed) in
          got_func kind (subst (LoadedWord l p m o (need_place mode inputs (FuncWord t.key))) (own_means settled needed) loaded)

    -- ---- the other kinds of descriptors

    descriptor_needed : (is_function_kind (x.rel).kind ≡ true) → is_idle (x.rel).kind ≡ false → needs_for inputs (x.rel).kind t ≡ only_if (is_settled t.reach) (descriptor_need inputs t) → (settled : t.reach ≡ Settled)
        → Contains (all_needs mode inputs) (Descriptor (address_of mode inputs t.spot))
    descriptor_needed kind busy needs settled =
        let f = own_function kind busy settled in
        let d = Descriptor (address_of mode inputs t.spot) in
        let all : needs_for inputs (x.rel).kind t ≡ d ∷ [] = needs ∙ ap (λ r. only_if (is_settled r) (descriptor_need inputs t)) settled ∙ ap (λ n. n ∷ []) f.need in
        needs_as d busy (subst (λ (ns : List Need). Contains ns d) (sym all) (contains_first d d [] refl))

    -- its distance from the GOT
    module _ (kind : (x.rel).kind ≡ R_ARM_GOTOFFFUNCDESC) where
      distance_written : t.reach ≡ Settled → site_word mode inputs x ≡ Some (offset_of (all_needs mode inputs) (descriptor_need inputs t))
      unfolding site_word target_at all_needs
      distance_written settled = rw (kind, settled) refl

      pub settled_descriptor_distance : t.reach ≡ Settled
          → (offset : ℕ) × LoadedWord l p m o (site_address mode inputs x) offset × (got_of p m + offset ≡ descriptor_of_target mode inputs l p m o t)
      settled_descriptor_distance settled =
          let busy : is_idle (x.rel).kind ≡ false = ap is_idle kind in
          let function : is_function_kind (x.rel).kind ≡ true = ap is_function_kind kind in
          let f = own_function function busy settled in
          let d = Descriptor (address_of mode inputs t.spot) in
          let needed = descriptor_needed function busy (ap (λ k. needs_for inputs k t) kind) settled in
          let written = distance_written settled ∙ ap (λ n. Some (offset_of (all_needs mode inputs) n)) f.need in
          let lead = leads_to mode inputs o l p m x clear out is there d needed (ap is_filled_kind kind) written in
          (offset_of (all_needs mode inputs) d, lead.loaded, lead.leads ∙ own_means settled needed)

    -- its address
    module _ (kind : (x.rel).kind ≡ R_ARM_FUNCDESC) where
      descriptor_written : t.reach ≡ Settled → site_word mode inputs x ≡ Some (need_place mode inputs (descriptor_need inputs t))
      unfolding site_word target_at all_needs
      descriptor_written settled = rw (kind, settled) refl

      descriptor_listed : t.reach ≡ Settled → is_absolute t.spot ≡ false → site_rels mode inputs x ≡ dynamic_rel (site_address mode inputs x) R_ARM_RELATIVE 0
      unfolding site_rels target_at site_address
      descriptor_listed settled off = rw (kind, settled, off) refl

      pub settled_descriptor : is_writable x.at ≡ true → t.reach ≡ Settled → LoadedWord l p m o (site_address mode inputs x) (descriptor_of_target mode inputs l p m o t)
      settled_descriptor writable settled =
          let busy : is_idle (x.rel).kind ≡ false = ap is_idle kind in
          let function : is_function_kind (x.rel).kind ≡ true = ap is_function_kind kind in
          let f = own_function function busy settled in
          let needed = descriptor_needed function busy (ap (λ k. needs_for inputs k t) kind) settled in
          let v = site_address mode inputs x in
          let written = descriptor_written settled ∙ ap (λ n. Some (need_place mode inputs n)) f.need in
          let bytes = data_word_stands mode inputs clear x there out.others its_place writable written in
          let word = word_of_bytes (segments_of mode inputs ++ out.others) v its_place (place_small needed) bytes in
          let listed : Contains (site_rels mode inputs x) (fixup_at v) =
          subst (λ (rs : List Rel). Contains rs (fixup_at v)) (sym (descriptor_listed settled f.off)) (contains_first (fixup_at v) (fixup_at v) [] refl) in
          let fact : IsRelative o v its_place = record {
            rel = fixup_at v;
            listed = fixup_listed mode inputs o v out (in_dynamic mode inputs x (fixup_at v) there listed);
            kind' = refl;
            site' = refl;
            word = ap (λ ss. file_word ss v) out.segments' ∙ word;
          } in
          subst (LoadedWord l p m o v) (own_means settled needed) (relative l p m o v its_place is fact)

      descriptor_unwritten : t.reach ≡ Nothing → site_word mode inputs x ≡ None
      unfolding site_word target_at all_needs
      descriptor_unwritten nothing = rw (kind, nothing) refl

      descriptor_free : t.reach ≡ Nothing → site_rels mode inputs x ≡ []
      unfolding site_rels target_at site_address
      descriptor_free nothing = rw (kind, nothing) refl

      pub idle_descriptor : AreOfBytes inputs → t.reach ≡ Nothing → LoadedWord l p m o (site_address mode inputs x) (descriptor_of_target mode inputs l p m o t)
      idle_descriptor bytes nothing =
          let v = site_address mode inputs x in
          let fact = kept_is_plain mode inputs clear x there (ap is_idle kind) (descriptor_unwritten nothing) bytes o out is.sound (descriptor_free nothing) in
          let same : input_word x ≡ descriptor_of_target mode inputs l p m o t = no_addend ∙ nowhere in
          subst (LoadedWord l p m o v) same (plain l p m o v (input_word x) is fact)
        where
          nowhere : 0 ≡ descriptor_of_target mode inputs l p m o t
          nowhere = rw nothing refl

          kinds : List ℕ
          kinds = R_ARM_GOT_BREL ∷ R_ARM_GOTFUNCDESC ∷ R_ARM_GOTOFFFUNCDESC ∷ R_ARM_FUNCDESC ∷ []

          none : (k b : Bool) → (k && not b) ≡ false → k ≡ true → b ≡ true
          none true true e is = refl
          none true false e is = absurd cc
          none false b e is = absurd cc

          no_addend : input_word x ≡ 0
          no_addend =
              let parts = or_parts (is_one_of kinds (x.rel).kind && not (input_word x == 0)) (is_branch (x.rel).kind && (is_dynamic t.reach && not (imm24 (input_word x) == 0xff_fffe))) typed.addend in
              eqb-true (input_word x) 0 (none (is_one_of kinds (x.rel).kind) (input_word x == 0) parts.0 (ap (is_one_of kinds) kind))
