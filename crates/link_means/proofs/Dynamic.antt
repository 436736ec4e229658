-- Relocations of what the loader looks up: words with addresses, words of the GOT, and descriptors.
use Rattle.std.proofs.Common.{◌≡◌, ℕ, ◌+◌, ◌*◌, ◌%◌, ◌^◌, ◌≤◌, inl, inr, true, false, cond, List, [], ◌∷◌, ◌++◌, map, Some, None, refl, sym, ap, subst, ◌∙◌, arith}
use Rattle.std.specs.Prelude.{Contains, slice_get, unwrap_or}
use Rattle.std.proofs.lemmas.List.Elements.{All-contains, Contains-append_left}
use Rattle.fd_base.specs.Sums.{plus}
use Rattle.fd_base.proofs.Members.{contains_first, map_in}
use Rattle.fd_base.proofs.Putting.{word_in-lt}
use Rattle.elf_model.specs.declared.constants.TheConstants.{R_ARM_ABS32, R_ARM_FUNCDESC, R_ARM_GLOB_DAT, R_ARM_GOTFUNCDESC, R_ARM_GOT_BREL}
use Rattle.elf_model.specs.declared.object.Object.{Object}
use Rattle.elf_model.specs.declared.object.Rel.{Rel}
use Rattle.elf_model.specs.declared.relocatable.RelObject.{RelObject}
use Rattle.elf_model.specs.Filled.{fixup_at, plain_site, sites_of, slot_sites}
use Rattle.elf_model.specs.Places.{file_word}
use Rattle.load_model.specs.Definition.{Linkage, definition_of}
use Rattle.load_model.specs.Image.{Placing, image_of}
use Rattle.link_model.specs.declared.input.Mode.{Mode}
use Rattle.link_model.specs.declared.need.Need.{Need}
use Rattle.link_model.specs.declared.need.Need.TheVariants.{FuncWord, Word}
use Rattle.link_model.specs.declared.target.Reach.TheVariants.{Dynamic}
use Rattle.link_model.specs.declared.target.Target.{Target}
use Rattle.link_model.specs.DynamicRels.{dynamic_rels, need_rels}
use Rattle.link_model.specs.DynamicSymbols.{symbol_index}
use Rattle.link_model.specs.GotLayout.{use_size}
use Rattle.link_model.specs.Inputs.{InputRel, InputSection, all_rels, sections_of}
use Rattle.link_model.specs.Needs.{all_needs, descriptor_need, is_idle, kind_of, target_at}
use Rattle.link_model.specs.Places.{address_of, need_place}
use Rattle.link_model.specs.Sections.{is_writable}
use Rattle.link_model.specs.Segments.{need_values}
use Rattle.link_model.specs.Sites.{address_rels, input_word, is_address_kind, site_address, site_rels, site_word}
use Rattle.link_model.specs.Targets.{is_settled, is_static}
use Rattle.link_model.specs.parts.Laws.{AreClear, IsWellTyped}
use Rattle.link_model.proofs.Numbering.{section_of_rel}
use Rattle.link_sites.specs.Loaded.{IsModule, LoadedWord}
use Rattle.link_sites.specs.Meaning.{descriptor_of_definition, value_of_definition}
use Rattle.link_sites.specs.parts.Linked.{IsDynamic}
use Rattle.link_sites.proofs.Descriptors.{descriptor}
use Rattle.link_sites.proofs.Sites.{dynamic}
use Rattle.link_means.specs.Linked.{HasBytes}
use Rattle.link_means.specs.Means.{HasInGot}
use Rattle.link_means.specs.Values.{address_word, definition_of_target, descriptor_of_target, value_of_target}
use Rattle.link_means.specs.parts.Laws.{AreOfBytes, IsOutput}
use Rattle.link_means.proofs.Addresses.{address_kinds}
use Rattle.link_means.proofs.Got.{got_word_stands}
use Rattle.link_means.proofs.GotKinds.{func_needed, func_rels, func_value, got_func, got_value, word_needed, word_rels, word_value}
use Rattle.link_means.proofs.Held.{word_of_bytes}
use Rattle.link_means.proofs.Kept.{kept_in_data}
use Rattle.link_means.proofs.Listed.{in_dynamic, need_in_dynamic}
use Rattle.link_means.proofs.Named.{IsNamed, rel_named}
use Rattle.link_means.proofs.Unlinked.{address_busy}
use Rattle.link_means.proofs.Words.{holds_same}

-- what is left to the loader is one of its sites
entry_listed : (mode : Mode) (inputs : List RelObject) (o : Object) (r : Rel) → IsOutput mode inputs o → is_static mode ≡ false → Contains (dynamic_rels mode inputs) r → Contains (sites_of o) (plain_site r)
entry_listed mode inputs o r out linked there =
    let rels = map plain_site o.rels in
    let slots = slot_sites 0 o.jmprels in
    let fixups = map plain_site (map fixup_at (unwrap_or o.fixups [])) in
    let all : o.rels ≡ dynamic_rels mode inputs = out.rels' ∙ ap (λ b. cond b [] (dynamic_rels mode inputs)) linked in
    let listed : Contains o.rels r = subst (λ (rs : List Rel). Contains rs r) (sym all) there in
    Contains-append_left (rels ++ slots) fixups (plain_site r) (Contains-append_left rels slots (plain_site r) (map_in plain_site o.rels r listed))

-- ---- words of the GOT

module _ (mode : Mode) (inputs : List RelObject) (o : Object) (l : Linkage) (p : Placing) (m : ℕ) (clear : AreClear inputs) (out : IsOutput mode inputs o) (is : IsModule l p m o)
    (n : Need) (needed : Contains (all_needs mode inputs) n) (kind : ℕ) (t : Target) (named : IsNamed mode inputs o t) (left : t.reach ≡ Dynamic) (room : 4 ≤ use_size (kind_of n))
    (rels : need_rels mode inputs n ≡ address_rels mode inputs (need_place mode inputs n) kind t) (value : slice_get (need_values mode inputs n) 0 ≡ Some 0) where
  entry : Rel
  entry = record { site = need_place mode inputs n; kind = kind; symbol = symbol_index mode inputs t.key }

  one : need_rels mode inputs n ≡ entry ∷ []
  unfolding entry
  one = rels ∙ rw left refl

  word_left : IsDynamic o (need_place mode inputs n) kind (symbol_index mode inputs t.key) 0
  unfolding entry
  word_left =
      let at = need_place mode inputs n in
      let own : Contains (need_rels mode inputs n) entry = subst (λ (rs : List Rel). Contains rs entry) (sym one) (contains_first entry entry [] refl) in
      let begin : at + 4 * 0 ≡ at = omega arith in
      let stands = got_word_stands mode inputs n needed clear o out 0 0 (omega (arith, room)) value in
      record {
        rel = entry;
        listed = entry_listed mode inputs o entry out named.linked (need_in_dynamic mode inputs n entry needed own);
        kind' = refl;
        site' = refl;
        symbol' = refl;
        some = named.some;
        word = ap (file_word o.segments) (sym begin) ∙ word_of_bytes o.segments (at + 4 * 0) 0 (omega arith) stands;
      }

-- ---- what is left of a relocation

module _ (mode : Mode) (inputs : List RelObject) (x : InputRel) (left : (target_at mode inputs x).reach ≡ Dynamic) where
  abbrev entry_of : ℕ → Rel
  entry_of kind = record { site = site_address mode inputs x; kind = kind; symbol = symbol_index mode inputs (target_at mode inputs x).key }

  address_left : is_address_kind (x.rel).kind ≡ true → site_rels mode inputs x ≡ entry_of R_ARM_ABS32 ∷ []
  unfolding site_rels target_at site_address
  address_left kind = rw (kind, left) refl

  address_unwritten : is_address_kind (x.rel).kind ≡ true → site_word mode inputs x ≡ None
  unfolding site_word target_at site_address all_needs
  address_unwritten kind = elim (address_kinds (x.rel).kind kind) [ inl e ↦ rw (e, left) refl | inr e ↦ rw (e, left) refl ]

  descriptor_left : (x.rel).kind ≡ R_ARM_FUNCDESC → site_rels mode inputs x ≡ entry_of R_ARM_FUNCDESC ∷ []
  unfolding site_rels target_at site_address
  descriptor_left kind = rw (kind, left) refl

  descriptor_unwritten : (x.rel).kind ≡ R_ARM_FUNCDESC → site_word mode inputs x ≡ None
  unfolding site_word target_at all_needs
  descriptor_unwritten kind = rw (kind, left) refl

-- ---- relocations

module _ (mode : Mode) (inputs : List RelObject) (o : Object) (l : Linkage) (p : Placing) (m : ℕ) (x : InputRel)
    (clear : AreClear inputs) (out : IsOutput mode inputs o) (is : IsModule l p m o) (there : Contains (all_rels inputs) x) (typed : IsWellTyped mode inputs x) where
  abbrev t : Target
  t = target_at mode inputs x

  abbrev index : ℕ
  index = symbol_index mode inputs (target_at mode inputs x).key

  module _ (busy : is_idle (x.rel).kind ≡ false) (left : (target_at mode inputs x).reach ≡ Dynamic) where
    named : IsNamed mode inputs o (target_at mode inputs x)
    named = rel_named mode inputs o out x typed busy left

    its_value : value_of_definition l p (definition_of l m o index) ≡ value_of_target mode inputs l p m o t
    its_value = ap (value_of_definition l p) (named.definition l m) ∙ of_reach
      where
        of_reach : value_of_definition l p (definition_of_target inputs l m o t) ≡ value_of_target mode inputs l p m o t
        of_reach = rw left refl

    its_descriptor : descriptor_of_definition l p (definition_of l m o index) ≡ descriptor_of_target mode inputs l p m o t
    its_descriptor = ap (descriptor_of_definition l p) (named.definition l m) ∙ of_reach
      where
        of_reach : descriptor_of_definition l p (definition_of_target inputs l m o t) ≡ descriptor_of_target mode inputs l p m o t
        of_reach = rw left refl

  -- a word of the GOT with S
  pub dynamic_got_word : (x.rel).kind ≡ R_ARM_GOT_BREL → t.reach ≡ Dynamic → HasInGot l p m o (site_address mode inputs x) (value_of_target mode inputs l p m o t)
  dynamic_got_word kind left =
      let n = Word t.key in
      let busy = ap is_idle kind in
      let value : slice_get (need_values mode inputs n) 0 ≡ Some 0 = word_value mode inputs o l p m x clear out is there typed kind ∙ ap (λ r. Some (cond (is_settled r) (address_of mode inputs t.spot % 2 ^ 32) 0)) left in
      let fact = word_left mode inputs o l p m clear out is n (word_needed mode inputs o l p m x clear out is there typed kind) R_ARM_GLOB_DAT t (named busy left) left (omega arith)
      (word_rels mode inputs o l p m x clear out is there typed kind) value in
      let loaded = dynamic l p m o (need_place mode inputs n) R_ARM_GLOB_DAT index 0 is refl fact in
      let same : plus (value_of_definition l p (definition_of l m o index)) 0 % 2 ^ 32 ≡ value_of_target mode inputs l p m o t % 2 ^ 32 =
      sum (value_of_definition l p (definition_of l m o index)) ∙ ap (λ k. k % 2 ^ 32) (its_value busy left) in
      got_value mode inputs o l p m x clear out is there typed kind
      (λ unbound. holds_same (image_of l p m o unbound) (need_place mode inputs n) (plus (value_of_definition l p (definition_of l m o index)) 0) (value_of_target mode inputs l p m o t) same (loaded unbound))
    where
      sum : (s : ℕ) → plus s 0 % 2 ^ 32 ≡ s % 2 ^ 32
      sum s = omega arith

  -- a word of the GOT with a descriptor's address
  pub dynamic_got_descriptor : (x.rel).kind ≡ R_ARM_GOTFUNCDESC → t.reach ≡ Dynamic → HasInGot l p m o (site_address mode inputs x) (descriptor_of_target mode inputs l p m o t)
  dynamic_got_descriptor kind left =
      let n = FuncWord t.key in
      let busy = ap is_idle kind in
      let value : slice_get (need_values mode inputs n) 0 ≡ Some 0 = func_value mode inputs o l p m x clear out is there typed kind ∙ ap (λ r. Some (cond (is_settled r) (need_place mode inputs (descriptor_need inputs t)) 0)) left in
      let fact = word_left mode inputs o l p m clear out is n (func_needed mode inputs o l p m x clear out is there typed kind) R_ARM_FUNCDESC t (named busy left) left (omega arith)
      (func_rels mode inputs o l p m x clear out is there typed kind) value in
      got_func mode inputs o l p m x clear out is there typed kind
      (subst (LoadedWord l p m o (need_place mode inputs n)) (its_descriptor busy left) (descriptor l p m o (need_place mode inputs n) index 0 is (named busy left).unnamed fact))

  -- ---- words of data

  writable_word : is_writable x.at ≡ true → is_idle (x.rel).kind ≡ false → site_word mode inputs x ≡ None → AreOfBytes inputs → file_word o.segments (site_address mode inputs x) ≡ input_word x
  unfolding input_word
  writable_word writable busy none bytes =
      let of_bytes = All-contains (λ (y : InputSection). HasBytes y.section) (sections_of inputs) x.at bytes (section_of_rel inputs x there).0 in
      word_of_bytes o.segments (site_address mode inputs x) (input_word x) (word_in-lt ((x.at).section).filled (x.rel).site of_bytes) (kept_in_data mode inputs clear x there busy none bytes o out writable)

  -- S + A
  pub dynamic_address : AreOfBytes inputs → is_address_kind (x.rel).kind ≡ true → is_writable x.at ≡ true → t.reach ≡ Dynamic → LoadedWord l p m o (site_address mode inputs x) (address_word mode inputs l p m o x)
  dynamic_address bytes kind writable left =
      let v = site_address mode inputs x in
      let busy = address_busy (x.rel).kind kind in
      let entry = entry_of mode inputs x left R_ARM_ABS32 in
      let own : Contains (site_rels mode inputs x) entry = subst (λ (rs : List Rel). Contains rs entry) (sym (address_left mode inputs x left kind)) (contains_first entry entry [] refl) in
      let fact : IsDynamic o v R_ARM_ABS32 index (input_word x) = record {
        rel = entry;
        listed = entry_listed mode inputs o entry out (named busy left).linked (in_dynamic mode inputs x entry there own);
        kind' = refl;
        site' = refl;
        symbol' = refl;
        some = (named busy left).some;
        word = writable_word writable busy (address_unwritten mode inputs x left kind) bytes;
      } in
      subst (LoadedWord l p m o v) (ap (λ s. plus s (input_word x)) (its_value busy left) ∙ of_reach) (dynamic l p m o v R_ARM_ABS32 index (input_word x) is refl fact)
    where
      of_reach : plus (value_of_target mode inputs l p m o t) (input_word x) ≡ address_word mode inputs l p m o x
      of_reach = rw left refl

  -- the address of a descriptor
  pub dynamic_descriptor : AreOfBytes inputs → (x.rel).kind ≡ R_ARM_FUNCDESC → is_writable x.at ≡ true → t.reach ≡ Dynamic → LoadedWord l p m o (site_address mode inputs x) (descriptor_of_target mode inputs l p m o t)
  dynamic_descriptor bytes kind writable left =
      let v = site_address mode inputs x in
      let busy : is_idle (x.rel).kind ≡ false = ap is_idle kind in
      let entry = entry_of mode inputs x left R_ARM_FUNCDESC in
      let own : Contains (site_rels mode inputs x) entry = subst (λ (rs : List Rel). Contains rs entry) (sym (descriptor_left mode inputs x left kind)) (contains_first entry entry [] refl) in
      let fact : IsDynamic o v R_ARM_FUNCDESC index (input_word x) = record {
        rel = entry;
        listed = entry_listed mode inputs o entry out (named busy left).linked (in_dynamic mode inputs x entry there own);
        kind' = refl;
        site' = refl;
        symbol' = refl;
        some = (named busy left).some;
        word = writable_word writable busy (descriptor_unwritten mode inputs x left kind) bytes;
      } in
      subst (LoadedWord l p m o v) (its_descriptor busy left) (descriptor l p m o v index (input_word x) is (named busy left).unnamed fact)
