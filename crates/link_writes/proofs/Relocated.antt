-- The relocations of a linked object are of the kinds that readers know, on symbols that are there.
use Rattle.std.proofs.Common.{◌≡◌, ◌≢◌, refl, sym, subst, ◌∙◌, ℕ, ◌+◌, ◌<◌, Bool, true, false, cond, not, ◌&&◌, List, [], ◌++◌, length, arith, All}
use Rattle.std.specs.Prelude.{◌==◌, nat_lt, Contains, flat_map}
use Rattle.std.proofs.lemmas.Bool.{or_right, false≢true}
use Rattle.std.proofs.lemmas.Bool.Decides.{nat_tests}
use Rattle.std.proofs.lemmas.List.Elements.{All-nil, All-cons, All-append, All-contains}
use Rattle.fd_base.proofs.Members.{all_contained, in_flat_map}
use Rattle.elf_model.specs.declared.constants.TheConstants.{R_ARM_ABS32, R_ARM_RELATIVE, R_ARM_GLOB_DAT, R_ARM_FUNCDESC, R_ARM_FUNCDESC_VALUE}
use Rattle.elf_model.specs.declared.object.Rel.{Rel}
use Rattle.elf_model.specs.declared.relocatable.RelObject.{RelObject}
use Rattle.elf_model.specs.declared.table.RelTable.TheVariants.{Rel as InRel}
use Rattle.elf_model.specs.Relocations.{is_kind_of, site_size}
use Rattle.elf_write.specs.WritableObject.{IsRelWritable}
use Rattle.link_model.specs.declared.input.Mode.{Mode}
use Rattle.link_model.specs.declared.need.Need.{Need}
use Rattle.link_model.specs.declared.need.Need.TheVariants.{Word, FuncWord, Descriptor, NoFunction, Slot}
use Rattle.link_model.specs.declared.target.Target.{Target}
use Rattle.link_model.specs.DynamicRels.{descriptor_rels, need_rels, dynamic_rels, jmprels_for}
use Rattle.link_model.specs.DynamicSymbols.{symbol_index, symbols_for}
use Rattle.link_model.specs.Inputs.{InputRel, all_rels}
use Rattle.link_model.specs.Needs.{is_idle, all_needs, target_at}
use Rattle.link_model.specs.Places.{need_place}
use Rattle.link_model.specs.Sites.{site_address, is_address_kind, dynamic_rel, address_rels, site_rels}
use Rattle.link_model.specs.Targets.{is_static, is_settled, is_dynamic, is_absolute, target_of_key}
use Rattle.link_model.specs.parts.Laws.{IsWellTyped}
use Rattle.link_writes.proofs.Filled.{filled_kind}
use Rattle.link_writes.proofs.Pairs.{all_sorted}
use Rattle.link_writes.proofs.Seen.{IsSeen, NeedSeen, rel_seen, needs_seen}
use Rattle.link_writes.proofs.Sites.{slot_rel, slot_rels, slots_of}

module _ (mode : Mode) (inputs : List RelObject) where
  abbrev count : ℕ
  count = length (symbols_for mode inputs)

  -- a relocation of a linked object; where it stands alone, of one word
  pub record IsRelocation (r : Rel) : Type 0 where
    pub writable : IsRelWritable count r
    pub small : is_static mode ≡ true → site_size r.kind ≡ 4

  -- a kind that may stand on a symbol
  record IsPlainKind (kind : ℕ) : Type 0 where
    pub fills : kind ≢ 0
    pub known : is_kind_of InRel kind ≡ true
    pub word : site_size kind ≡ 4

  on_symbol : (site kind symbol : ℕ) → IsPlainKind kind → symbol < count → All IsRelocation (dynamic_rel site kind symbol)
  on_symbol site kind symbol k lt =
      let r : Rel = record { site = site; kind = kind; symbol = symbol } in
      let there : nat_lt symbol count ≡ true = grind (arith, nat_tests) in
      All-cons IsRelocation r []
      (record { writable = record { fills = k.fills; known_kind = k.known; known_symbol = or_right (symbol == 0) (nat_lt symbol count) there }; small = λ e. k.word })
      (All-nil IsRelocation)

  on_none : (site kind : ℕ) → IsPlainKind kind → All IsRelocation (dynamic_rel site kind 0)
  on_none site kind k =
      let r : Rel = record { site = site; kind = kind; symbol = 0 } in
      All-cons IsRelocation r [] (record { writable = record { fills = k.fills; known_kind = k.known; known_symbol = refl }; small = λ e. k.word }) (All-nil IsRelocation)

  abs32 : IsPlainKind R_ARM_ABS32
  abs32 = record { fills = λ e. absurd (omega (arith, e)); known = refl; word = refl }

  glob_dat : IsPlainKind R_ARM_GLOB_DAT
  glob_dat = record { fills = λ e. absurd (omega (arith, e)); known = refl; word = refl }

  funcdesc : IsPlainKind R_ARM_FUNCDESC
  funcdesc = record { fills = λ e. absurd (omega (arith, e)); known = refl; word = refl }

  relative : IsPlainKind R_ARM_RELATIVE
  relative = record { fills = λ e. absurd (omega (arith, e)); known = refl; word = refl }

  of_address : (site kind : ℕ) (t : Target) → IsPlainKind kind → (is_dynamic t.reach ≡ true → IsSeen mode inputs t) → All IsRelocation (address_rels mode inputs site kind t)
  of_address site kind t k seen = by (is_dynamic t.reach) (is_settled t.reach && not (is_absolute t.spot)) refl
    where
      by : (a b : Bool) → is_dynamic t.reach ≡ a → All IsRelocation (cond a (dynamic_rel site kind (symbol_index mode inputs t.key)) (cond b (dynamic_rel site R_ARM_RELATIVE 0) []))
      by true b e = on_symbol site kind (symbol_index mode inputs t.key) k (seen e).index
      by false true e = on_none site R_ARM_RELATIVE relative
      by false false e = All-nil IsRelocation

  of_descriptor : (site : ℕ) → All IsRelocation (descriptor_rels mode site)
  of_descriptor site = by (is_static mode) refl
    where
      r : Rel
      r = record { site = site; kind = R_ARM_FUNCDESC_VALUE; symbol = 0 }

      linked : is_static mode ≡ false → IsRelocation r
      linked no' = record {
        writable = record { fills = λ e. absurd (omega (arith, e)); known_kind = refl; known_symbol = refl };
        small = λ e. absurd (false≢true (sym no' ∙ e));
      }

      by : (b : Bool) → is_static mode ≡ b → All IsRelocation (cond b (dynamic_rel site R_ARM_RELATIVE 0 ++ dynamic_rel (site + 4) R_ARM_RELATIVE 0) (dynamic_rel site R_ARM_FUNCDESC_VALUE 0))
      by true e = All-append IsRelocation (dynamic_rel site R_ARM_RELATIVE 0) (dynamic_rel (site + 4) R_ARM_RELATIVE 0) (on_none site R_ARM_RELATIVE relative) (on_none (site + 4) R_ARM_RELATIVE relative)
      by false e = All-cons IsRelocation r [] (linked e) (All-nil IsRelocation)

  of_need : (n : Need) → NeedSeen mode inputs n → All IsRelocation (need_rels mode inputs n)
  of_need (Word key) seen = of_address (need_place mode inputs (Word key)) R_ARM_GLOB_DAT (target_of_key mode inputs key) glob_dat seen
  of_need (FuncWord key) seen = of_address (need_place mode inputs (FuncWord key)) R_ARM_FUNCDESC (target_of_key mode inputs key) funcdesc seen
  of_need (Descriptor function) seen = of_descriptor (need_place mode inputs (Descriptor function))
  of_need (NoFunction key) seen = All-nil IsRelocation
  of_need (Slot key) seen = All-nil IsRelocation

  of_kind : (x : InputRel) → (is_idle (x.rel).kind ≡ false → is_dynamic (target_at mode inputs x).reach ≡ true → IsSeen mode inputs (target_at mode inputs x)) → is_idle (x.rel).kind ≡ false → All IsRelocation (site_rels mode inputs x)
  unfolding site_rels
  of_kind x seen busy = by (is_address_kind (x.rel).kind) ((x.rel).kind == R_ARM_FUNCDESC)
    where
      by : (a b : Bool) → All IsRelocation (cond a (address_rels mode inputs (site_address mode inputs x) R_ARM_ABS32 (target_at mode inputs x)) (cond b (address_rels mode inputs (site_address mode inputs x) R_ARM_FUNCDESC (target_at mode inputs x)) []))
      by true b = of_address (site_address mode inputs x) R_ARM_ABS32 (target_at mode inputs x) abs32 (seen busy)
      by false true = of_address (site_address mode inputs x) R_ARM_FUNCDESC (target_at mode inputs x) funcdesc (seen busy)
      by false false = All-nil IsRelocation

  module _ (typed : (x : InputRel) → Contains (all_rels inputs) x → IsWellTyped mode inputs x) where
    of_site : (x : InputRel) → Contains (all_rels inputs) x → All IsRelocation (site_rels mode inputs x)
    of_site x there = all_contained IsRelocation (site_rels mode inputs x) (λ r in'.
        let busy = filled_kind mode inputs (λ k. is_idle k ≡ false) refl refl refl x r in' in
        All-contains IsRelocation (site_rels mode inputs x) r (of_kind x (rel_seen mode inputs x (typed x there)) busy) in')

    pub dynamic_relocations : All IsRelocation (dynamic_rels mode inputs)
    dynamic_relocations =
        let needs = flat_map (need_rels mode inputs) (all_needs mode inputs) in
        let sites = flat_map (site_rels mode inputs) (all_rels inputs) in
        all_sorted IsRelocation (needs ++ sites)
        (All-append IsRelocation needs sites
        (all_contained IsRelocation needs (λ r there.
        let from = in_flat_map (need_rels mode inputs) (all_needs mode inputs) r there in
        All-contains IsRelocation (need_rels mode inputs from.0) r (of_need from.0 (All-contains (NeedSeen mode inputs) (all_needs mode inputs) from.0 (needs_seen mode inputs typed) from.1)) from.2))
        (all_contained IsRelocation sites (λ r there.
        let from = in_flat_map (site_rels mode inputs) (all_rels inputs) r there in
        All-contains IsRelocation (site_rels mode inputs from.0) r (of_site from.0 from.1) from.2)))

    -- ---- slots

    -- there are none in a program that stands alone
    pub record IsSlot (r : Rel) : Type 0 where
      pub writable : IsRelWritable count r
      pub linked : is_static mode ≡ false

    slot_is : (n : Need) → NeedSeen mode inputs n → All IsSlot (slot_rels mode inputs n)
    slot_is (Word key) seen = All-nil IsSlot
    slot_is (FuncWord key) seen = All-nil IsSlot
    slot_is (Descriptor function) seen = All-nil IsSlot
    slot_is (NoFunction key) seen = All-nil IsSlot
    slot_is (Slot key) seen =
        let index = seen.index in
        let there : nat_lt (symbol_index mode inputs key) count ≡ true = grind (arith, nat_tests) in
        All-cons IsSlot (slot_rel mode inputs key) []
        (record {
          writable = record { fills = λ e. absurd (omega (arith, e)); known_kind = refl; known_symbol = or_right (symbol_index mode inputs key == 0) (nat_lt (symbol_index mode inputs key) count) there };
          linked = seen.linked;
        })
        (All-nil IsSlot)

    pub slots_written : All IsSlot (jmprels_for mode inputs)
    slots_written =
        subst (All IsSlot) (sym (slots_of mode inputs (all_needs mode inputs)))
        (all_contained IsSlot (flat_map (slot_rels mode inputs) (all_needs mode inputs)) (λ r there.
        let from = in_flat_map (slot_rels mode inputs) (all_needs mode inputs) r there in
        All-contains IsSlot (slot_rels mode inputs from.0) r (slot_is from.0 (All-contains (NeedSeen mode inputs) (all_needs mode inputs) from.0 (needs_seen mode inputs typed) from.1)) from.2))
