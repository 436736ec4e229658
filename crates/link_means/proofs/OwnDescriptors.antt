-- The descriptors that a program which stands alone has of its own functions.
use Rattle.std.proofs.Common.{◌≡◌, ℕ, ◌+◌, ◌*◌, ◌%◌, ◌^◌, ◌≤◌, Bool, true, false, cond, List, [], ◌∷◌, ◌++◌, Some, refl, sym, ap, subst, ◌∙◌, arith, All}
use Rattle.std.specs.Prelude.{◌==◌, Contains, flat_map, slice_get}
use Rattle.std.specs.Option.{option_map_or}
use Rattle.std.proofs.lemmas.List.Elements.{All-cons, All-contains, All-nil}
use Rattle.fd_base.proofs.Members.{all_contained, contains_first, contains_later, in_flat_map}
use Rattle.elf_model.specs.declared.constants.TheConstants.{R_ARM_FUNCDESC_VALUE, R_ARM_GOTFUNCDESC, R_ARM_GOT_BREL, R_ARM_RELATIVE}
use Rattle.elf_model.specs.declared.object.Object.{Object}
use Rattle.elf_model.specs.declared.object.Rel.{Rel}
use Rattle.elf_model.specs.declared.relocatable.RelObject.{RelObject}
use Rattle.elf_model.specs.Filled.{fixup_at}
use Rattle.load_map.specs.Translation.{placed}
use Rattle.load_model.specs.Definition.{Linkage}
use Rattle.load_model.specs.Image.{Placing, got_of}
use Rattle.symbol_scope.proofs.Growing.{All-with_new}
use Rattle.link_model.specs.declared.input.Mode.{Mode}
use Rattle.link_model.specs.declared.need.Need.{Need}
use Rattle.link_model.specs.declared.need.Need.TheVariants.{Word, FuncWord, Descriptor, NoFunction, Slot}
use Rattle.link_model.specs.declared.target.Target.{Target}
use Rattle.link_model.specs.DynamicRels.{need_rels}
use Rattle.link_model.specs.Inputs.{InputRel, all_rels}
use Rattle.link_model.specs.Needs.{all_needs, descriptor_need, is_branch, is_function_kind, is_same_need, is_unusable, needs_for, needs_of, only_if, symbol_at, target_at}
use Rattle.link_model.specs.Places.{data_place, need_place, text_end}
use Rattle.link_model.specs.Sections.{function_address, is_function}
use Rattle.link_model.specs.Segments.{need_values}
use Rattle.link_model.specs.Sites.{dynamic_rel}
use Rattle.link_model.specs.Targets.{is_dynamic, is_settled, is_static}
use Rattle.link_model.specs.parts.Laws.{AreClear}
use Rattle.link_sites.specs.Loaded.{IsModule, LoadedWord}
use Rattle.link_means.specs.Linked.{DescriptorsStand}
use Rattle.link_means.specs.Values.{own_descriptor}
use Rattle.link_means.specs.parts.Laws.{IsOutput}
use Rattle.link_means.proofs.Defined.{function_of_text}
use Rattle.link_means.proofs.Got.{placed_need_means}
use Rattle.link_means.proofs.Held.{data_begins}
use Rattle.link_means.proofs.Sharing.{data_small, text_address_small}

-- ---- descriptors are of functions in the text

module _ (mode : Mode) (inputs : List RelObject) where
  abbrev NeedInText : Need → Type 0
  NeedInText (Word key) = Unit {0}
  NeedInText (FuncWord key) = Unit {0}
  NeedInText (Descriptor function) = function ≤ text_end mode inputs
  NeedInText (NoFunction key) = Unit {0}
  NeedInText (Slot key) = Unit {0}

  of_descriptor : (t : Target) → NeedInText (descriptor_need inputs t)
  of_descriptor t = by (is_function inputs t.spot) refl
    where
      by : (b : Bool) → is_function inputs t.spot ≡ b → NeedInText (cond b (Descriptor (function_address inputs t.spot)) (NoFunction t.key))
      by true is = (function_of_text mode inputs t.spot is).below
      by false is = tt

  only_in_text : (b : Bool) (n : Need) → NeedInText n → All NeedInText (only_if b n)
  only_in_text true n is = All-cons NeedInText n [] is (All-nil NeedInText)
  only_in_text false n is = All-nil NeedInText

  for_in_text : (kind : ℕ) (t : Target) → All NeedInText (needs_for inputs kind t)
  for_in_text kind t = by (is_branch kind) (kind == R_ARM_GOT_BREL) (kind == R_ARM_GOTFUNCDESC) (is_function_kind kind)
    where
      rest : List Need
      rest = only_if (is_settled t.reach) (descriptor_need inputs t)

      own : All NeedInText rest
      own = only_in_text (is_settled t.reach) (descriptor_need inputs t) (of_descriptor t)

      by : (a b c d : Bool) → All NeedInText (cond a (only_if (is_dynamic t.reach) (Slot t.key)) (cond b (Word t.key ∷ []) (cond c (FuncWord t.key ∷ rest) (cond d rest []))))
      by true b c d = only_in_text (is_dynamic t.reach) (Slot t.key) tt
      by false true c d = All-cons NeedInText (Word t.key) [] tt (All-nil NeedInText)
      by false false true d = All-cons NeedInText (FuncWord t.key) rest tt own
      by false false false true = own
      by false false false false = All-nil NeedInText

  of_in_text : (x : InputRel) → All NeedInText (needs_of mode inputs x)
  of_in_text x = by (is_unusable (symbol_at inputs x))
    where
      by : (b : Bool) → All NeedInText (cond b [] (needs_for inputs (x.rel).kind (target_at mode inputs x)))
      by true = All-nil NeedInText
      by false = for_in_text (x.rel).kind (target_at mode inputs x)

  all_in_text : All NeedInText (all_needs mode inputs)
  unfolding all_needs
  all_in_text =
      All-with_new is_same_need NeedInText [] (flat_map (needs_of mode inputs) (all_rels inputs)) (All-nil NeedInText)
      (all_contained NeedInText (flat_map (needs_of mode inputs) (all_rels inputs)) (λ n there.
      let from = in_flat_map (needs_of mode inputs) (all_rels inputs) n there in
      All-contains NeedInText (needs_of mode inputs from.0) n (of_in_text from.0) from.2))

  pub function_below : (a : ℕ) → Contains (all_needs mode inputs) (Descriptor a) → a ≤ text_end mode inputs
  function_below a there = All-contains NeedInText (all_needs mode inputs) (Descriptor a) all_in_text there

-- ---- both words

pub descriptors_stand : (mode : Mode) (inputs : List RelObject) (o : Object) (l : Linkage) (p : Placing) (m : ℕ) → AreClear inputs → IsOutput mode inputs o → IsModule l p m o
    → DescriptorsStand mode inputs l p m o
descriptors_stand mode inputs o l p m clear out is a needed static =
    let small = text_address_small mode inputs o out a is.sound (function_below mode inputs a needed) in
    let first = placed_need_means mode inputs n needed clear o out 0 (a % 2 ^ 32) (omega arith) refl l p m is (omega arith) (listed (fixup_at (at + 4 * 0)) (contains_first (fixup_at at) (fixup_at (at + 4 * 0)) (fixup_at (at + 4) ∷ []) (ap fixup_at (omega arith)))) in
    let second = placed_need_means mode inputs n needed clear o out 1 (data_place mode inputs) (omega arith) value l p m is (omega (arith, data_begins mode inputs, data_small mode inputs o out is.sound))
    (listed (fixup_at (at + 4 * 1)) (contains_later (fixup_at at) (fixup_at (at + 4 * 1)) (fixup_at (at + 4) ∷ []) (contains_first (fixup_at (at + 4)) (fixup_at (at + 4 * 1)) [] refl))) in
    let whole : a % 2 ^ 32 ≡ a = omega (arith, small) in
    let begin : at + 4 * 0 ≡ at = omega arith in (
      subst (λ w. LoadedWord l p m o at (placed (p.maps m) w)) whole (subst (λ v. LoadedWord l p m o v (placed (p.maps m) (a % 2 ^ 32))) begin first),
      subst (LoadedWord l p m o (at + 4)) (sym got) second,
    )
  where
    n : Need
    n = Descriptor a

    at : ℕ
    at = need_place mode inputs (Descriptor a)

    listed : (r : Rel) → Contains (fixup_at at ∷ fixup_at (at + 4) ∷ []) r → Contains (need_rels mode inputs (Descriptor a)) r
    listed r in' =
        subst (λ (rs : List Rel). Contains rs r)
        (sym (ap (λ b. cond b (dynamic_rel at R_ARM_RELATIVE 0 ++ dynamic_rel (at + 4) R_ARM_RELATIVE 0) (dynamic_rel at R_ARM_FUNCDESC_VALUE 0)) static)) in'

    value : slice_get (need_values mode inputs (Descriptor a)) 1 ≡ Some (data_place mode inputs)
    value = ap (λ b. Some (cond b (data_place mode inputs) 0)) static

    got : got_of p m ≡ placed (p.maps m) (data_place mode inputs)
    got = ap (λ g. option_map_or (placed (p.maps m)) g 0) is.got' ∙ ap (placed (p.maps m)) out.got'

-- the address of one
pub own_in_static : (mode : Mode) (inputs : List RelObject) (p : Placing) (m a : ℕ) → is_static mode ≡ true → own_descriptor mode inputs p m a ≡ placed (p.maps m) (need_place mode inputs (Descriptor a))
own_in_static mode inputs p m a static = rw static refl
