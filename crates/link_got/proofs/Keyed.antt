-- Each need names a symbol of the inputs.
use Rattle.std.proofs.Common.{◌≡◌, ℕ, ◌<◌, Bool, true, false, cond, List, [], ◌∷◌, length, Option, Some, None, refl, ap, sym, subst, ◌∙◌, All}
use Rattle.std.specs.Prelude.{◌==◌, slice_get, unwrap_or, Contains}
use Rattle.std.specs.Option.{option_and_then}
use Rattle.std.specs.List.{flat_map}
use Rattle.std.proofs.lemmas.Bool.{false≢true}
use Rattle.std.proofs.lemmas.List.Elements.{All-nil, All-cons, All-contains}
use Rattle.std.proofs.lemmas.Option.{slice_get_within}
use Rattle.fd_base.proofs.Members.{all_contained, in_flat_map}
use Rattle.elf_model.specs.declared.constants.TheConstants.{R_ARM_GOT_BREL, R_ARM_GOTFUNCDESC}
use Rattle.elf_model.specs.declared.object.Symbol.{Symbol}
use Rattle.elf_model.specs.declared.relocatable.RelObject.{RelObject}
use Rattle.elf_model.specs.Symbols.{null_symbol}
use Rattle.symbol_scope.proofs.Growing.{All-with_new}
use Rattle.link_model.specs.declared.input.Mode.{Mode}
use Rattle.link_model.specs.declared.need.Need.{Need}
use Rattle.link_model.specs.declared.need.Need.TheVariants.{Word, FuncWord, Descriptor, NoFunction, Slot}
use Rattle.link_model.specs.declared.target.Key.TheVariants.{Name}
use Rattle.link_model.specs.declared.target.Target.{Target}
use Rattle.link_model.specs.Inputs.{InputRel, InputSymbol, all_rels, symbol_of}
use Rattle.link_model.specs.Joined.{is_joined, names_of, of_name, definition_taken}
use Rattle.link_model.specs.Needs.{is_branch, is_function_kind, is_unusable, descriptor_need, only_if, needs_for, needs_of, all_needs, is_same_need, symbol_at, target_at}
use Rattle.link_model.specs.Sections.{is_function, function_address}
use Rattle.link_model.specs.Targets.{is_dynamic, is_settled, joined_target, name_number, own_target, target_of, target_of_name}
use Rattle.link_model.proofs.Naming.{named, names_are_numbered}
use Rattle.link_names.specs.parts.Joining.{HasInput, IsKey}
use Rattle.link_got.specs.parts.Keyed.{IsNeedKey}

-- ---- symbols of which something can be made

-- such a symbol is there
in-inputs : (inputs : List RelObject) (i n : ℕ) → is_unusable (symbol_of inputs i n) ≡ false → HasInput inputs i (λ o. n < length o.symbols)
in-inputs inputs i n usable = by (slice_get inputs i) refl
  where
    symbol : Option RelObject → Symbol
    symbol file = unwrap_or (option_and_then (λ (o : RelObject). slice_get o.symbols n) file) null_symbol

    there : (o : RelObject) → slice_get inputs i ≡ Some o → (s : Option Symbol) → slice_get o.symbols n ≡ s → HasInput inputs i (λ p. n < length p.symbols)
    there o file None none =
        absurd (false≢true (sym usable ∙ ap is_unusable (ap symbol file ∙ ap (λ s. unwrap_or s null_symbol) none)))
    there o file (Some s) is = (o, file, slice_get_within o.symbols n s is)

    by : (file : Option RelObject) → slice_get inputs i ≡ file → HasInput inputs i (λ o. n < length o.symbols)
    by None none = absurd (false≢true (sym usable ∙ ap is_unusable (ap symbol none)))
    by (Some o) file = there o file (slice_get o.symbols n) refl

keyed-by : (mode : Mode) (inputs : List RelObject) (k : ℕ) (xs : List InputSymbol) (taken : Option InputSymbol) → (joined_target mode inputs k xs taken).key ≡ Name k
keyed-by mode inputs k xs None = refl
keyed-by mode inputs k xs (Some x) = refl

target-keyed : (mode : Mode) (inputs : List RelObject) (i n : ℕ) → is_unusable (symbol_of inputs i n) ≡ false → IsKey inputs (target_of mode inputs i n).key
unfolding target_of
target-keyed mode inputs i n usable = by (is_joined s) refl
  where
    s : Symbol
    s = symbol_of inputs i n

    name : List ℕ
    name = unwrap_or s.name []

    own : Target
    own = own_target inputs (record { input = i; number = n; symbol = s })

    by : (b : Bool) → is_joined s ≡ b → IsKey inputs (cond b (target_of_name mode inputs name) own).key
    by false is = in-inputs inputs i n usable
    by true is =
        let there = names_are_numbered.listed inputs i n is in
        let within = slice_get_within (names_of inputs) (name_number inputs name) name (named inputs name there) in
        subst (IsKey inputs) (sym (keyed-by mode inputs (name_number inputs name) (of_name inputs name) (definition_taken (of_name inputs name)))) within

-- ---- needs

module _ (inputs : List RelObject) (t : Target) (keyed : IsKey inputs t.key) where
  one : (need : Need) → IsNeedKey inputs need → All (IsNeedKey inputs) (need ∷ [])
  one need is = All-cons (IsNeedKey inputs) need [] is (All-nil (IsNeedKey inputs))

  where-wanted : (b : Bool) (need : Need) → IsNeedKey inputs need → All (IsNeedKey inputs) (only_if b need)
  where-wanted true need is = one need is
  where-wanted false need is = All-nil (IsNeedKey inputs)

  descriptor-keyed : IsNeedKey inputs (descriptor_need inputs t)
  descriptor-keyed = by (is_function inputs t.spot)
    where
      by : (b : Bool) → IsNeedKey inputs (cond b (Descriptor (function_address inputs t.spot)) (NoFunction t.key))
      by true = _
      by false = keyed

  needs-keyed : (kind : ℕ) → All (IsNeedKey inputs) (needs_for inputs kind t)
  needs-keyed kind = by (is_branch kind) (kind == R_ARM_GOT_BREL) (kind == R_ARM_GOTFUNCDESC) (is_function_kind kind)
    where
      descriptors : List Need
      descriptors = only_if (is_settled t.reach) (descriptor_need inputs t)

      described : All (IsNeedKey inputs) (only_if (is_settled t.reach) (descriptor_need inputs t))
      described = where-wanted (is_settled t.reach) (descriptor_need inputs t) descriptor-keyed

      by : (a b c d : Bool) → All (IsNeedKey inputs) (cond a (only_if (is_dynamic t.reach) (Slot t.key)) (cond b (Word t.key ∷ []) (cond c (FuncWord t.key ∷ descriptors) (cond d descriptors []))))
      by true b c d = where-wanted (is_dynamic t.reach) (Slot t.key) keyed
      by false true c d = one (Word t.key) keyed
      by false false true d = All-cons (IsNeedKey inputs) (FuncWord t.key) descriptors keyed described
      by false false false true = described
      by false false false false = All-nil (IsNeedKey inputs)

module _ (mode : Mode) (inputs : List RelObject) where
  rel-keyed : (x : InputRel) → All (IsNeedKey inputs) (needs_of mode inputs x)
  unfolding target_at
  rel-keyed x = by (is_unusable (symbol_at inputs x)) refl
    where
      by : (b : Bool) → is_unusable (symbol_at inputs x) ≡ b → All (IsNeedKey inputs) (cond b [] (needs_for inputs (x.rel).kind (target_at mode inputs x)))
      by true is = All-nil (IsNeedKey inputs)
      by false is = needs-keyed inputs (target_at mode inputs x) (target-keyed mode inputs (x.at).input (x.rel).symbol is) (x.rel).kind

  pub need-keyed : (n : Need) → Contains (all_needs mode inputs) n → IsNeedKey inputs n
  unfolding all_needs
  need-keyed n there =
      All-contains (IsNeedKey inputs) (all_needs mode inputs) n
      (All-with_new is_same_need (IsNeedKey inputs) [] (flat_map (needs_of mode inputs) (all_rels inputs)) (All-nil (IsNeedKey inputs))
      (all_contained (IsNeedKey inputs) (flat_map (needs_of mode inputs) (all_rels inputs)) (λ m within.
      let from = in_flat_map (needs_of mode inputs) (all_rels inputs) m within in
      All-contains (IsNeedKey inputs) (needs_of mode inputs from.0) m (rel-keyed from.0) from.2)))
      there
