-- What is left to the loader is left with a symbol that it sees, and nothing is in a program that stands alone.
use Rattle.std.proofs.Common.{◌≡◌, refl, ap, sym, subst, ◌∙◌, ℕ, ◌<◌, Bool, true, false, cond, not, ◌&&◌, List, [], ◌∷◌, length, All}
use Rattle.std.specs.Prelude.{◌==◌, Contains, unwrap_or, Option, Some, None, flat_map}
use Rattle.std.proofs.lemmas.Bool.{eqb-true, false≢true}
use Rattle.std.proofs.lemmas.List.Elements.{All-nil, All-cons, All-contains}
use Rattle.std.proofs.lemmas.Option.{slice_get_within}
use Rattle.fd_base.proofs.Finding.{any_at}
use Rattle.fd_base.proofs.Lists.{all_at}
use Rattle.fd_base.proofs.Members.{all_contained, in_flat_map}
use Rattle.elf_model.specs.declared.constants.TheConstants.{R_ARM_PC24, R_ARM_GOT_BREL, R_ARM_PLT32, R_ARM_CALL, R_ARM_JUMP24, R_ARM_GOTFUNCDESC}
use Rattle.elf_model.specs.declared.relocatable.RelObject.{RelObject}
use Rattle.elf_model.specs.Header.{is_one_of}
use Rattle.symbol_scope.proofs.Growing.{All-with_new}
use Rattle.link_model.specs.declared.input.Mode.{Mode}
use Rattle.link_model.specs.declared.input.Mode.TheVariants.{Program, Shared, Static}
use Rattle.link_model.specs.declared.need.Need.{Need}
use Rattle.link_model.specs.declared.need.Need.TheVariants.{Word, FuncWord, Descriptor, NoFunction, Slot}
use Rattle.link_model.specs.declared.target.Key.{Key}
use Rattle.link_model.specs.declared.target.Target.{Target}
use Rattle.link_model.specs.DynamicSymbols.{is_shown, symbol_index, symbols_for, dynamic_symbol}
use Rattle.link_model.specs.Inputs.{InputRel, InputSymbol, symbol_of, all_rels}
use Rattle.link_model.specs.Joined.{is_joined, names_of, of_name, definition_taken}
use Rattle.link_model.specs.Needs.{is_branch, is_idle, is_function_kind, is_unusable, descriptor_need, only_if, needs_for, needs_of, all_needs, is_same_need, symbol_at, target_at}
use Rattle.link_model.specs.Sections.{is_function, function_address}
use Rattle.link_model.specs.Targets.{is_static, is_settled, is_dynamic, joined_target, name_number, own_target, target_of, target_of_name, target_of_key}
use Rattle.link_model.specs.parts.Laws.{IsWellTyped}
use Rattle.link_model.proofs.Naming.{names_are_numbered}

-- ---- who is left to the loader

joined_static : (inputs : List RelObject) (k : ℕ) (xs : List InputSymbol) (o : Option InputSymbol) → is_dynamic (joined_target Static inputs k xs o).reach ≡ false
joined_static inputs k xs None = refl
joined_static inputs k xs (Some taken) = refl

-- none of a program that stands alone
named_static : (mode : Mode) (inputs : List RelObject) (name : List ℕ) → is_dynamic (target_of_name mode inputs name).reach ≡ true → is_static mode ≡ false
named_static Program inputs name dynamic = refl
named_static Shared inputs name dynamic = refl
named_static Static inputs name dynamic =
    absurd (false≢true (sym (joined_static inputs (name_number inputs name) (of_name inputs name) (definition_taken (of_name inputs name))) ∙ dynamic))

module _ (mode : Mode) (inputs : List RelObject) where
  -- a symbol that the loader sees by its number
  pub record IsSeen (t : Target) : Type 0 where
    pub linked : is_static mode ≡ false
    pub index : symbol_index mode inputs t.key < length (symbols_for mode inputs)

  name_seen : (name : List ℕ) → Contains (names_of inputs) name → is_dynamic (target_of_name mode inputs name).reach ≡ true → is_shown (target_of_name mode inputs name) ≡ true → IsSeen (target_of_name mode inputs name)
  name_seen name there dynamic shown =
      let t = target_of_name mode inputs name in
      let linked = named_static mode inputs name dynamic in
      record {
        linked = linked;
        index = slice_get_within (symbols_for mode inputs) (symbol_index mode inputs t.key) (dynamic_symbol mode inputs t) (names_are_numbered.shown mode inputs name linked there shown);
      }

  pub symbol_seen : (i n : ℕ) → is_dynamic (target_of mode inputs i n).reach ≡ true → is_shown (target_of mode inputs i n) ≡ true → IsSeen (target_of mode inputs i n)
  unfolding target_of
  symbol_seen i n = by (is_joined (symbol_of inputs i n)) refl
    where
      name : List ℕ
      name = unwrap_or (symbol_of inputs i n).name []

      own : Target
      own = own_target inputs (record { input = i; number = n; symbol = symbol_of inputs i n })

      by : (b : Bool) → is_joined (symbol_of inputs i n) ≡ b → is_dynamic (cond b (target_of_name mode inputs name) own).reach ≡ true → is_shown (cond b (target_of_name mode inputs name) own) ≡ true
          → IsSeen (cond b (target_of_name mode inputs name) own)
      by true joined dynamic shown = name_seen name (names_are_numbered.listed inputs i n joined) dynamic shown
      by false joined dynamic shown = absurd (false≢true dynamic)

  at_seen : (x : InputRel) → is_dynamic (target_at mode inputs x).reach ≡ true → is_shown (target_at mode inputs x) ≡ true → IsSeen (target_at mode inputs x)
  unfolding target_at
  at_seen x dynamic shown = symbol_seen (x.at).input (x.rel).symbol dynamic shown

  seen_by : (idle dynamic shown : Bool) → (not idle && (dynamic && not shown)) ≡ false → idle ≡ false → dynamic ≡ true → shown ≡ true
  seen_by idle dynamic true test busy is = refl
  seen_by true dynamic false test busy is = absurd (false≢true (sym busy))
  seen_by false true false test busy is = absurd (false≢true (sym test))
  seen_by false false false test busy is = absurd (false≢true is)

  -- of a relocation that passes
  pub rel_seen : (x : InputRel) → IsWellTyped mode inputs x → is_idle (x.rel).kind ≡ false → is_dynamic (target_at mode inputs x).reach ≡ true → IsSeen (target_at mode inputs x)
  rel_seen x typed busy dynamic =
      at_seen x dynamic (seen_by (is_idle (x.rel).kind) (is_dynamic (target_at mode inputs x).reach) (is_shown (target_at mode inputs x)) typed.seen busy dynamic)

  key_is : (x : InputRel) → target_of_key mode inputs (target_at mode inputs x).key ≡ target_at mode inputs x
  unfolding target_at
  key_is x = names_are_numbered.keys mode inputs (x.at).input (x.rel).symbol

  -- ---- needs

  abbrev pub KeySeen : Key → Type 0
  KeySeen key = is_dynamic (target_of_key mode inputs key).reach ≡ true → IsSeen (target_of_key mode inputs key)

  pub record IsSlotSeen (key : Key) : Type 0 where
    pub linked : is_static mode ≡ false
    pub index : symbol_index mode inputs key < length (symbols_for mode inputs)

  abbrev pub NeedSeen : Need → Type 0
  NeedSeen (Word key) = KeySeen key
  NeedSeen (FuncWord key) = KeySeen key
  NeedSeen (Slot key) = IsSlotSeen key
  NeedSeen (Descriptor function) = Unit {0}
  NeedSeen (NoFunction key) = Unit {0}

  key_seen : (x : InputRel) → IsWellTyped mode inputs x → is_idle (x.rel).kind ≡ false → KeySeen (target_at mode inputs x).key
  key_seen x typed busy = subst (λ (t : Target). is_dynamic t.reach ≡ true → IsSeen t) (sym (key_is x)) (rel_seen x typed busy)

  slot_seen : (x : InputRel) → IsWellTyped mode inputs x → is_idle (x.rel).kind ≡ false → is_dynamic (target_at mode inputs x).reach ≡ true → IsSlotSeen (target_at mode inputs x).key
  slot_seen x typed busy dynamic = let s = rel_seen x typed busy dynamic in record { linked = s.linked; index = s.index }

  descriptor_seen : (b : Bool) (t : Target) → All NeedSeen (only_if b (descriptor_need inputs t))
  descriptor_seen false t = All-nil NeedSeen
  descriptor_seen true t = All-cons NeedSeen (descriptor_need inputs t) [] (by (is_function inputs t.spot)) (All-nil NeedSeen)
    where
      by : (b : Bool) → NeedSeen (cond b (Descriptor (function_address inputs t.spot)) (NoFunction t.key))
      by true = tt
      by false = tt

  -- a kind that is one of some
  of_kinds : (P : ℕ → Type 0) (kinds : List ℕ) (kind : ℕ) → All P kinds → is_one_of kinds kind ≡ true → P kind
  of_kinds P kinds kind all is =
      let from = any_at (λ k. k == kind) kinds is in
      subst P (eqb-true from.1 kind from.2.1) (all_at P kinds from.0 from.1 all from.2.0)

  busy_branch : (kind : ℕ) → is_branch kind ≡ true → is_idle kind ≡ false
  busy_branch kind is =
      let P : ℕ → Type 0 = λ k. is_idle k ≡ false in
      of_kinds P (R_ARM_PC24 ∷ R_ARM_PLT32 ∷ R_ARM_CALL ∷ R_ARM_JUMP24 ∷ []) kind
      (All-cons P R_ARM_PC24 (R_ARM_PLT32 ∷ R_ARM_CALL ∷ R_ARM_JUMP24 ∷ []) refl
      (All-cons P R_ARM_PLT32 (R_ARM_CALL ∷ R_ARM_JUMP24 ∷ []) refl (All-cons P R_ARM_CALL (R_ARM_JUMP24 ∷ []) refl (All-cons P R_ARM_JUMP24 [] refl (All-nil P))))) is

  busy_kind : (kind k : ℕ) → (kind == k) ≡ true → is_idle k ≡ false → is_idle kind ≡ false
  busy_kind kind k is busy = ap is_idle (eqb-true kind k is) ∙ busy

  for_seen : (x : InputRel) → IsWellTyped mode inputs x → All NeedSeen (needs_for inputs (x.rel).kind (target_at mode inputs x))
  for_seen x typed = by (is_branch kind) (kind == R_ARM_GOT_BREL) (kind == R_ARM_GOTFUNCDESC) (is_function_kind kind) refl refl refl
    where
      kind : ℕ
      kind = (x.rel).kind

      t : Target
      t = target_at mode inputs x

      slot : (b : Bool) → is_dynamic t.reach ≡ b → is_branch kind ≡ true → All NeedSeen (only_if b (Slot t.key))
      slot false e is = All-nil NeedSeen
      slot true e is = All-cons NeedSeen (Slot t.key) [] (slot_seen x typed (busy_branch kind is) e) (All-nil NeedSeen)

      by : (a b c d : Bool) → is_branch kind ≡ a → (kind == R_ARM_GOT_BREL) ≡ b → (kind == R_ARM_GOTFUNCDESC) ≡ c
          → All NeedSeen (cond a (only_if (is_dynamic t.reach) (Slot t.key)) (cond b (Word t.key ∷ []) (cond c (FuncWord t.key ∷ only_if (is_settled t.reach) (descriptor_need inputs t)) (cond d (only_if (is_settled t.reach) (descriptor_need inputs t)) []))))
      by true b c d e f g = slot (is_dynamic t.reach) refl e
      by false true c d e f g = All-cons NeedSeen (Word t.key) [] (key_seen x typed (busy_kind kind R_ARM_GOT_BREL f refl)) (All-nil NeedSeen)
      by false false true d e f g =
          All-cons NeedSeen (FuncWord t.key) (only_if (is_settled t.reach) (descriptor_need inputs t)) (key_seen x typed (busy_kind kind R_ARM_GOTFUNCDESC g refl)) (descriptor_seen (is_settled t.reach) t)
      by false false false true e f g = descriptor_seen (is_settled t.reach) t
      by false false false false e f g = All-nil NeedSeen

  of_seen : (x : InputRel) → IsWellTyped mode inputs x → All NeedSeen (needs_of mode inputs x)
  of_seen x typed = by (is_unusable (symbol_at inputs x))
    where
      by : (b : Bool) → All NeedSeen (cond b [] (needs_for inputs (x.rel).kind (target_at mode inputs x)))
      by true = All-nil NeedSeen
      by false = for_seen x typed

  pub needs_seen : ((x : InputRel) → Contains (all_rels inputs) x → IsWellTyped mode inputs x) → All NeedSeen (all_needs mode inputs)
  unfolding all_needs
  needs_seen typed =
      All-with_new is_same_need NeedSeen [] (flat_map (needs_of mode inputs) (all_rels inputs)) (All-nil NeedSeen)
      (all_contained NeedSeen (flat_map (needs_of mode inputs) (all_rels inputs)) (λ n there.
      let from = in_flat_map (needs_of mode inputs) (all_rels inputs) n there in
      All-contains NeedSeen (needs_of mode inputs from.0) n (of_seen from.0 (typed from.0 from.1)) from.2))
