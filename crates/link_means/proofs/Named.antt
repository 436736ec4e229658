-- Symbols that the loader looks up, at their numbers.
use Rattle.std.proofs.Common.{◌≡◌, ◌≢◌, ℕ, ◌+◌, Bool, true, false, cond, not, ◌&&◌, ◌||◌, List, [], Option, Some, None, refl, ap, ◌∙◌, arith}
use Rattle.std.specs.Prelude.{◌==◌, Contains, option_and_then, slice_get, unwrap_or}
use Rattle.std.specs.Option.{option_map_or}
use Rattle.std.specs.Str.{bytes_eq}
use Rattle.std.proofs.lemmas.Bool.{false≢true}
use Rattle.std.proofs.lemmas.Bool.Decides.{nat_tests}
use Rattle.fd_base.proofs.Members.{contains_at, in_filter}
use Rattle.elf_model.specs.declared.constants.TheConstants.{STB_GLOBAL, STB_LOCAL, STB_WEAK, STT_FUNC, STT_NOTYPE, STT_SECTION, STV_DEFAULT}
use Rattle.elf_model.specs.declared.object.Object.{Object}
use Rattle.elf_model.specs.declared.object.Symbol.{Symbol}
use Rattle.elf_model.specs.declared.relocatable.RelObject.{RelObject}
use Rattle.symbol_scope.specs.Exported.{is_defined}
use Rattle.load_model.specs.declared.meaning.Definition.TheVariants.{Symbol as Is, Unresolved}
use Rattle.load_model.specs.Definition.{Linkage, definition_of, definition_or, is_own, lookup, name_at, symbol_at}
use Rattle.load_model.specs.Sites.{is_unnamed}
use Rattle.link_model.specs.declared.input.Mode.{Mode}
use Rattle.link_model.specs.declared.target.Reach.TheVariants.{Dynamic, Nothing, Settled}
use Rattle.link_model.specs.declared.target.Target.{Target}
use Rattle.link_model.specs.DynamicSymbols.{dynamic_symbol, is_callable, is_shown, shown_kind, shown_place, symbol_index}
use Rattle.link_model.specs.Inputs.{InputRel, InputSymbol, symbol_of, symbols_of}
use Rattle.link_model.specs.Joined.{all_weak, definition_taken, first_of, is_joined, joined_of, name_of, names_of, of_name, visibility_of}
use Rattle.link_model.specs.Needs.{is_idle, target_at}
use Rattle.link_model.specs.Targets.{is_dynamic, is_nowhere, is_shared, is_static, joined_target, name_number, name_of_key, own_target, target_of, target_of_name}
use Rattle.link_model.specs.parts.Laws.{IsWellTyped}
use Rattle.link_model.proofs.Naming.{names_are_numbered}
use Rattle.link_model.proofs.Taken.{taken_in}
use Rattle.link_writes.proofs.Seen.{rel_seen}
use Rattle.link_means.specs.Values.{definition_of_target}
use Rattle.link_means.specs.parts.Laws.{IsOutput}

-- ---- joined symbols

-- neither local, nor a section
pub record IsNameable (binding kind : ℕ) : Type 0 where
  pub global : (binding == STB_LOCAL) ≡ false
  pub thing : (kind == STT_SECTION) ≡ false

of_neither : (a b : Bool) → (not a && not b) ≡ true → (a ≡ false) × (b ≡ false)
of_neither false false is = (refl, refl)
of_neither false true is = absurd (false≢true is)
of_neither true b is = absurd (false≢true is)

joined_nameable : (inputs : List RelObject) (name : List ℕ) (x : InputSymbol) → Contains (of_name inputs name) x → IsNameable (x.symbol).binding (x.symbol).kind
joined_nameable inputs name x there =
    let joined = (in_filter (λ y. bytes_eq (name_of y) name) (joined_of inputs) x there).0 in
    let passes = (in_filter (λ (y : InputSymbol). is_joined y.symbol) (symbols_of inputs) x joined).1 in
    let both = of_neither ((x.symbol).binding == STB_LOCAL) ((x.symbol).kind == STT_SECTION) passes in
    record { global = both.0; thing = both.1 }

-- ---- what the loader looks up is named, and others can define it

pub record IsLookedUp (t : Target) : Type 0 where
  pub nameable : IsNameable t.binding t.kind
  pub default : t.reach ≡ Dynamic → (t.visibility == STV_DEFAULT) ≡ true

default_nowhere : (static default : Bool) → cond (static || not default) Nothing Dynamic ≡ Dynamic → default ≡ true
default_nowhere static true is = refl
default_nowhere true false is = absurd cc
default_nowhere false false is = absurd cc

default_defined : (shared default : Bool) → cond (shared && default) Dynamic Settled ≡ Dynamic → default ≡ true
default_defined shared true is = refl
default_defined true false is = absurd cc
default_defined false false is = absurd cc

name_looked_up : (mode : Mode) (inputs : List RelObject) (name : List ℕ) → IsLookedUp (target_of_name mode inputs name)
name_looked_up mode inputs name = by (definition_taken (of_name inputs name)) refl
  where
    xs : List InputSymbol
    xs = of_name inputs name

    default : Bool
    default = visibility_of (of_name inputs name) == STV_DEFAULT

    weak_or_global : (b : Bool) → (cond b STB_WEAK STB_GLOBAL == STB_LOCAL) ≡ false
    weak_or_global true = refl
    weak_or_global false = refl

    first_kind : (o : Option InputSymbol) → first_of (of_name inputs name) ≡ o → (option_map_or (λ (x : InputSymbol). (x.symbol).kind) o STT_NOTYPE == STT_SECTION) ≡ false
    first_kind None e = refl
    first_kind (Some x) e = (joined_nameable inputs name x (contains_at (of_name inputs name) 0 x e)).thing

    by : (o : Option InputSymbol) → definition_taken (of_name inputs name) ≡ o → IsLookedUp (joined_target mode inputs (name_number inputs name) (of_name inputs name) o)
    by None e = record {
      nameable = record { global = weak_or_global (all_weak (of_name inputs name)); thing = first_kind (first_of (of_name inputs name)) refl };
      default = default_nowhere (is_static mode) default;
    }
    by (Some x) e = record { nameable = joined_nameable inputs name x (taken_in (of_name inputs name) x e); default = default_defined (is_shared mode) default }

-- ---- the symbol that the loader finds

-- the loader finds a symbol under the number that its relocations have
pub record IsNamed (mode : Mode) (inputs : List RelObject) (o : Object) (t : Target) : Type 0 where
  pub linked : is_static mode ≡ false
  pub some : symbol_index mode inputs t.key ≢ 0
  pub symbol : symbol_at o (symbol_index mode inputs t.key) ≡ Some (dynamic_symbol mode inputs t)
  pub name : name_at o (symbol_index mode inputs t.key) ≡ name_of_key inputs t.key
  pub unnamed : is_unnamed o (symbol_index mode inputs t.key) ≡ false
  pub definition : (l : Linkage) (m : ℕ) → definition_of l m o (symbol_index mode inputs t.key) ≡ definition_of_target inputs l m o t

module _ (mode : Mode) (inputs : List RelObject) where
  thing_shown : (t : Target) → (t.kind == STT_SECTION) ≡ false → (shown_kind mode inputs t == STT_SECTION) ≡ false
  thing_shown t thing = by (t.kind == STT_FUNC && (not (is_nowhere t.spot) && not (is_callable mode inputs t.spot)))
    where
      by : (b : Bool) → (cond b STT_NOTYPE t.kind == STT_SECTION) ≡ false
      by true = refl
      by false = thing

  -- another object may define it
  not_own : (t : Target) → IsLookedUp t → t.reach ≡ Dynamic → is_own (dynamic_symbol mode inputs t) ≡ false
  not_own t up dynamic = by (is_defined (shown_place t.spot)) (t.binding == STB_LOCAL) (shown_kind mode inputs t == STT_SECTION) (t.visibility == STV_DEFAULT)
      (up.nameable).global (thing_shown t (up.nameable).thing) (up.default dynamic)
    where
      by : (d a b v : Bool) → a ≡ false → b ≡ false → v ≡ true → (a || (b || (d && not v))) ≡ false
      by true false false true e f g = refl
      by false false false v e f g = refl
      by d true b v e f g = absurd cc
      by d false true v e f g = absurd cc
      by true false false false e f g = absurd cc

  index_some : (n : ℕ) → 1 + n ≢ 0
  index_some n is = absurd (omega (arith, is))

  index_not_zero : (n : ℕ) → (1 + n == 0) ≡ false
  index_not_zero n = grind (arith, nat_tests)

  module _ (o : Object) (out : IsOutput mode inputs o) where
    name_named : (name : List ℕ) → is_static mode ≡ false → Contains (names_of inputs) name → (target_of_name mode inputs name).reach ≡ Dynamic → is_shown (target_of_name mode inputs name) ≡ true
        → IsNamed mode inputs o (target_of_name mode inputs name)
    name_named name linked there dynamic shown =
        let t = target_of_name mode inputs name in
        let up = name_looked_up mode inputs name in
        let at : slice_get o.symbols index ≡ Some (dynamic_symbol mode inputs t) = ap (λ ss. slice_get ss index) out.symbols' ∙ names_are_numbered.shown mode inputs name linked there shown in
        record {
          linked = linked;
          some = index_some _;
          symbol = at;
          name = ap (option_and_then (λ (s : Symbol). s.name)) at;
          unnamed = ap (λ q. index == 0 || option_map_or (λ (s : Symbol). s.kind == STT_SECTION) q false) at
              ∙ ap (λ b. b || shown_kind mode inputs t == STT_SECTION) (index_not_zero _) ∙ thing_shown t (up.nameable).thing;
          definition = λ l m.
              ap (λ q. option_map_or (λ (s : Symbol). cond (is_own s) (Is (record { «module» = m; symbol = index })) (definition_or (lookup l m o s.name) (s.binding == STB_WEAK))) q Unresolved) at
              ∙ ap (λ b. cond b (Is (record { «module» = m; symbol = index })) (definition_or (lookup l m o (name_of_key inputs t.key)) (t.binding == STB_WEAK))) (not_own t up dynamic);
        }
      where
        index : ℕ
        index = symbol_index mode inputs (target_of_name mode inputs name).key

    symbol_named : (i n : ℕ) → is_static mode ≡ false → (target_of mode inputs i n).reach ≡ Dynamic → is_shown (target_of mode inputs i n) ≡ true → IsNamed mode inputs o (target_of mode inputs i n)
    unfolding target_of
    symbol_named i n linked = by (is_joined (symbol_of inputs i n)) refl
      where
        named : Target
        named = target_of_name mode inputs (unwrap_or (symbol_of inputs i n).name [])

        own : Target
        own = own_target inputs (record { input = i; number = n; symbol = symbol_of inputs i n })

        by : (b : Bool) → is_joined (symbol_of inputs i n) ≡ b → (cond b named own).reach ≡ Dynamic → is_shown (cond b named own) ≡ true → IsNamed mode inputs o (cond b named own)
        by true joined dynamic shown = name_named (unwrap_or (symbol_of inputs i n).name []) linked (names_are_numbered.listed inputs i n joined) dynamic shown
        by false joined dynamic shown = absurd cc

    at_named : (x : InputRel) → is_static mode ≡ false → (target_at mode inputs x).reach ≡ Dynamic → is_shown (target_at mode inputs x) ≡ true → IsNamed mode inputs o (target_at mode inputs x)
    unfolding target_at
    at_named x linked dynamic shown = symbol_named (x.at).input (x.rel).symbol linked dynamic shown

    -- that of a relocation that passes its tests
    pub rel_named : (x : InputRel) → IsWellTyped mode inputs x → is_idle (x.rel).kind ≡ false → (target_at mode inputs x).reach ≡ Dynamic → IsNamed mode inputs o (target_at mode inputs x)
    rel_named x typed busy dynamic =
        at_named x (rel_seen mode inputs x typed busy (ap is_dynamic dynamic)).linked dynamic
        (shown (is_idle (x.rel).kind) (is_dynamic (target_at mode inputs x).reach) (is_shown (target_at mode inputs x)) typed.seen busy (ap is_dynamic dynamic))
      where
        shown : (idle left seen : Bool) → (not idle && (left && not seen)) ≡ false → idle ≡ false → left ≡ true → seen ≡ true
        shown idle left true test e f = refl
        shown true left false test e f = absurd cc
        shown false false false test e f = absurd cc
        shown false true false test e f = absurd cc
