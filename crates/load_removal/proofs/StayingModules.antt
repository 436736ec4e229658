-- The modules and groups that stay in a process.
use Rattle.std.proofs.Common.{◌≡◌, ℕ, ◌⊎◌, inl, inr, Bool, true, false, cond, List, [], Option, Some, None, refl, sym, ap, ◌∙◌}
use Rattle.std.specs.Prelude.{is_some, option_and_then, option_map}
use Rattle.std.specs.Option.{option_map_or}
use Rattle.std.proofs.lemmas.Bool.{cases_Bool}
use Rattle.fd_base.proofs.Options.{from_map, is_some-from_map, some_of}
use Rattle.elf_model.specs.declared.object.Object.{Object}
use Rattle.load_model.specs.declared.module.Group.{Group}
use Rattle.load_model.specs.declared.module.Live.{Live}
use Rattle.load_model.specs.declared.module.SymbolicProcess.{SymbolicProcess}
use Rattle.load_model.specs.Process.{live_at, is_live, group_at, group_scope, object_at}
use Rattle.load_model.specs.Unbound.{unbound_of}
use Rattle.load_removal.specs.Going.{ModuleSet, MayGo, process_without}
use Rattle.load_removal.proofs.PlacesLeft.{place_left}

-- what is left of one place
pub left_there : {X : Type 0} (b : Bool) (old new : Option X) (x : X) → new ≡ cond b None old → new ≡ Some x → (b ≡ false) × (old ≡ Some x)
left_there true old new x is there = let never : None ≡ Some x = sym is ∙ there in absurd cc
left_there false old new x is there = (refl, sym is ∙ there)

abbrev pub object_in : Option Live → Option Object
object_in x = option_map (λ live. live.object) x

pub is_live_with : (p : SymbolicProcess) (m : ℕ) (o : Object) → object_at p m ≡ Some o → is_live p m ≡ true
is_live_with p m o is = is_some-from_map (λ (live : Live). live.object) (live_at p m) o is

-- the process q is p without these modules
module _ (gone : ModuleSet) (p q : SymbolicProcess) (is : q ≡ process_without gone p) where
  -- ---- modules

  live_left : (m : ℕ) → live_at q m ≡ cond (gone m) None (live_at p m)
  live_left m = ap (λ (r : SymbolicProcess). live_at r m) is ∙ place_left gone p.modules m

  pub live_stays : (m : ℕ) → gone m ≡ false → live_at q m ≡ live_at p m
  live_stays m stays = live_left m ∙ ap (λ (b : Bool). cond b None (live_at p m)) stays

  -- a live module stayed and was live
  pub live_before : (m : ℕ) (live : Live) → live_at q m ≡ Some live → (gone m ≡ false) × (live_at p m ≡ Some live)
  live_before m live here = left_there (gone m) (live_at p m) (live_at q m) live (live_left m) here

  pub is_live_stays : (m : ℕ) → gone m ≡ false → is_live p m ≡ true → is_live q m ≡ true
  is_live_stays m stays here = ap is_some (live_stays m stays) ∙ here

  pub object_stays : (m : ℕ) → gone m ≡ false → object_at q m ≡ object_at p m
  object_stays m stays = ap object_in (live_stays m stays)

  pub object_before : (m : ℕ) (o : Object) → object_at q m ≡ Some o → (gone m ≡ false) × (object_at p m ≡ Some o)
  object_before m o here =
      let live = from_map (λ (live : Live). live.object) (live_at q m) o here in
      let before = live_before m live.0 live.1 in
      (before.0, ap object_in before.1 ∙ ap Some live.2)

  -- where none is live, one went or none was
  pub object_none : (m : ℕ) → object_at q m ≡ None → (gone m ≡ true) ⊎ ((gone m ≡ false) × (object_at p m ≡ None))
  object_none m none =
      elim (cases_Bool (gone m)) [
        | inl goes ↦ inl goes
        | inr stays ↦ inr (stays, sym (object_stays m stays) ∙ none)
      ]

  pub flags_stay : (m : ℕ) → gone m ≡ false → unbound_of q m ≡ unbound_of p m
  flags_stay m stays = ap (λ (x : Option Live). option_map_or (λ live. live.unbound) x []) (live_stays m stays)

  -- ---- groups

  group_left : (g : ℕ) → group_at q g ≡ cond (gone g) None (group_at p g)
  group_left g = ap (λ (r : SymbolicProcess). group_at r g) is ∙ place_left gone p.groups g

  pub group_stays : (g : ℕ) → gone g ≡ false → group_at q g ≡ group_at p g
  group_stays g stays = group_left g ∙ ap (λ (b : Bool). cond b None (group_at p g)) stays

  pub group_before : (g : ℕ) (group : Group) → group_at q g ≡ Some group → (gone g ≡ false) × (group_at p g ≡ Some group)
  group_before g group here = left_there (gone g) (group_at p g) (group_at q g) group (group_left g) here

  -- ---- scopes

  abbrev scope_by : SymbolicProcess → Option Live → List ℕ
  scope_by r x = option_map_or (λ (g : Group). g.scope) (option_and_then (λ (live : Live). group_at r live.group) x) []

  -- a module that stays has the scope that it had
  pub scope_stays : (m : ℕ) → MayGo p gone → gone m ≡ false → is_live p m ≡ true → group_scope q m ≡ group_scope p m
  scope_stays m may stays here =
      let some = some_of (live_at p m) here in
      let live = some.0 in
      let whole : gone live.group ≡ false = may.groups' m live some.1 ∙ stays in
      ap (scope_by q) (live_stays m stays ∙ some.1)
      ∙ ap (λ (x : Option Group). option_map_or (λ g. g.scope) x []) (group_stays live.group whole)
      ∙ ap (scope_by p) (sym some.1)
