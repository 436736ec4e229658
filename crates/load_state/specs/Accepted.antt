-- When a load is accepted, and what it does.
use Rattle.std.specs.Prelude.{◌≡◌, ℕ, ◌≤◌, Bool, List, [], ◌∷◌, length, map, set, take, drop, Option, Some, None, option_map}
use Rattle.std.specs.FinMap.{get}
use Rattle.std.specs.List.{AllZip, flat_map, zip}
use Rattle.std.specs.Option.{option_or}
use Rattle.load_map.specs.declared.entry.MapEntry.{MapEntry}
use Rattle.fd_base.specs.Fetched.{Files}
use Rattle.elf_model.specs.declared.func.Func.{Func}
use Rattle.func_desc.specs.Functions.{AddrMap}
use Rattle.func_desc.specs.Pool.{free_slots}
use Rattle.placement.specs.declared.item.Item.{Item}
use Rattle.placement.specs.Placed.{Placed}
use Rattle.symbol_scope.specs.declared.table.Table.{Table}
use Rattle.symbol_scope.specs.Table.{table_of}
use Rattle.load_model.specs.declared.module.Joining.{Joining}
use Rattle.load_model.specs.declared.module.SymbolicProcess.{SymbolicProcess}
use Rattle.load_model.specs.declared.plan.PlaceLine.{PlaceLine}
use Rattle.load_model.specs.Definition.{Linkage}
use Rattle.load_model.specs.Descriptors.{privates, wanted, descriptors_after}
use Rattle.load_model.specs.Image.{Placing, IsImage, load_map_at}
use Rattle.load_map.specs.Maps.{map_at}
use Rattle.load_model.specs.Joined.{Asked, flags_of, global_after}
use Rattle.load_model.specs.Unbound.{unbound_at_first}
use Rattle.load_model.specs.Linkage.{linkage_with, members_of, closure_of, scope_with, joining_at}
use Rattle.load_model.specs.Plan.{low_of, high_of, listed_for}
use Rattle.load_model.specs.Process.{object_at}
use Rattle.load_model.specs.Sites.{first_refusal}
use Rattle.load_model.specs.Walk.{IsWalk, number_among}
use Rattle.load_image.specs.Items.{items_of, load_map_of}
use Rattle.load_image.specs.Places.{placed_pairs_of}
use Rattle.load_state.specs.declared.plan.GroupPlan.{GroupPlan}
use Rattle.load_state.specs.Loaded.{LoadedModules, pool_of}
use Rattle.load_state.specs.Slots.{targets_of}
use Rattle.load_map.specs.Maps.{map_at}

-- the segments of new modules as items, in order
abbrev pub items_for : List PlaceLine → Joining → List Item
items_for places j = items_of j.number j.object.segments (listed_for places j.name)

abbrev pub all_items : List PlaceLine → List Joining → List Item
all_items places joining = flat_map (items_for places) joining

-- the load maps, by number, with those of new modules whose segments lie at these addresses in order
abbrev pub maps_after : List (List MapEntry) → List Joining → List ℕ → List (List MapEntry)
maps_after maps [] addrs = maps
maps_after maps (j ∷ joining) addrs =
    maps_after (set maps j.number (load_map_of j.object.segments (take (length j.object.segments) addrs))) joining
    (drop (length j.object.segments) addrs)

-- the names that a load looks at, and the scope of its new modules
pub record IsScoped (p : SymbolicProcess) (files : Option Files) (root : List ℕ) (joining : List Joining) (scope : List ℕ) : Type 0 where
  pub names : List (List ℕ)
  pub walk : IsWalk p files root joining names
  pub scope' : scope ≡ scope_with p (closure_of p joining names)

abbrev pub linkage_for : LoadedModules → List Joining → List ℕ → Linkage
linkage_for l joining scope = linkage_with l.process joining scope

-- the functions to which the slots of the new modules lead, in order
abbrev pub targets_for : LoadedModules → List Joining → List ℕ → List (List (Option Func))
targets_for l joining scope = map (λ j. targets_of (linkage_for l joining scope) j.number j.object) joining

-- the exported names of the new modules, in order
abbrev pub tables_of : List Joining → List Table
tables_of joining = map (λ j. table_of j.name j.object) joining

-- every site of the new modules can be filled
abbrev pub CanBeFilled : LoadedModules → List Joining → List ℕ → Type 0
CanBeFilled l joining scope = first_refusal (linkage_for l joining scope) (members_of joining) ≡ None

-- the functions that need a slot
abbrev pub wanted_by : LoadedModules → List Joining → List ℕ → List Func
wanted_by l joining scope = wanted (linkage_for l joining scope) (get l.addrs) (members_of joining)

-- the new modules' own descriptors, each with its placed address
abbrev pub adopted_by : LoadedModules → List Joining → List ℕ → List (List MapEntry) → List (Func × ℕ)
adopted_by l joining scope maps =
    placed_pairs_of maps (privates (linkage_for l joining scope) (members_of joining))

-- the slots that functions get
abbrev pub given_by : LoadedModules → List Joining → List ℕ → List (Func × ℕ)
given_by l joining scope = zip (wanted_by l joining scope) (free_slots (pool_of l.plan l.addrs))

-- the link address of a module's GOT, new or live
abbrev pub gots_of : SymbolicProcess → List Joining → ℕ → Option ℕ
gots_of p joining m = option_map (λ o. o.got) (option_or (option_map (λ j. j.object) (joining_at joining m)) (object_at p m))

-- where modules are placed after a load: by these load maps and descriptors, where functions had these addresses
abbrev pub placing_by : SymbolicProcess → AddrMap → List Joining → List (List MapEntry) → List (Func × ℕ) → List (Func × ℕ) → Placing
placing_by p addrs joining maps adopted given = record {
  maps = map_at maps;
  gots = gots_of p joining;
  load_maps = load_map_at;
  descriptors = descriptors_after (get addrs) adopted given;
}

-- the bytes of all new modules' segments
abbrev pub AreFinished : Linkage → Placing → Bool → List Joining → List (List MapEntry) → List (List (List ℕ)) → Type 0
AreFinished l placing lazy joining maps parts =
    AllZip (λ j part. IsImage l placing j.number j.object (unbound_at_first lazy j.object) (map_at maps j.number) part) joining parts

-- the load that a plan describes
pub record IsPlan (l : LoadedModules) (files : Option Files) (root : List ℕ) (asked : Asked) (plan : GroupPlan) : Type 0 where
  pub scoped : IsScoped l.process files root plan.joining plan.scope
  pub root' : number_among l.process plan.joining root ≡ Some plan.root
  pub global' : plan.global ≡ global_after l.process asked.global plan.scope
  pub lazy' : plan.lazy ≡ asked.lazy
  pub unbound' : plan.unbound ≡ flags_of plan.lazy plan.joining
  pub targets' : plan.targets ≡ targets_for l plan.joining plan.scope
  pub tables' : plan.tables ≡ tables_of plan.joining
  pub filled : CanBeFilled l plan.joining plan.scope
  pub enough : length (wanted_by l plan.joining plan.scope) ≤ length (free_slots (pool_of l.plan l.addrs))
  pub items' : plan.items ≡ all_items l.plan.places plan.joining
  pub placed' : Placed (low_of l.plan) (high_of l.plan) l.held plan.items plan.addrs
  pub maps' : plan.maps ≡ maps_after l.maps plan.joining plan.addrs
  pub adopted' : plan.adopted ≡ adopted_by l plan.joining plan.scope plan.maps
  pub given' : plan.given ≡ given_by l plan.joining plan.scope
  pub parts' : AreFinished (linkage_for l plan.joining plan.scope)
      (placing_by l.process l.addrs plan.joining plan.maps plan.adopted plan.given) plan.lazy plan.joining plan.maps plan.parts
