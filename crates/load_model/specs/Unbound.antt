-- Slots that are not bound yet (Arm FDPIC ABI, "Procedure Linkage Table"): each leads to its module's own call of the
-- resolver, which binds it. A module has a flag for each of its slots. Which slots stay unbound is this loader's own choice.
use Rattle.std.specs.Prelude.{◌≡◌, ℕ, Bool, true, false, not, ◌&&◌, List, [], length, map, get_or, find, position, is_some, Option, option_map, option_and_then, Result}
use Rattle.std.specs.Option.{option_map_or}
use Rattle.std.specs.List.{range_with_len}
use Rattle.elf_model.specs.declared.filled.FilledSite.{FilledSite}
use Rattle.elf_model.specs.declared.func.Func.{Func}
use Rattle.elf_model.specs.declared.object.Object.{Object}
use Rattle.elf_model.specs.declared.object.Rel.{Rel}
use Rattle.plt_code.specs.Entries.{lazy_place}
use Rattle.symbol_scope.specs.declared.tables.TheConstants.{MAX_MODULES}
use Rattle.load_model.specs.declared.error.LoadRefusal.{LoadRefusal}
use Rattle.load_model.specs.declared.meaning.SiteValue.{SiteValue}
use Rattle.load_model.specs.declared.meaning.SiteValue.TheVariants.{Stub}
use Rattle.load_model.specs.declared.module.SlotOf.{SlotOf}
use Rattle.load_model.specs.declared.module.SymbolicProcess.{SymbolicProcess}
use Rattle.load_model.specs.Definition.{Linkage}
use Rattle.load_model.specs.Process.{live_at}
use Rattle.load_model.specs.Sites.{addend_of, site_value, written}

-- ---- flags

-- whether the flag of slot k is set; past the last slot none is
abbrev pub is_set : List Bool → ℕ → Bool
is_set flags k = get_or flags k false

-- the lowest slot whose flag is set
abbrev pub first_set : List Bool → Option ℕ
first_set flags = position (λ flag. flag) flags

-- the flags of a live module
abbrev pub unbound_of : SymbolicProcess → ℕ → List Bool
unbound_of p m = option_map_or (λ live. live.unbound) (live_at p m) []

abbrev pub is_unbound : SymbolicProcess → ℕ → ℕ → Bool
is_unbound p m k = is_set (unbound_of p m) k

abbrev pub slot_of : ℕ → ℕ → SlotOf
slot_of m k = record { «module» = m; slot = k }

-- the first unbound slot of a module
abbrev pub first_unbound : SymbolicProcess → ℕ → Option SlotOf
first_unbound p m = option_map (slot_of m) (first_set (unbound_of p m))

-- the first unbound slot: of the lowest module that has one, the lowest
abbrev pub next_unbound : SymbolicProcess → Option SlotOf
next_unbound p = option_and_then (first_unbound p) (find (λ m. is_some (first_set (unbound_of p m))) (range_with_len 0 MAX_MODULES))

-- every slot is bound
abbrev pub AllBound : SymbolicProcess → Type 0
AllBound p = (m k : ℕ) → is_unbound p m k ≡ false

-- ---- new modules

-- whether slot k may wait until it is called: its object doesn't ask that all are bound at loading (DF_BIND_NOW), and has
-- the slot's call of the resolver
abbrev pub may_wait : Object → ℕ → Bool
may_wait o k = not o.now && is_some (lazy_place o k)

-- the flags of a new module
abbrev pub unbound_at_first : Bool → Object → List Bool
unbound_at_first lazy o = map (λ k. lazy && may_wait o k) (range_with_len 0 (length o.jmprels))

-- ---- what stands at a site

-- whether a site is that of an unbound slot
abbrev pub waits : List Bool → FilledSite → Bool
waits unbound s = option_map_or (is_set unbound) s.slot false

-- where a slot of module m leads while it is unbound: the file's word at it is the link address of its call of the resolver
abbrev pub stub_of : ℕ → Object → Rel → Func
stub_of m o r = record { «module» = m; value = addend_of o r }

-- the same as a value, where the slot waits
abbrev pub stub_or : Bool → Object → Rel → SiteValue → SiteValue
stub_or true o r value = Stub (addend_of o r)
stub_or false o r value = value

-- The value that stands at a site for now. One that can't be filled has none, whether its slot is bound or not.
abbrev pub standing_value : Linkage → ℕ → Object → List Bool → FilledSite → Result SiteValue LoadRefusal
standing_value l m o unbound s = written (stub_or (waits unbound s) o s.rel) (site_value l m o s.rel)
