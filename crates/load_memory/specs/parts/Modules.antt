-- The modules in memory, before and after one is placed.
use Rattle.std.specs.Prelude.{ℕ, ◌==◌, List, [], Some, None, if◌then◌else◌}
use Rattle.load_map.specs.declared.entry.MapEntry.{MapEntry}
use Rattle.elf_model.specs.declared.object.Object.{Object}
use Rattle.load_model.specs.Layout.{InMemory}

-- no modules
abbrev pub nothing : InMemory
nothing = record { objects = λ n. None; maps = λ n. [] }

-- one module more, or another one of this number
abbrev pub with_module : InMemory → ℕ → Object → List MapEntry → InMemory
with_module mods m o load_map = record {
  objects = λ n. if n == m then Some o else mods.objects n;
  maps = λ n. if n == m then load_map else mods.maps n;
}
