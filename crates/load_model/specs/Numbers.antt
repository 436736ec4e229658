-- The addresses, sizes and words of the memory plan, and the most modules. All are this loader's own but the size of a
-- descriptor (Arm FDPIC ABI, "Function Descriptors").
use Rattle.std.specs.Prelude.{◌≡◌, [], ◌∷◌}
use Rattle.symbol_scope.specs.declared.tables.TheConstants.{MAX_MODULES}
use Rattle.load_model.specs.declared.layout.TheConstants.{RESOLVER, RESOLVER_WORDS, THREAD_END, PROCESS_END, END_WORDS, STUBS_END, LOAD_MAPS, LOAD_MAP_SIZE, LOAD_MAPS_SIZE}
use Rattle.load_model.specs.declared.plan.TheConstants.{DESCRIPTOR_SIZE}

pub record HasNumbers : Type 0 where
  -- code at fixed addresses: `svc 240`, `ldr r9, [r12, #4]`, `ldr pc, [r12]`, and then `svc 6` and `svc 0`
  pub resolver : RESOLVER ≡ 0x1000
  pub resolver_words : RESOLVER_WORDS ≡ 0xef0000f0 ∷ 0xe59c9004 ∷ 0xe59cf000 ∷ []
  pub thread_end : THREAD_END ≡ 0x100c
  pub process_end : PROCESS_END ≡ 0x1010
  pub end_words : END_WORDS ≡ 0xef000006 ∷ 0xef000000 ∷ []
  pub stubs_end : STUBS_END ≡ 0x1014
  -- the tables
  pub load_maps : LOAD_MAPS ≡ 0x1400
  pub load_map_size : LOAD_MAP_SIZE ≡ 112
  pub load_maps_size : LOAD_MAPS_SIZE ≡ 0x1c00
  pub descriptor_size : DESCRIPTOR_SIZE ≡ 8
  -- the most modules
  pub max_modules : MAX_MODULES ≡ 64
