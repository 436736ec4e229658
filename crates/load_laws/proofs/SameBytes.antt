-- Bytes that are told by what stands in memory are the same in two memories.
use Rattle.std.proofs.Common.{◌≡◌, ℕ, ◌+◌, ◌-◌, ◌<◌, ◌≤◌, inl, inr, Bool, true, false, List, [], ◌∷◌, length, refl, sym, subst, ◌∙◌, arith}
use Rattle.std.proofs.lemmas.Bool.{cases_lt}
use Rattle.load_map.specs.declared.entry.MapEntry.{MapEntry}
use Rattle.guest_mem.specs.Memory.{GuestMemory, byte_at}
use Rattle.load_map.specs.Image as map_image
use Rattle.load_memory.proofs.PutBytes.{length-bytes_of_words}
use Rattle.fd_base.proofs.Ranges.{inside}
use Rattle.load_model.specs.declared.layout.TheConstants.{END_WORDS, LOAD_MAP_SIZE, RESOLVER, RESOLVER_WORDS, STUBS_END, THREAD_END}
use Rattle.load_model.specs.declared.plan.MemPlan.{MemPlan}
use Rattle.load_model.specs.declared.plan.TheConstants.{DESCRIPTOR_SIZE}
use Rattle.load_model.specs.Image.{load_map_at}
use Rattle.load_model.specs.Layout.{HasBytes, HasLoadMap, HasPair, IsBlank, bytes_of_words}
use Rattle.fd_base.specs.Ranges.{is_in}
use Rattle.load_state.specs.Loaded.{Loaded}
use Rattle.load_state.specs.ProgramLoad.{IsNew}

module _ (m n : GuestMemory) where
  -- at an address from one on
  pub at_place : (start a : ℕ) → start ≤ a → byte_at m (start + (a - start)) ≡ byte_at n (start + (a - start)) → byte_at m a ≡ byte_at n a
  at_place start a le same = let e : start + (a - start) ≡ a = omega arith in subst (λ k. byte_at m k ≡ byte_at n k) e same

  bytes_same : (start : ℕ) (bytes : List ℕ) (a : ℕ) → HasBytes m start bytes → HasBytes n start bytes → start ≤ a → a < start + length bytes → byte_at m a ≡ byte_at n a
  bytes_same start bytes a h k le lt =
      let within : a - start < length bytes = omega arith in
      at_place start a le (h (a - start) within ∙ sym (k (a - start) within))

  clear_same : (start len a : ℕ) → IsBlank m start len → IsBlank n start len → start ≤ a → a < start + len → byte_at m a ≡ byte_at n a
  clear_same start len a h k le lt =
      let within : a - start < len = omega arith in
      at_place start a le (h (a - start) within ∙ sym (k (a - start) within))

  words_same : (start : ℕ) (words : List ℕ) (len a : ℕ) → length (bytes_of_words words) ≡ len → HasBytes m start (bytes_of_words words) → HasBytes n start (bytes_of_words words)
      → start ≤ a → a < start + len → byte_at m a ≡ byte_at n a
  words_same start words len a long h k le lt = bytes_same start (bytes_of_words words) a h k le (omega arith)

  pub pair_same : (start code got a : ℕ) → HasPair m start code got → HasPair n start code got → is_in start DESCRIPTOR_SIZE a ≡ true → byte_at m a ≡ byte_at n a
  pair_same start code got a h k there =
      let range = inside start DESCRIPTOR_SIZE a there in
      words_same start (code ∷ got ∷ []) 8 a (length-bytes_of_words (code ∷ got ∷ [])) h k range.0 range.1

  pub load_map_same : (number : ℕ) (load_map : List MapEntry) (a : ℕ) → HasLoadMap m number load_map → HasLoadMap n number load_map
      → is_in (load_map_at number) LOAD_MAP_SIZE a ≡ true → byte_at m a ≡ byte_at n a
  load_map_same number load_map a h k there =
      let range = inside (load_map_at number) LOAD_MAP_SIZE a there in
      let image = map_image.bytes_of_map load_map in
      elim (cases_lt a (load_map_at number + length image)) [
        | inl lt ↦ bytes_same (load_map_at number) image a h.bytes k.bytes range.0 lt
        | inr ge ↦ clear_same (load_map_at number + length image) (LOAD_MAP_SIZE - length image) a h.rest k.rest ge (omega (arith, range.1, ge))
      ]

-- ---- the memory before the first load

module _ (plan : MemPlan) (s t : Loaded) (h : IsNew plan s) (k : IsNew plan t) where
  stub_same : (a : ℕ) → RESOLVER ≤ a → a < STUBS_END → byte_at s.memory a ≡ byte_at t.memory a
  stub_same a le lt =
      elim (cases_lt a THREAD_END) [
        | inl before ↦ words_same s.memory t.memory RESOLVER RESOLVER_WORDS 12 a (length-bytes_of_words RESOLVER_WORDS)
            h.resolver k.resolver le before
        | inr behind ↦ words_same s.memory t.memory THREAD_END END_WORDS 8 a (length-bytes_of_words END_WORDS)
            h.ends k.ends behind lt
      ]

  start_by : (a : ℕ) (b : Bool) → is_in RESOLVER (STUBS_END - RESOLVER) a ≡ b → byte_at s.memory a ≡ byte_at t.memory a
  start_by a true is = let range = inside RESOLVER (STUBS_END - RESOLVER) a is in stub_same a range.0 range.1
  start_by a false is = h.clear a is ∙ sym (k.clear a is)

  pub start_same : (a : ℕ) → byte_at s.memory a ≡ byte_at t.memory a
  start_same a = start_by a (is_in RESOLVER (STUBS_END - RESOLVER) a) refl
