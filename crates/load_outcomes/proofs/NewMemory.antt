-- The memory of a process without modules.
use Rattle.std.proofs.Common.{◌≡◌, ℕ, zero, suc, ◌-◌, ◌^◌, ◌<◌, ◌≤◌, ◌⊎◌, inl, inr, Bool, false, List, Option, Some, None, length, get_or, replicate, refl, ap, sym, subst, ◌∙◌, arith}
use Rattle.std.proofs.lemmas.List.{length-replicate}
use Rattle.fd_base.specs.Ranges.{is_in}
use Rattle.fd_base.proofs.Ranges.{outside}
use Rattle.guest_mem.specs.declared.kind.MemKind.{MemKind}
use Rattle.guest_mem.specs.declared.kind.MemKind.TheVariants.{Code, Data, Fixed}
use Rattle.guest_mem.specs.Accesses.{with_bytes}
use Rattle.guest_mem.specs.Memory.{GuestMemory, IsMemory, blank, byte_at, is_marked, is_watched_as, kind_at}
use Rattle.guest_mem.specs.Ranges.{with_kind}
use Rattle.guest_mem.specs.parts.Kept.{SameMap}
use Rattle.guest_mem.proofs.Ranged.{IsMemory-with_kind}
use Rattle.load_memory.specs.parts.Modules.{nothing}
use Rattle.load_memory.specs.parts.Stubs.{HasStubs}
use Rattle.load_memory.proofs.EmptyMemory.{kind3, mark3}
use Rattle.load_memory.proofs.PutBytes.{HasBytes-other, HasBytes-put, SameMap-put, byte_at-other}
use Rattle.load_model.specs.declared.layout.TheConstants.{END_WORDS, LOAD_MAPS, RESOLVER, RESOLVER_WORDS, STUBS_END, THREAD_END}
use Rattle.load_model.specs.declared.plan.MemPlan.{MemPlan}
use Rattle.load_model.specs.Layout.{HasBytes, IsLaidOut, bytes_of_words, fixed_kind}
use Rattle.load_model.specs.Plan.{Fits, slots_end, high_of}
use Rattle.load_model.proofs.PlanParts.{slots_below}
use Rattle.load_outcomes.proofs.PutModule.{same_memory}

same_each : {X : Type 0} (n a : ℕ) (x : X) → get_or (replicate n x) a x ≡ x
same_each zero a x = refl
same_each (suc n) zero x = refl
same_each (suc n) (suc a) x = same_each n a x

-- such a memory, laid out without modules, with the stubs and zeros elsewhere
pub record IsFresh (plan : MemPlan) (m : GuestMemory) : Type 0 where
  pub laid_out : IsLaidOut plan nothing m
  pub stubs : HasStubs m
  pub clear : (a : ℕ) → is_in RESOLVER (STUBS_END - RESOLVER) a ≡ false → byte_at m a ≡ 0

-- zeros where nothing is mapped, then the stacks, the tables and the stubs mapped, and then the stubs' code
module _ (plan : MemPlan) (fits : Fits plan) (small : plan.memory < 2 ^ 32) (m0 m1 m2 m3 m4 m5 : GuestMemory) (start : m0 ≡ blank plan.memory)
    (stacks : m1 ≡ with_kind m0 (high_of plan) (plan.memory - high_of plan) (Some Data))
    (tables : m2 ≡ with_kind m1 LOAD_MAPS (slots_end plan - LOAD_MAPS) (Some Fixed))
    (stubs : m3 ≡ with_kind m2 RESOLVER (STUBS_END - RESOLVER) (Some Code))
    (resolver : m4 ≡ with_bytes m3 RESOLVER (bytes_of_words RESOLVER_WORDS))
    (ends : m5 ≡ with_bytes m4 THREAD_END (bytes_of_words END_WORDS)) where
  whole0 : IsMemory m0
  whole0 = subst IsMemory (sym start) (record {
    kinds = length-replicate {A = Option MemKind} plan.memory None ∙ sym (length-replicate {A = ℕ} plan.memory 0);
    marks = length-replicate {A = Bool} plan.memory false ∙ sym (length-replicate {A = ℕ} plan.memory 0);
    size = let long : length {A = ℕ} (replicate plan.memory 0) ≡ plan.memory = length-replicate plan.memory 0 in omega arith;
  })

  size0 : length m0.bytes ≡ plan.memory
  size0 = ap (λ (m : GuestMemory). length m.bytes) start ∙ length-replicate {A = ℕ} plan.memory 0

  free : (a : ℕ) → kind_at m0 a ≡ None
  free a = ap (λ (m : GuestMemory). kind_at m a) start ∙ same_each {X = Option MemKind} plan.memory a None

  unmarked : (a : ℕ) → is_marked m0 a ≡ false
  unmarked a = ap (λ (m : GuestMemory). is_marked m a) start ∙ same_each {X = Bool} plan.memory a false

  zeros : (a : ℕ) → byte_at m0 a ≡ 0
  zeros a = ap (λ (m : GuestMemory). byte_at m a) start ∙ same_each {X = ℕ} plan.memory a 0

  same_bytes : m3.bytes ≡ m0.bytes
  same_bytes = ap (λ (m : GuestMemory). m.bytes) stubs ∙ ap (λ (m : GuestMemory). m.bytes) tables ∙ ap (λ (m : GuestMemory). m.bytes) stacks

  whole3 : IsMemory m3
  whole3 =
      let one = subst IsMemory (sym stacks) (IsMemory-with_kind m0 (high_of plan) (plan.memory - high_of plan) (Some Data) whole0) in
      let two = subst IsMemory (sym tables) (IsMemory-with_kind m1 LOAD_MAPS (slots_end plan - LOAD_MAPS) (Some Fixed) one) in
      subst IsMemory (sym stubs) (IsMemory-with_kind m2 RESOLVER (STUBS_END - RESOLVER) (Some Code) two)

  map4 : SameMap m3 m4
  map4 = subst (SameMap m3) (sym resolver) (SameMap-put m3 RESOLVER (bytes_of_words RESOLVER_WORDS))

  map5 : SameMap m4 m5
  map5 = subst (SameMap m4) (sym ends) (SameMap-put m4 THREAD_END (bytes_of_words END_WORDS))

  whole5 : IsMemory m5
  whole5 = same_memory m4 m5 map5 (same_memory m3 m4 map4 whole3)

  size3 : length m3.bytes ≡ plan.memory
  size3 = ap length same_bytes ∙ size0

  kinds : (a : ℕ) → kind_at m5 a ≡ kind_at m3 a
  kinds a = ap (λ (xs : List (Option MemKind)). get_or xs a None) (map5.kinds ∙ map4.kinds)

  marks : (a : ℕ) → is_marked m5 a ≡ is_marked m3 a
  marks a = ap (λ (xs : List Bool). get_or xs a false) (map5.marks ∙ map4.marks)

  laid_out : IsLaidOut plan nothing m5
  laid_out =
      let kind : (a : ℕ) → kind_at m5 a ≡ fixed_kind plan a = λ a.
      kinds a ∙ kind3 plan fits m0 m1 m2 m3 (high_of plan) whole0 size0 free unmarked refl stacks tables stubs a in
      let mark : (a : ℕ) → is_marked m5 a ≡ false = λ a.
      marks a ∙ mark3 plan fits m0 m1 m2 m3 (high_of plan) whole0 size0 free unmarked refl stacks tables stubs a in
      record {
        whole = whole5;
        size = map5.size ∙ map4.size ∙ size3;
        fixed = λ a k is. kind a ∙ is;
        segments = λ m s e lies. let never : None ≡ Some lies.object' = lies.live in absurd cc;
        rest = λ a none out. kind a ∙ none;
        watched = λ m begin len a watches there. let never : None ≡ Some watches.object' = watches.live in absurd cc;
        unwatched = λ a data' out. ap (λ (k : Option MemKind). is_watched_as k (is_marked m5 a)) data' ∙ mark a;
        unmarked = λ a other. mark a;
      }

  room : STUBS_END ≤ length m3.bytes
  room =
      let below : slots_end plan ≤ high_of plan = slots_below plan fits in
      let size : length m3.bytes ≡ plan.memory = size3 in
      omega arith

  code : HasStubs m5
  code =
      let first : HasBytes m4 RESOLVER (bytes_of_words RESOLVER_WORDS) =
      subst (λ (m : GuestMemory). HasBytes m RESOLVER (bytes_of_words RESOLVER_WORDS)) (sym resolver)
      (HasBytes-put m3 RESOLVER (bytes_of_words RESOLVER_WORDS) (let enough : STUBS_END ≤ length m3.bytes = room in omega arith)) in
      record {
        resolver = subst (λ (m : GuestMemory). HasBytes m RESOLVER (bytes_of_words RESOLVER_WORDS)) (sym ends)
            (HasBytes-other m4 THREAD_END (bytes_of_words END_WORDS) RESOLVER (bytes_of_words RESOLVER_WORDS) (inl (omega arith)) first);
        ends = subst (λ (m : GuestMemory). HasBytes m THREAD_END (bytes_of_words END_WORDS)) (sym ends)
            (HasBytes-put m4 THREAD_END (bytes_of_words END_WORDS)
            (let enough : STUBS_END ≤ length m3.bytes = room in let size : length m4.bytes ≡ length m3.bytes = map4.size in omega arith));
      }

  clear : (a : ℕ) → is_in RESOLVER (STUBS_END - RESOLVER) a ≡ false → byte_at m5 a ≡ 0
  clear a off =
      let out : (a < RESOLVER) ⊎ (STUBS_END ≤ a) = elim (outside RESOLVER (STUBS_END - RESOLVER) a off) [ inl before ↦ inl before | inr behind ↦ inr (omega arith) ] in
      ap (λ (m : GuestMemory). byte_at m a) ends
      ∙ byte_at-other m4 THREAD_END (bytes_of_words END_WORDS) a (elim out [ inl before ↦ inl (omega arith) | inr behind ↦ inr (omega arith) ])
      ∙ ap (λ (m : GuestMemory). byte_at m a) resolver
      ∙ byte_at-other m3 RESOLVER (bytes_of_words RESOLVER_WORDS) a (elim out [ inl before ↦ inl (omega arith) | inr behind ↦ inr (omega arith) ])
      ∙ ap (λ (xs : List ℕ). get_or xs a 0) same_bytes
      ∙ zeros a

  fresh : IsFresh plan m5
  fresh = record { laid_out = laid_out; stubs = code; clear = clear }

pub new_memory : (plan : MemPlan) → Fits plan → plan.memory < 2 ^ 32 → (m : GuestMemory) × IsFresh plan m
new_memory plan fits small =
    let m0 : GuestMemory = blank plan.memory in
    let m1 : GuestMemory = with_kind m0 (high_of plan) (plan.memory - high_of plan) (Some Data) in
    let m2 : GuestMemory = with_kind m1 LOAD_MAPS (slots_end plan - LOAD_MAPS) (Some Fixed) in
    let m3 : GuestMemory = with_kind m2 RESOLVER (STUBS_END - RESOLVER) (Some Code) in
    let m4 : GuestMemory = with_bytes m3 RESOLVER (bytes_of_words RESOLVER_WORDS) in
    let m5 : GuestMemory = with_bytes m4 THREAD_END (bytes_of_words END_WORDS) in
    (m5, fresh plan fits small m0 m1 m2 m3 m4 m5 refl refl refl refl refl refl)
