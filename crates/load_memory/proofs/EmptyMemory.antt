-- The memory without modules.
use Rattle.std.proofs.Common.{◌≡◌, ℕ, ◌+◌, ◌-◌, ◌≤◌, false, cond, Some, None, length, inl, ap, sym, subst, ◌∙◌, arith}
use Rattle.guest_mem.specs.declared.kind.MemKind.TheVariants.{Code, Data, Fixed}
use Rattle.guest_mem.specs.Memory.{GuestMemory, IsMemory, HaveKind, kind_at, is_marked}
use Rattle.guest_mem.specs.Ranges.{with_kind}
use Rattle.guest_mem.proofs.Ranged.{IsMemory-with_kind}
use Rattle.load_model.specs.declared.layout.TheConstants.{RESOLVER, STUBS_END, LOAD_MAPS}
use Rattle.load_model.specs.declared.plan.MemPlan.{MemPlan}
use Rattle.load_model.specs.Layout.{fixed_kind}
use Rattle.fd_base.specs.Ranges.{is_in}
use Rattle.load_model.specs.Plan.{Fits, slots_end, high_of}
use Rattle.load_model.proofs.PlanParts.{slots_below}
use Rattle.load_memory.proofs.KindsByPlace.{kind_at-with_kind, is_marked-with_kind, HaveKind-with_kind}

-- three ranges mapped over nothing: the stacks, the tables and the stubs
module _ (plan : MemPlan) (fits : Fits plan) (m m1 m2 m3 : GuestMemory) (high : ℕ) (whole : IsMemory m) (size : length m.bytes ≡ plan.memory)
    (free : (a : ℕ) → kind_at m a ≡ None) (unmarked : (a : ℕ) → is_marked m a ≡ false) (at_high : high ≡ high_of plan)
    (stacks : m1 ≡ with_kind m high (plan.memory - high) (Some Data))
    (tables : m2 ≡ with_kind m1 LOAD_MAPS (slots_end plan - LOAD_MAPS) (Some Fixed))
    (stubs : m3 ≡ with_kind m2 RESOLVER (STUBS_END - RESOLVER) (Some Code)) where
  whole1 : IsMemory m1
  whole1 = subst IsMemory (sym stacks) (IsMemory-with_kind m high (plan.memory - high) (Some Data) whole)

  whole2 : IsMemory m2
  whole2 = subst IsMemory (sym tables) (IsMemory-with_kind m1 LOAD_MAPS (slots_end plan - LOAD_MAPS) (Some Fixed) whole1)

  size1 : length m1.bytes ≡ plan.memory
  size1 = ap (λ (x : GuestMemory). length x.bytes) stacks ∙ size

  size2 : length m2.bytes ≡ plan.memory
  size2 = ap (λ (x : GuestMemory). length x.bytes) tables ∙ size1

  kind1 : (a : ℕ) → kind_at m1 a ≡ cond (is_in (high_of plan) (plan.memory - high_of plan) a) (Some Data) None
  kind1 a =
      let bound : length m.kinds ≡ length m.bytes = whole.kinds in
      ap (λ (x : GuestMemory). kind_at x a) stacks ∙ kind_at-with_kind m high (plan.memory - high) (Some Data) a (omega arith)
      ∙ ap (λ h. cond (is_in h (plan.memory - h) a) (Some Data) (kind_at m a)) at_high
      ∙ ap (cond (is_in (high_of plan) (plan.memory - high_of plan) a) (Some Data)) (free a)

  kind2 : (a : ℕ) → kind_at m2 a ≡ cond (is_in LOAD_MAPS (slots_end plan - LOAD_MAPS) a) (Some Fixed) (cond (is_in (high_of plan) (plan.memory - high_of plan) a) (Some Data) None)
  kind2 a =
      let bound : length m1.kinds ≡ length m1.bytes = whole1.kinds in
      let total : length m1.bytes ≡ plan.memory = size1 in
      let below : slots_end plan ≤ high_of plan = slots_below plan fits in
      ap (λ (x : GuestMemory). kind_at x a) tables ∙ kind_at-with_kind m1 LOAD_MAPS (slots_end plan - LOAD_MAPS) (Some Fixed) a (omega arith)
      ∙ ap (cond (is_in LOAD_MAPS (slots_end plan - LOAD_MAPS) a) (Some Fixed)) (kind1 a)

  pub kind3 : (a : ℕ) → kind_at m3 a ≡ fixed_kind plan a
  kind3 a =
      let bound : length m2.kinds ≡ length m2.bytes = whole2.kinds in
      let total : length m2.bytes ≡ plan.memory = size2 in
      let below : slots_end plan ≤ high_of plan = slots_below plan fits in
      ap (λ (x : GuestMemory). kind_at x a) stubs ∙ kind_at-with_kind m2 RESOLVER (STUBS_END - RESOLVER) (Some Code) a (omega arith)
      ∙ ap (cond (is_in RESOLVER (STUBS_END - RESOLVER) a) (Some Code)) (kind2 a)

  pub mark3 : (a : ℕ) → is_marked m3 a ≡ false
  mark3 a =
      let bound : length m.marks ≡ length m.bytes = whole.marks in
      let bound1 : length m1.marks ≡ length m1.bytes = whole1.marks in
      let bound2 : length m2.marks ≡ length m2.bytes = whole2.marks in
      let total1 : length m1.bytes ≡ plan.memory = size1 in
      let total2 : length m2.bytes ≡ plan.memory = size2 in
      let below : slots_end plan ≤ high_of plan = slots_below plan fits in
      let one : is_marked m1 a ≡ false = ap (λ (x : GuestMemory). is_marked x a) stacks ∙ is_marked-with_kind m high (plan.memory - high) (Some Data) a (omega arith) (unmarked a) in
      let two : is_marked m2 a ≡ false = ap (λ (x : GuestMemory). is_marked x a) tables ∙ is_marked-with_kind m1 LOAD_MAPS (slots_end plan - LOAD_MAPS) (Some Fixed) a (omega arith) one in
      ap (λ (x : GuestMemory). is_marked x a) stubs ∙ is_marked-with_kind m2 RESOLVER (STUBS_END - RESOLVER) (Some Code) a (omega arith) two

-- ranges that are still free
module _ (plan : MemPlan) (fits : Fits plan) (m m1 : GuestMemory) (high : ℕ) (free : (a : ℕ) → kind_at m a ≡ None) (at_high : high ≡ high_of plan)
    (stacks : m1 ≡ with_kind m high (plan.memory - high) (Some Data)) where
  pub free1 : (from count : ℕ) → from + count ≤ slots_end plan → HaveKind m1 from count None
  free1 from count h =
      let below : slots_end plan ≤ high_of plan = slots_below plan fits in
      subst (λ (x : GuestMemory). HaveKind x from count None) (sym stacks)
      (HaveKind-with_kind m high (plan.memory - high) (Some Data) from count None (inl (omega arith)) (λ a l l'. free a))

  pub free2 : (m2 : GuestMemory) → m2 ≡ with_kind m1 LOAD_MAPS (slots_end plan - LOAD_MAPS) (Some Fixed) → HaveKind m2 RESOLVER (STUBS_END - RESOLVER) None
  free2 m2 tables =
      subst (λ (x : GuestMemory). HaveKind x RESOLVER (STUBS_END - RESOLVER) None) (sym tables)
      (HaveKind-with_kind m1 LOAD_MAPS (slots_end plan - LOAD_MAPS) (Some Fixed) RESOLVER (STUBS_END - RESOLVER) None (inl (omega arith)) (free1 RESOLVER (STUBS_END - RESOLVER) (omega arith)))
