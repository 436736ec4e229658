-- Two memories that are laid out for the same modules have one map and the same marks.
use Rattle.std.proofs.Common.{◌≡◌, ◌≢◌, ℕ, Bool, false, List, Option, Some, None, length, refl, ap, sym, ◌∙◌}
use Rattle.std.proofs.lemmas.List.{ext_get_or}
use Rattle.load_map.specs.declared.entry.MapEntry.{MapEntry}
use Rattle.elf_model.specs.declared.object.Segment.{Segment}
use Rattle.guest_mem.specs.declared.kind.MemKind.{MemKind}
use Rattle.guest_mem.specs.declared.kind.MemKind.TheVariants.{Code, Data, Fixed}
use Rattle.guest_mem.specs.Memory.{GuestMemory, byte_at, is_marked, is_watched, is_watched_as, kind_at}
use Rattle.fd_base.proofs.Ranges.{inside}
use Rattle.load_model.specs.declared.plan.MemPlan.{MemPlan}
use Rattle.load_model.specs.Layout.{InMemory, IsLaidOut, LiesAt, WatchesAt, fixed_kind}
use Rattle.fd_base.specs.Ranges.{is_in}
use Rattle.load_laws.proofs.SameCertain.{never_passes, one_bool, one_kind}

abbrev memory_with : List ℕ → List (Option MemKind) → List Bool → GuestMemory
memory_with bytes kinds marks = record { bytes = bytes; kinds = kinds; marks = marks }

module _ (plan : MemPlan) (mods : InMemory) (m n : GuestMemory) (p : IsLaidOut plan mods m) (q : IsLaidOut plan mods n) where
  -- ---- kinds

  no_segment : (a : ℕ) → kind_at m a ≢ kind_at n a → (k : ℕ) (s : Segment) (e : MapEntry) → LiesAt mods k s e → is_in e.addr e.memsz a ≡ false
  no_segment a differ k s e lies =
      never_passes (is_in e.addr e.memsz a)
      (λ within.
      let range = inside e.addr e.memsz a within in
      differ (p.segments k s e lies a range.0 range.1 ∙ sym (q.segments k s e lies a range.0 range.1)))

  kind_by : (a : ℕ) (fixed : Option MemKind) → fixed_kind plan a ≡ fixed → kind_at m a ≡ kind_at n a
  kind_by a (Some kind) is = p.fixed a kind is ∙ sym (q.fixed a kind is)
  kind_by a None is =
      one_kind (kind_at m a) (kind_at n a)
      (λ differ. differ (p.rest a is (no_segment a differ) ∙ sym (q.rest a is (no_segment a differ))))

  kind_same : (a : ℕ) → kind_at m a ≡ kind_at n a
  kind_same a = kind_by a (fixed_kind plan a) refl

  -- ---- marks

  -- where Data is, it is watched where it is marked
  mark_of : (x : GuestMemory) (a : ℕ) → kind_at x a ≡ Some Data → is_watched x a ≡ is_marked x a
  mark_of x a is = ap (λ (kind : Option MemKind). is_watched_as kind (is_marked x a)) is

  data_same : (a : ℕ) → kind_at m a ≡ Some Data → kind_at n a ≡ Some Data → is_marked m a ≡ is_marked n a
  data_same a here there =
      one_bool (is_marked m a) (is_marked n a)
      (λ differ.
      let none : (k start len : ℕ) → WatchesAt mods k start len → is_in start len a ≡ false = λ k start len watches.
      never_passes (is_in start len a)
      (λ within.
      differ (sym (mark_of m a here) ∙ p.watched k start len a watches within ∙ sym (q.watched k start len a watches within) ∙ mark_of n a there)) in
      differ (sym (mark_of m a here) ∙ p.unwatched a here none ∙ sym (q.unwatched a there none) ∙ mark_of n a there))

  other_same : (a : ℕ) → kind_at m a ≢ Some Data → is_marked m a ≡ is_marked n a
  other_same a other = p.unmarked a other ∙ sym (q.unmarked a (λ there. other (kind_same a ∙ there)))

  mark_by : (a : ℕ) (kind : Option MemKind) → kind_at m a ≡ kind → is_marked m a ≡ is_marked n a
  mark_by a None is = other_same a (λ here. cc)
  mark_by a (Some Code) is = other_same a (λ here. cc)
  mark_by a (Some Data) is = data_same a is (sym (kind_same a) ∙ is)
  mark_by a (Some Fixed) is = other_same a (λ here. cc)

  mark_same : (a : ℕ) → is_marked m a ≡ is_marked n a
  mark_same a = mark_by a (kind_at m a) refl

  -- ---- the whole

  sizes : length m.bytes ≡ length n.bytes
  sizes = p.size ∙ sym q.size

  kinds_same : m.kinds ≡ n.kinds
  kinds_same = ext_get_or None m.kinds n.kinds (p.whole.kinds ∙ sizes ∙ sym q.whole.kinds) (λ a l. kind_same a)

  marks_same : m.marks ≡ n.marks
  marks_same = ext_get_or false m.marks n.marks (p.whole.marks ∙ sizes ∙ sym q.whole.marks) (λ a l. mark_same a)

  -- with the same bytes they are the same
  pub one_memory : ((a : ℕ) → byte_at m a ≡ byte_at n a) → m ≡ n
  one_memory bytes =
      ap (λ xs. memory_with xs m.kinds m.marks) (ext_get_or 0 m.bytes n.bytes sizes (λ a l. bytes a))
      ∙ ap (λ ks. memory_with n.bytes ks m.marks) kinds_same
      ∙ ap (memory_with n.bytes n.kinds) marks_same
