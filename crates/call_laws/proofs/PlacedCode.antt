-- What lies where a segment of a live module is placed.
use Rattle.std.proofs.Common.{◌≡◌, ℕ, ◌+◌, ◌-◌, ◌%◌, ◌^◌, ◌<◌, ◌≤◌, true, List, Some, slice_get, sym, ap, subst, ◌∙◌, arith}
use Rattle.std.specs.Prelude.{Contains, unwrap_or}
use Rattle.load_map.specs.declared.entry.MapEntry.{MapEntry}
use Rattle.load_map.specs.Translation.{is_held_by, placed}
use Rattle.elf_model.specs.declared.object.Object.{Object}
use Rattle.elf_model.specs.declared.object.Segment.{Segment}
use Rattle.elf_model.specs.Sound.{IsSized}
use Rattle.guest_mem.specs.Memory.{byte_at, kind_at, is_watched}
use Rattle.load_map.proofs.Holding.{whole}
use Rattle.load_model.specs.Image.{image_of}
use Rattle.load_map.specs.Maps.{map_at}
use Rattle.load_model.specs.Layout.{kind_of_segment}
use Rattle.load_model.specs.Linkage.{linkage_of}
use Rattle.load_model.specs.Plan.{high_of}
use Rattle.load_model.specs.Process.{object_at}
use Rattle.load_model.specs.Unbound.{unbound_of}
use Rattle.fd_base.proofs.Ranges.{is_inside}
use Rattle.load_state.specs.Consistent.{IsConsistent, IsEntryOf, IsStanding}
use Rattle.load_state.specs.Loaded.{Loaded, placing_of}
use Rattle.load_map.specs.Maps.{map_at}
use Rattle.load_laws.proofs.DescriptorPlaces.{linked_apart}
use Rattle.fd_base.proofs.Members.{contains_at}
use Rattle.fd_base.proofs.Lists.{all_at, zip_at}
use Rattle.call_laws.proofs.Alignment.{unit_is_fourfold, congruent_by_four, placed_by_four}

-- an address lies in a placed segment of module m
pub record LiesIn (l : Loaded) (m a : ℕ) : Type 0 where
  pub entry : MapEntry
  pub listed : Contains (map_at l.modules.maps m) entry
  pub above : entry.addr ≤ a
  pub below : a < entry.addr + entry.memsz

-- link address v of module m is placed by entry k of the load map
pub record LiesBy (l : Loaded) (m k v : ℕ) : Type 0 where
  pub entry : MapEntry
  pub at : slice_get (map_at l.modules.maps m) k ≡ Some entry
  pub above : entry.addr ≤ placed (map_at l.modules.maps m) v
  pub below : placed (map_at l.modules.maps m) v < entry.addr + entry.memsz
  pub back : entry.vaddr + (placed (map_at l.modules.maps m) v - entry.addr) ≡ v

-- segment k of live module m
module _ (l : Loaded) (h : IsConsistent l) (m k : ℕ) (o : Object) (s : Segment) (live : object_at l.modules.process m ≡ Some o) (held : slice_get o.segments k ≡ Some s) where
  standing : IsStanding l.modules m o
  standing = h.modules'.standing m o live

  abbrev es : List MapEntry
  es = map_at l.modules.maps m

  found : (e : MapEntry) × (slice_get es k ≡ Some e) × IsEntryOf l.modules.plan s e
  found = zip_at (IsEntryOf l.modules.plan) o.segments es k s standing.mapped held

  abbrev e : MapEntry
  e = found.0

  abbrev of_segment : IsEntryOf l.modules.plan s e
  of_segment = found.2

  placed_there : (v : ℕ) → s.vaddr ≤ v → v < s.vaddr + s.memsz → placed (map_at l.modules.maps m) v ≡ v - s.vaddr + e.addr
  placed_there v from to =
      let link : e.vaddr ≡ s.vaddr = of_segment.vaddr' in
      let long : e.memsz ≡ s.memsz = of_segment.memsz' in
      let holds : is_held_by v e ≡ true = is_inside e.vaddr e.memsz v (omega arith) (omega arith) in
      ap (λ a. unwrap_or a 0) (whole es k v e (linked_apart l.modules.plan o es standing.sound standing.mapped) found.1 holds)
      ∙ ap (λ n. v - n + e.addr) link

  -- a byte behind one that the segment holds
  place_is : (v i : ℕ) → s.vaddr ≤ v → v + i < s.vaddr + s.memsz → placed (map_at l.modules.maps m) v + i ≡ e.addr + (v + i - s.vaddr)
  place_is v i from to = let at = placed_there v from (omega arith) in omega arith

  pub kind_there : (v i : ℕ) → s.vaddr ≤ v → v + i < s.vaddr + s.memsz → kind_at l.memory (placed (map_at l.modules.maps m) v + i) ≡ Some (kind_of_segment s)
  kind_there v i from to =
      let at = place_is v i from to in
      let long : e.memsz ≡ s.memsz = of_segment.memsz' in
      h.laid_out.segments m s e (record { object' = o; live = live; k = k; segment = held; entry = found.1 }) (placed (map_at l.modules.maps m) v + i) (omega arith) (omega arith)

  pub byte_there : (v i : ℕ) → s.vaddr ≤ v → v + i < s.vaddr + s.memsz → is_watched l.memory (placed (map_at l.modules.maps m) v + i) ≡ true
      → byte_at l.memory (placed (map_at l.modules.maps m) v + i) ≡ image_of (linkage_of l.modules.process) (placing_of l.modules.process l.modules.maps l.modules.addrs) m o (unbound_of l.modules.process m) (v + i)
  byte_there v i from to watched =
      let at = place_is v i from to in
      let link : e.vaddr ≡ s.vaddr = of_segment.vaddr' in
      let long : e.memsz ≡ s.memsz = of_segment.memsz' in
      let n = v + i - s.vaddr in
      let back : e.vaddr + n ≡ v + i = omega arith in
      ap (byte_at l.memory) at
      ∙ h.images.bytes m o live k e found.1 n (omega arith) (ap (is_watched l.memory) (sym at) ∙ watched)
      ∙ ap (image_of (linkage_of l.modules.process) (placing_of l.modules.process l.modules.maps l.modules.addrs) m o (unbound_of l.modules.process m)) back

  pub ends_there : (v n : ℕ) → s.vaddr ≤ v → v < s.vaddr + s.memsz → v + n ≤ s.vaddr + s.memsz → l.modules.plan.memory < 2 ^ 32
      → placed (map_at l.modules.maps m) v + n < 2 ^ 32
  ends_there v n from to end small =
      let at = placed_there v from to in
      let below : e.addr + e.memsz ≤ high_of l.modules.plan = of_segment.below in
      let long : e.memsz ≡ s.memsz = of_segment.memsz' in
      omega arith

  pub aligned_there : (v : ℕ) → s.vaddr ≤ v → v < s.vaddr + s.memsz → v % 4 ≡ 0 → placed (map_at l.modules.maps m) v % 4 ≡ 0
  aligned_there v from to aligned =
      let at = placed_there v from to in
      let four = congruent_by_four e.addr s.vaddr _ (unit_is_fourfold s.align (all_at IsSized o.segments k s standing.sound.sized held).aligned) of_segment.congruent in
      ap (λ n. n % 4) at ∙ placed_by_four v s.vaddr e.addr from aligned four

  -- two addresses in one segment are as far from each other as they were
  pub apart_there : (v w : ℕ) → s.vaddr ≤ v → v < s.vaddr + s.memsz → s.vaddr ≤ w → w < s.vaddr + s.memsz
      → placed (map_at l.modules.maps m) v + w ≡ placed (map_at l.modules.maps m) w + v
  apart_there v w from to from' to' =
      let at = placed_there v from to in
      let at' = placed_there w from' to' in
      omega arith

  pub lies_by : (v : ℕ) → s.vaddr ≤ v → v < s.vaddr + s.memsz → LiesBy l m k v
  lies_by v from to =
      let at = placed_there v from to in
      let link : e.vaddr ≡ s.vaddr = of_segment.vaddr' in
      let long : e.memsz ≡ s.memsz = of_segment.memsz' in
      record { entry = e; at = found.1; above = omega arith; below = omega arith; back = omega arith }

  -- in the placed range of its segment
  pub lies_there : (v : ℕ) → s.vaddr ≤ v → v < s.vaddr + s.memsz → LiesIn l m (placed (map_at l.modules.maps m) v)
  lies_there v from to =
      let by = lies_by v from to in
      record { entry = by.entry; listed = contains_at es k by.entry by.at; above = by.above; below = by.below }

  -- the link address that is placed at an address
  there_back : (a : ℕ) → e.addr ≤ a → a < e.addr + e.memsz → placed (map_at l.modules.maps m) (e.vaddr + (a - e.addr)) ≡ a
  there_back a above below =
      let link : e.vaddr ≡ s.vaddr = of_segment.vaddr' in
      let long : e.memsz ≡ s.memsz = of_segment.memsz' in
      placed_there (e.vaddr + (a - e.addr)) (omega arith) (omega arith) ∙ omega arith

pub placed_back : (l : Loaded) (h : IsConsistent l) (m k : ℕ) (o : Object) (s : Segment) (d : MapEntry) (live : object_at l.modules.process m ≡ Some o) (held : slice_get o.segments k ≡ Some s)
    → slice_get (map_at l.modules.maps m) k ≡ Some d → (a : ℕ) → d.addr ≤ a → a < d.addr + d.memsz → placed (map_at l.modules.maps m) (d.vaddr + (a - d.addr)) ≡ a
placed_back l h m k o s d live held at a above below =
    let both : Some (e l h m k o s live held) ≡ Some d = sym (found l h m k o s live held).1 ∙ at in
    let same : e l h m k o s live held ≡ d = cc in
    subst (λ (x : MapEntry). x.addr ≤ a → a < x.addr + x.memsz → placed (map_at l.modules.maps m) (x.vaddr + (a - x.addr)) ≡ a) same (there_back l h m k o s live held a) above below
