-- Where a module's own descriptors are placed.
use Rattle.std.proofs.Common.{◌≡◌, ℕ, zero, suc, ◌+◌, ◌*◌, ◌<◌, ◌≤◌, inl, inr, true, ◌&&◌, List, [], ◌∷◌, ◌++◌, get_or, map, slice_get, Option, Some, refl, sym, ap, subst, ◌∙◌, arith}
use Rattle.std.specs.Prelude.{Contains, AllPairs, nat_le, unwrap_or}
use Rattle.std.specs.List.{AllZip}
use Rattle.std.proofs.lemmas.Bool.{and_parts, and_from, leb-true, le-leb, lt-ltb, cases_lt, or_cases}
use Rattle.std.proofs.lemmas.List.Elements.{All-contains, Contains-append_left}
use Rattle.std.proofs.lemmas.Option.{slice_get-get_or, some_pair_parts}
use Rattle.fd_base.proofs.Lists.{pairs_at, zip_at, zip_at_right, front_at}
use Rattle.load_map.specs.declared.entry.MapEntry.{MapEntry}
use Rattle.load_map.specs.Translation.{address_of, is_held_by, placed_by, placed}
use Rattle.elf_model.specs.declared.constants.TheConstants.{PF_W, R_ARM_FUNCDESC_VALUE}
use Rattle.elf_model.specs.declared.func.Func.{Func}
use Rattle.elf_model.specs.declared.object.Object.{Object}
use Rattle.elf_model.specs.declared.object.Rel.{Rel}
use Rattle.elf_model.specs.declared.object.Segment.{Segment}
use Rattle.elf_model.specs.Places.{is_writable_in, spans, site_of_rel, filled_ranges}
use Rattle.elf_model.specs.Relocations.{site_size, got_header, word_site}
use Rattle.elf_model.specs.Segments.{has_flag}
use Rattle.elf_model.specs.Sound.{IsSound, IsInPlace, SegmentsApart, RangesApart}
use Rattle.func_desc.specs.Functions.{AddrMap}
use Rattle.func_desc.specs.Pool.{IsSlot}
use Rattle.load_map.specs.Whole.{LinkedApart, PlacedApart}
use Rattle.load_map.proofs.Holding.{whole, distinct}
use Rattle.load_model.specs.declared.plan.MemPlan.{MemPlan}
use Rattle.load_model.specs.Definition.{Linkage}
use Rattle.load_model.specs.Descriptors.{private_at}
use Rattle.load_model.specs.Plan.{Fits, descriptors_at, low_of}
use Rattle.load_model.proofs.PlanParts.{low_above, own_slots_below}
use Rattle.load_state.specs.Consistent.{IsEntryOf}
use Rattle.load_state.specs.Loaded.{pool_of}
use Rattle.fd_base.proofs.Members.{map_in, contains_later}
use Rattle.load_laws.proofs.OwnDescriptors.{IsPrivate}

-- ---- segments

record IsSpanned (ss : List Segment) (v n : ℕ) : Type 0 where
  index : ℕ
  segment : Segment
  there : slice_get ss index ≡ Some segment
  above : segment.vaddr ≤ v
  below : v + n ≤ segment.vaddr + segment.memsz

spanned : (ss : List Segment) (v n : ℕ) → is_writable_in ss v n ≡ true → IsSpanned ss v n
spanned [] v n is = absurd cc
spanned (s ∷ ss) v n is =
    elim (or_cases (has_flag s.flags PF_W && spans s v n) (is_writable_in ss v n) is) [
      | inl here ↦
          let span = and_parts (nat_le s.vaddr v) (nat_le (v + n) (s.vaddr + s.memsz)) (and_parts (has_flag s.flags PF_W) (spans s v n) here).1 in
          record { index = 0; segment = s; there = refl; above = leb-true s.vaddr v span.0; below = leb-true (v + n) (s.vaddr + s.memsz) span.1 }
      | inr later ↦
          let rest = spanned ss v n later in
          record { index = suc rest.index; segment = rest.segment; there = rest.there; above = rest.above; below = rest.below }
    ]

linked : (s t : Segment) (d e : MapEntry) → d.vaddr ≡ s.vaddr → d.memsz ≡ s.memsz → e.vaddr ≡ t.vaddr → e.memsz ≡ t.memsz → SegmentsApart s t → LinkedApart d e
linked s t d e a b x y apart = elim apart [ inl h ↦ inl (omega arith) | inr h ↦ inr (omega arith) ]

-- the entries of a module's load map share no link address
pub linked_apart : (plan : MemPlan) (o : Object) (es : List MapEntry) → IsSound o → AllZip (IsEntryOf plan) o.segments es → AllPairs LinkedApart es
linked_apart plan o es sound mapped i j d lt within =
    let first : slice_get es i ≡ Some (get_or es i d) = slice_get-get_or es i d (omega arith) in
    let second : slice_get es j ≡ Some (get_or es j d) = slice_get-get_or es j d within in
    let s = zip_at_right (IsEntryOf plan) o.segments es i (get_or es i d) mapped first in
    let t = zip_at_right (IsEntryOf plan) o.segments es j (get_or es j d) mapped second in
    linked s.0 t.0 (get_or es i d) (get_or es j d) s.2.vaddr' s.2.memsz' t.2.vaddr' t.2.memsz'
    (pairs_at SegmentsApart o.segments i j s.0 t.0 sound.apart lt s.1 t.1)

-- ---- sites

rel_range : (o : Object) (r : Rel) → Contains o.rels r → Contains (filled_ranges o) (site_of_rel r)
rel_range o r there =
    let own = map site_of_rel o.rels in
    let slots = map site_of_rel o.jmprels in
    let fixups = map word_site (unwrap_or o.fixups []) in
    contains_later (got_header o.got) (site_of_rel r) (own ++ slots ++ fixups)
    (Contains-append_left (own ++ slots) fixups (site_of_rel r) (Contains-append_left own slots (site_of_rel r) (map_in site_of_rel o.rels r there)))

pair_size : (r : Rel) → r.kind ≡ R_ARM_FUNCDESC_VALUE → site_size r.kind ≡ 8
pair_size r kind = ap site_size kind

-- where a site is placed: in which segment, and that this is at an address of modules
pub record IsHeldAt (plan : MemPlan) (es : List MapEntry) (site : ℕ) : Type 0 where
  pub index : ℕ
  pub entry : MapEntry
  pub there : slice_get es index ≡ Some entry
  pub holds : is_held_by site entry ≡ true
  pub address : address_of es site ≡ Some (placed es site)
  pub above : entry.addr ≤ placed es site
  pub below : placed es site < entry.addr + entry.memsz
  pub low : low_of plan ≤ entry.addr

-- a private descriptor lies in a segment of its module
pub private_held : (plan : MemPlan) (k : Linkage) (m : ℕ) (o : Object) (es : List MapEntry) (f : Func) (site : ℕ)
    → IsSound o → AllZip (IsEntryOf plan) o.segments es → IsPrivate k m o f site → IsHeldAt plan es site
private_held plan k m o es f site sound mapped own =
    let r = own.rel in
    let place = All-contains (IsInPlace o.segments) (filled_ranges o) (site_of_rel r) sound.in_place (rel_range o r own.listed) in
    let span = spanned o.segments r.site (site_size r.kind) place.writable in
    let entry = zip_at (IsEntryOf plan) o.segments es span.index span.segment mapped span.there in
    let e = entry.0 in
    let size : site_size r.kind ≡ 8 = pair_size r own.kind' in
    let start : span.segment.vaddr ≤ r.site = span.above in
    let end : r.site + site_size r.kind ≤ span.segment.vaddr + span.segment.memsz = span.below in
    let at : r.site ≡ site = own.site' in
    let link : e.vaddr ≡ span.segment.vaddr = entry.2.vaddr' in
    let long : e.memsz ≡ span.segment.memsz = entry.2.memsz' in
    let above : e.vaddr ≤ site = omega arith in
    let below : site < e.vaddr + e.memsz = omega arith in
    let holds : is_held_by site e ≡ true = and_from _ _ (le-leb e.vaddr site above) (lt-ltb site (e.vaddr + e.memsz) below) in
    let found : address_of es site ≡ Some (placed_by site e) = whole es span.index site e (linked_apart plan o es sound mapped) entry.1 holds in
    let is : placed es site ≡ placed_by site e = ap (λ a. unwrap_or a 0) found in
    record {
      index = span.index;
      entry = e;
      there = entry.1;
      holds = holds;
      address = found ∙ ap Some (sym is);
      above = omega (arith, is);
      below = omega (arith, is);
      low = entry.2.above;
    }

-- slots lie below the modules
pub above_slots : (plan : MemPlan) (addrs : AddrMap) (es : List MapEntry) (site : ℕ) → Fits plan → IsHeldAt plan es site → ¬ IsSlot (pool_of plan addrs) (placed es site)
above_slots plan addrs es site fits held slot =
    let low : low_of plan ≤ held.entry.addr = held.low in
    let above : held.entry.addr ≤ placed es site = held.above in
    let few : slot.0 < plan.descriptors = slot.1 in
    let is : placed es site ≡ descriptors_at plan + 8 * slot.0 = slot.2 in
    let behind : descriptors_at plan + 8 * plan.descriptors ≤ low_of plan = omega (arith, own_slots_below plan fits, low_above plan) in
    absurd (omega arith)

-- ---- one site has one function

map_at_place : {X Y : Type 0} (f : X → Y) (xs : List X) (n : ℕ) (x : X) → slice_get xs n ≡ Some x → slice_get (map f xs) n ≡ Some (f x)
map_at_place f [] n x is = absurd cc
map_at_place f (z ∷ xs) zero x is = let same : z ≡ x = cc in ap (λ y. Some (f y)) same
map_at_place f (z ∷ xs) (suc n) x is = map_at_place f xs n x is

rels_apart : (o : Object) (i j : ℕ) (r q : Rel) → IsSound o → i < j → slice_get o.rels i ≡ Some r → slice_get o.rels j ≡ Some q → RangesApart (site_of_rel r) (site_of_rel q)
rels_apart o i j r q sound lt p h =
    pairs_at RangesApart (filled_ranges o) (suc i) (suc j) (site_of_rel r) (site_of_rel q) sound.distinct (omega arith) (there i r p) (there j q h)
  where
    there : (n : ℕ) (x : Rel) → slice_get o.rels n ≡ Some x → slice_get (filled_ranges o) (suc n) ≡ Some (site_of_rel x)
    there n x is =
        let own = map site_of_rel o.rels in
        let slots = map site_of_rel o.jmprels in
        front_at (own ++ slots) (map word_site (unwrap_or o.fixups [])) n (site_of_rel x)
        (front_at own slots n (site_of_rel x) (map_at_place site_of_rel o.rels n x is))

meet : (r q : Rel) → r.kind ≡ R_ARM_FUNCDESC_VALUE → q.kind ≡ R_ARM_FUNCDESC_VALUE → r.site ≡ q.site → ¬ RangesApart (site_of_rel r) (site_of_rel q)
meet r q a b same apart =
    let x : site_size r.kind ≡ 8 = pair_size r a in
    let y : site_size q.kind ≡ 8 = pair_size q b in
    elim apart [
      | inl h ↦ let before : r.site + site_size r.kind ≤ q.site = h in absurd (omega arith)
      | inr h ↦ let before : q.site + site_size q.kind ≤ r.site = h in absurd (omega arith)
    ]

-- two private descriptors of a module at one site are one relocation's
one_function : (k : Linkage) (m : ℕ) (o : Object) (f g : Func) (s t : ℕ) → IsSound o → IsPrivate k m o f s → IsPrivate k m o g t → s ≡ t → f ≡ g
one_function k m o f g s t sound a b same =
    let i = a.listed.0 in
    let j = b.listed.0 in
    let first : slice_get o.rels i ≡ Some a.rel = slice_get-get_or o.rels i a.rel a.listed.1 ∙ ap Some a.listed.2 in
    let second : slice_get o.rels j ≡ Some b.rel = slice_get-get_or o.rels j b.rel b.listed.1 ∙ ap Some b.listed.2 in
    let sites : a.rel.site ≡ b.rel.site = a.site' ∙ same ∙ sym b.site' in
    elim (cases_lt i j) [
      | inl lt ↦ absurd (meet a.rel b.rel a.kind' b.kind' sites (rels_apart o i j a.rel b.rel sound lt first second))
      | inr le ↦ elim (cases_lt j i) [
        | inl lt ↦ absurd (meet b.rel a.rel b.kind' a.kind' (sym sites) (rels_apart o j i b.rel a.rel sound lt second first))
        | inr ge ↦
            let at : i ≡ j = omega arith in
            let rel : a.rel ≡ b.rel = same_place first (subst (λ (n : ℕ). slice_get o.rels n ≡ Some b.rel) (sym at) second) in
            told (sym a.tells ∙ ap (private_at k m o) rel ∙ b.tells)
      ]
    ]
  where
    same_place : {X : Type 0} {xs : Option X} {x y : X} → xs ≡ Some x → xs ≡ Some y → x ≡ y
    same_place p q = cc

    told : ◌≡◌ {A = Option (Func × ℕ)} (Some (f, s)) (Some (g, t)) → f ≡ g
    told e = (some_pair_parts f g s t e).0

-- two private descriptors of a module at one placed address are of one function
pub one_place : (plan : MemPlan) (k : Linkage) (m : ℕ) (o : Object) (es : List MapEntry) (f g : Func) (s t : ℕ)
    → IsSound o → AllZip (IsEntryOf plan) o.segments es → AllPairs PlacedApart es → IsPrivate k m o f s → IsPrivate k m o g t → placed es s ≡ placed es t → f ≡ g
one_place plan k m o es f g s t sound mapped apart a b same =
    let first = private_held plan k m o es f s sound mapped a in
    let second = private_held plan k m o es g t sound mapped b in
    let site = distinct es first.index second.index s t first.entry second.entry (linked_apart plan o es sound mapped) apart first.there first.holds second.there second.holds
    (first.address ∙ ap Some same ∙ sym second.address) in
    one_function k m o f g s t sound a b site
