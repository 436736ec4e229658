-- The new modules' own descriptors can be adopted.
use Rattle.std.proofs.Common.{◌≡◌, ◌≢◌, ℕ, ◌+◌, ◌<◌, ◌≤◌, ◌⊎◌, inl, inr, true, List, [], ◌∷◌, length, get_or, map, Option, Some, None, refl, sym, ap, subst, ◌∙◌, arith, All}
use Rattle.std.specs.Prelude.{Contains, AllPairs, is_some, option_map}
use Rattle.std.specs.FinMap.{get}
use Rattle.std.specs.List.{AllZip}
use Rattle.std.proofs.lemmas.Bool.{false≢true}
use Rattle.std.proofs.lemmas.List.Elements.{All-contains}
use Rattle.load_map.specs.declared.entry.MapEntry.{MapEntry}
use Rattle.elf_model.specs.declared.func.Func.{Func}
use Rattle.elf_model.specs.Sound.{IsSound}
use Rattle.func_desc.specs.Pool.{IsSlot}
use Rattle.placement.specs.declared.item.Held.{Held}
use Rattle.placement.specs.Legal.{Apart}
use Rattle.placement.specs.Space.{AreApart, all_held}
use Rattle.load_map.specs.Whole.{PlacedApart}
use Rattle.load_model.specs.declared.module.Joining.{Joining}
use Rattle.load_model.specs.declared.module.Live.{Live}
use Rattle.load_model.specs.Definition.{Linkage}
use Rattle.load_model.specs.Descriptors.{privates, privates_of}
use Rattle.load_map.specs.Maps.{map_at}
use Rattle.load_map.specs.Translation.{placed as placed_at}
use Rattle.load_model.specs.Linkage.{linkage_of, members_of}
use Rattle.load_model.specs.Plan.{low_of, high_of, listed_for}
use Rattle.load_model.specs.Process.{live_at, object_at}
use Rattle.load_model.specs.Sites.{Member}
use Rattle.load_image.specs.Items.{load_map_of}
use Rattle.load_state.specs.Accepted.{all_items, maps_after, linkage_for}
use Rattle.load_state.specs.Consistent.{HasDescriptors, HasRanges, IsEntryOf, own_site}
use Rattle.load_state.specs.Loaded.{LoadedModules, pool_of}
use Rattle.load_map.specs.Maps.{map_at}
use Rattle.load_laws.specs.parts.Premises.{HaveOwnNumbers, HasFreeNumber}
use Rattle.load_laws.proofs.MapsAfter.{map_stays, maps_are, IsMapped}
use Rattle.fd_base.proofs.Options.{none_or, one_value}
use Rattle.load_laws.proofs.ModulesAfter.{entries, old_number}
use Rattle.load_laws.proofs.RangesAfter.{ranges_stay_lem, range_of}
use Rattle.load_laws.proofs.SegmentsApart.{placed_apart}
use Rattle.load_laws.specs.parts.DescriptorLaws.{AdoptionsAreFree}
use Rattle.load_laws.proofs.OwnDescriptors.{IsPrivate, private_means}
use Rattle.load_laws.proofs.OwnSites.{own_means}
use Rattle.load_laws.proofs.DescriptorPlaces.{IsHeldAt, private_held, above_slots, one_place}
use Rattle.fd_base.proofs.Members.{contains_at, in_flat_map, in_map, nothing_in, first_or_later}

-- ranges that meet nowhere are one or apart
one_or_apart : (held : List Held) (r q : Held) → AreApart held → Contains held r → Contains held q → (r ≡ q) ⊎ (Apart r.start r.len q ⊎ Apart q.start q.len r)
one_or_apart [] r q apart a b = absurd (nothing_in r a)
one_or_apart (x ∷ held) r q apart a b =
    elim (first_or_later x r held a) [
      | inl here ↦ elim (first_or_later x q held b) [
        | inl there ↦ inl (sym here ∙ there)
        | inr later ↦ inr (inl (subst (λ (y : Held). Apart y.start y.len q) here (All-contains (Apart x.start x.len) held q apart.0 later)))
      ]
      | inr there ↦ elim (first_or_later x q held b) [
        | inl here ↦ inr (inr (subst (λ (y : Held). Apart y.start y.len r) here (All-contains (Apart x.start x.len) held r apart.0 there)))
        | inr later ↦ one_or_apart held r q apart.1 there later
      ]
    ]

-- an address lies in segments of one module only
one_module : (l : LoadedModules) (m n a b : ℕ) (d e : MapEntry) → HasRanges l → Contains (map_at l.maps m) d → Contains (map_at l.maps n) e
    → d.addr ≤ a → a < d.addr + d.memsz → e.addr ≤ b → b < e.addr + e.memsz → a ≡ b → m ≡ n
one_module l m n a b d e ranges at_d at_e low_d high_d low_e high_e same =
    let r = range_of m d in
    let q = range_of n e in
    let first = (ranges.held' r).1 (record { entry = d; listed = at_d; start' = refl; len' = refl }) in
    let second = (ranges.held' q).1 (record { entry = e; listed = at_e; start' = refl; len' = refl }) in
    elim (one_or_apart l.held r q ranges.apart first second) [
      | inl is ↦ ap (λ h. h.owner) is
      | inr apart ↦ elim apart [
        | inl h ↦ elim h [
          | inl before ↦ let le : e.addr + e.memsz ≤ d.addr = before in absurd (omega arith)
          | inr behind ↦ let le : d.addr + d.memsz ≤ e.addr = behind in absurd (omega arith)
        ]
        | inr h ↦ elim h [
          | inl before ↦ let le : d.addr + d.memsz ≤ e.addr = before in absurd (omega arith)
          | inr behind ↦ let le : e.addr + e.memsz ≤ d.addr = behind in absurd (omega arith)
        ]
      ]
    ]

-- ---- modules

-- a number is that of one new module
same_number : (joining : List Joining) (i j : Joining) → HaveOwnNumbers joining → Contains joining i → Contains joining j → i.number ≡ j.number → i ≡ j
same_number [] i j own a b same = absurd (nothing_in i a)
same_number (x ∷ joining) i j own a b same =
    elim (first_or_later x i joining a) [
      | inl here ↦ elim (first_or_later x j joining b) [
        | inl there ↦ sym here ∙ there
        | inr later ↦ absurd (All-contains (λ k. k.number ≢ x.number) joining j own.0 later (sym same ∙ ap (λ k. k.number) (sym here)))
      ]
      | inr there ↦ elim (first_or_later x j joining b) [
        | inl here ↦ absurd (All-contains (λ k. k.number ≢ x.number) joining i own.0 there (same ∙ ap (λ k. k.number) (sym here)))
        | inr later ↦ same_number joining i j own.1 there later same
      ]
    ]

live_object : (x : Option Live) → is_some x ≡ true → option_map (λ live. live.object) x ≢ None
live_object None is none = false≢true is
live_object (Some live) is none = absurd cc

-- functions of modules that aren't live have no address
pub no_address : (l : LoadedModules) (f : Func) → HasDescriptors l → object_at l.process f.module ≡ None → get l.addrs f ≡ None
no_address l f had dead =
    elim (none_or (get l.addrs f)) [
      | inl none ↦ none
      | inr some ↦ absurd (live_object (live_at l.process f.module) (had.live f some.0 some.1) dead)
    ]

-- ---- adopted descriptors

-- an adopted descriptor is a private one of a new module
pub record IsAdopted (k : Linkage) (maps : List (List MapEntry)) (joining : List Joining) (f : Func) (a : ℕ) : Type 0 where
  pub joined : Joining
  pub there : Contains joining joined
  pub site : ℕ
  pub listed : Contains (privates_of k (joined.number, joined.object)) (f, site)
  pub own : IsPrivate k joined.number joined.object f site
  pub place : a ≡ placed_at (map_at maps joined.number) site

pub adopted_means : (k : Linkage) (maps : List (List MapEntry)) (joining : List Joining) (f : Func) (a : ℕ)
    → Contains (map {B = Func × ℕ} (λ e. (e.0, placed_at (map_at maps e.0.module) e.1)) (privates k (members_of joining))) (f, a) → IsAdopted k maps joining f a
adopted_means k maps joining f a there =
    let place : Func × ℕ → Func × ℕ = λ e. (e.0, placed_at (map_at maps e.0.module) e.1) in
    let entry = in_map place (privates k (members_of joining)) (f, a) there in
    let member = in_flat_map (privates_of k) (members_of joining) entry.0 entry.1 in
    let number : Joining → Member = λ j. (j.number, j.object) in
    let joined = in_map number joining member.0 member.1 in
    let j = joined.0 in
    let s = entry.0.1 in
    let same : entry.0.0 ≡ f = ap (λ (e : Func × ℕ). e.0) entry.2 in
    let here : Contains (privates_of k (number j)) (entry.0.0, s) = subst (λ (m : Member). Contains (privates_of k m) entry.0) (sym joined.2) member.2 in
    let listed : Contains (privates_of k (j.number, j.object)) (f, s) = subst (λ (g : Func). Contains (privates_of k (j.number, j.object)) (g, s)) same here in
    let own = private_means k j.number j.object f s listed in
    let at : placed_at (map_at maps entry.0.0.module) s ≡ a = ap (λ (e : Func × ℕ). e.1) entry.2 in
    record {
      joined = j;
      there = joined.1;
      site = s;
      listed = listed;
      own = own;
      place = sym at ∙ ap (λ m. placed_at (map_at maps m) s) (ap (λ (g : Func). g.module) same ∙ own.own);
    }

pub adoptions_free_lem : AdoptionsAreFree
adoptions_free_lem l joining scope addrs maps adopted fits mods ranges had own free sound placed maps' adopted' = record {
  unused = λ f g a there. unused f g a (means f a there);
  no_slot = λ f a there. no_slot f a (means f a there);
  distinct = λ f g a first second. one f g a (means f a first) (means g a second);
  fresh = λ f a there. fresh f a (means f a there);
}
  where
    k : Linkage
    k = linkage_for l joining scope

    -- the segments with the new ones
    new : LoadedModules
    new = record l { maps = maps; held = all_held (all_items l.plan.places joining) addrs l.held }

    new_ranges : HasRanges new
    new_ranges = ranges_stay_lem l new joining addrs mods ranges own free placed maps' refl

    below : All (λ j. j.number < length l.maps) joining
    below = λ n d lt. subst (λ (count : ℕ). (get_or joining n d).number < count) (sym mods.count) (free n d lt).0

    means : (f : Func) (a : ℕ) → Contains adopted (f, a) → IsAdopted k maps joining f a
    means f a there = adopted_means k maps joining f a (subst (λ (es : List (Func × ℕ)). Contains es (f, a)) adopted' there)

    stands : (j : Joining) → Contains joining j → AllZip (IsEntryOf l.plan) j.object.segments (map_at maps j.number) × AllPairs PlacedApart (map_at maps j.number)
    stands j there =
        let ss = j.object.segments in
        let listed = listed_for l.plan.places j.name in
        let P = IsMapped (low_of l.plan) (high_of l.plan) l.plan.places (maps_after l.maps joining addrs) in
        let at = All-contains P joining j (maps_are (low_of l.plan) (high_of l.plan) l.plan.places joining l.maps l.held addrs own below placed) there in
        let map' : map_at maps j.number ≡ load_map_of ss at.addrs = ap (λ ms. map_at ms j.number) maps' ∙ at.map' in (
          subst (λ (es : List MapEntry). AllZip (IsEntryOf l.plan) ss es) (sym map') (entries l.plan at.held j.number ss listed at.addrs at.placed),
          subst (λ (es : List MapEntry). AllPairs PlacedApart es) (sym map') (placed_apart (low_of l.plan) (high_of l.plan) at.held j.number ss listed at.addrs at.placed),
        )

    sound_at : (j : Joining) → Contains joining j → IsSound j.object
    sound_at j there = All-contains (λ i. IsSound i.object) joining j sound there

    held : (f : Func) (a : ℕ) (x : IsAdopted k maps joining f a) → IsHeldAt l.plan (map_at maps x.joined.number) x.site
    held f a x =
        let j = x.joined in
        private_held l.plan k j.number j.object (map_at maps j.number) f x.site (sound_at j x.there) (stands j x.there).0 x.own

    meets : (m n s t : ℕ) → IsHeldAt l.plan (map_at maps m) s → IsHeldAt l.plan (map_at maps n) t → placed_at (map_at maps m) s ≡ placed_at (map_at maps n) t → m ≡ n
    meets m n s t a b same =
        one_module new m n (placed_at (map_at maps m) s) (placed_at (map_at maps n) t) a.entry b.entry new_ranges
        (contains_at (map_at maps m) a.index a.entry a.there) (contains_at (map_at maps n) b.index b.entry b.there) a.above a.below b.above b.below same

    no_slot : (f : Func) (a : ℕ) → IsAdopted k maps joining f a → ¬ IsSlot (pool_of l.plan l.addrs) a
    no_slot f a x slot =
        above_slots l.plan l.addrs (map_at maps x.joined.number) x.site fits (held f a x) (subst (λ (b : ℕ). IsSlot (pool_of l.plan l.addrs) b) x.place slot)

    unused : (f g : Func) (a : ℕ) → IsAdopted k maps joining f a → get l.addrs g ≢ Some a
    unused f g a x is =
        elim (none_or (own_site (linkage_of l.process) g)) [
          | inl none ↦ no_slot f a x (had.places g a none is)
          | inr some ↦
              let m = g.module in
              let s = some.0 in
              let old = own_means (linkage_of l.process) g s some.1 in
              let o = old.object in
              let at : a ≡ placed_at (map_at l.maps m) s = one_value (get l.addrs g) a (placed_at (map_at l.maps m) s) is (had.own g s some.1) in
              let standing = mods.standing m o old.there in
              let others = old_number l.process joining m o free old.there in
              let stays : map_at maps m ≡ map_at l.maps m = ap (λ ms. map_at ms m) maps' ∙ map_stays joining l.maps addrs m others in
              let was = private_held l.plan (linkage_of l.process) m o (map_at l.maps m) g s standing.sound standing.mapped old.private in
              let now = subst (λ (es : List MapEntry). IsHeldAt l.plan es s) (sym stays) was in
              let same : placed_at (map_at maps x.joined.number) x.site ≡ placed_at (map_at maps m) s = sym x.place ∙ at ∙ ap (λ es. placed_at es s) (sym stays) in
              All-contains (λ j. j.number ≢ m) joining x.joined others x.there (meets x.joined.number m x.site s (held f a x) now same)
        ]

    one : (f g : Func) (a : ℕ) → IsAdopted k maps joining f a → IsAdopted k maps joining g a → f ≡ g
    one f g a x y =
        let i = x.joined in
        let number : i.number ≡ y.joined.number = meets i.number y.joined.number x.site y.site (held f a x) (held g a y) (sym x.place ∙ y.place) in
        let back = sym (same_number joining i y.joined own x.there y.there number) in
        let own' = subst (λ (j : Joining). IsPrivate k j.number j.object g y.site) back y.own in
        let place' : a ≡ placed_at (map_at maps i.number) y.site = subst (λ (j : Joining). a ≡ placed_at (map_at maps j.number) y.site) back y.place in
        let at = stands i x.there in
        one_place l.plan k i.number i.object (map_at maps i.number) f g x.site y.site (sound_at i x.there) at.0 at.1 x.own own' (sym x.place ∙ place')

    fresh : (f : Func) (a : ℕ) → IsAdopted k maps joining f a → get l.addrs f ≡ None
    fresh f a x =
        let dead = (All-contains (HasFreeNumber l.process) joining x.joined free x.there).1 in
        no_address l f had (subst (λ (m : ℕ). object_at l.process m ≡ None) (sym x.own.own) dead)
