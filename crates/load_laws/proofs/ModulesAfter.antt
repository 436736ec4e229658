-- The modules after a load.
use Rattle.std.proofs.Common.{◌≡◌, ◌≢◌, ℕ, ◌<◌, inl, inr, true, false, List, [], ◌∷◌, ◌++◌, length, get_or, take, drop, set, map, slice_get, Option, Some, None, Result, Ok, Err, refl, sym, ap, subst, ◌∙◌, All, AllPairs}
use Rattle.std.specs.Prelude.{Contains, unwrap_or, ◌==◌}
use Rattle.std.specs.FinMap.{get}
use Rattle.std.specs.List.{AllZip, flat_map, filter_map}
use Rattle.std.specs.Result.{result_err}
use Rattle.std.proofs.Math.Path.{fun_ext}
use Rattle.std.proofs.lemmas.List.{length-set}
use Rattle.std.proofs.lemmas.List.Elements.{All-contains, Contains-append_cases}
use Rattle.fd_base.proofs.Options.{or_some, none_or}
use Rattle.load_map.specs.declared.entry.MapEntry.{MapEntry}
use Rattle.elf_model.specs.declared.func.Func.{Func}
use Rattle.elf_model.specs.declared.object.Object.{Object}
use Rattle.elf_model.specs.declared.object.Rel.{Rel}
use Rattle.elf_model.specs.declared.object.Segment.{Segment}
use Rattle.elf_model.specs.Sound.{IsSound}
use Rattle.placement.specs.declared.item.Held.{Held}
use Rattle.placement.specs.Placed.{Placed}
use Rattle.load_map.specs.Whole.{PlacedApart}
use Rattle.load_model.specs.declared.error.LoadRefusal.{LoadRefusal}
use Rattle.load_model.specs.declared.module.Joining.{Joining}
use Rattle.load_model.specs.declared.module.SymbolicProcess.{SymbolicProcess}
use Rattle.load_model.specs.declared.plan.MemPlan.{MemPlan}
use Rattle.load_model.specs.Definition.{Linkage}
use Rattle.load_model.specs.Descriptors.{descriptors_after, descriptor_of, asked_of, privates}
use Rattle.load_map.specs.Maps.{map_at}
use Rattle.load_map.specs.Translation.{placed as placed_at}
use Rattle.load_model.specs.Linkage.{linkage_of, members_of}
use Rattle.load_model.specs.Plan.{low_of, high_of, listed_for}
use Rattle.load_model.specs.Process.{object_at}
use Rattle.load_model.specs.declared.meaning.SiteValue.{SiteValue}
use Rattle.load_model.specs.declared.meaning.SiteValue.TheVariants.{Place, Pair, Descriptor}
use Rattle.elf_model.specs.declared.constants.TheConstants.{R_ARM_RELATIVE, R_ARM_FUNCDESC, R_ARM_FUNCDESC_VALUE}
use Rattle.load_model.specs.Sites.{Member, refusals_of, site_value, written, function_at, relative_at}
use Rattle.elf_model.specs.Filled.{site_relocations, fixup_at}
use Rattle.load_image.specs.Items.{items_of, load_map_of}
use Rattle.load_state.specs.Loaded.{pool_of}
use Rattle.func_desc.specs.Pool.{free_slots}
use Rattle.load_state.specs.Accepted.{maps_after, linkage_for, adopted_by}
use Rattle.load_state.specs.Consistent.{IsEntryOf, IsStanding}
use Rattle.load_map.specs.Maps.{map_at}
use Rattle.load_laws.specs.parts.Premises.{HasFreeNumber}
use Rattle.load_laws.specs.parts.LoadLaws.{ModulesStay}
use Rattle.load_laws.proofs.MapsAfter.{map_stays, maps_are, IsMapped}
use Rattle.load_laws.proofs.ListedDescriptors.{asked_has_one}
use Rattle.load_laws.proofs.RangesAfter.{joins_or_not}
use Rattle.load_laws.proofs.SegmentsApart.{placed_apart}
use Rattle.fd_base.proofs.Members.{filter_map_in, flat_map_in, map_in, in_map, nothing_in, first_or_later}

-- ---- load maps

length-maps_after : (joining : List Joining) (maps : List (List MapEntry)) (addrs : List ℕ) → length (maps_after maps joining addrs) ≡ length maps
length-maps_after [] maps addrs = refl
length-maps_after (j ∷ joining) maps addrs =
    let own = load_map_of j.object.segments (take (length j.object.segments) addrs) in
    length-maps_after joining (set maps j.number own) (drop (length j.object.segments) addrs) ∙ length-set maps j.number own

pub entries : (plan : MemPlan) (held : List Held) (owner : ℕ) (ss : List Segment) (listed addrs : List ℕ)
    → Placed (low_of plan) (high_of plan) held (items_of owner ss listed) addrs → AllZip (IsEntryOf plan) ss (load_map_of ss addrs)
entries plan held owner [] listed [] placed = tt
entries plan held owner [] listed (at ∷ addrs) placed = absurd placed
entries plan held owner (s ∷ ss) [] [] placed = absurd placed
entries plan held owner (s ∷ ss) [] (at ∷ addrs) placed = (
  record { vaddr' = refl; memsz' = refl; above = placed.0.legal.above; below = placed.0.legal.below; congruent = placed.0.legal.congruent },
  entries plan _ owner ss [] addrs placed.1,
)
entries plan held owner (s ∷ ss) (x ∷ listed) [] placed = absurd placed
entries plan held owner (s ∷ ss) (x ∷ listed) (at ∷ addrs) placed = (
  record { vaddr' = refl; memsz' = refl; above = placed.0.legal.above; below = placed.0.legal.below; congruent = placed.0.legal.congruent },
  entries plan _ owner ss listed addrs placed.1,
)

-- a new module's number is that of no old one
pub old_number : (p : SymbolicProcess) (joining : List Joining) (m : ℕ) (o : Object) → All (HasFreeNumber p) joining → object_at p m ≡ Some o → All (λ j. j.number ≢ m) joining
old_number p joining m o free live k d lt is =
    let none : object_at p m ≡ None = subst (λ (n : ℕ). object_at p n ≡ None) is (free k d lt).1 in
    let never : None ≡ Some o = sym none ∙ live in
    absurd cc

-- ---- sites

no_head : {X : Type 0} (xs : List X) → slice_get xs 0 ≡ None → xs ≡ []
no_head [] none = refl
no_head (x ∷ xs) none = absurd cc

front_empty : {X : Type 0} (xs ys : List X) → xs ++ ys ≡ [] → (xs ≡ []) × (ys ≡ [])
front_empty [] ys e = (refl, e)
front_empty (x ∷ xs) ys e = absurd cc

-- where no site is refused, none of each module is
none_refused : (l : Linkage) (joining : List Joining) (j : Joining) → flat_map (λ m. refusals_of l m.0 m.1) (members_of joining) ≡ [] → Contains joining j
    → refusals_of l j.number j.object ≡ []
none_refused l [] j none there = absurd (nothing_in j there)
none_refused l (i ∷ joining) j none there =
    let parts = front_empty (refusals_of l i.number i.object) (flat_map (λ m. refusals_of l m.0 m.1) (members_of joining)) none in
    elim (first_or_later i j joining there) [
      | inl is ↦ subst (λ (x : Joining). refusals_of l x.number x.object ≡ []) is parts.0
      | inr later ↦ none_refused l joining j parts.1 later
    ]

-- the same sites are refused where they mean the same
same_refusals : (l k : Linkage) (m : ℕ) (o : Object) → ((r : Rel) → site_value k m o r ≡ site_value l m o r) → refusals_of k m o ≡ refusals_of l m o
same_refusals l k m o same =
    let each : (λ (r : Rel). result_err (site_value k m o r)) ≡ (λ (r : Rel). result_err (site_value l m o r)) = fun_ext (λ r. ap result_err (same r)) in
    ap (λ (refused : Rel → Option LoadRefusal). filter_map refused (site_relocations o)) each

-- ---- functions that are referred to

abbrev content : Result SiteValue LoadRefusal → SiteValue
content (Ok v) = v
content (Err r) = Descriptor None

never_descriptor : {X : Type 0} (value : X → SiteValue) (x : Result X LoadRefusal) (f : Func) → ((y : X) → value y ≢ Descriptor (Some f)) → written value x ≢ Ok (Descriptor (Some f))
never_descriptor value (Ok y) f other is = other y (ap content is)
never_descriptor value (Err r) f other is = absurd cc

-- a pair is no descriptor's address
pair_only : (l : Linkage) (m : ℕ) (o : Object) (r : Rel) (f : Func) → r.kind ≡ R_ARM_FUNCDESC_VALUE → site_value l m o r ≢ Ok (Descriptor (Some f))
unfolding site_value
pair_only l m o r f kind is =
    let a : (r.kind == R_ARM_RELATIVE) ≡ false = ap (λ (k : ℕ). k == R_ARM_RELATIVE) kind in
    let b : (r.kind == R_ARM_FUNCDESC) ≡ false = ap (λ (k : ℕ). k == R_ARM_FUNCDESC) kind in
    let c : (r.kind == R_ARM_FUNCDESC_VALUE) ≡ true = ap (λ (k : ℕ). k == R_ARM_FUNCDESC_VALUE) kind in
    let pair : written Pair (function_at l m o r) ≡ Ok (Descriptor (Some f)) = rw (a, b, c) at is in
    never_descriptor Pair (function_at l m o r) f (λ y e. absurd cc) pair

-- nor is a fixup
place_only : (l : Linkage) (m : ℕ) (o : Object) (r : Rel) (f : Func) → r.kind ≡ R_ARM_RELATIVE → site_value l m o r ≢ Ok (Descriptor (Some f))
unfolding site_value
place_only l m o r f kind is =
    let a : (r.kind == R_ARM_RELATIVE) ≡ true = ap (λ (k : ℕ). k == R_ARM_RELATIVE) kind in
    let place : written Place (relative_at l m o r) ≡ Ok (Descriptor (Some f)) = rw a at is in
    never_descriptor Place (relative_at l m o r) f (λ y e. absurd cc) place

-- descriptors' addresses are written in DT_REL alone
pub in_rels : (l : Linkage) (m : ℕ) (o : Object) (r : Rel) (f : Func) → IsSound o → Contains (site_relocations o) r → site_value l m o r ≡ Ok (Descriptor (Some f)) → Contains o.rels r
in_rels l m o r f sound there is =
    elim (Contains-append_cases (o.rels ++ o.jmprels) (map fixup_at (unwrap_or o.fixups [])) r there) [
      | inl table ↦
          elim (Contains-append_cases o.rels o.jmprels r table) [
            | inl rel ↦ rel
            | inr slot ↦ absurd (pair_only l m o r f (All-contains (λ q. q.kind ≡ R_ARM_FUNCDESC_VALUE) o.jmprels r sound.slot_kinds slot) is)
          ]
      | inr fixup ↦
          let from = in_map fixup_at (unwrap_or o.fixups []) r fixup in
          absurd (place_only l m o r f (ap (λ q. q.kind) (sym from.2)) is)
    ]

-- ---- the modules

pub modules_stay_lem : ModulesStay
modules_stay_lem l new joining scope addrs adopted given mods ext own free sound filled enough placed plan' maps' adopted' given' addrs' = record {
  count = ap length maps' ∙ length-maps_after joining l.maps addrs ∙ mods.count;
  standing = λ m o live. elim (ext.only m o live) [
    | inl was ↦ old_stands m o was
    | inr joined ↦ subst (λ (n : ℕ). IsStanding new n o) joined.2 (subst (λ (x : Object). IsStanding new joined.0.number x) joined.3 (new_stands joined.0 joined.1))
  ];
  others = others;
}
  where
    below : All (λ j. j.number < length l.maps) joining
    below = λ k d lt. subst (λ (n : ℕ). (get_or joining k d).number < n) (sym mods.count) (free k d lt).0

    stays : (m : ℕ) → All (λ j. j.number ≢ m) joining → map_at new.maps m ≡ map_at l.maps m
    stays m others = ap (λ maps. map_at maps m) maps' ∙ map_stays joining l.maps addrs m others

    kept : (f : Func) → get l.addrs f ≢ None → get new.addrs f ≢ None
    kept f had none = or_some (get l.addrs f) _ had (sym (addrs' f) ∙ none)

    old_stands : (m : ℕ) (o : Object) → object_at l.process m ≡ Some o → IsStanding new m o
    old_stands m o was =
        let had = mods.standing m o was in
        let same = (ext.old m o was).1 in
        record {
          sound = had.sound;
          mapped = subst (λ (p : MemPlan). AllZip (IsEntryOf p) o.segments (map_at new.maps m)) (sym plan')
              (subst (λ (es : List MapEntry). AllZip (IsEntryOf l.plan) o.segments es) (sym (stays m (old_number l.process joining m o free was))) had.mapped);
          apart = subst (AllPairs PlacedApart) (sym (stays m (old_number l.process joining m o free was))) had.apart;
          filled = same_refusals (linkage_of l.process) (linkage_of new.process) m o same ∙ had.filled;
          described = λ r f there is. kept f (had.described r f there (sym (same r) ∙ is));
        }

    others : (m : ℕ) → object_at new.process m ≡ None → map_at new.maps m ≡ []
    others m none =
        elim (joins_or_not joining m) [
          | inl joins ↦
              let some : None ≡ Some joins.0.object = sym none ∙ subst (λ (n : ℕ). object_at new.process n ≡ Some joins.0.object) joins.2 (ext.fresh joins.0 joins.1) in
              absurd cc
          | inr not ↦
              elim (none_or (object_at l.process m)) [
                | inl nothing ↦ stays m not ∙ mods.others m nothing
                | inr live ↦ let some : None ≡ Some live.0 = sym none ∙ (ext.old m live.0 live.1).0 in absurd cc
              ]
        ]

    described_new : (j : Joining) → Contains joining j → (r : Rel) (f : Func) → Contains j.object.rels r → site_value (linkage_for l joining scope) j.number j.object r ≡ Ok (Descriptor (Some f)) → get new.addrs f ≢ None
    described_new j there r f rel is =
        let k = linkage_for l joining scope in
        let member : Member = (j.number, j.object) in
        let asked : Contains (asked_of k member) f = filter_map_in (λ q. descriptor_of (site_value k j.number j.object q)) j.object.rels r f rel (ap descriptor_of is) in
        let all : Contains (flat_map (asked_of k) (members_of joining)) f = flat_map_in (asked_of k) (members_of joining) member f (map_in (λ i. (i.number, i.object)) joining j there) asked in
        let own' = privates k (members_of joining) in
        let place : Func × ℕ → ℕ = λ e. placed_at (map_at new.maps e.0.module) e.1 in
        let some = asked_has_one (get l.addrs) own' (flat_map (asked_of k) (members_of joining)) (free_slots (pool_of l.plan l.addrs)) place f enough all in
        let H : List (Func × ℕ) → List (Func × ℕ) → Type 0 = λ a g. descriptors_after (get l.addrs) a g f ≢ None in
        let there' : H adopted given = subst (λ (a : List (Func × ℕ)). H a given) (sym adopted') (subst (λ (g : List (Func × ℕ)). H (adopted_by l joining scope new.maps) g) (sym given') some) in
        λ none. there' (sym (addrs' f) ∙ none)

    new_stands : (j : Joining) → Contains joining j → IsStanding new j.number j.object
    new_stands j there =
        let k = linkage_for l joining scope in
        let P = IsMapped (low_of l.plan) (high_of l.plan) l.plan.places (maps_after l.maps joining addrs) in
        let at = All-contains P joining j (maps_are (low_of l.plan) (high_of l.plan) l.plan.places joining l.maps l.held addrs own below placed) there in
        let es = entries l.plan at.held j.number j.object.segments (listed_for l.plan.places j.name) at.addrs at.placed in
        let map' : map_at new.maps j.number ≡ load_map_of j.object.segments at.addrs = ap (λ maps. map_at maps j.number) maps' ∙ at.map' in
        let none = no_head (flat_map (λ m. refusals_of k m.0 m.1) (members_of joining)) filled in
        let sound' = All-contains (λ i. IsSound i.object) joining j sound there in
        record {
          sound = sound';
          mapped = subst (λ (p : MemPlan). AllZip (IsEntryOf p) j.object.segments (map_at new.maps j.number)) (sym plan')
              (subst (λ (ms : List MapEntry). AllZip (IsEntryOf l.plan) j.object.segments ms) (sym map') es);
          apart = subst (AllPairs PlacedApart) (sym map')
              (placed_apart (low_of l.plan) (high_of l.plan) at.held j.number j.object.segments (listed_for l.plan.places j.name) at.addrs at.placed);
          filled = subst (λ (q : Linkage). refusals_of q j.number j.object ≡ []) (sym ext.linkage') (none_refused k joining j none there);
          described = λ r f site is.
              let is' : site_value k j.number j.object r ≡ Ok (Descriptor (Some f)) = subst (λ (q : Linkage). site_value q j.number j.object r ≡ Ok (Descriptor (Some f))) ext.linkage' is in
              described_new j there r f (in_rels k j.number j.object r f sound' site is') is';
        }
