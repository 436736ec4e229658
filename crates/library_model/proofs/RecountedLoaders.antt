-- A loader in which a module is opened more or less often: all that holds of it but its counts is as it was.
use Rattle.std.proofs.Common.{◌≡◌, ℕ, ◌+◌, inl, inr, List, [], Option, Some, None, Ok, refl, sym, ap, subst, ◌∙◌}
use Rattle.std.specs.Prelude.{is_some, option_and_then, option_map}
use Rattle.std.specs.FinMap.{get}
use Rattle.std.specs.Option.{option_map_or}
use Rattle.std.proofs.Math.Path.{fun_ext}
use Rattle.std.proofs.lemmas.Bool.{cases_eq}
use Rattle.elf_model.specs.declared.object.Object.{Object}
use Rattle.load_map.specs.Maps.{map_at}
use Rattle.load_model.specs.declared.meaning.SiteValue.TheVariants.{Descriptor}
use Rattle.load_model.specs.declared.module.Live.{Live}
use Rattle.load_model.specs.declared.module.SymbolicProcess.{SymbolicProcess}
use Rattle.load_model.specs.Definition.{Linkage}
use Rattle.load_model.specs.Image.{Placing, got_of, image_of, load_map_at, place_of}
use Rattle.load_model.specs.Layout.{HasPair, IsLaidOut}
use Rattle.load_model.specs.Linkage.{linkage_of}
use Rattle.load_model.specs.Process.{group_at, group_scope, is_live, live_at, object_at}
use Rattle.load_model.specs.Sites.{refusals_of, site_value}
use Rattle.load_model.specs.Unbound.{unbound_of}
use Rattle.load_state.specs.Consistent.{HasDescriptors, HasModules, HasRanges, HoldsImages, HoldsTables, IsConsistent, own_site}
use Rattle.load_state.specs.Loaded.{Loaded, placing_of}
use Rattle.library_model.specs.Opens.{recounted_in, with_opens}
use Rattle.library_model.specs.parts.Laws.{RecountsKeepConsistent}
use Rattle.library_model.proofs.Recounted.{IsRecounted, recounted, recounted_valid}

-- ---- what is seen of the process

module _ (p q : SymbolicProcess) (m k : ℕ) (r : IsRecounted p q m k) where
  -- whatever doesn't depend on the count
  seen : {X : Type 0} (f : Live → X) → ((a : Live) → f (record a { opens = k }) ≡ f a) → (n : ℕ) → option_map f (live_at q n) ≡ option_map f (live_at p n)
  seen {X = X} f same n = elim (cases_eq n m) [
    | inl is ↦ ap (λ j. option_map f (live_at q j)) is ∙ here ∙ ap (λ j. option_map f (live_at p j)) (sym is)
    | inr apart ↦ ap (option_map f) (r.others n apart)
  ]
    where
      here : option_map f (live_at q m) ≡ option_map f (live_at p m)
      here = elim (live_at p m) as (λ o. live_at p m ≡ o → option_map f (live_at q m) ≡ option_map f o) [
        | None ↦ λ e. ap (option_map f) (r.nobody e)
        | Some a ↦ λ e. ap (option_map f) (r.here a e) ∙ ap (λ x. Some x) (same a)
      ] refl

  objects : (n : ℕ) → object_at q n ≡ object_at p n
  objects n = seen (λ live. live.object) (λ a. refl) n

  lives : (n : ℕ) → is_live q n ≡ is_live p n
  lives n = sym (shown (live_at q n)) ∙ ap is_some (seen (λ live. live.object) (λ a. refl) n) ∙ shown (live_at p n)
    where
      shown : (o : Option Live) → is_some (option_map (λ (live : Live). live.object) o) ≡ is_some o
      shown None = refl
      shown (Some a) = refl

  flags : (n : ℕ) → unbound_of q n ≡ unbound_of p n
  flags n = sym (shown (live_at q n)) ∙ ap (λ o. option_map_or (λ fs. fs) o []) (seen (λ live. live.unbound) (λ a. refl) n) ∙ shown (live_at p n)
    where
      shown : (o : Option Live) → option_map_or (λ fs. fs) (option_map (λ (live : Live). live.unbound) o) [] ≡ option_map_or (λ live. live.unbound) o []
      shown None = refl
      shown (Some a) = refl

  scopes : (n : ℕ) → group_scope q n ≡ group_scope p n
  scopes n =
      sym (shown q (live_at q n)) ∙ ap (of_number q) (seen (λ live. live.group) (λ a. refl) n) ∙ ap (λ groups. of_number (record p { groups = groups }) (option_map (λ (live : Live). live.group) (live_at p n))) r.groups'
      ∙ shown p (live_at p n)
    where
      of_number : SymbolicProcess → Option ℕ → List ℕ
      of_number s o = option_map_or (λ g. g.scope) (option_and_then (group_at s) o) []

      shown : (s : SymbolicProcess) (o : Option Live) → of_number s (option_map (λ (live : Live). live.group) o) ≡ option_map_or (λ g. g.scope) (option_and_then (λ live. group_at s live.group) o) []
      shown s None = refl
      shown s (Some a) = refl

  linkage : linkage_of q ≡ linkage_of p
  linkage =
      ap (λ (f : ℕ → Option Object). record { objects = f; scopes = group_scope q }) (fun_ext objects)
      ∙ ap (λ (f : ℕ → List ℕ). record { objects = object_at p; scopes = f }) (fun_ext scopes)

-- ---- the loader

module _ (l : Loaded) (m k : ℕ) (c : IsConsistent l) where
  abbrev p : SymbolicProcess
  p = l.modules.process

  abbrev q : SymbolicProcess
  q = with_opens l.modules.process m k

  abbrev later : Loaded
  later = recounted_in l m k

  r : IsRecounted p q m k
  r = recounted p m k

  same_linkage : linkage_of q ≡ linkage_of p
  same_linkage = linkage p q m k r

  same_objects : object_at q ≡ object_at p
  same_objects = fun_ext (objects p q m k r)

  was : (n : ℕ) (o : Object) → object_at q n ≡ Some o → object_at p n ≡ Some o
  was n o e = sym (objects p q m k r n) ∙ e

  placing : placing_of q l.modules.maps l.modules.addrs ≡ placing_of p l.modules.maps l.modules.addrs
  placing = ap (λ (f : ℕ → Option Object). record {
    maps = map_at l.modules.maps;
    gots = λ n. option_map (λ o. o.got) (f n);
    load_maps = load_map_at;
    descriptors = get l.modules.addrs;
  }) same_objects

  modules_stand : HasModules later.modules
  modules_stand = record {
    count = c.modules'.count;
    standing = λ n o e.
        let had = c.modules'.standing n o (was n o e) in
        record {
          sound = had.sound;
          mapped = had.mapped;
          apart = had.apart;
          filled = subst (λ (k : Linkage). refusals_of k n o ≡ []) (sym same_linkage) had.filled;
          described = λ rel f there is. had.described rel f there (subst (λ (k : Linkage). site_value k n o rel ≡ Ok (Descriptor (Some f))) same_linkage is);
        };
    others = λ n e. c.modules'.others n (sym (objects p q m k r n) ∙ e);
  }

  ranges_stand : HasRanges later.modules
  ranges_stand = record {
    held' = λ h. (
      λ there. let one = (c.ranges.held' h).0 there in record { entry = one.entry; listed = one.listed; start' = one.start'; len' = one.len' },
      λ one. (c.ranges.held' h).1 (record { entry = one.entry; listed = one.listed; start' = one.start'; len' = one.len' }),
    );
    apart = c.ranges.apart;
  }

  descriptors_stand : HasDescriptors later.modules
  descriptors_stand = record {
    live = λ f a e. lives p q m k r f.module ∙ c.descriptors.live f a e;
    own = λ f site e. c.descriptors.own f site (subst (λ (k : Linkage). own_site k f ≡ Some site) same_linkage e);
    places = λ f a e g. c.descriptors.places f a (subst (λ (k : Linkage). own_site k f ≡ None) same_linkage e) g;
    distinct = c.descriptors.distinct;
  }

  images_hold : HoldsImages later
  images_hold = record {
    bytes = λ n o e j entry at i lt watched.
        c.images.bytes n o (was n o e) j entry at i lt watched
        ∙ ap (λ fs. image_of (linkage_of p) (placing_of p l.modules.maps l.modules.addrs) n o fs (entry.vaddr + i)) (sym (flags p q m k r n))
        ∙ ap (λ (g : Placing). image_of (linkage_of p) g n o (unbound_of q n) (entry.vaddr + i)) (sym placing)
        ∙ ap (λ (g : Linkage). image_of g (placing_of q l.modules.maps l.modules.addrs) n o (unbound_of q n) (entry.vaddr + i)) (sym same_linkage);
  }

  tables_hold : HoldsTables later
  tables_hold = record {
    resolver = c.tables.resolver;
    ends = c.tables.ends;
    load_maps = λ n o e. c.tables.load_maps n o (was n o e);
    other_maps = λ n few e. c.tables.other_maps n few (sym (objects p q m k r n) ∙ e);
    slots = λ f a e slot. subst (λ (g : Placing). HasPair l.memory a (place_of g f) (got_of g f.module)) (sym placing) (c.tables.slots f a e slot);
    free = c.tables.free;
  }

  stays_consistent : IsConsistent later
  stays_consistent = record {
    fits = c.fits;
    valid = recounted_valid p q m k r c.valid;
    modules' = modules_stand;
    ranges = ranges_stand;
    descriptors = descriptors_stand;
    laid_out = subst (λ (f : ℕ → Option Object). IsLaidOut l.modules.plan (record { objects = f; maps = map_at l.modules.maps }) l.memory) (sym same_objects) c.laid_out;
    images = images_hold;
    tables = tables_hold;
  }

pub recounts_keep_consistent : RecountsKeepConsistent
recounts_keep_consistent l m k c = stays_consistent l m k c
