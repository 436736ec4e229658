-- The modules of a consistent loader.
use Rattle.std.proofs.Common.{◌≡◌, ℕ, ◌+◌, ◌-◌, List, [], ◌∷◌, Some, ap, ◌∙◌, arith}
use Rattle.std.specs.Prelude.{option_and_then, option_map}
use Rattle.std.specs.List.{AllZip}
use Rattle.load_map.specs.declared.entry.MapEntry.{MapEntry}
use Rattle.load_map.specs.Maps.{map_at}
use Rattle.load_map.specs.Translation.{placed}
use Rattle.elf_model.specs.declared.func.Func.{Func}
use Rattle.elf_model.specs.declared.object.Object.{Object}
use Rattle.elf_model.specs.declared.object.Segment.{Segment}
use Rattle.load_model.specs.declared.plan.MemPlan.{MemPlan}
use Rattle.load_model.specs.Descriptors.{listed_addr, privates_of}
use Rattle.load_model.specs.Image.{image_of}
use Rattle.load_model.specs.Unbound.{unbound_of}
use Rattle.load_state.specs.Consistent.{IsEntryOf, own_site}
use Rattle.load_laws.proofs.GivenSlots.{listed_in}
use Rattle.load_laws.proofs.OwnDescriptors.{private_means}
use Rattle.link_sites.specs.Loaded.{IsPlacedAs}
use Rattle.link_loads.specs.parts.Laws.{LoadersHoldModules, WordsStand, linkage_in, placing_in}

pub placed_as : (plan : MemPlan) (ss : List Segment) (es : List MapEntry) → AllZip (IsEntryOf plan) ss es → AllZip IsPlacedAs ss es
placed_as plan [] [] all = tt
placed_as plan [] (e ∷ es) all = absurd all
placed_as plan (s ∷ ss) [] all = absurd all
placed_as plan (s ∷ ss) (e ∷ es) all = ((all.0.vaddr', all.0.memsz'), placed_as plan ss es all.1)

pub loaders_hold_modules : LoadersHoldModules
loaders_hold_modules l m o consistent live =
    let stands = consistent.modules'.standing m o live in
    record {
      sound = stands.sound;
      live = live;
      filled = stands.filled;
      mapped = placed_as l.modules.plan o.segments (map_at l.modules.maps m) stands.mapped;
      got' = ap (option_map (λ (x : Object). x.got)) live;
      own = λ f site listed.
          let number : f.module ≡ m = (private_means (linkage_in l) m o f site (listed_in (privates_of (linkage_in l) (m, o)) f site listed)).own in
          owned f site number listed;
    }
  where
    owned : (f : Func) (site : ℕ) → f.module ≡ m → listed_addr (privates_of (linkage_in l) (m, o)) f ≡ Some site
        → (placing_in l).descriptors f ≡ Some (placed (map_at l.modules.maps m) site)
    owned f site number listed =
        let there : (linkage_in l).objects f.module ≡ Some o = ap (linkage_in l).objects number ∙ live in
        let own : own_site (linkage_in l) f ≡ Some site =
        ap (option_and_then (λ x. listed_addr (privates_of (linkage_in l) (f.module, x)) f)) there
        ∙ ap (λ n. listed_addr (privates_of (linkage_in l) (n, o)) f) number ∙ listed in
        consistent.descriptors.own f site own ∙ ap (λ n. Some (placed (map_at l.modules.maps n) site)) number

pub words_stand : WordsStand
words_stand l m o k e v w consistent live loaded listed from end i lt watched =
    let unbound = unbound_of l.modules.process m in
    let place : e.vaddr + (v - e.vaddr + i) ≡ v + i = omega (arith, from) in
    consistent.images.bytes m o live k e listed (v - e.vaddr + i) (omega (arith, from, end, lt)) watched
    ∙ ap (image_of (linkage_in l) (placing_in l) m o unbound) place ∙ loaded unbound i lt
