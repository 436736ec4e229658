-- What is held are the placed segments of the modules that stay.
use Rattle.std.proofs.Common.{inl, inr, Bool, true, false, not, cond, List, [], ◌∷◌, filter, sym, ap, subst}
use Rattle.std.specs.Prelude.{Contains}
use Rattle.std.proofs.lemmas.Bool.{cases_Bool, not-true}
use Rattle.std.proofs.lemmas.List.Elements.{All-filter}
use Rattle.fd_base.proofs.Members.{filter_in, in_filter, nothing_in}
use Rattle.load_map.specs.declared.entry.MapEntry.{MapEntry}
use Rattle.placement.specs.declared.item.Held.{Held}
use Rattle.placement.specs.Legal.{Apart}
use Rattle.placement.specs.Space.{AreApart}
use Rattle.load_state.specs.Consistent.{HasRanges, IsPlacedRange}
use Rattle.load_state.specs.Loaded.{Loaded}
use Rattle.load_removal.specs.Going.{ModuleSet}
use Rattle.load_removal.specs.TakenOut.{IsTakenOut}
use Rattle.load_removal.proofs.LeftOver.{map_gone, map_stays}

apart-filter : (p : Held → Bool) (held : List Held) → AreApart held → AreApart (filter p held)
apart-filter p [] apart = tt
apart-filter p (r ∷ held) apart =
    elim (p r) as (λ b. AreApart (cond b (r ∷ filter p held) (filter p held))) [
      | true ↦ (All-filter p (Apart r.start r.len) held apart.0, apart-filter p held apart.1)
      | false ↦ apart-filter p held apart.1
    ]

module _ (l new : Loaded) (gone : ModuleSet) (taken : IsTakenOut l gone new) (had : HasRanges l.modules) where
  abbrev stays : Held → Bool
  stays r = not (gone r.owner)

  forward : (r : Held) → Contains new.modules.held r → IsPlacedRange new.modules r
  forward r here =
      let kept = in_filter stays l.modules.held r (subst (λ (rs : List Held). Contains rs r) taken.held' here) in
      let was = (had.held' r).0 kept.0 in
      let map' = map_stays l new gone taken r.owner (not-true (gone r.owner) kept.1) in
      record {
        entry = was.entry;
        listed = subst (λ (es : List MapEntry). Contains es was.entry) (sym map') was.listed;
        start' = was.start';
        len' = was.len';
      }

  backward : (r : Held) → IsPlacedRange new.modules r → Contains new.modules.held r
  backward r is =
      elim (cases_Bool (gone r.owner)) [
        | inl goes ↦
            let empty : Contains [] is.entry = subst (λ (es : List MapEntry). Contains es is.entry) (map_gone l new gone taken r.owner goes) is.listed in
            absurd (nothing_in is.entry empty)
        | inr other ↦
            let was : IsPlacedRange l.modules r = record {
              entry = is.entry;
              listed = subst (λ (es : List MapEntry). Contains es is.entry) (map_stays l new gone taken r.owner other) is.listed;
              start' = is.start';
              len' = is.len';
            } in
            subst (λ (rs : List Held). Contains rs r) (sym taken.held') (filter_in stays l.modules.held r ((had.held' r).1 was) (ap not other))
      ]

  pub ranges_left : HasRanges new.modules
  ranges_left = record {
    held' = λ r. (forward r, backward r);
    apart = subst AreApart (sym taken.held') (apart-filter stays l.modules.held had.apart);
  }
