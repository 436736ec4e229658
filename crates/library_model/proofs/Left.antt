-- What nothing holds may go.
use Rattle.std.proofs.Common.{◌≡◌, ℕ, true, false, Option, Some, None, [], refl, sym, ap, ◌∙◌, subst}
use Rattle.std.specs.Prelude.{is_some, option_and_then, Contains}
use Rattle.std.specs.Cmp.{both_ways}
use Rattle.std.specs.Option.{option_map_or}
use Rattle.std.proofs.lemmas.Bool.{false≢true, false_from_ne_true}
use Rattle.fd_base.proofs.Options.{some_of, of_some_and, one_value}
use Rattle.load_model.specs.declared.module.Group.{Group}
use Rattle.load_model.specs.declared.module.Live.{Live}
use Rattle.load_model.specs.declared.module.SymbolicProcess.{SymbolicProcess}
use Rattle.load_model.specs.Process.{live_at, is_live, group_at, group_scope}
use Rattle.load_model.specs.Validity.{IsValid}
use Rattle.load_removal.specs.Going.{ModuleSet}
use Rattle.library_model.specs.Closes.{AreLeft, IsLeft}
use Rattle.library_model.specs.Holding.{Stays}
use Rattle.library_model.specs.parts.Laws.{LeftMayGo}
use Rattle.library_model.proofs.Ways.{to_holds, held_stays}

-- a live module's group, and the module whose number it has
pub record IsGrouped (p : SymbolicProcess) (live : Live) : Type 0 where
  pub group : Group
  pub there : group_at p live.group ≡ Some group
  pub founder : Live
  pub at : live_at p live.group ≡ Some founder
  pub own : founder.group ≡ live.group

pub grouped : (p : SymbolicProcess) (m : ℕ) (live : Live) → IsValid p → live_at p m ≡ Some live → IsGrouped p live
grouped p m live valid e = by_group (group_at p live.group) refl
  where
    by_group : (o : Option Group) → group_at p live.group ≡ o → IsGrouped p live
    by_group None f = absurd ((valid.members m live e).grouped f)
    by_group (Some group) f =
        let founder = of_some_and (λ l. l.group ≡ live.group) (live_at p live.group) (valid.scopes live.group group f).founder in
        record { group = group; there = f; founder = founder.0; at = founder.1; own = founder.2 }

-- a module whose group stays isn't left
pub not_left : (p : SymbolicProcess) (m : ℕ) (live : Live) → live_at p m ≡ Some live → Stays p live.group → ¬ IsLeft p m
not_left p m live e stays left =
    let same : live ≡ left.live = one_value (live_at p m) live left.live e left.there in
    left.free (subst (λ (l : Live). Stays p l.group) same stays)

pub not_gone : (p : SymbolicProcess) (gone : ModuleSet) (m : ℕ) (live : Live) → AreLeft p gone → live_at p m ≡ Some live → Stays p live.group
    → gone m ≡ false
not_gone p gone m live left e stays =
    false_from_ne_true (gone m) (λ going. not_left p m live e stays ((left m).0 going))

pub left_may_go : LeftMayGo
left_may_go p gone valid left = record {
  live = λ m e. let is = (left m).0 e in ap is_some is.there;
  groups' = one_group;
  alone = alone;
}
  where
    one_group : (m : ℕ) (live : Live) → live_at p m ≡ Some live → gone live.group ≡ gone m
    one_group m live e =
        let g = grouped p m live valid e in
        both_ways (gone live.group) (gone m)
        (λ t.
        let is = (left live.group).0 t in
        let same : g.founder ≡ is.live = one_value (live_at p live.group) g.founder is.live g.at is.there in
        let free : ¬ Stays p live.group = subst (λ x. ¬ Stays p x) (ap (λ (l : Live). l.group) (sym same) ∙ g.own) is.free in
        (left m).1 (record { live = live; there = e; free = free }))
        (λ t.
        let is = (left m).0 t in
        let same : is.live ≡ live = one_value (live_at p m) is.live live is.there e in
        let free : ¬ Stays p g.founder.group = subst (λ x. ¬ Stays p x) (ap (λ (l : Live). l.group) same ∙ sym g.own) is.free in
        (left live.group).1 (record { live = g.founder; there = g.at; free = free }))

    -- were a module of its scope to go, it would go too
    alone : (m n : ℕ) → is_live p m ≡ true → gone m ≡ false → Contains (group_scope p m) n → gone n ≡ false
    alone m n e stays inside = false_from_ne_true (gone n) (λ going.
        let live = some_of (live_at p m) e in
        let g = grouped p m live.0 valid live.1 in
        let scope : group_scope p m ≡ g.group.scope =
        ap (λ o. option_map_or (λ (x : Group). x.scope) (option_and_then (λ (l : Live). group_at p l.group) o) []) live.1
        ∙ ap (λ o. option_map_or (λ (x : Group). x.scope) o []) g.there in
        let is = (left n).0 going in
        let held = to_holds p live.0.group is.live.group (record {
          group = g.group;
          there = g.there;
          member = n;
          inside = subst (λ l. Contains l n) scope inside;
          live = is.live;
          at = is.there;
          of = refl;
        }) in
        let left_too : gone m ≡ true =
        (left m).1 (record { live = live.0; there = live.1; free = λ s. is.free (held_stays p live.0.group is.live.group s held) }) in
        false≢true (sym stays ∙ left_too))
