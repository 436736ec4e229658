-- After an open every group is held: the new one by its first module, which is opened, and the others as before.
use Rattle.std.proofs.Common.{◌≡◌, ℕ, ◌+◌, ◌≤◌, inl, inr, Option, Some, List, [], refl, sym, ap, ◌∙◌, subst, arith}
use Rattle.std.specs.Prelude.{Contains}
use Rattle.std.specs.Option.{option_map_or}
use Rattle.std.proofs.lemmas.Bool.{cases_eq}
use Rattle.fd_base.specs.Fetched.{Files}
use Rattle.fd_base.proofs.Members.{nothing_in}
use Rattle.fd_base.proofs.Options.{of_some_and}
use Rattle.load_model.specs.declared.module.Group.{Group}
use Rattle.load_model.specs.declared.module.Joining.{Joining}
use Rattle.load_model.specs.declared.module.Live.{Live}
use Rattle.load_model.specs.declared.module.SymbolicProcess.{SymbolicProcess}
use Rattle.load_model.specs.Joined.{Asked, global_after, group_of, live_from}
use Rattle.load_model.specs.Process.{live_at, group_at}
use Rattle.load_model.specs.Validity.{IsValid}
use Rattle.load_process.proofs.ModulesAfter.{new_after, stays_after, group_old, group_came_from}
use Rattle.load_process.proofs.WalkFacts.{Facts, facts_of}
use Rattle.library_model.specs.Holding.{Stays, AreHeld}
use Rattle.library_model.specs.Opens.{IsOpen, opens_of, opened_once_more}
use Rattle.library_model.proofs.Keeping.{Keeps, still_stays}
use Rattle.library_model.proofs.Recounted.{IsRecounted, recounted, group_same}
use Rattle.library_model.proofs.Rooted.{Rooted, live, new, rooted}
use Rattle.library_model.proofs.Valid.{loaded_by}

module _ (p : SymbolicProcess) (files : Option Files) (root : List ℕ) (asked : Asked) (handle : ℕ) (after : SymbolicProcess)
    (valid : IsValid p) (o : IsOpen p files root asked handle after) where
  facts : Facts p o.joining o.scoped.names
  facts = facts_of p files root o.joining o.scoped.names o.scoped.walk

  abbrev global : List ℕ
  global = global_after p asked.global o.scope

  abbrev q : SymbolicProcess
  q = loaded_by p files root asked handle after o

  abbrev count : ℕ
  count = opens_of q handle + 1

  abbrev r : SymbolicProcess
  r = opened_once_more q handle

  once_more : IsRecounted q r handle count
  once_more = recounted q handle count

  -- ---- the others

  old_module : (m : ℕ) (a : Live) → live_at p m ≡ Some a → (b : Live) × (live_at r m ≡ Some b) × (b.group ≡ a.group) × (a.opens ≤ b.opens)
  old_module m a e =
      let now : live_at q m ≡ Some a = stays_after p o.joining o.scoped.names facts valid asked.lazy o.scope global m a e in
      elim (cases_eq m handle) [
        | inl same ↦
            let at : live_at q handle ≡ Some a = ap (live_at q) (sym same) ∙ now in
            let had : opens_of q handle ≡ a.opens = ap (λ l. option_map_or (λ (live : Live). live.opens) l 0) at in
            (record a { opens = count }, ap (live_at r) same ∙ once_more.here a at, refl, omega (arith, had))
        | inr apart ↦ (a, once_more.others m apart ∙ now, refl, omega arith)
      ]

  old_group : (g : ℕ) (group : Group) → group_at p g ≡ Some group → group_at r g ≡ Some group
  old_group g group e =
      let founder = of_some_and (λ (l : Live). l.group ≡ g) (live_at p g) (valid.scopes g group e).founder in
      group_same q r handle count once_more g
      ∙ group_old p o.joining o.scoped.names facts valid asked.lazy o.scope global g founder.0 founder.1 ∙ e

  keeps : Keeps p r
  keeps = record { groups' = λ g group s e. old_group g group e; modules' = λ m a s e. old_module m a e }

  -- ---- the new one

  new_held : (g : ℕ) (j : Joining) → Contains o.joining j → g ≡ group_of o.joining → Rooted o.joining handle → Stays r g
  new_held g j c same (live none) = absurd (nothing_in j (subst (λ l. Contains l j) none c))
  new_held g j c same (new first at number) =
      let a : Live = live_from asked.lazy (group_of o.joining) first in
      let there : live_at q handle ≡ Some a = new_after p o.joining o.scoped.names facts valid asked.lazy o.scope global handle first at in
      record {
        root = g;
        first = inr (record {
          number = handle;
          live = record a { opens = count };
          there = once_more.here a there;
          group' = sym same;
          opened = omega arith;
        });
        way = [];
        leads = refl;
      }

  pub held_after : AreHeld p → AreHeld r
  held_after held g group e =
      elim (group_came_from p o.joining o.scoped.names facts valid asked.lazy o.scope global g group (sym (group_same q r handle count once_more g) ∙ e)) [
        | inl x ↦ new_held g x.0 x.1 x.3 (rooted p files root o.joining o.scoped.names handle valid o.scoped.walk o.handle')
        | inr was ↦ still_stays p r keeps g (held g group was)
      ]
