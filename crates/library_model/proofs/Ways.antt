-- Ways over groups that hold each other.
use Rattle.std.proofs.Common.{◌≡◌, ℕ, true, false, Some, List, [], ◌∷◌, ◌++◌, refl, sym, ap, ◌∙◌, subst}
use Rattle.std.specs.Prelude.{◌==◌, Contains}
use Rattle.std.specs.List.{list_any}
use Rattle.std.specs.Option.{option_map_or}
use Rattle.std.proofs.lemmas.Bool.Decides.{Decides-eqb}
use Rattle.std.proofs.lemmas.List.Folds.{list_any_at}
use Rattle.fd_base.proofs.Finding.{any_at}
use Rattle.fd_base.proofs.Members.{contains_at}
use Rattle.fd_base.proofs.Options.{from_test}
use Rattle.load_model.specs.declared.module.Group.{Group}
use Rattle.load_model.specs.declared.module.Live.{Live}
use Rattle.load_model.specs.declared.module.SymbolicProcess.{SymbolicProcess}
use Rattle.load_model.specs.Process.{live_at, group_at}
use Rattle.library_model.specs.Holding.{is_in_group, holds, IsWay, Stays}

-- ---- one step

-- a live group whose scope has a module of the other
pub record IsHeldBy (p : SymbolicProcess) (g h : ℕ) : Type 0 where
  pub group : Group
  pub there : group_at p g ≡ Some group
  pub member : ℕ
  pub inside : Contains group.scope member
  pub live : Live
  pub at : live_at p member ≡ Some live
  pub of : live.group ≡ h

pub of_holds : (p : SymbolicProcess) (g h : ℕ) → holds p g h ≡ true → IsHeldBy p g h
of_holds p g h e =
    let holder = from_test (λ (group : Group). list_any (is_in_group p h) group.scope) (group_at p g) e in
    let one = any_at (is_in_group p h) holder.0.scope holder.2 in
    let live = from_test (λ (live : Live). live.group == h) (live_at p one.1) one.2.1 in
    record {
      group = holder.0;
      there = holder.1;
      member = one.1;
      inside = contains_at holder.0.scope one.0 one.1 one.2.0;
      live = live.0;
      at = live.1;
      of = (Decides-eqb live.0.group h).0 live.2;
    }

pub to_holds : (p : SymbolicProcess) (g h : ℕ) → IsHeldBy p g h → holds p g h ≡ true
to_holds p g h held =
    let live : is_in_group p h held.member ≡ true =
    ap (λ o. option_map_or (λ (live : Live). live.group == h) o false) held.at ∙ (Decides-eqb held.live.group h).1 held.of in
    let c = held.inside in
    let any : list_any (is_in_group p h) held.group.scope ≡ true =
    list_any_at (is_in_group p h) held.group.scope c.0 held.member c.1 (ap (is_in_group p h) c.2 ∙ live) in
    ap (λ o. option_map_or (λ (group : Group). list_any (is_in_group p h) group.scope) o false) held.there ∙ any

-- ---- ways

pub longer_way : (p : SymbolicProcess) (g : ℕ) (way : List ℕ) (h k : ℕ) → IsWay p g way h → holds p h k ≡ true → IsWay p g (way ++ k ∷ []) k
longer_way p g [] h k leads held = (subst (λ x. holds p x k ≡ true) (sym leads) held, refl)
longer_way p g (next ∷ way) h k leads held = (leads.0, longer_way p next way h k leads.1 held)

pub joined_way : (p : SymbolicProcess) (g : ℕ) (way more : List ℕ) (h k : ℕ) → IsWay p g way h → IsWay p h more k → IsWay p g (way ++ more) k
joined_way p g [] more h k leads on = subst (λ x. IsWay p x more k) (sym leads) on
joined_way p g (next ∷ way) more h k leads on = (leads.0, joined_way p next way more h k leads.1 on)

-- what a group that stays holds stays
pub held_stays : (p : SymbolicProcess) (g h : ℕ) → Stays p g → holds p g h ≡ true → Stays p h
held_stays p g h stays held = record {
  root = stays.root;
  first = stays.first;
  way = stays.way ++ h ∷ [];
  leads = longer_way p stays.root stays.way g h stays.leads held;
}
