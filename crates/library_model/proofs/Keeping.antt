-- What stays in one process stays in another that keeps it.
use Rattle.std.proofs.Common.{◌≡◌, ℕ, ◌≤◌, inl, inr, true, Some, List, [], ◌∷◌, refl, sym, ◌∙◌, subst, arith}
use Rattle.load_model.specs.declared.module.Group.{Group}
use Rattle.load_model.specs.declared.module.Live.{Live}
use Rattle.load_model.specs.declared.module.SymbolicProcess.{SymbolicProcess}
use Rattle.load_model.specs.Process.{live_at, group_at}
use Rattle.library_model.specs.Holding.{holds, IsWay, IsRoot, Stays}
use Rattle.library_model.proofs.Ways.{of_holds, to_holds, held_stays}

-- the groups that stay in p are in q too, and their modules, opened as often or more
pub record Keeps (p q : SymbolicProcess) : Type 0 where
  pub groups' : (g : ℕ) (group : Group) → Stays p g → group_at p g ≡ Some group → group_at q g ≡ Some group
  pub modules' : (m : ℕ) (a : Live) → Stays p a.group → live_at p m ≡ Some a
      → (b : Live) × (live_at q m ≡ Some b) × (b.group ≡ a.group) × (a.opens ≤ b.opens)

module _ (p q : SymbolicProcess) (keeps : Keeps p q) where
  still_holds : (g h : ℕ) → Stays p g → Stays p h → holds p g h ≡ true → holds q g h ≡ true
  still_holds g h holder held e =
      let is = of_holds p g h e in
      let now = keeps.modules' is.member is.live (subst (Stays p) (sym is.of) held) is.at in
      to_holds q g h (record {
        group = is.group;
        there = keeps.groups' g is.group holder is.there;
        member = is.member;
        inside = is.inside;
        live = now.0;
        at = now.1;
        of = now.2 ∙ is.of;
      })

  still_root : (g : ℕ) → IsRoot p g → IsRoot q g
  still_root g (inl program) = inl program
  still_root g (inr o) =
      let stays : Stays p g = record { root = g; first = inr o; way = []; leads = refl } in
      let now = keeps.modules' o.number o.live (subst (Stays p) (sym o.group') stays) o.there in
      inr (record { number = o.number; live = now.0; there = now.1; group' = now.2 ∙ o.group'; opened = omega (arith, o.opened, now.3) })

  along : (g : ℕ) (way : List ℕ) (h : ℕ) → Stays p g → Stays q g → IsWay p g way h → Stays q h
  along g [] h was now leads = subst (Stays q) leads now
  along g (next ∷ way) h was now leads =
      let too : Stays p next = held_stays p g next was leads.0 in
      along next way h too (held_stays q g next now (still_holds g next was too leads.0)) leads.1

  pub still_stays : (g : ℕ) → Stays p g → Stays q g
  still_stays g s =
      let was : Stays p s.root = record { root = s.root; first = s.first; way = []; leads = refl } in
      let now : Stays q s.root = record { root = s.root; first = still_root s.root s.first; way = []; leads = refl } in
      along s.root s.way g was now s.leads
