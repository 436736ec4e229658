-- Whether a group of a valid process stays can be told.
use Rattle.std.proofs.Common.{◌≡◌, ℕ, ◌<◌, ◌⊎◌, inl, inr, Bool, true, false, ◌&&◌, ◌||◌, ltb, Some, List, refl, sym, ap, ◌∙◌, subst, arith}
use Rattle.std.specs.Prelude.{Contains}
use Rattle.std.specs.List.{list_any, range_with_len}
use Rattle.std.specs.Option.{option_map_or}
use Rattle.std.proofs.lemmas.Bool.{false≢true, cases_Bool, or_cases, or_left, or_right, and_parts, and_from, ltb-true, lt-ltb}
use Rattle.std.proofs.lemmas.List.Folds.{list_any_at}
use Rattle.std.proofs.lemmas.List.FromFn.{length-range_with_len, get_or-range_with_len}
use Rattle.fd_base.proofs.Finding.{any_at}
use Rattle.fd_base.proofs.Options.{from_test}
use Rattle.symbol_scope.specs.declared.tables.TheConstants.{MAX_MODULES}
use Rattle.load_model.specs.declared.module.Live.{Live}
use Rattle.load_model.specs.declared.module.SymbolicProcess.{SymbolicProcess}
use Rattle.load_model.specs.Process.{live_at}
use Rattle.load_model.specs.Validity.{IsValid}
use Rattle.load_process.proofs.NumberedPlaces.{within_places}
use Rattle.library_model.specs.Holding.{holds, IsRoot, Stays}
use Rattle.library_model.proofs.Left.{grouped}
use Rattle.library_model.proofs.Reaching.{reaches, way_of, reached}
use Rattle.library_model.proofs.Ways.{of_holds}

in_range : (n k : ℕ) → k < n → Contains (range_with_len 0 n) k
in_range n k lt = (k, omega (arith, length-range_with_len 0 n, lt), omega (arith, get_or-range_with_len 0 n k k lt))

-- whether module m is opened, and its group reaches g over these groups
opened_reaches : SymbolicProcess → List ℕ → ℕ → ℕ → Bool
opened_reaches p over g m = option_map_or (λ (live : Live). ltb 0 live.opens && reaches p over live.group g) (live_at p m) false

-- whether the program's group reaches g, or that of an opened module, by these groups and modules
stays : SymbolicProcess → List ℕ → ℕ → Bool
stays p over g = reaches p over 0 g || list_any (opened_reaches p over g) over

module _ (p : SymbolicProcess) (over : List ℕ) (g : ℕ) where
  told : stays p over g ≡ true → Stays p g
  unfolding stays opened_reaches
  told e = elim (or_cases (reaches p over 0 g) (list_any (opened_reaches p over g) over) e) [
    | inl program ↦ let way = way_of p over 0 g program in record { root = 0; first = inl refl; way = way.0; leads = way.1 }
    | inr opened ↦
        let one = any_at (opened_reaches p over g) over opened in
        let is = from_test (λ (live : Live). ltb 0 live.opens && reaches p over live.group g) (live_at p one.1) one.2.1 in
        let both = and_parts (ltb 0 is.0.opens) (reaches p over is.0.group g) is.2 in
        let way = way_of p over is.0.group g both.1 in
        record {
          root = is.0.group;
          first = inr (record { number = one.1; live = is.0; there = is.1; group' = refl; opened = ltb-true 0 is.0.opens both.0 });
          way = way.0;
          leads = way.1;
        }
  ]

  by_root : (root : ℕ) → ((m : ℕ) (live : Live) → live_at p m ≡ Some live → Contains over m) → IsRoot p root → reaches p over root g ≡ true
      → stays p over g ≡ true
  unfolding stays opened_reaches
  by_root root all (inl program) e =
      or_left (reaches p over 0 g) (list_any (opened_reaches p over g) over) (ap (λ r. reaches p over r g) (sym program) ∙ e)
  by_root root all (inr o) e =
      let both : (ltb 0 o.live.opens && reaches p over o.live.group g) ≡ true =
      and_from (ltb 0 o.live.opens) (reaches p over o.live.group g) (lt-ltb 0 o.live.opens o.opened) (ap (λ r. reaches p over r g) o.group' ∙ e) in
      let opened : opened_reaches p over g o.number ≡ true =
      ap (λ l. option_map_or (λ (live : Live). ltb 0 live.opens && reaches p over live.group g) l false) o.there ∙ both in
      let c = all o.number o.live o.there in
      let any = list_any_at (opened_reaches p over g) over c.0 o.number c.1 (ap (opened_reaches p over g) c.2 ∙ opened) in
      or_right (reaches p over 0 g) (list_any (opened_reaches p over g) over) any

-- all numbers of modules and groups
numbers : List ℕ
numbers = range_with_len 0 MAX_MODULES

module _ (p : SymbolicProcess) (valid : IsValid p) where
  live_small : (m : ℕ) (live : Live) → live_at p m ≡ Some live → Contains numbers m
  unfolding numbers
  live_small m live e = in_range MAX_MODULES m (subst (λ n. m < n) valid.modules' (within_places p.modules m live e))

  held_small : (g h : ℕ) → holds p g h ≡ true → Contains numbers h
  held_small g h e =
      let is = of_holds p g h e in
      let group = grouped p is.member is.live valid is.at in
      live_small h group.founder (ap (live_at p) (sym is.of) ∙ group.at)

  stays_true : (g : ℕ) → Stays p g → stays p numbers g ≡ true
  stays_true g s = by_root p numbers g s.root live_small s.first (reached p numbers held_small s.root s.way g s.leads)

  pub decided : (g : ℕ) → Stays p g ⊎ ¬ Stays p g
  decided g = elim (cases_Bool (stays p numbers g)) [
    | inl yes' ↦ inl (told p numbers g yes')
    | inr no' ↦ inr (λ s. false≢true (sym no' ∙ stays_true g s))
  ]
