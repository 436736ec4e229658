-- A process without modules.
use Rattle.std.proofs.Common.{◌≡◌, ◌≢◌, ℕ, true, Option, Some, None, [], length, replicate, sym, ap, ◌∙◌, subst, arith, All}
use Rattle.std.specs.Prelude.{AllPairs}
use Rattle.std.proofs.lemmas.List.{length-replicate}
use Rattle.symbol_scope.specs.declared.tables.TheConstants.{MAX_MODULES}
use Rattle.load_model.specs.declared.module.Group.{Group}
use Rattle.load_model.specs.declared.module.Live.{Live}
use Rattle.load_model.specs.declared.module.SymbolicProcess.{SymbolicProcess}
use Rattle.load_model.specs.Process.{live_at, group_at, is_live}
use Rattle.load_model.specs.Validity.{IsValid}
use Rattle.load_process.proofs.NumberedPlaces.{at_place, at_place-none}

pub empty_valid : (p : SymbolicProcess) → p.modules ≡ replicate MAX_MODULES None → p.groups ≡ replicate MAX_MODULES None → p.global ≡ [] → IsValid p
empty_valid p modules groups global = record {
  modules' = ap length modules ∙ length-replicate {A = Option Live} MAX_MODULES None;
  groups' = ap length groups ∙ length-replicate {A = Option Group} MAX_MODULES None;
  names = λ m n a b e f same. absurd (nobody m a e);
  members = λ m live e. absurd (nobody m live e);
  scopes = λ g group e. absurd (no_group g group e);
  global' = subst (All (λ n. is_live p n ≡ true)) (sym global) (λ k d lt. absurd (omega arith));
  once = subst (AllPairs (λ m n. m ≢ n)) (sym global) (λ i j d lt within. absurd (omega arith));
}
  where
    nobody : (m : ℕ) (live : Live) → live_at p m ≡ Some live → ⊥
    nobody m live e =
        let none : live_at p m ≡ None = ap (λ places. at_place places m) modules ∙ at_place-none MAX_MODULES m in
        cc

    no_group : (g : ℕ) (group : Group) → group_at p g ≡ Some group → ⊥
    no_group g group e =
        let none : group_at p g ≡ None = ap (λ places. at_place places g) groups ∙ at_place-none MAX_MODULES g in
        cc
