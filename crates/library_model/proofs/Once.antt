-- An open over told files leads to one process and one handle, and a close to one process.
use Rattle.std.proofs.Common.{◌≡◌, ℕ, List, Some, sym, ap, ◌∙◌}
use Rattle.std.specs.Cmp.{both_ways}
use Rattle.std.proofs.Math.Path.{fun_ext}
use Rattle.fd_base.proofs.Options.{one_value}
use Rattle.fd_base.specs.Fetched.{Files}
use Rattle.load_model.specs.declared.module.Joining.{Joining}
use Rattle.load_model.specs.declared.module.SymbolicProcess.{SymbolicProcess}
use Rattle.load_model.specs.Joined.{global_after, process_after}
use Rattle.load_model.specs.Linkage.{closure_of, scope_with}
use Rattle.load_model.specs.Walk.{number_among}
use Rattle.load_process.proofs.WalksDetermined.{walks_are_determined}
use Rattle.load_removal.specs.Going.{ModuleSet, process_without}
use Rattle.load_state.specs.Accepted.{IsScoped}
use Rattle.library_model.specs.Closes.{AreLeft, opened_once_less}
use Rattle.library_model.specs.Opens.{opened_once_more}
use Rattle.library_model.specs.parts.Laws.{ClosesAreDetermined, OpensAreDetermined}

-- ---- opens

scoped_once : (p : SymbolicProcess) (told : Files) (root : List ℕ) (js ks : List Joining) (s t : List ℕ)
    → IsScoped p (Some told) root js s → IsScoped p (Some told) root ks t → (js ≡ ks) × (s ≡ t)
scoped_once p told root js ks s t a b =
    let same = walks_are_determined.same_walk p told root js ks a.names b.names a.walk b.walk in (
      same.0,
      a.scope'
          ∙ ap (λ (x : List Joining). scope_with p (closure_of p x a.names)) same.0
          ∙ ap (λ (names : List (List ℕ)). scope_with p (closure_of p ks names)) same.1
          ∙ sym b.scope',
    )

pub opens_once : OpensAreDetermined
opens_once p told root asked h k a b x y =
    let same = scoped_once p told root x.joining y.joining x.scope y.scope x.scoped y.scoped in
    let handles : h ≡ k = one_value (number_among p y.joining root) h k (ap (λ js. number_among p js root) (sym same.0) ∙ x.handle') y.handle' in
    let new : List Joining → List ℕ → ℕ → SymbolicProcess =
    λ js s n. opened_once_more (process_after p asked.lazy js s (global_after p asked.global s)) n in
    record {
      handle = handles;
      process = x.after ∙ ap (λ js. new js x.scope h) same.0 ∙ ap (λ s. new y.joining s h) same.1 ∙ ap (new y.joining y.scope) handles ∙ sym y.after;
    }

-- ---- closes

-- two sets of the modules that nothing holds are one
left_once : (p : SymbolicProcess) (gone others : ModuleSet) → AreLeft p gone → AreLeft p others → (m : ℕ) → gone m ≡ others m
left_once p gone others a b m = both_ways (gone m) (others m) (λ e. (b m).1 ((a m).0 e)) (λ e. (a m).1 ((b m).0 e))

pub closes_once : ClosesAreDetermined
closes_once p m gone others a b x y =
    let same = left_once (opened_once_less p m) gone others x.gone' y.gone' in
    record {
      gone' = same;
      process = x.after ∙ ap (λ set. process_without set (opened_once_less p m)) (fun_ext same) ∙ sym y.after;
    }
