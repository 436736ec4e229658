-- The sites of a module that stays mean what they did, and name only modules that stay.
use Rattle.std.proofs.Common.{◌≡◌, ℕ, inl, inr, true, false, Some, Ok, refl, ap, ◌∙◌}
use Rattle.fd_base.proofs.Members.{all_contained}
use Rattle.elf_model.specs.declared.func.Func.{Func}
use Rattle.elf_model.specs.declared.object.Object.{Object}
use Rattle.elf_model.specs.declared.object.Rel.{Rel}
use Rattle.load_model.specs.declared.meaning.SiteValue.TheVariants.{Descriptor}
use Rattle.load_model.specs.declared.module.SymbolicProcess.{SymbolicProcess}
use Rattle.load_model.specs.Linkage.{linkage_of}
use Rattle.load_model.specs.Process.{group_scope, is_live, object_at}
use Rattle.load_model.specs.Sites.{site_value}
use Rattle.load_sites.specs.parts.Laws.{AgreeFor, IsNear, MeanTheSame}
use Rattle.load_sites.proofs.LookUpsAgree.{mean_the_same}
use Rattle.load_sites.proofs.NearNames.{names_near}
use Rattle.load_removal.specs.Going.{ModuleSet, MayGo, process_without}
use Rattle.load_removal.proofs.StayingModules.{object_stays, scope_stays}

module _ (gone : ModuleSet) (p q : SymbolicProcess) (is : q ≡ process_without gone p) (may : MayGo p gone) where
  pub agree : (m : ℕ) → gone m ≡ false → is_live p m ≡ true → AgreeFor (linkage_of p) (linkage_of q) m
  agree m stays here = record {
    scopes = scope_stays gone p q is m may stays here;
    own = object_stays gone p q is m stays;
    members = all_contained (λ n. object_at q n ≡ object_at p n) (group_scope p m) (λ n there. object_stays gone p q is n (may.alone m n here stays there));
  }

  pub means : (m : ℕ) (o : Object) → gone m ≡ false → is_live p m ≡ true → MeanTheSame (linkage_of p) (linkage_of q) m o
  means m o stays here = mean_the_same (linkage_of p) (linkage_of q) m o (agree m stays here)

  pub near_stays : (m n : ℕ) → gone m ≡ false → is_live p m ≡ true → IsNear (linkage_of p) m n → gone n ≡ false
  near_stays m n stays here near =
      elim near [
        | inl same ↦ ap gone same ∙ stays
        | inr there ↦ may.alone m n here stays there
      ]

  -- the module of a function whose descriptor is asked for
  pub function_stays : (m : ℕ) (o : Object) (r : Rel) (f : Func) → gone m ≡ false → is_live p m ≡ true
      → site_value (linkage_of p) m o r ≡ Ok (Descriptor (Some f)) → gone f.module ≡ false
  function_stays m o r f stays here asks = near_stays m f.module stays here (names_near (linkage_of p) m o r (Descriptor (Some f)) f asks refl)
