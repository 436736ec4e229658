-- The functions of slots, by the values at their sites.
use Rattle.std.proofs.Common.{◌≡◌, ℕ, get_or, Option, Result, Ok, Err, refl, sym, ap, ◌∙◌, map, All}
use Rattle.elf_model.specs.declared.constants.TheConstants.{R_ARM_FUNCDESC_VALUE}
use Rattle.elf_model.specs.declared.func.Func.{Func}
use Rattle.elf_model.specs.declared.object.Object.{Object}
use Rattle.elf_model.specs.declared.object.Rel.{Rel}
use Rattle.fd_base.proofs.Lists.{map_agree}
use Rattle.load_model.specs.declared.error.LoadRefusal.{LoadRefusal}
use Rattle.load_model.specs.declared.meaning.SiteValue.TheVariants.{Pair}
use Rattle.load_model.specs.Definition.{Linkage}
use Rattle.load_model.specs.Descriptors.{pair_of}
use Rattle.load_model.specs.Sites.{function_at, site_value, written}
use Rattle.load_state.specs.Slots.{function_or_none, slot_function, targets_of}

-- what is written at a slot is a pair of its function
pub pair_value : (l : Linkage) (m : ℕ) (o : Object) (r : Rel) → r.kind ≡ R_ARM_FUNCDESC_VALUE → site_value l m o r ≡ written Pair (function_at l m o r)
unfolding site_value
pair_value l m o r kind = rw kind refl

pair_function : (x : Result (Option Func) LoadRefusal) → pair_of (written Pair x) ≡ function_or_none x
pair_function (Ok f) = refl
pair_function (Err e) = refl

-- so it tells the function
pub slot_by_value : (l : Linkage) (m : ℕ) (o : Object) (r : Rel) → r.kind ≡ R_ARM_FUNCDESC_VALUE → slot_function l m o r ≡ pair_of (site_value l m o r)
slot_by_value l m o r kind = sym (ap pair_of (pair_value l m o r kind) ∙ pair_function (function_at l m o r))

pub targets_by_value : (l : Linkage) (m : ℕ) (o : Object) → All (λ r. r.kind ≡ R_ARM_FUNCDESC_VALUE) o.jmprels → targets_of l m o ≡ map (λ r. pair_of (site_value l m o r)) o.jmprels
targets_by_value l m o kinds =
    map_agree (slot_function l m o) (λ (r : Rel). pair_of (site_value l m o r)) o.jmprels (λ k d lt. slot_by_value l m o (get_or o.jmprels k d) (kinds k d lt))

-- where all sites mean the same, all slots lead to the same
pub targets_stay : (l k : Linkage) (m : ℕ) (o : Object) → All (λ r. r.kind ≡ R_ARM_FUNCDESC_VALUE) o.jmprels → ((r : Rel) → site_value k m o r ≡ site_value l m o r) → targets_of k m o ≡ targets_of l m o
targets_stay l k m o kinds same =
    map_agree (slot_function k m o) (slot_function l m o) o.jmprels
    (λ i d lt.
    let r : Rel = get_or o.jmprels i d in
    slot_by_value k m o r (kinds i d lt) ∙ ap pair_of (same r) ∙ sym (slot_by_value l m o r (kinds i d lt)))
