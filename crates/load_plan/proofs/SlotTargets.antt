-- The functions of the slots of new modules, by the values of their sites.
use Rattle.std.proofs.Common.{◌≡◌, ℕ, ◌+◌, ◌-◌, ◌≤◌, Result, Ok, List, [], ◌∷◌, ◌++◌, map, take, drop, length, length-append, refl, sym, ap, ◌∙◌, arith, append_assoc, All}
use Rattle.std.specs.Prelude.{unwrap_or}
use Rattle.elf_model.specs.declared.constants.TheConstants.{R_ARM_FUNCDESC_VALUE}
use Rattle.elf_model.specs.declared.object.Object.{Object}
use Rattle.elf_model.specs.declared.object.Rel.{Rel}
use Rattle.elf_model.specs.Filled.{fixup_at, site_relocations}
use Rattle.fd_base.proofs.Lists.{zip_length}
use Rattle.load_model.specs.declared.error.LoadRefusal.{LoadRefusal}
use Rattle.load_model.specs.declared.meaning.SiteValue.{SiteValue}
use Rattle.load_model.specs.Definition.{Linkage}
use Rattle.load_model.specs.Descriptors.{pair_of}
use Rattle.load_model.specs.Sites.{site_value}
use Rattle.load_image.specs.parts.Words.{FitSites, HasRoom, HasValues}
use Rattle.load_laws.proofs.SlotFunctions.{targets_by_value}
use Rattle.load_state.specs.Slots.{targets_of}
use Rattle.load_plan.specs.parts.Targets.{functions_of, targets_by}

abbrev Meant : Type 0
Meant = Result SiteValue LoadRefusal

-- the fixups as relocations, which come last
abbrev fixups_of : Object → List Rel
fixups_of o = map fixup_at (unwrap_or o.fixups [])

-- there are values for the slots
pub enough_values : (o : Object) (values : List SiteValue) → FitSites o values → length o.rels + length o.jmprels ≤ length values
enough_values o values fit =
    let same = zip_length HasRoom (site_relocations o) values fit in
    omega (arith, same, length-append (o.rels ++ o.jmprels) (fixups_of o), length-append o.rels o.jmprels)

-- the values behind the first ones are those of the sites behind the first ones
behind_first : (f : Rel → Meant) (rels rest : List Rel) (values : List SiteValue) → map f (rels ++ rest) ≡ map Ok values → map f rest ≡ map Ok (drop (length rels) values)
behind_first f [] rest values e = e
behind_first f (r ∷ rels) rest [] e = absurd (none_one (f r) (map f (rels ++ rest)) e)
  where
    none_one : (x : Meant) (xs : List Meant) → x ∷ xs ≡ [] → ⊥
    none_one x xs e = cc
behind_first f (r ∷ rels) rest (v ∷ values) e =
    let later : map f (rels ++ rest) ≡ map Ok values = cc in
    behind_first f rels rest values later

first_pairs : (f : Rel → Meant) (slots rest : List Rel) (values : List SiteValue) → map f (slots ++ rest) ≡ map Ok values
    → functions_of (take (length slots) values) ≡ map (λ r. pair_of (f r)) slots
first_pairs f [] rest values e = refl
first_pairs f (r ∷ slots) rest [] e = absurd (none_one (f r) (map f (slots ++ rest)) e)
  where
    none_one : (x : Meant) (xs : List Meant) → x ∷ xs ≡ [] → ⊥
    none_one x xs e = cc
first_pairs f (r ∷ slots) rest (v ∷ values) e =
    let here : f r ≡ Ok v = cc in
    let later : map f (slots ++ rest) ≡ map Ok values = cc in
    ap (λ (x : Meant). pair_of x ∷ functions_of (take (length slots) values)) (sym here)
    ∙ ap (λ ts. pair_of (f r) ∷ ts) (first_pairs f slots rest values later)

pub targets_same : (l : Linkage) (m : ℕ) (o : Object) (values : List SiteValue) → HasValues l m o values → All (λ r. r.kind ≡ R_ARM_FUNCDESC_VALUE) o.jmprels → targets_by o values ≡ targets_of l m o
targets_same l m o values are kinds =
    let f : Rel → Meant = site_value l m o in
    let from : ℕ = length o.rels in
    let count : (from + length o.jmprels) - from ≡ length o.jmprels = omega arith in
    let parts : map f (o.rels ++ (o.jmprels ++ fixups_of o)) ≡ map Ok values = ap (map f) (sym (append_assoc o.rels o.jmprels (fixups_of o))) ∙ are in
    ap (λ (n : ℕ). functions_of (take n (drop from values))) count
    ∙ first_pairs f o.jmprels (fixups_of o) (drop from values) (behind_first f o.rels (o.jmprels ++ fixups_of o) values parts)
    ∙ sym (targets_by_value l m o kinds)
