-- The values of each new module's sites, and the flags of its slots.
use Rattle.std.proofs.Common.{◌≡◌, ℕ, zero, suc, ◌<◌, Bool, List, [], ◌∷◌, length, get_or, ap, ◌∙◌, arith}
use Rattle.std.proofs.lemmas.List.{get_or-map}
use Rattle.load_model.specs.declared.meaning.SiteValue.{SiteValue}
use Rattle.load_model.specs.declared.module.Joining.{Joining}
use Rattle.load_model.specs.Definition.{Linkage}
use Rattle.load_model.specs.Joined.{flags_of}
use Rattle.load_model.specs.Unbound.{unbound_at_first}
use Rattle.load_sites.specs.parts.Values.{IsValues}
use Rattle.load_image.specs.parts.Words.{HasValues}

pub values_at : (l : Linkage) (joining : List Joining) (values : List (List SiteValue)) (i : ℕ) (j : Joining) (v : List SiteValue)
    → IsValues l joining values → i < length joining → HasValues l (get_or joining i j).number (get_or joining i j).object (get_or values i v)
values_at l [] values i j v all lt = absurd (omega arith)
values_at l (x ∷ xs) [] i j v all lt = absurd all
values_at l (x ∷ xs) (y ∷ ys) zero j v all lt = all.0
values_at l (x ∷ xs) (y ∷ ys) (suc i) j v all lt = values_at l xs ys i j v all.1 (omega arith)

-- the flags of each new module's slots
pub flags_at : (lazy : Bool) (joining : List Joining) (flags : List (List Bool)) (i : ℕ) (j : Joining) (own : List Bool)
    → flags ≡ flags_of lazy joining → i < length joining → get_or flags i own ≡ unbound_at_first lazy (get_or joining i j).object
flags_at lazy joining flags i j own all lt =
    ap (λ xs. get_or xs i own) all ∙ get_or-map (λ (x : Joining). unbound_at_first lazy x.object) joining i j own lt
