-- The places of modules that a load leaves.
use Rattle.std.proofs.Common.{◌≡◌, ◌≢◌, ℕ, true, List, Option, None, ap, ◌∙◌}
use Rattle.std.specs.Prelude.{is_some}
use Rattle.std.specs.Option.{option_map_or}
use Rattle.load_map.specs.declared.entry.MapEntry.{MapEntry}
use Rattle.elf_model.specs.declared.func.Func.{Func}
use Rattle.load_model.specs.Definition.{Linkage}
use Rattle.load_model.specs.Image.{Placing, place_of, got_of}
use Rattle.load_map.specs.Translation.{placed}

-- two placings of the modules that a linkage has and of the functions that have a descriptor
pub record PlacesAlike (l : Linkage) (p q : Placing) : Type 0 where
  pub maps' : (m : ℕ) → is_some (l.objects m) ≡ true → q.maps m ≡ p.maps m
  pub gots' : (m : ℕ) → is_some (l.objects m) ≡ true → q.gots m ≡ p.gots m
  pub descriptors' : (f : Func) → p.descriptors f ≢ None → q.descriptors f ≡ p.descriptors f

pub same_place : (l : Linkage) (p q : Placing) (f : Func) → PlacesAlike l p q → is_some (l.objects f.module) ≡ true → place_of q f ≡ place_of p f
same_place l p q f alike here = ap (λ (es : List MapEntry). placed es f.value) (alike.maps' f.module here)

pub same_got : (l : Linkage) (p q : Placing) (m : ℕ) → PlacesAlike l p q → is_some (l.objects m) ≡ true → got_of q m ≡ got_of p m
same_got l p q m alike here =
    ap (λ (es : List MapEntry). option_map_or (placed es) (q.gots m) 0) (alike.maps' m here)
    ∙ ap (λ (got : Option ℕ). option_map_or (placed (p.maps m)) got 0) (alike.gots' m here)
