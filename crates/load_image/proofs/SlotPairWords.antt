-- The two words of a slot, bound or not.
use Rattle.std.proofs.Common.{◌≡◌, ℕ, Bool, true, false, cond, Option, Some, None, refl, ◌∙◌}
use Rattle.std.specs.Option.{option_map_or}
use Rattle.elf_model.specs.declared.func.Func.{Func}
use Rattle.elf_model.specs.declared.object.Object.{Object}
use Rattle.elf_model.specs.declared.object.Rel.{Rel}
use Rattle.load_model.specs.declared.meaning.SiteValue.TheVariants.{Pair}
use Rattle.load_model.specs.Image.{Placing, got_of, pair_at, pair_words, place_of, value_words}
use Rattle.load_model.specs.Unbound.{stub_of, stub_or}

pair_words_are : (p : Placing) (site : ℕ) (f : Option Func) → pair_words p site f ≡ pair_at site (option_map_or (place_of p) f 0) (option_map_or (λ (g : Func). got_of p g.module) f 0)
pair_words_are p site None = refl
pair_words_are p site (Some f) = refl

stands : (p : Placing) (m : ℕ) (o : Object) (r : Rel) (b : Bool) (f : Option Func) → value_words p m o r (stub_or b o r (Pair f)) ≡ pair_words p r.site (cond b (Some (stub_of m o r)) f)
stands p m o r true f = refl
stands p m o r false f = refl

-- a slot that is for a function, while it is unbound or not
pub pair_now : (p : Placing) (m : ℕ) (o : Object) (r : Rel) (b : Bool) (f : Option Func)
    → value_words p m o r (stub_or b o r (Pair f))
    ≡ pair_at r.site (option_map_or (place_of p) (cond b (Some (stub_of m o r)) f) 0) (option_map_or (λ (g : Func). got_of p g.module) (cond b (Some (stub_of m o r)) f) 0)
pair_now p m o r b f = stands p m o r b f ∙ pair_words_are p r.site (cond b (Some (stub_of m o r)) f)
