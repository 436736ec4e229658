-- How the bytes of a sink grow, by one piece after another.
use Rattle.std.proofs.Common.{◌≡◌, ℕ, Option, Some, None, List, [], ◌++◌, refl, sym, ap, ◌∙◌, append-nil, append_assoc}
use Rattle.std.specs.Option.{option_map}
use Rattle.fd_base.specs.Grown.{Grew, GrewByPart}

-- to stay is to grow by nothing
pub grew_nothing : (old new : Option (List ℕ)) → new ≡ old → Grew old new []
grew_nothing None new e = e
grew_nothing (Some x) new e = e ∙ ap Some (sym (append-nil x))

-- to grow by nothing is to stay
pub stays_at_nothing : (old new : Option (List ℕ)) → Grew old new [] → new ≡ old
stays_at_nothing None new e = e
stays_at_nothing (Some x) new e = e ∙ ap Some (append-nil x)

-- to stay is to grow by no part
pub grew_no_part : (old new : Option (List ℕ)) (piece : List ℕ) → new ≡ old → GrewByPart old new piece
grew_no_part old new piece e = record { part = []; rest = piece; prefix = refl; grew = grew_nothing old new e }

-- the whole is a part
pub grew_whole : (old new : Option (List ℕ)) (piece : List ℕ) → Grew old new piece → GrewByPart old new piece
grew_whole old new piece e = record { part = piece; rest = []; prefix = sym (append-nil piece); grew = e }

-- a piece, and then another
pub grew_more : (old mid new : Option (List ℕ)) (a b : List ℕ) → Grew old mid a → Grew mid new b → Grew old new (a ++ b)
grew_more None mid new a b e f = f ∙ ap (λ m. option_map (λ x. x ++ b) m) e
grew_more (Some x) mid new a b e f = f ∙ ap (λ m. option_map (λ x. x ++ b) m) e ∙ ap Some (append_assoc x a b)

-- a piece, and then part of another
pub grew_more_part : (old mid new : Option (List ℕ)) (a b rest : List ℕ) → Grew old mid a → GrewByPart mid new b → GrewByPart old new (a ++ (b ++ rest))
grew_more_part old mid new a b rest e f = record {
  part = a ++ f.part;
  rest = f.rest ++ rest;
  prefix = ap (λ p. a ++ (p ++ rest)) f.prefix ∙ ap (λ p. a ++ p) (append_assoc f.part f.rest rest) ∙ sym (append_assoc a f.part (f.rest ++ rest));
  grew = grew_more old mid new a f.part e f.grew;
}
