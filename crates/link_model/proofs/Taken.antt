-- The definition that is taken of the symbols of a name is one of them.
use Rattle.std.proofs.Common.{◌≡◌, Bool, ◌&&◌, List, Option, Some, None}
use Rattle.std.specs.Prelude.{◌==◌, Contains, filter}
use Rattle.std.specs.Option.{option_or}
use Rattle.fd_base.proofs.Members.{contains_at, in_filter}
use Rattle.elf_model.specs.declared.constants.TheConstants.{STB_GLOBAL, STB_WEAK}
use Rattle.link_model.specs.Inputs.{InputSymbol}
use Rattle.link_model.specs.Joined.{commons_of, definition_taken, definitions_of, defines, first_of, is_common}

pub taken_in : (xs : List InputSymbol) (x : InputSymbol) → definition_taken xs ≡ Some x → Contains xs x
taken_in xs x is =
    from (first_of (definitions_of STB_GLOBAL xs)) (first_of (commons_of xs)) (first_of (definitions_of STB_WEAK xs))
    (among (λ y. defines (y.symbol).place && (y.symbol).binding == STB_GLOBAL)) (among (λ y. is_common (y.symbol).place))
    (among (λ y. defines (y.symbol).place && (y.symbol).binding == STB_WEAK)) is
  where
    among : (p : InputSymbol → Bool) → first_of (filter p xs) ≡ Some x → Contains xs x
    among p e = (in_filter p xs x (contains_at (filter p xs) 0 x e)).0

    from : (a b c : Option InputSymbol) → (a ≡ Some x → Contains xs x) → (b ≡ Some x → Contains xs x) → (c ≡ Some x → Contains xs x)
        → option_or a (option_or b c) ≡ Some x → Contains xs x
    from (Some y) b c f g h e = f e
    from None (Some y) c f g h e = g e
    from None None c f g h e = h e
