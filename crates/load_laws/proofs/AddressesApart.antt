-- Addresses that meet nothing.
use Rattle.std.proofs.Common.{◌≢◌, inl, inr, List, [], ◌∷◌, Option, Some, None, sym, subst, ◌∙◌}
use Rattle.std.specs.Prelude.{Contains}
use Rattle.std.proofs.lemmas.List.Elements.{All-contains}
use Rattle.placement.specs.declared.item.Held.{Held}
use Rattle.placement.specs.Legal.{Apart}
use Rattle.placement.specs.Space.{AreApart}
use Rattle.fd_base.proofs.Members.{nothing_in, first_or_later}

-- two ranges among those that meet nowhere
pub apart_two : (held : List Held) (r q : Held) → AreApart held → Contains held r → Contains held q → r ≢ q → Apart r.start r.len q
apart_two [] r q apart here there differ = absurd (nothing_in r here)
apart_two (first ∷ held) r q apart here there differ =
    elim (first_or_later first r held here) [
      | inl is ↦
          elim (first_or_later first q held there) [
            | inl also ↦ absurd (differ (sym is ∙ also))
            | inr later ↦ subst (λ (x : Held). Apart x.start x.len q) is (All-contains (Apart first.start first.len) held q apart.0 later)
          ]
      | inr behind ↦
          elim (first_or_later first q held there) [
            | inl also ↦ subst (λ (x : Held). Apart r.start r.len x) also (turned first r (All-contains (Apart first.start first.len) held r apart.0 behind))
            | inr later ↦ apart_two held r q apart.1 behind later differ
          ]
    ]
  where
    turned : (x y : Held) → Apart x.start x.len y → Apart y.start y.len x
    turned x y off = elim off [ inl h ↦ inr h | inr h ↦ inl h ]

abbrev pub unwrapped : {X : Type 0} → X → Option X → X
unwrapped d None = d
unwrapped d (Some z) = z
