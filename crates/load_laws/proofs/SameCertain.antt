-- What can't differ is the same.
use Rattle.std.proofs.Common.{◌≡◌, ◌≢◌, inl, inr, ℕ, Bool, true, false, Option, Some, None, refl}
use Rattle.std.proofs.lemmas.Bool.{cases_eq}
use Rattle.guest_mem.specs.declared.kind.MemKind.{MemKind}
use Rattle.guest_mem.specs.declared.kind.MemKind.TheVariants.{Code, Data, Fixed}

pub one_number : (m n : ℕ) → ¬ (m ≢ n) → m ≡ n
one_number m n h = elim (cases_eq m n) [ inl same ↦ same | inr differ ↦ absurd (h differ) ]

pub one_bool : (b c : Bool) → ¬ (b ≢ c) → b ≡ c
one_bool true true h = refl
one_bool true false h = absurd (h (λ e. cc))
one_bool false true h = absurd (h (λ e. cc))
one_bool false false h = refl

pub one_kind : (k j : Option MemKind) → ¬ (k ≢ j) → k ≡ j
one_kind None None h = refl
one_kind None (Some j) h = absurd (h (λ e. cc))
one_kind (Some k) None h = absurd (h (λ e. cc))
one_kind (Some Code) (Some Code) h = refl
one_kind (Some Code) (Some Data) h = absurd (h (λ e. cc))
one_kind (Some Code) (Some Fixed) h = absurd (h (λ e. cc))
one_kind (Some Data) (Some Code) h = absurd (h (λ e. cc))
one_kind (Some Data) (Some Data) h = refl
one_kind (Some Data) (Some Fixed) h = absurd (h (λ e. cc))
one_kind (Some Fixed) (Some Code) h = absurd (h (λ e. cc))
one_kind (Some Fixed) (Some Data) h = absurd (h (λ e. cc))
one_kind (Some Fixed) (Some Fixed) h = refl

-- a test that never passes fails
pub never_passes : (b : Bool) → ¬ (b ≡ true) → b ≡ false
never_passes true h = absurd (h refl)
never_passes false h = refl
