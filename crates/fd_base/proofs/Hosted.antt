-- Reads and writes of known bytes, one after another.
use Rattle.std.proofs.Common.{◌≡◌, ℕ, ◌+◌, ◌-◌, ◌<◌, Option, Some, None, List, [], ◌++◌, length, take, drop, refl, sym, ap, ◌∙◌, append_assoc, append-nil, arith}
use Rattle.std.specs.Option.{IfSome}
use Rattle.std.specs.Io.KnownBytes.{Appends, Consumes, IsAtEnd}
use Rattle.std.proofs.lemmas.List.{length-append, take-append-drop, take-take, drop-take, take_rest}

-- nothing is written at first
pub appends_nothing : (known : Option (List ℕ)) → Appends known known []
appends_nothing None = tt
appends_nothing (Some x) = sym (append-nil x)

-- nothing is read at first
pub consumes_nothing : (known : Option (List ℕ)) → Consumes known known []
consumes_nothing None = tt
consumes_nothing (Some x) = refl

-- bytes, and then more of them
pub appends_more : (old mid new : Option (List ℕ)) (a b c : List ℕ) → Appends old mid a → Appends mid new b → c ≡ a ++ b → Appends old new c
appends_more None mid new a b c p q e = tt
appends_more (Some x) None new a b c p q e = absurd p
appends_more (Some x) (Some y) None a b c p q e = absurd q
appends_more (Some x) (Some y) (Some z) a b c p q e = q ∙ ap (λ t. t ++ b) p ∙ append_assoc x a b ∙ ap (λ t. x ++ t) (sym e)

pub consumes_more : (old mid new : Option (List ℕ)) (a b : List ℕ) → Consumes old mid a → Consumes mid new b → Consumes old new (a ++ b)
consumes_more None mid new a b p q = tt
consumes_more (Some x) None new a b p q = absurd p
consumes_more (Some x) (Some y) None a b p q = absurd q
consumes_more (Some x) (Some y) (Some z) a b p q = p ∙ ap (λ t. a ++ t) q ∙ sym (append_assoc a b z)

-- at the end all was read
pub consumed_all : (old new : Option (List ℕ)) (bytes : List ℕ) → Consumes old new bytes → IsAtEnd new → IfSome old (λ all. bytes ≡ all)
consumed_all None new bytes p end = tt
consumed_all (Some x) None bytes p end = absurd p
consumed_all (Some x) (Some y) bytes p end = sym (p ∙ ap (λ t. bytes ++ t) end ∙ append-nil bytes)

-- a part that was read is no longer than the whole
pub consumed_some : (old new : Option (List ℕ)) (bytes : List ℕ) (n : ℕ) → Consumes old new bytes → n < length bytes → IfSome old (λ all. n < length all)
consumed_some None new bytes n p lt = tt
consumed_some (Some x) None bytes n p lt = absurd p
consumed_some (Some x) (Some y) bytes n p lt = let e = ap length p ∙ length-append bytes y in omega arith

take_two : (at n : ℕ) (bytes : List ℕ) → take (at + n) bytes ≡ take at bytes ++ take n (drop at bytes)
take_two at n bytes =
    sym (take-append-drop at (take (at + n) bytes)) ∙ ap (λ t. t ++ drop at (take (at + n) bytes)) (take-take at (at + n) bytes (omega arith)) ∙ ap (λ t. take at bytes ++ t) (drop-take at n bytes)

-- the first bytes are written, and then n of the rest
pub written_more : (old mid new : Option (List ℕ)) (bytes : List ℕ) (at n : ℕ)
    → Appends old mid (take at bytes) → Appends mid new (take n (take (length bytes - at) (drop at bytes))) → Appends old new (take (at + n) bytes)
written_more old mid new bytes at n p q = appends_more old mid new (take at bytes) (take n (drop at bytes)) (take (at + n) bytes) p (rw take_rest at q) (take_two at n bytes)
