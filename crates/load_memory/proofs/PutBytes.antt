-- Bytes put one after another.
use Rattle.std.proofs.Common.{◌≡◌, ◌⊎◌, inl, inr, ℕ, ◌+◌, ◌*◌, ◌<◌, ◌≤◌, List, [], ◌∷◌, ◌++◌, length, set, refl, ap, sym, subst, ◌∙◌, arith}
use Rattle.std.specs.Prelude.{replicate}
use Rattle.std.proofs.lemmas.List.{length-replicate, get_or-replicate}
use Rattle.guest_mem.specs.parts.Kept.{SameMap}
use Rattle.guest_mem.specs.Memory.{GuestMemory, byte_at}
use Rattle.guest_mem.specs.Accesses.{with_bytes}
use Rattle.guest_mem.specs.Ranges.{pasted}
use Rattle.guest_mem.proofs.Pasted.{length-pasted, get_or-pasted_other, get_or-pasted_there}
use Rattle.load_model.specs.Layout.{HasBytes, IsBlank, bytes_of_words}

pub pasted-append : (xs ys zs : List ℕ) (a : ℕ) → pasted (pasted xs a ys) (a + length ys) zs ≡ pasted xs a (ys ++ zs)
pasted-append xs [] zs a = ap (λ k. pasted xs k zs) (omega arith)
pasted-append xs (y ∷ ys) zs a =
    let e : a + length (y ∷ ys) ≡ a + 1 + length ys = omega arith in
    ap (λ k. pasted (pasted (set xs a y) (a + 1) ys) k zs) e ∙ pasted-append (set xs a y) ys zs (a + 1)

-- bytes behind others
pub with_bytes-append : (m : GuestMemory) (ys zs : List ℕ) (a b : ℕ) → b ≡ a + length ys → with_bytes (with_bytes m a ys) b zs ≡ with_bytes m a (ys ++ zs)
with_bytes-append m ys zs a b e =
    ap (λ k. record m { bytes = pasted (pasted m.bytes a ys) k zs }) e ∙ ap (λ (bs : List ℕ). record m { bytes = bs }) (pasted-append m.bytes ys zs a)

-- what was put stands there
pub HasBytes-put : (m : GuestMemory) (a : ℕ) (bytes : List ℕ) → a + length bytes ≤ length m.bytes → HasBytes (with_bytes m a bytes) a bytes
HasBytes-put m a bytes h = λ i l. get_or-pasted_there m.bytes bytes a i 0 h l

pub length-bytes_of_words : (words : List ℕ) → length (bytes_of_words words) ≡ 4 * length words
length-bytes_of_words [] = refl
length-bytes_of_words (w ∷ ws) = let rest = length-bytes_of_words ws in omega arith

-- what stands apart from what is put
pub HasBytes-other : (m : GuestMemory) (b : ℕ) (ys : List ℕ) (a : ℕ) (xs : List ℕ) → (a + length xs ≤ b) ⊎ (b + length ys ≤ a) → HasBytes m a xs → HasBytes (with_bytes m b ys) a xs
HasBytes-other m b ys a xs (inl before) h = λ i l. get_or-pasted_other m.bytes ys b (a + i) 0 (inl (omega arith)) ∙ h i l
HasBytes-other m b ys a xs (inr after) h = λ i l. get_or-pasted_other m.bytes ys b (a + i) 0 (inr (omega arith)) ∙ h i l

pub byte_at-other : (m : GuestMemory) (b : ℕ) (ys : List ℕ) (a : ℕ) → (a < b) ⊎ (b + length ys ≤ a) → byte_at (with_bytes m b ys) a ≡ byte_at m a
byte_at-other m b ys a out = get_or-pasted_other m.bytes ys b a 0 out

pub SameMap-put : (m : GuestMemory) (a : ℕ) (xs : List ℕ) → SameMap m (with_bytes m a xs)
SameMap-put m a xs = record { kinds = refl; marks = refl; size = length-pasted m.bytes xs a }

-- bytes and zeros behind them
module _ (m n w : GuestMemory) (a b : ℕ) (xs : List ℕ) (len : ℕ) (put : n ≡ with_bytes m a xs) (clear : w ≡ with_bytes n b (replicate len 0)) (behind : b ≡ a + length xs) where
  size : length n.bytes ≡ length m.bytes
  size = ap (λ (x : GuestMemory). length x.bytes) put ∙ length-pasted m.bytes xs a

  zeros : length {A = ℕ} (replicate len 0) ≡ len
  zeros = length-replicate len 0

  pub put_clear-bytes : a + length xs ≤ length m.bytes → HasBytes w a xs
  put_clear-bytes h =
      subst (λ (x : GuestMemory). HasBytes x a xs) (sym clear)
      (HasBytes-other n b (replicate len 0) a xs (inl (omega arith)) (subst (λ (x : GuestMemory). HasBytes x a xs) (sym put) (HasBytes-put m a xs h)))

  pub put_clear-zeros : b + len ≤ length m.bytes → IsBlank w b len
  put_clear-zeros h =
      let same : length n.bytes ≡ length m.bytes = size in
      let long : length {A = ℕ} (replicate len 0) ≡ len = zeros in
      λ i l. ap (λ (x : GuestMemory). byte_at x (b + i)) clear ∙ get_or-pasted_there n.bytes (replicate len 0) b i 0 (omega arith) (omega arith) ∙ get_or-replicate len i 0 0 l

  pub put_clear-rest : (k : ℕ) → (k < a) ⊎ (b + len ≤ k) → byte_at w k ≡ byte_at m k
  put_clear-rest k out =
      let long : length {A = ℕ} (replicate len 0) ≡ len = zeros in
      ap (λ (x : GuestMemory). byte_at x k) clear ∙ byte_at-other n b (replicate len 0) k (elim out [ inl l ↦ inl (omega arith) | inr l ↦ inr (omega arith) ])
      ∙ ap (λ (x : GuestMemory). byte_at x k) put ∙ byte_at-other m a xs k (elim out [ inl l ↦ inl l | inr l ↦ inr (omega arith) ])

  pub put_clear-map : SameMap m w
  put_clear-map = record {
    kinds = ap (λ (x : GuestMemory). x.kinds) clear ∙ ap (λ (x : GuestMemory). x.kinds) put;
    marks = ap (λ (x : GuestMemory). x.marks) clear ∙ ap (λ (x : GuestMemory). x.marks) put;
    size = ap (λ (x : GuestMemory). length x.bytes) clear ∙ length-pasted n.bytes (replicate len 0) b ∙ size;
  }
