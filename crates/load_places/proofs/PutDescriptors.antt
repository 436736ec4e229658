-- Descriptors put one after another.
use Rattle.std.proofs.Common.{◌≡◌, inl, inr, ℕ, ◌+◌, ◌≤◌, false, List, [], ◌∷◌, ◌++◌, length, refl, ap, sym, subst, ◌∙◌, arith}
use Rattle.std.specs.Prelude.{Contains, option_map}
use Rattle.std.specs.Option.{option_map_or}
use Rattle.std.proofs.lemmas.List.Elements.{Contains-append_left, Contains-push, Contains-push_cases}
use Rattle.load_map.specs.declared.entry.MapEntry.{MapEntry}
use Rattle.elf_model.specs.declared.func.Func.{Func}
use Rattle.guest_mem.specs.Accesses.{with_bytes}
use Rattle.guest_mem.specs.parts.Kept.{SameMap}
use Rattle.guest_mem.specs.Memory.{GuestMemory, byte_at}
use Rattle.load_memory.proofs.PutBytes.{HasBytes-put, HasBytes-other, SameMap-put, byte_at-other}
use Rattle.fd_base.proofs.Ranges.{outside}
use Rattle.load_model.specs.declared.module.SymbolicProcess.{SymbolicProcess}
use Rattle.load_map.specs.Maps.{map_at}
use Rattle.load_map.specs.Translation.{placed}
use Rattle.load_model.specs.Layout.{HasPair, bytes_of_words}
use Rattle.fd_base.specs.Ranges.{is_in}
use Rattle.load_model.specs.Process.{object_at}
use Rattle.load_places.specs.parts.Descriptors.{DescriptorsApart, HasDescriptorsPut}

module _ (p : SymbolicProcess) (maps : List (List MapEntry)) where
  -- the two words of a function's descriptor
  abbrev pub code_of : Func → ℕ
  code_of f = placed (map_at maps f.module) f.value

  abbrev pub got_for : Func → ℕ
  got_for f = option_map_or (placed (map_at maps f.module)) (option_map (λ o. o.got) (object_at p f.module)) 0

  pub put_none : (m : GuestMemory) → HasDescriptorsPut p maps [] m m
  put_none m = record {
    pairs = λ addrs f a listed. absurd (omega (arith, listed.1));
    stays = λ a off. refl;
    map = record { kinds = refl; marks = refl; size = refl };
  }

  module _ (given : List (Func × ℕ)) (f : Func) (a : ℕ) (old mid new : GuestMemory) (apart : (g : Func) (b : ℕ) → Contains given (g, b) → DescriptorsApart (g, b) (f, a))
      (inside : a + 8 ≤ length old.bytes) (put : new ≡ with_bytes mid a (bytes_of_words (code_of f ∷ got_for f ∷ []))) (done : HasDescriptorsPut p maps given old mid) where
    same_pair : (g : Func) (b : ℕ) → ◌≡◌ {A = Func × ℕ} (f, a) (g, b) → HasPair new b (code_of g) (got_for g)
    same_pair g b same =
        subst (λ (e : Func × ℕ). HasPair new e.1 (code_of e.0) (got_for e.0)) same
        (subst (λ (m : GuestMemory). HasPair m a (code_of f) (got_for f)) (sym put)
        (HasBytes-put mid a (bytes_of_words (code_of f ∷ got_for f ∷ [])) (let size : length mid.bytes ≡ length old.bytes = done.map.size in omega arith)))

    other_pair : (g : Func) (b : ℕ) → Contains given (g, b) → HasPair mid b (code_of g) (got_for g) → HasPair new b (code_of g) (got_for g)
    other_pair g b listed was =
        subst (λ (m : GuestMemory). HasPair m b (code_of g) (got_for g)) (sym put)
        (HasBytes-other mid a (bytes_of_words (code_of f ∷ got_for f ∷ [])) b (bytes_of_words (code_of g ∷ got_for g ∷ [])) (apart g b listed) was)

    off_this : (k : ℕ) → is_in a 8 k ≡ false → byte_at new k ≡ byte_at mid k
    off_this k off = ap (λ (m : GuestMemory). byte_at m k) put ∙ byte_at-other mid a (bytes_of_words (code_of f ∷ got_for f ∷ [])) k (outside a 8 k off)

    same_map : SameMap mid new → SameMap old new
    same_map last = record { kinds = last.kinds ∙ done.map.kinds; marks = last.marks ∙ done.map.marks; size = last.size ∙ done.map.size }

    pub put_more : HasDescriptorsPut p maps (given ++ (f, a) ∷ []) old new
    put_more = record {
      pairs = λ addrs g b listed. elim (Contains-push_cases given (f, a) (g, b) listed) [
        | inl before ↦ other_pair g b before (done.pairs addrs g b before)
        | inr last ↦ same_pair g b last
      ];
      stays = λ k off.
          off_this k (off f a (Contains-push given (f, a)))
          ∙ done.stays k (λ g b listed. off g b (Contains-append_left given ((f, a) ∷ []) (g, b) listed));
      map = same_map (subst (SameMap mid) (sym put) (SameMap-put mid a (bytes_of_words (code_of f ∷ got_for f ∷ []))));
    }
