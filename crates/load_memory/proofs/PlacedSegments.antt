-- Segments that are mapped and written, one after another.
use Rattle.std.proofs.Common.{◌≡◌, ◌⊎◌, inl, inr, ℕ, ◌+◌, ◌<◌, ◌≤◌, true, false, List, Some, None, length, ap, sym, subst, ◌∙◌, arith}
use Rattle.std.specs.Prelude.{AllPairs, slice_get, slice_index}
use Rattle.std.proofs.lemmas.Bool.{cases_lt}
use Rattle.load_map.specs.declared.entry.MapEntry.{MapEntry}
use Rattle.elf_model.specs.declared.object.Segment.{Segment}
use Rattle.guest_mem.specs.Memory.{GuestMemory, IsMemory, HaveKind, byte_at, kind_at, is_marked}
use Rattle.guest_mem.specs.Accesses.{with_bytes}
use Rattle.guest_mem.specs.Ranges.{with_kind}
use Rattle.guest_mem.proofs.Pasted.{length-pasted}
use Rattle.guest_mem.proofs.Ranged.{kind_at-with_kind_there, kind_at-with_kind_other, is_marked-with_kind_there, is_marked-with_kind_other}
use Rattle.load_map.specs.Whole.{PlacedApart}
use Rattle.fd_base.proofs.Lists.{pairs_at}
use Rattle.load_model.specs.Layout.{kind_of_segment}
use Rattle.fd_base.specs.Ranges.{is_in}
use Rattle.load_memory.specs.parts.PlacingSteps.{AreMapped, AreFilled, IsOutside}
use Rattle.load_memory.proofs.PutBytes.{HasBytes-put, byte_at-other}
use Rattle.fd_base.proofs.Ranges.{outside as is_in-not, inside as is_in-means, is_outside, is_inside}

-- an earlier place or the last one
pub below_or_last : (k i : ℕ) → k < i + 1 → (k < i) ⊎ (k ≡ i)
below_or_last k i l = elim (cases_lt k i) [ inl lt ↦ inl lt | inr ge ↦ inr (omega arith) ]

-- an address of one range is in no range apart from it
pub outside_apart : (d e : MapEntry) (a : ℕ) → PlacedApart d e → is_in d.addr d.memsz a ≡ true → (a < e.addr) ⊎ (e.addr + e.memsz ≤ a)
outside_apart d e a (inl before) h = let there = is_in-means d.addr d.memsz a h in inl (omega arith)
outside_apart d e a (inr after) h = let there = is_in-means d.addr d.memsz a h in inr (omega arith)

pub IsOutside-fewer : (es : List MapEntry) (i a : ℕ) → IsOutside es (i + 1) a → IsOutside es i a
IsOutside-fewer es i a out = λ k e l p. out k e (omega arith) p

-- the one entry at a place
same_at : {X : Type 0} (xs : List X) (k i : ℕ) (x y : X) → k ≡ i → slice_get xs k ≡ Some x → slice_get xs i ≡ Some y → y ≡ x
same_at xs k i x y at p q = cc

module _ (es : List MapEntry) (apart : AllPairs PlacedApart es) (i : ℕ) (e : MapEntry) (entry : slice_get es i ≡ Some e) where
  -- what lies in an earlier entry is outside this one
  earlier : (k a : ℕ) (d : MapEntry) → k < i → slice_get es k ≡ Some d → is_in d.addr d.memsz a ≡ true → (a < e.addr) ⊎ (e.addr + e.memsz ≤ a)
  earlier k a d l p h = outside_apart d e a (pairs_at PlacedApart es k i d e apart l p entry) h

  -- what lies in the entry of this place
  here : (k a : ℕ) (d : MapEntry) → k ≡ i → slice_get es k ≡ Some d → is_in d.addr d.memsz a ≡ true → (e.addr ≤ a) × (a < e.addr + e.memsz)
  here k a d at p h = is_in-means e.addr e.memsz a (subst (λ (x : MapEntry). is_in x.addr x.memsz a ≡ true) (sym (same_at es k i d e at p entry)) h)

  -- what lies outside is outside this one
  this : (a : ℕ) → IsOutside es (i + 1) a → (a < e.addr) ⊎ (e.addr + e.memsz ≤ a)
  this a out = is_in-not e.addr e.memsz a (out i e (omega arith) entry)

  module _ (ss : List Segment) (old m n : GuestMemory) (s : Segment) (segment : slice_get ss i ≡ Some s) (inside : e.addr + e.memsz ≤ length m.bytes) (whole : IsMemory m)
      (put : n ≡ with_kind m e.addr e.memsz (Some (kind_of_segment s))) (mapped : AreMapped ss es i old m) where
    room : (e.addr + e.memsz ≤ length m.kinds) × (e.addr + e.memsz ≤ length m.marks)
    room =
        let kinds : length m.kinds ≡ length m.bytes = whole.kinds in
        let marks : length m.marks ≡ length m.bytes = whole.marks in
        (omega arith, omega arith)

    kinds_there : (k a : ℕ) (t : Segment) (d : MapEntry) → (k < i) ⊎ (k ≡ i) → slice_get ss k ≡ Some t → slice_get es k ≡ Some d → is_in d.addr d.memsz a ≡ true → kind_at n a ≡ Some (kind_of_segment t)
    kinds_there k a t d (inl l) p q h =
        ap (λ (x : GuestMemory). kind_at x a) put ∙ kind_at-with_kind_other m e.addr e.memsz (Some (kind_of_segment s)) a (earlier k a d l q h) ∙ mapped.kinds k a t d l p q h
    kinds_there k a t d (inr at) p q h =
        let there = here k a d at q h in
        ap (λ (x : GuestMemory). kind_at x a) put ∙ kind_at-with_kind_there m e.addr e.memsz (Some (kind_of_segment s)) a room.0 there.0 there.1
        ∙ ap (λ x. Some (kind_of_segment x)) (same_at ss k i t s at p segment)

    marks_there : (k a : ℕ) (d : MapEntry) → (k < i) ⊎ (k ≡ i) → slice_get es k ≡ Some d → is_in d.addr d.memsz a ≡ true → is_marked n a ≡ false
    marks_there k a d (inl l) q h =
        ap (λ (x : GuestMemory). is_marked x a) put ∙ is_marked-with_kind_other m e.addr e.memsz (Some (kind_of_segment s)) a (earlier k a d l q h) ∙ mapped.marks k a d l q h
    marks_there k a d (inr at) q h =
        let there = here k a d at q h in
        ap (λ (x : GuestMemory). is_marked x a) put ∙ is_marked-with_kind_there m e.addr e.memsz (Some (kind_of_segment s)) a room.1 there.0 there.1

    -- one more segment is mapped
    pub AreMapped-more : AreMapped ss es (i + 1) old n
    AreMapped-more = record {
      kinds = λ k a t d l p q h. kinds_there k a t d (below_or_last k i l) p q h;
      marks = λ k a d l q h. marks_there k a d (below_or_last k i l) q h;
      other_kinds = λ a out.
          ap (λ (x : GuestMemory). kind_at x a) put ∙ kind_at-with_kind_other m e.addr e.memsz (Some (kind_of_segment s)) a (this a out) ∙ mapped.other_kinds a (IsOutside-fewer es i a out);
      other_marks = λ a out.
          ap (λ (x : GuestMemory). is_marked x a) put ∙ is_marked-with_kind_other m e.addr e.memsz (Some (kind_of_segment s)) a (this a out) ∙ mapped.other_marks a (IsOutside-fewer es i a out);
    }

  -- a place that was free is so until its segment is mapped
  pub AreMapped-free : (ss : List Segment) (old m : GuestMemory) → AreMapped ss es i old m → HaveKind old e.addr e.memsz None → HaveKind m e.addr e.memsz None
  AreMapped-free ss old m mapped free = λ a l l'. mapped.other_kinds a (λ k d lt q. not_there k d a lt q l l') ∙ free a l l'
    where
      not_there : (k : ℕ) (d : MapEntry) (a : ℕ) → k < i → slice_get es k ≡ Some d → e.addr ≤ a → a < e.addr + e.memsz → is_in d.addr d.memsz a ≡ false
      not_there k d a lt q l l' = is_outside d.addr d.memsz a (elim (pairs_at PlacedApart es k i d e apart lt q entry) [ inl before ↦ inr (omega arith) | inr after ↦ inl (omega arith) ])

  module _ (parts : List (List ℕ)) (old m n : GuestMemory) (part : List ℕ) (bytes : slice_get parts i ≡ Some part) (size : length part ≡ e.memsz) (inside : e.addr + e.memsz ≤ length m.bytes)
      (put : n ≡ with_bytes m e.addr part) (filled : AreFilled es parts i old m) where
    past : (a : ℕ) → (a < e.addr) ⊎ (e.addr + e.memsz ≤ a) → (a < e.addr) ⊎ (e.addr + length part ≤ a)
    past a (inl l) = inl l
    past a (inr l) = inr (omega arith)

    bytes_there : (k j : ℕ) (d : MapEntry) (p : List ℕ) → (k < i) ⊎ (k ≡ i) → slice_get es k ≡ Some d → slice_get parts k ≡ Some p → j < d.memsz → byte_at n (d.addr + j) ≡ slice_index p j
    bytes_there k j d p (inl l) q r h =
        ap (λ (x : GuestMemory). byte_at x (d.addr + j)) put
        ∙ byte_at-other m e.addr part (d.addr + j) (past (d.addr + j) (earlier k (d.addr + j) d l q (is_inside d.addr d.memsz (d.addr + j) (omega arith) (omega arith)))) ∙ filled.bytes k j d p l q r h
    bytes_there k j d p (inr at) q r h =
        let same_entry : e ≡ d = same_at es k i d e at q entry in
        let long : e.memsz ≡ d.memsz = ap (λ (x : MapEntry). x.memsz) same_entry in
        ap (λ (x : MapEntry). byte_at n (x.addr + j)) (sym same_entry) ∙ ap (λ (x : GuestMemory). byte_at x (e.addr + j)) put
        ∙ HasBytes-put m e.addr part (omega arith) j (omega arith) ∙ ap (λ (x : List ℕ). slice_index x j) (same_at parts k i p part at r bytes)

    -- one more segment is written
    pub AreFilled-more : AreFilled es parts (i + 1) old n
    AreFilled-more = record {
      map = record {
        kinds = ap (λ (x : GuestMemory). x.kinds) put ∙ filled.map.kinds;
        marks = ap (λ (x : GuestMemory). x.marks) put ∙ filled.map.marks;
        size = ap (λ (x : GuestMemory). length x.bytes) put ∙ length-pasted m.bytes part e.addr ∙ filled.map.size;
      };
      bytes = λ k j d p l q r h. bytes_there k j d p (below_or_last k i l) q r h;
      other_bytes = λ a out. ap (λ (x : GuestMemory). byte_at x a) put ∙ byte_at-other m e.addr part a (past a (this a out)) ∙ filled.other_bytes a (IsOutside-fewer es i a out);
    }
