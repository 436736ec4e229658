-- The object of the tests is sound.
use Rattle.std.proofs.Common.{◌≡◌, ℕ, ◌≤◌, inl, inr, true, ◌&&◌, List, [], ◌∷◌, length, None, All, AllPairs, refl, sym, subst, arith}
use Rattle.std.proofs.lemmas.List.Elements.{All-nil, All-cons}
use Rattle.std.proofs.lemmas.List.Quantifiers.{all_pairs_push}
use Rattle.elf_model.specs.declared.constants.TheConstants.{PF_W}
use Rattle.elf_model.specs.declared.object.Object.{Object}
use Rattle.elf_model.specs.declared.object.Rel.{Rel}
use Rattle.elf_model.specs.declared.object.Segment.{Segment}
use Rattle.elf_model.specs.declared.table.Site.{Site}
use Rattle.elf_model.specs.Segments.{has_flag}
use Rattle.elf_model.specs.Places.{filled_ranges, spans, is_writable_in}
use Rattle.elf_model.specs.Sound.{IsSound, IsSized, IsInPlace, IsWhole, RangesApart, SegmentsApart}
use Rattle.elf_model.proofs.Examples.{word_aligned}
use Rattle.plt_code.proofs.Within.{any_of}

three : {X : Type 0} (P : X → Type 0) (x y z : X) → P x → P y → P z → All P (x ∷ y ∷ z ∷ [])
three P x y z p q r = All-cons P x (y ∷ z ∷ []) p (All-cons P y (z ∷ []) q (All-cons P z [] r (All-nil P)))

three_pairs : {X : Type 0} (R : X → X → Type 0) (x y z : X) → R x y → R x z → R y z → AllPairs R (x ∷ y ∷ z ∷ [])
three_pairs R x y z p q r =
    all_pairs_push R (x ∷ y ∷ []) z
    (all_pairs_push R (x ∷ []) y (all_pairs_push R [] x (λ i j d lt within. absurd (omega arith)) (λ k d lt. absurd (omega arith))) (λ k d lt. All-cons (λ v. R v y) x [] p (All-nil (λ v. R v y)) k d lt))
    (λ k d lt. All-cons (λ v. R v z) x (y ∷ []) q (All-cons (λ v. R v z) y [] r (All-nil (λ v. R v z))) k d lt)

abbrev slot : ℕ → Rel
slot site = record { site = site; kind = 164; symbol = 1 }

-- what stands where in the example
pub record IsExample (o : Object) : Type 0 where
  pub high : List ℕ
  pub low : List ℕ
  pub data_bytes : List ℕ
  pub flags : ℕ
  pub segments : o.segments ≡
      record { vaddr = 32768; memsz = 1024; flags = 5; align = 4; filled = high }
      ∷ record { vaddr = 0; memsz = 1024; flags = flags; align = 4; filled = low }
      ∷ record { vaddr = 65536; memsz = 256; flags = 6; align = 4; filled = data_bytes } ∷ []
  pub few_high : length high ≤ 1024
  pub few_low : length low ≤ 1024
  pub few_data : length data_bytes ≤ 256
  pub got : o.got ≡ 65536
  pub rels : o.rels ≡ []
  pub jmprels : o.jmprels ≡ slot 65548 ∷ slot 65556 ∷ []
  pub fixups : o.fixups ≡ None

pub example_sound : (o : Object) → IsExample o → IsSound o
example_sound o e =
    let high : Segment = record { vaddr = 32768; memsz = 1024; flags = 5; align = 4; filled = e.high } in
    let low : Segment = record { vaddr = 0; memsz = 1024; flags = e.flags; align = 4; filled = e.low } in
    let last : Segment = record { vaddr = 65536; memsz = 256; flags = 6; align = 4; filled = e.data_bytes } in
    let header : Site = record { addr = 65536; size = 12 } in
    let first : Site = record { addr = 65548; size = 8 } in
    let second : Site = record { addr = 65556; size = 8 } in
    let ranges : filled_ranges o ≡ header ∷ first ∷ second ∷ [] = rw (e.got, e.rels, e.jmprels, e.fixups) refl in
    let segments : o.segments ≡ high ∷ low ∷ last ∷ [] = e.segments in
    record {
      few = rw segments (omega arith);
      apart = rw segments (three_pairs SegmentsApart high low last (inr (omega arith)) (inl (omega arith)) (inl (omega arith)));
      sized = rw segments (three IsSized high low last
          (record { some = omega arith; end = omega arith; filled = e.few_high; aligned = word_aligned })
          (record { some = omega arith; end = omega arith; filled = e.few_low; aligned = word_aligned })
          (record { some = omega arith; end = omega arith; filled = e.few_data; aligned = word_aligned }));
      in_place = over (λ (ss : List Segment) (rs : List Site). All (IsInPlace ss) rs) segments ranges (three (IsInPlace (high ∷ low ∷ last ∷ [])) header first second
          (record { aligned = refl; writable = writable high low last header refl })
          (record { aligned = refl; writable = writable high low last first refl })
          (record { aligned = refl; writable = writable high low last second refl }));
      whole = over (λ (ss : List Segment) (rs : List Site). All (λ s. All (IsWhole s) rs) ss) segments ranges (three (λ s. All (IsWhole s) (header ∷ first ∷ second ∷ [])) high low last
          (three (IsWhole high) header first second (inr (inr (omega arith))) (inr (inr (omega arith))) (inr (inr (omega arith))))
          (three (IsWhole low) header first second (inr (inr (omega arith))) (inr (inr (omega arith))) (inr (inr (omega arith))))
          (three (IsWhole last) header first second (inl (omega arith, omega arith)) (inl (omega arith, omega arith)) (inl (omega arith, omega arith))));
      distinct = over (λ (ss : List Segment) (rs : List Site). AllPairs RangesApart rs) segments ranges (three_pairs RangesApart header first second (inl (omega arith)) (inl (omega arith)) (inl (omega arith)));
      slot_kinds = rw e.jmprels (All-cons (λ (r : Rel). r.kind ≡ 164) (slot 65548) (slot 65556 ∷ []) refl (All-cons (λ (r : Rel). r.kind ≡ 164) (slot 65556) [] refl (All-nil (λ (r : Rel). r.kind ≡ 164))));
      few_rels = rw e.rels (omega arith);
      few_slots = rw e.jmprels (omega arith);
    }
  where
    over : (P : List Segment → List Site → Type 0) {ss : List Segment} {rs : List Site} → o.segments ≡ ss → filled_ranges o ≡ rs → P ss rs → P o.segments (filled_ranges o)
    over P {ss} {rs} x y p = subst (λ (a : List Segment). P a (filled_ranges o)) (sym x) (subst (λ (b : List Site). P ss b) (sym y) p)

    writable : (high low last : Segment) (r : Site) → (has_flag last.flags PF_W && spans last r.addr r.size) ≡ true → is_writable_in (high ∷ low ∷ last ∷ []) r.addr r.size ≡ true
    writable high low last r h = any_of (λ s. has_flag s.flags PF_W && spans s r.addr r.size) (high ∷ low ∷ last ∷ []) 2 last refl h

pub three_alike : {X : Type 0} (a b c x y z : X) → a ≡ x → b ≡ y → c ≡ z → ◌≡◌ {A = List X} (a ∷ b ∷ c ∷ []) (x ∷ y ∷ z ∷ [])
three_alike a b c x y z p q r = cc

pub two_alike : {X : Type 0} (a b x y : X) → a ≡ x → b ≡ y → ◌≡◌ {A = List X} (a ∷ b ∷ []) (x ∷ y ∷ [])
two_alike a b x y p q = cc
