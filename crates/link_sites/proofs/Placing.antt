-- Two link addresses of one segment are placed as far apart as they are linked.
use Rattle.std.proofs.Common.{◌≡◌, ◌≢◌, ℕ, zero, suc, ◌+◌, ◌-◌, ◌<◌, ◌≤◌, ◌⊎◌, inl, inr, Bool, true, false, cond, List, [], ◌∷◌, Some, None, refl, ap, sym, subst, ◌∙◌, arith, AllPairs}
use Rattle.std.specs.Prelude.{slice_get, unwrap_or, option_map}
use Rattle.std.specs.List.{find}
use Rattle.std.specs.Option.{option_or}
use Rattle.std.proofs.lemmas.Bool.{cases_lt}
use Rattle.std.proofs.lemmas.Bool.Decides.{nat_tests}
use Rattle.load_map.specs.declared.entry.MapEntry.{MapEntry}
use Rattle.load_map.specs.Translation.{is_held_by, is_end_of, placed, placed_by}
use Rattle.fd_base.proofs.Lists.{all_at, pairs_at}
use Rattle.elf_model.specs.declared.object.Segment.{Segment}
use Rattle.elf_model.specs.declared.object.Object.{Object}
use Rattle.elf_model.specs.Sound.{IsSound, IsSized, SegmentsApart}
use Rattle.load_image.specs.parts.Bounds.{IsMapOf}
use Rattle.link_sites.specs.parts.Linked.{ShareSegment}

-- ---- the one element that passes

pub find_none : {X : Type 0} (p : X → Bool) (xs : List X) → ((j : ℕ) (y : X) → slice_get xs j ≡ Some y → p y ≡ false) → find p xs ≡ None
find_none p [] never = refl
find_none p (x ∷ xs) never = ap (λ b. cond b (Some x) (find p xs)) (never 0 x refl) ∙ find_none p xs (λ j y is. never (suc j) y is)

pub find_only : {X : Type 0} (p : X → Bool) (xs : List X) (k : ℕ) (x : X) → slice_get xs k ≡ Some x → p x ≡ true
    → ((j : ℕ) (y : X) → slice_get xs j ≡ Some y → j ≢ k → p y ≡ false) → find p xs ≡ Some x
find_only p [] k x at passes never = absurd cc
find_only p (y ∷ xs) zero x at passes never =
    let same : y ≡ x = cc in
    ap (λ b. cond b (Some y) (find p xs)) (ap p same ∙ passes) ∙ at
find_only p (y ∷ xs) (suc k) x at passes never =
    let other : zero ≢ suc k = λ e. absurd cc in
    ap (λ b. cond b (Some y) (find p xs)) (never 0 y refl other)
    ∙ find_only p xs k x at passes (λ j z is ne. never (suc j) z is (λ e. ne (omega arith)))

-- ---- entries and segments

abbrev IsOf : Segment → MapEntry → Type 0
IsOf s e = (e.vaddr ≡ s.vaddr) × (e.memsz ≡ s.memsz)

pub segment_of : (ss : List Segment) (es : List MapEntry) (j : ℕ) (e : MapEntry) → IsMapOf ss es → slice_get es j ≡ Some e
    → (s : Segment) × (slice_get ss j ≡ Some s) × IsOf s e
segment_of [] [] j e map is = absurd cc
segment_of [] (x ∷ es) j e map is = absurd map
segment_of (s ∷ ss) [] j e map is = absurd map
segment_of (s ∷ ss) (x ∷ es) zero e map is =
    let same : x ≡ e = cc in
    (s, refl, subst (IsOf s) same map.0)
segment_of (s ∷ ss) (x ∷ es) (suc j) e map is = segment_of ss es j e map.1 is

pub entry_of : (ss : List Segment) (es : List MapEntry) (j : ℕ) (s : Segment) → IsMapOf ss es → slice_get ss j ≡ Some s
    → (e : MapEntry) × (slice_get es j ≡ Some e) × IsOf s e
entry_of [] [] j s map is = absurd cc
entry_of [] (x ∷ es) j s map is = absurd map
entry_of (t ∷ ss) [] j s map is = absurd map
entry_of (t ∷ ss) (x ∷ es) zero s map is =
    let same : t ≡ s = cc in
    (x, refl, subst (λ (r : Segment). IsOf r x) same map.0)
entry_of (t ∷ ss) (x ∷ es) (suc j) s map is = entry_of ss es j s map.1 is

-- two segments at different places
pub apart_at : (ss : List Segment) (i j : ℕ) (s t : Segment) → AllPairs SegmentsApart ss → i ≢ j → slice_get ss i ≡ Some s → slice_get ss j ≡ Some t → SegmentsApart s t
apart_at ss i j s t all ne p q =
    elim (cases_lt i j) [
      | inl lt ↦ pairs_at SegmentsApart ss i j s t all lt p q
      | inr le ↦
          let lt : j < i = omega (arith, ne) in
          elim (pairs_at SegmentsApart ss j i t s all lt q p) [ inl h ↦ inr h | inr h ↦ inl h ]
    ]

-- ---- a link address of one segment

module _ (o : Object) (es : List MapEntry) (sound : IsSound o) (map : IsMapOf o.segments es) (k : ℕ) (s : Segment) (at : slice_get o.segments k ≡ Some s) where
  -- what holds a link address of the segment
  others_dont : (v : ℕ) → s.vaddr ≤ v → v < s.vaddr + s.memsz → (j : ℕ) (d : MapEntry) → slice_get es j ≡ Some d → j ≢ k → is_held_by v d ≡ false
  others_dont v from below j d is ne =
      let t = segment_of o.segments es j d map is in
      let apart = apart_at o.segments j k t.0 s sound.apart ne t.1 at in
      let a : d.vaddr ≡ (t.0).vaddr = t.2.0 in
      let b : d.memsz ≡ (t.0).memsz = t.2.1 in
      elim apart [
        | inl h ↦ grind (arith, nat_tests)
        | inr h ↦ grind (arith, nat_tests)
      ]

  none_hold_end : ((j : ℕ) (t : Segment) → slice_get o.segments j ≡ Some t → t.vaddr ≢ s.vaddr + s.memsz)
      → (j : ℕ) (d : MapEntry) → slice_get es j ≡ Some d → is_held_by (s.vaddr + s.memsz) d ≡ false
  none_hold_end free j d is =
      let t = segment_of o.segments es j d map is in
      let a : d.vaddr ≡ (t.0).vaddr = t.2.0 in
      let b : d.memsz ≡ (t.0).memsz = t.2.1 in
      let not_there : (t.0).vaddr ≢ s.vaddr + s.memsz = free j t.0 t.1 in
      elim (same_place j d t.0 is t.1) [
        | inl same ↦
            let c : (t.0).vaddr ≡ s.vaddr = ap (λ (x : Segment). x.vaddr) same in
            let e : (t.0).memsz ≡ s.memsz = ap (λ (x : Segment). x.memsz) same in
            grind (arith, nat_tests)
        | inr apart ↦ elim apart [
          | inl h ↦ grind (arith, nat_tests)
          | inr h ↦ past (t.0).vaddr (t.0).memsz (s.vaddr + s.memsz) d a b h not_there
        ]
      ]
    where
      same_place : (j : ℕ) (d : MapEntry) (t : Segment) → slice_get es j ≡ Some d → slice_get o.segments j ≡ Some t → (t ≡ s) ⊎ SegmentsApart t s
      same_place j d t is this =
          elim (cases_lt j k) [
            | inl lt ↦ inr (apart_at o.segments j k t s sound.apart (λ e. absurd (omega arith)) this at)
            | inr le ↦ elim (cases_lt k j) [
              | inl lt ↦ inr (apart_at o.segments j k t s sound.apart (λ e. absurd (omega arith)) this at)
              | inr ge ↦
                  let equal : j ≡ k = omega arith in
                  let there : slice_get o.segments k ≡ Some t = subst (λ n. slice_get o.segments n ≡ Some t) equal this in
                  inl cc
            ]
          ]

      past : (a n e : ℕ) (d : MapEntry) → d.vaddr ≡ a → d.memsz ≡ n → e ≤ a → a ≢ e → is_held_by e d ≡ false
      past a n e d p q le ne =
          let lt : e < a = omega (arith, ne) in
          grind (arith, nat_tests)

  -- no other segment ends there
  one_end : (j : ℕ) (d : MapEntry) → slice_get es j ≡ Some d → j ≢ k → is_end_of (s.vaddr + s.memsz) d ≡ false
  one_end j d is ne =
      let t = segment_of o.segments es j d map is in
      let apart = apart_at o.segments j k t.0 s sound.apart ne t.1 at in
      let a : d.vaddr ≡ (t.0).vaddr = t.2.0 in
      let b : d.memsz ≡ (t.0).memsz = t.2.1 in
      let some : 0 < (t.0).memsz = (all_at IsSized o.segments j t.0 sound.sized t.1).some in
      let some' : 0 < s.memsz = (all_at IsSized o.segments k s sound.sized at).some in
      elim apart [
        | inl h ↦ grind (arith, nat_tests)
        | inr h ↦ grind (arith, nat_tests)
      ]

  pub held_is_placed : (v : ℕ) (e : MapEntry) → slice_get es k ≡ Some e → e.vaddr ≡ s.vaddr → e.memsz ≡ s.memsz → s.vaddr ≤ v → v < s.vaddr + s.memsz
      → placed es v ≡ v - s.vaddr + e.addr
  held_is_placed v e is a b from below =
      let here : is_held_by v e ≡ true = grind (arith, nat_tests) in
      let found = find_only (is_held_by v) es k e is here (others_dont v from below) in
      ap (λ first. unwrap_or (option_map (placed_by v) (option_or first (find (is_end_of v) es))) 0) found ∙ ap (λ n. v - n + e.addr) a

  pub end_is_placed : (e : MapEntry) → slice_get es k ≡ Some e → e.vaddr ≡ s.vaddr → e.memsz ≡ s.memsz
      → ((j : ℕ) (t : Segment) → slice_get o.segments j ≡ Some t → t.vaddr ≢ s.vaddr + s.memsz)
      → placed es (s.vaddr + s.memsz) ≡ s.vaddr + s.memsz - s.vaddr + e.addr
  end_is_placed e is a b free =
      let v = s.vaddr + s.memsz in
      let here : is_end_of v e ≡ true = grind (arith, nat_tests) in
      let none = find_none (is_held_by v) es (none_hold_end free) in
      let found = find_only (is_end_of v) es k e is here one_end in
      ap (λ first. unwrap_or (option_map (placed_by v) (option_or first (find (is_end_of v) es))) 0) none
      ∙ ap (λ second. unwrap_or (option_map (placed_by v) second) 0) found
      ∙ ap (λ n. v - n + e.addr) a

-- the base of a segment's place, from which each of its link addresses is placed
pub record IsPlacedFrom (es : List MapEntry) (s : Segment) (base v u : ℕ) : Type 0 where
  pub first : placed es v ≡ v - s.vaddr + base
  pub second : placed es u ≡ u - s.vaddr + base

pub placed_alike : (o : Object) (es : List MapEntry) (v u : ℕ) → IsSound o → IsMapOf o.segments es → (h : ShareSegment o v u)
    → (base : ℕ) × IsPlacedFrom es h.segment base v u
placed_alike o es v u sound map h =
    let s = h.segment in
    let e = entry_of o.segments es h.place s map h.held in
    let one = held_is_placed o es sound map h.place s h.held v e.0 e.1 e.2.0 e.2.1 h.from h.below in
    let two : placed es u ≡ u - s.vaddr + (e.0).addr =
    elim (cases_lt u (s.vaddr + s.memsz)) [
      | inl lt ↦ held_is_placed o es sound map h.place s h.held u e.0 e.1 e.2.0 e.2.1 h.from' lt
      | inr le ↦
          let end : s.vaddr + s.memsz ≡ u = omega (arith, h.below') in
          subst (λ n. placed es n ≡ n - s.vaddr + (e.0).addr) end (end_is_placed o es sound map h.place s h.held e.0 e.1 e.2.0 e.2.1 (λ j t at e. h.ends (sym end) j t at (e ∙ end)))
    ] in
    ((e.0).addr, record { first = one; second = two })
