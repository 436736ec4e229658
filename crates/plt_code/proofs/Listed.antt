-- The entries below an address, as the address rises.
use Rattle.std.proofs.Common.{◌≡◌, ℕ, ◌+◌, ◌-◌, ◌*◌, ◌/◌, ◌%◌, ◌^◌, ◌<◌, ◌≤◌, ◌⊎◌, inl, inr, List, [], ◌∷◌, ◌++◌, length, get_or, Some, None, All, sym, ap, ◌∙◌, subst, arith}
use Rattle.std.specs.Prelude.{slice_get, Contains}
use Rattle.std.specs.Int.{div_ceil}
use Rattle.std.proofs.lemmas.Bool.{cases_lt}
use Rattle.std.proofs.lemmas.List.Elements.{All-nil, All-push, Contains-push, Contains-append_left}
use Rattle.std.proofs.lemmas.List.Quantifiers.{all_pairs_push}
use Rattle.std.proofs.lemmas.Option.{slice_get_within, get_or_from_slice_get}
use Rattle.fd_base.proofs.Lists.{all_at, pairs_at}
use Rattle.elf_model.specs.declared.object.Object.{Object}
use Rattle.elf_model.specs.declared.object.Segment.{Segment}
use Rattle.elf_model.specs.Sound.{IsSound, IsSized, SegmentsApart}
use Rattle.plt_code.specs.declared.listing.Entry.{Entry}
use Rattle.plt_code.specs.Entries.{IsPltEntry, IsListing}
use Rattle.plt_code.specs.parts.Scanned.{ListsBelow, IsParted, IsText, IsLowest, IsNext, IsExecutable}
use Rattle.plt_code.proofs.Within.{in_code, one_segment}
use Rattle.plt_code.proofs.Called.{one_slot}

raised : (es : List Entry) (a b : ℕ) → a ≤ b → All (λ e. e.at < a) es → All (λ e. e.at < b) es
raised es a b le all k d lt = let below = all k d lt in omega arith

-- no entry stands from one address to another
abbrev None_between : Object → ℕ → ℕ → Type 0
None_between o a b = (at slot : ℕ) → IsPltEntry o at slot → a ≤ at → at < b → ⊥

pub pass : (o : Object) (a b : ℕ) (es : List Entry) → All (λ e. e.at < b) es → None_between o a b → ListsBelow o a es → ListsBelow o b es
pass o a b es below none lists = record {
  sound = lists.sound;
  below = below;
  complete = λ at slot e lt. elim (cases_lt at a) [ inl old ↦ lists.complete at slot e old | inr new ↦ absurd (none at slot e new lt) ];
  rising = lists.rising;
}

-- ---- inside a segment

-- up to the first word
pub lists_start : (o : Object) (a b : ℕ) (es : List Entry) → a ≤ b → b < a + 4 → b % 4 ≡ 0 → ListsBelow o a es → ListsBelow o b es
lists_start o a b es le lt al lists =
    pass o a b es (raised es a b le lists.below) (λ at slot e p q. let aligned = e.aligned in omega arith) lists

-- over a word
pub lists_skip : (o : Object) (n : ℕ) (es : List Entry) → ((slot : ℕ) → ¬ IsPltEntry o (4 * n) slot) → ListsBelow o (4 * n) es → ListsBelow o (4 * (n + 1)) es
lists_skip o n es none lists =
    pass o (4 * n) (4 * (n + 1)) es (raised es (4 * n) (4 * (n + 1)) (omega arith) lists.below) (λ at slot e p q. none slot (here at slot e p q)) lists
  where
    here : (at slot : ℕ) → IsPltEntry o at slot → 4 * n ≤ at → at < 4 * (n + 1) → IsPltEntry o (4 * n) slot
    here at slot e p q = let aligned = e.aligned in let same : at ≡ 4 * n = omega arith in subst (λ v. IsPltEntry o v slot) same e

pub lists_push : (o : Object) (n slot : ℕ) (es : List Entry) → IsSound o → IsPltEntry o (4 * n) slot → ListsBelow o (4 * n) es
    → ListsBelow o (4 * (n + 1)) (es ++ record { at = 4 * n; slot = slot } ∷ [])
lists_push o n slot es sound entry lists =
    let new : Entry = record { at = 4 * n; slot = slot } in
    record {
      sound = All-push (λ (e : Entry). IsPltEntry o e.at e.slot) es new lists.sound entry;
      below = All-push (λ (e : Entry). e.at < 4 * (n + 1)) es new (raised es (4 * n) (4 * (n + 1)) (omega arith) lists.below) (omega arith);
      complete = λ at k e lt. elim (cases_lt at (4 * n)) [
        | inl old ↦ Contains-append_left es (new ∷ []) (record { at = at; slot = k }) (lists.complete at k e old)
        | inr up ↦ let aligned = e.aligned in pushed at k e (omega arith)
      ];
      rising = all_pairs_push (λ d e. d.at < e.at) es new lists.rising (λ k d lt. lists.below k d lt);
    }
  where
    pushed : (at k : ℕ) → IsPltEntry o at k → at ≡ 4 * n → Contains (es ++ record { at = 4 * n; slot = slot } ∷ []) (record { at = at; slot = k })
    pushed at k e same =
        let one : k ≡ slot = one_slot o (4 * n) k slot sound (subst (λ v. IsPltEntry o v k) same e) entry in
        let made : ℕ → ℕ → Entry = λ a s. record { at = a; slot = s } in
        let is : made (4 * n) slot ≡ made at k = ap (λ v. made v slot) (sym same) ∙ ap (made at) (sym one) in
        subst (Contains (es ++ made (4 * n) slot ∷ [])) is (Contains-push es (made (4 * n) slot))

-- an entry that begins in the segment has its bytes there
pub in_text : (o : Object) (s : Segment) (at slot : ℕ) → IsSound o → IsText o.segments s → IsPltEntry o at slot → s.vaddr ≤ at → at < s.vaddr + s.memsz
    → at + 20 ≤ s.vaddr + length s.filled
in_text o s at slot sound text e low high =
    let c = in_code o.segments at 20 e.code in
    let size = all_at IsSized o.segments c.place c.segment sound.sized c.held in
    let same : c.segment ≡ s = one_segment o.segments c.place text.place at c.segment s sound.apart c.held text.held c.begin (omega (arith, c.end, size.filled)) low high in
    subst (λ (t : Segment). at + 20 ≤ t.vaddr + length t.filled) same c.end

-- behind the last word
pub lists_end : (o : Object) (s : Segment) (n : ℕ) (es : List Entry) → IsSound o → IsText o.segments s → s.vaddr ≤ 4 * n → (s.vaddr + length s.filled - 16) / 4 ≤ n
    → All (λ e. e.at < s.vaddr + s.memsz) es → ListsBelow o (4 * n) es → ListsBelow o (s.vaddr + s.memsz) es
lists_end o s n es sound text low high within lists =
    pass o (4 * n) (s.vaddr + s.memsz) es within (λ at slot e p q. none at slot e p q) lists
  where
    none : None_between o (4 * n) (s.vaddr + s.memsz)
    none at slot e p q =
        let there = in_text o s at slot sound text e (omega arith) q in
        let aligned = e.aligned in
        omega arith

-- ---- from segment to segment

-- the segment of an entry that isn't below
entry_segment : (o : Object) (bound at slot : ℕ) → IsSound o → IsParted o.segments bound → IsPltEntry o at slot → bound ≤ at
    → (k : ℕ) × (t : Segment) × ((slice_get o.segments k ≡ Some t) × IsExecutable t × (bound ≤ t.vaddr) × (t.vaddr ≤ at))
entry_segment o bound at slot sound parted e le =
    let c = in_code o.segments at 20 e.code in
    let size = all_at IsSized o.segments c.place c.segment sound.sized c.held in
    elim (parted c.place c.segment c.held c.executable) [
      | inl below ↦ absurd (omega (arith, c.end, size.filled))
      | inr above ↦ (c.place, c.segment, (c.held, c.executable, above, c.begin))
    ]

-- up to the next segment
pub lists_jump : (o : Object) (bound place : ℕ) (es : List Entry) → IsSound o → IsParted o.segments bound → (l : IsLowest o.segments bound (length o.segments) place)
    → ListsBelow o bound es → ListsBelow o l.segment.vaddr es
lists_jump o bound place es sound parted l lists =
    pass o bound (l.segment).vaddr es (raised es bound (l.segment).vaddr l.above lists.below) none lists
  where
    none : None_between o bound (l.segment).vaddr
    none at slot e p q =
        let t = entry_segment o bound at slot sound parted e p in
        let within : t.0 < length o.segments = slice_get_within o.segments t.0 t.1 t.2.0 in
        elim (l.lowest t.0 t.1 within t.2.0 t.2.1) [ inl below ↦ omega (arith, t.2.2) | inr above ↦ omega (arith, t.2.3) ]

pub parted_more : (o : Object) (bound place : ℕ) → IsSound o → IsParted o.segments bound → (l : IsLowest o.segments bound (length o.segments) place)
    → IsParted o.segments (l.segment.vaddr + l.segment.memsz)
parted_more o bound place sound parted l k t held x =
    elim (parted k t held x) [
      | inl below ↦ let above = l.above in inl (omega arith)
      | inr above ↦ elim (l.lowest k t (slice_get_within o.segments k t held) held x) [ inl below ↦ absurd (omega arith) | inr up ↦ side up ]
    ]
  where
    side : (l.segment).vaddr ≤ t.vaddr → (t.vaddr + t.memsz ≤ (l.segment).vaddr + (l.segment).memsz) ⊎ ((l.segment).vaddr + (l.segment).memsz ≤ t.vaddr)
    side up =
        let size = all_at IsSized o.segments k t sound.sized held in
        elim (cases_lt k place) [
          | inl lt ↦ elim (pairs_at SegmentsApart o.segments k place t l.segment sound.apart lt held l.held) [ inl a ↦ absurd (omega (arith, size.some)) | inr b ↦ inr b ]
          | inr le ↦ elim (cases_lt place k) [
            | inl lt ↦ elim (pairs_at SegmentsApart o.segments place k l.segment t sound.apart lt l.held held) [ inl a ↦ inr a | inr b ↦ absurd (omega (arith, size.some)) ]
            | inr ge ↦
                let same : k ≡ place = omega arith in
                let both : Some t ≡ Some l.segment = sym held ∙ ap (slice_get o.segments) same ∙ l.held in
                let one : t ≡ l.segment = cc in
                inl (subst (λ (u : Segment). u.vaddr + u.memsz ≤ (l.segment).vaddr + (l.segment).memsz) (sym one) (omega arith))
          ]
        ]

pub text_of : (o : Object) (bound place : ℕ) → (l : IsLowest o.segments bound (length o.segments) place) → IsText o.segments l.segment
text_of o bound place l = record { place = place; held = l.held; executable = l.executable }

-- ---- the beginning and the end

pub lists_none : (o : Object) → ListsBelow o 0 []
lists_none o = record {
  sound = All-nil (λ (e : Entry). IsPltEntry o e.at e.slot);
  below = All-nil (λ (e : Entry). e.at < 0);
  complete = λ at slot e lt. absurd (omega arith);
  rising = λ i j d lt within. absurd (omega arith);
}

pub parted_none : (o : Object) → IsParted o.segments 0
parted_none o k t held x = inr (omega arith)

pub all_listed : (o : Object) (bound : ℕ) (es : List Entry) → IsSound o → IsParted o.segments bound → IsNext o.segments bound (length o.segments) None
    → ListsBelow o bound es → IsListing o es
all_listed o bound es sound parted none lists = record {
  sound = lists.sound;
  complete = λ at slot e. elim (cases_lt at bound) [ inl lt ↦ lists.complete at slot e lt | inr le ↦ absurd (never at slot e le) ];
  rising = lists.rising;
}
  where
    never : (at slot : ℕ) → IsPltEntry o at slot → bound ≤ at → ⊥
    never at slot e le =
        let t = entry_segment o bound at slot sound parted e le in
        let begins = none t.0 t.1 (slice_get_within o.segments t.0 t.1 t.2.0) t.2.0 t.2.1 in
        omega (arith, t.2.2)

-- ---- words of a segment by number

pub word_low : (v k n : ℕ) → k ≡ div_ceil v 4 → k ≤ n → v ≤ 4 * n
word_low v k n is le = omega arith

pub word_high : (v len count end n : ℕ) → count ≡ len → end ≡ v + count - 16 → n < end / 4 → 4 * n + 20 ≤ v + len
word_high v len count end n same is lt = omega arith

-- ---- the next segment, as it is read

pub record ReadsNext (o : Object) (bound place : ℕ) (s : Segment) : Type 0 where
  pub lowest : IsLowest o.segments bound (length o.segments) place
  pub same : lowest.segment ≡ s

pub reads_next : (o : Object) (ss : List Segment) (bound place : ℕ) (s : Segment) → ss ≡ o.segments → IsLowest ss bound (length ss) place → s ≡ get_or ss place s
    → ReadsNext o bound place s
reads_next o ss bound place s is l read =
    let there : get_or ss place s ≡ l.segment = get_or_from_slice_get ss place l.segment s l.held in
    let same : l.segment ≡ s = sym there ∙ sym read in
    let here : (l : IsLowest o.segments bound (length o.segments) place) × (l.segment ≡ s)
    = subst (λ (xs : List Segment). (l : IsLowest xs bound (length xs) place) × (l.segment ≡ s)) is (l, same) in
    record { lowest = here.0; same = here.1 }

pub jumps : (o : Object) (bound place : ℕ) (s : Segment) (es : List Entry) → IsSound o → IsParted o.segments bound → ReadsNext o bound place s
    → ListsBelow o bound es → ListsBelow o s.vaddr es
jumps o bound place s es sound parted next lists =
    subst (λ (t : Segment). ListsBelow o t.vaddr es) next.same (lists_jump o bound place es sound parted next.lowest lists)

pub parts : (o : Object) (bound place : ℕ) (s : Segment) → IsSound o → IsParted o.segments bound → ReadsNext o bound place s → IsParted o.segments (s.vaddr + s.memsz)
parts o bound place s sound parted next =
    subst (λ (t : Segment). IsParted o.segments (t.vaddr + t.memsz)) next.same (parted_more o bound place sound parted next.lowest)

-- it begins at the address or above, and ends below 2^32
pub rises : (o : Object) (bound place : ℕ) (s : Segment) → IsSound o → ReadsNext o bound place s → (bound ≤ s.vaddr) × ((0 < s.memsz) × (s.vaddr + s.memsz < 2 ^ 32))
rises o bound place s sound next =
    let l = next.lowest in
    let size = all_at IsSized o.segments place l.segment sound.sized l.held in
    subst (λ (t : Segment). (bound ≤ t.vaddr) × ((0 < t.memsz) × (t.vaddr + t.memsz < 2 ^ 32))) next.same (l.above, (size.some, size.end))
