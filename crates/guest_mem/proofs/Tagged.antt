-- Tags of words stay true, and what they tell of an access.
use Rattle.std.proofs.Common.{◌≡◌, ◌⊎◌, inl, inr, ℕ, zero, suc, ◌+◌, ◌-◌, ◌*◌, ◌/◌, ◌%◌, ◌<◌, ◌≤◌, Bool, true, false, List, Option, Some, None, length, get_or, refl, ap, sym, subst, ◌∙◌, arith, add-zero}
use Rattle.std.specs.Prelude.{not}
use Rattle.fd_base.proofs.Ranges.{in_or_out}
use Rattle.guest_mem.specs.declared.kind.MemKind.{MemKind}
use Rattle.guest_mem.specs.declared.kind.MemKind.TheVariants as kind
use Rattle.guest_mem.specs.declared.search.Asked.{Asked}
use Rattle.guest_mem.specs.declared.search.Asked.TheVariants as asks
use Rattle.guest_mem.specs.declared.tags.WordTag.{WordTag}
use Rattle.guest_mem.specs.declared.tags.WordTag.TheVariants.{Mixed, Readable, Code, Plain}
use Rattle.guest_mem.specs.Memory.{GuestMemory, IsMemory, kind_at, is_mapped_as, is_marked, is_watched, is_watched_as}
use Rattle.guest_mem.specs.Accesses.{first_from, first_outside, first_watched, or_then, unaligned, fault_at, stray_at, read_refusal, write_refusal}
use Rattle.guest_mem.specs.Ranges.{filled}
use Rattle.guest_mem.specs.parts.Answered.{is_asked}
use Rattle.guest_mem.specs.parts.Tags.{AreTagged, Knows, is_enough, is_plain_as, is_tagged_as, retagged, tag_of}
use Rattle.guest_mem.proofs.Pasted.{length-filled, get_or-filled_other, get_or-filled_there}
use Rattle.guest_mem.proofs.Reading.{granted_inside}

-- ---- what changes a range of bytes

pub length-retagged : (tags : List WordTag) (start len : ℕ) (tag : WordTag) → length (retagged tags start len tag) ≡ length tags
unfolding retagged
length-retagged tags start len tag = length-filled (filled tags (start / 4) ((start + len + 3) / 4 - start / 4) Mixed) ((start + 3) / 4) ((start + len) / 4 - (start + 3) / 4) tag
    ∙ length-filled tags (start / 4) ((start + len + 3) / 4 - start / 4) Mixed

-- the tag of a word is the new one, where it lies in the range, or tells nothing, or is as before where it lies apart
retagged_as : (tags : List WordTag) (start len w : ℕ) (tag : WordTag) → (start + len + 3) / 4 ≤ length tags
    → ((start ≤ 4 * w) × (4 * w + 4 ≤ start + len) × (get_or (retagged tags start len tag) w Mixed ≡ tag))
    ⊎ ((get_or (retagged tags start len tag) w Mixed ≡ Mixed)
    ⊎ (((4 * w + 4 ≤ start) ⊎ (start + len ≤ 4 * w)) × (get_or (retagged tags start len tag) w Mixed ≡ get_or tags w Mixed)))
unfolding retagged
retagged_as tags start len w tag fits =
    let touched : List WordTag = filled tags (start / 4) ((start + len + 3) / 4 - start / 4) Mixed in
    let size : length touched ≡ length tags = length-filled tags (start / 4) ((start + len + 3) / 4 - start / 4) Mixed in
    elim (in_or_out ((start + 3) / 4) ((start + len) / 4 - (start + 3) / 4) w) [
      | inl there ↦
          let from : (start + 3) / 4 ≤ w = there.0 in
          let within : w < (start + 3) / 4 + ((start + len) / 4 - (start + 3) / 4) = there.1 in
          inl (omega arith, omega arith, get_or-filled_there touched ((start + 3) / 4) ((start + len) / 4 - (start + 3) / 4) w tag Mixed (omega arith) from within)
      | inr apart ↦
          let as_touched : get_or (filled touched ((start + 3) / 4) ((start + len) / 4 - (start + 3) / 4) tag) w Mixed ≡ get_or touched w Mixed = get_or-filled_other touched ((start + 3) / 4) ((start + len) / 4 - (start + 3) / 4) w tag Mixed apart in
          elim (in_or_out (start / 4) ((start + len + 3) / 4 - start / 4) w) [
            | inl there ↦ inr (inl (as_touched ∙ get_or-filled_there tags (start / 4) ((start + len + 3) / 4 - start / 4) w Mixed Mixed (omega arith) there.0 there.1))
            | inr (inl below) ↦ inr (inr (inl (omega arith), as_touched ∙ get_or-filled_other tags (start / 4) ((start + len + 3) / 4 - start / 4) w Mixed Mixed (inl below)))
            | inr (inr behind) ↦ inr (inr (inr (omega arith), as_touched ∙ get_or-filled_other tags (start / 4) ((start + len + 3) / 4 - start / 4) w Mixed Mixed (inr behind)))
          ]
    ]

-- Tags stay true where kinds and marks changed in a range alone, and the new tag is true of each byte there.
pub AreTagged-retagged : (tags : List WordTag) (kinds kinds' : List (Option MemKind)) (marks marks' : List Bool) (start len : ℕ) (tag : WordTag)
    → (start + len + 3) / 4 ≤ length tags
    → ((a : ℕ) → (a < start) ⊎ (start + len ≤ a) → get_or kinds' a None ≡ get_or kinds a None)
    → ((a : ℕ) → (a < start) ⊎ (start + len ≤ a) → get_or marks' a false ≡ get_or marks a false)
    → ((a : ℕ) → start ≤ a → a < start + len → is_tagged_as tag (get_or kinds' a None) (get_or marks' a false) ≡ true)
    → AreTagged tags kinds marks → AreTagged (retagged tags start len tag) kinds' marks'
AreTagged-retagged tags kinds kinds' marks marks' start len tag fits same_kinds same_marks there are w i l =
    let a : ℕ = 4 * w + i in
    let by : (t : WordTag) → get_or (retagged tags start len tag) w Mixed ≡ t → is_tagged_as t (get_or kinds' a None) (get_or marks' a false) ≡ true → is_tagged_as (get_or (retagged tags start len tag) w Mixed) (get_or kinds' a None) (get_or marks' a false) ≡ true
    = λ t e h. ap (λ s. is_tagged_as s (get_or kinds' a None) (get_or marks' a false)) e ∙ h in
    let unchanged : (a < start) ⊎ (start + len ≤ a) → is_tagged_as (get_or tags w Mixed) (get_or kinds' a None) (get_or marks' a false) ≡ true
    = λ out. ap (λ k. is_tagged_as (get_or tags w Mixed) k (get_or marks' a false)) (same_kinds a out) ∙ ap (is_tagged_as (get_or tags w Mixed) (get_or kinds a None)) (same_marks a out) ∙ are w i l in
    elim (retagged_as tags start len w tag fits) [
      | inl new ↦ let from : start ≤ 4 * w = new.0 in let within : 4 * w + 4 ≤ start + len = new.1 in by tag new.2 (there a (omega arith) (omega arith))
      | inr (inl none) ↦ by Mixed none refl
      | inr (inr (inl below, old)) ↦ by (get_or tags w Mixed) old (unchanged (inl (omega arith)))
      | inr (inr (inr behind, old)) ↦ by (get_or tags w Mixed) old (unchanged (inr (omega arith)))
    ]

-- the tag of a kind is true of its bytes where none is marked
tag_of-true : (kind : Option MemKind) → is_tagged_as (tag_of kind) kind false ≡ true
tag_of-true None = refl
tag_of-true (Some kind.Code) = refl
tag_of-true (Some kind.Data) = refl
tag_of-true (Some kind.Fixed) = refl

-- a range is mapped as one kind, or no longer mapped
pub AreTagged-mapped : (tags : List WordTag) (kinds : List (Option MemKind)) (marks : List Bool) (start len : ℕ) (kind : Option MemKind)
    → (start + len + 3) / 4 ≤ length tags → start + len ≤ length kinds → start + len ≤ length marks
    → AreTagged tags kinds marks → AreTagged (retagged tags start len (tag_of kind)) (filled kinds start len kind) (filled marks start len false)
AreTagged-mapped tags kinds marks start len kind fits k m =
    AreTagged-retagged tags kinds (filled kinds start len kind) marks (filled marks start len false) start len (tag_of kind) fits
    (λ a out. get_or-filled_other kinds start len a kind None out)
    (λ a out. get_or-filled_other marks start len a false false out)
    (λ a l l'. ap (λ k'. is_tagged_as (tag_of kind) k' (get_or (filled marks start len false) a false)) (get_or-filled_there kinds start len a kind None k l l')
    ∙ ap (is_tagged_as (tag_of kind) kind) (get_or-filled_there marks start len a false false m l l') ∙ tag_of-true kind)

-- a range of Data is watched
pub AreTagged-watched : (tags : List WordTag) (kinds : List (Option MemKind)) (marks : List Bool) (start len : ℕ)
    → (start + len + 3) / 4 ≤ length tags → ((a : ℕ) → start ≤ a → a < start + len → get_or kinds a None ≡ Some kind.Data)
    → AreTagged tags kinds marks → AreTagged (retagged tags start len Readable) kinds (filled marks start len true)
AreTagged-watched tags kinds marks start len fits data_there =
    AreTagged-retagged tags kinds kinds marks (filled marks start len true) start len Readable fits
    (λ a out. refl)
    (λ a out. get_or-filled_other marks start len a true false out)
    (λ a l l'. ap is_mapped_as (data_there a l l'))

pub AreTagged-along : (tags tags' : List WordTag) (kinds kinds' : List (Option MemKind)) (marks marks' : List Bool) → tags' ≡ tags → kinds' ≡ kinds → marks' ≡ marks → AreTagged tags kinds marks → AreTagged tags' kinds' marks'
AreTagged-along tags tags' kinds kinds' marks marks' same_tags same_kinds same_marks are = rw (same_tags, same_kinds, same_marks) are

-- ---- what a tag tells

-- a tag that each word of an access has is true of each byte
pub Knows-shared : (tags : List WordTag) (tag : WordTag) (m : GuestMemory) (width count a : ℕ) → a % width ≡ 0
    → ((k : ℕ) → k < (a % 4 + count + 3) / 4 → (tag ≡ Mixed) ⊎ (get_or tags (a / 4 + k) Mixed ≡ tag)) → AreTagged tags m.kinds m.marks → Knows tag width count m a
Knows-shared tags tag m width count a aligned shared are = record {
  aligned = inr aligned;
  bytes = λ i l. elim (shared ((a % 4 + i) / 4) (omega arith)) [
    | inl none ↦ ap (λ t. is_tagged_as t (kind_at m (a + i)) (is_marked m (a + i))) none
    | inr same ↦
        let place : 4 * (a / 4 + (a % 4 + i) / 4) + (a % 4 + i) % 4 ≡ a + i = omega arith in
        ap (λ t. is_tagged_as t (kind_at m (a + i)) (is_marked m (a + i))) (sym same)
        ∙ subst (λ (b : ℕ). is_tagged_as (get_or tags (a / 4 + (a % 4 + i) / 4) Mixed) (kind_at m b) (is_marked m b) ≡ true) place (are (a / 4 + (a % 4 + i) / 4) ((a % 4 + i) % 4) (omega arith))
  ];
}

-- the tag of a word is true of each byte of an access that lies in it
pub Knows-tag : (tags : List WordTag) (m : GuestMemory) (width count a : ℕ) → a % width ≡ 0 → a % 4 + count ≤ 4 → AreTagged tags m.kinds m.marks
    → Knows (get_or tags (a / 4) Mixed) width count m a
Knows-tag tags m width count a aligned fits are =
    Knows-shared tags (get_or tags (a / 4) Mixed) m width count a aligned (λ k l. inr (let e : a / 4 + k ≡ a / 4 = omega arith in ap (λ w. get_or tags w Mixed) e)) are

pub Knows-nothing : (m : GuestMemory) (width count a : ℕ) → Knows Mixed width count m a
Knows-nothing m width count a = record { aligned = inl refl; bytes = λ i l. refl }

-- a search that no address passes finds nothing
first_from-clear : (test : ℕ → Bool) (a count : ℕ) → ((i : ℕ) → i < count → test (a + i) ≡ false) → first_from test a count ≡ None
first_from-clear test a zero h = refl
first_from-clear test a (suc count) h =
    let here : test a ≡ false = simp add-zero at (h 0 (omega arith)) in
    let later : first_from test (a + 1) count ≡ None = first_from-clear test (a + 1) count (λ i l. let e : a + 1 + i ≡ a + suc i = omega arith in rw e (h (suc i) (omega arith))) in
    rw (here, later) refl

aligned-none : (width a : ℕ) → a % width ≡ 0 → unaligned width a ≡ None
aligned-none width a h = rw h refl

read_refusal-none : (allowed : Option MemKind → Bool) (width count : ℕ) (m : GuestMemory) (a : ℕ) → a % width ≡ 0 → ((i : ℕ) → i < count → allowed (kind_at m (a + i)) ≡ true)
    → read_refusal allowed width count m a ≡ None
unfolding read_refusal
read_refusal-none allowed width count m a aligned h =
    ap (λ r. or_then r (fault_at (first_outside allowed m a count))) (aligned-none width a aligned)
    ∙ ap fault_at (first_from-clear (λ b. not (allowed (kind_at m b))) a count (λ i l. ap not (h i l)))

-- what is true of a byte by a tag that is enough
enough : (tag : WordTag) (asked : Asked) (kind : Option MemKind) (mark : Bool) → is_enough tag asked ≡ true → is_tagged_as tag kind mark ≡ true → is_asked asked kind ≡ true
enough Mixed asked kind mark e h = cc
enough Readable asks.Mapped kind mark e h = h
enough Readable asks.Code kind mark e h = cc
enough Code asks.Mapped None mark e h = cc
enough Code asks.Mapped (Some k) mark e h = refl
enough Code asks.Code kind mark e h = h
enough Plain asks.Mapped None mark e h = cc
enough Plain asks.Mapped (Some k) mark e h = refl
enough Plain asks.Code kind mark e h = cc

is_aligned : (tag : WordTag) (asked : Asked) (width a : ℕ) → is_enough tag asked ≡ true → (tag ≡ Mixed) ⊎ (a % width ≡ 0) → a % width ≡ 0
is_aligned tag asked width a e (inr aligned) = aligned
is_aligned Mixed asked width a e (inl none) = cc
is_aligned Readable asked width a e (inl none) = cc
is_aligned Code asked width a e (inl none) = cc
is_aligned Plain asked width a e (inl none) = cc

-- an access that a tag is enough for is not refused
pub known_read : (tag : WordTag) (asked : Asked) (width count : ℕ) (m : GuestMemory) (a : ℕ) → is_enough tag asked ≡ true → Knows tag width count m a → read_refusal (is_asked asked) width count m a ≡ None
known_read tag asked width count m a e k =
    read_refusal-none (is_asked asked) width count m a (is_aligned tag asked width a e k.aligned) (λ i l. enough tag asked (kind_at m (a + i)) (is_marked m (a + i)) e (k.bytes i l))

asked_none : (asked : Asked) → is_asked asked None ≡ false
asked_none asks.Mapped = refl
asked_none asks.Code = refl

-- and it lies inside
pub known_inside : (tag : WordTag) (asked : Asked) (width count : ℕ) (m : GuestMemory) (a : ℕ) → IsMemory m → 0 < count → is_enough tag asked ≡ true → Knows tag width count m a → a + count ≤ length m.bytes
known_inside tag asked width count m a whole some e k =
    let inside : a + count ≤ length m.kinds = granted_inside (is_asked asked) (asked_none asked) width count m a some (known_read tag asked width count m a e k) in
    let same : length m.kinds ≡ length m.bytes = whole.kinds in
    omega arith

plain-unwatched : (kind : Option MemKind) (mark : Bool) → is_plain_as kind mark ≡ true → is_watched_as kind mark ≡ false
plain-unwatched None mark h = cc
plain-unwatched (Some kind.Code) mark h = cc
plain-unwatched (Some kind.Data) true h = cc
plain-unwatched (Some kind.Data) false h = refl
plain-unwatched (Some kind.Fixed) mark h = cc

-- nor is a write to plain Data
pub known_write : (width count : ℕ) (m : GuestMemory) (a : ℕ) → Knows Plain width count m a → write_refusal width count m a ≡ None
unfolding write_refusal
known_write width count m a k =
    ap (λ r. or_then r (stray_at (first_watched m a count))) (known_read Plain asks.Mapped width count m a refl k)
    ∙ ap stray_at (first_from-clear (is_watched m) a count (λ i l. plain-unwatched (kind_at m (a + i)) (is_marked m (a + i)) (k.bytes i l)))
