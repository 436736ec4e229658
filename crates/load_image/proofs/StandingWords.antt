-- What stands in an image.
use Rattle.std.proofs.Common.{◌≡◌, ℕ, ◌+◌, ◌-◌, ◌<◌, ◌≤◌, ◌⊎◌, inl, inr, Bool, List, [], ◌∷◌, ◌++◌, map, get_or, slice_index, Some, None, Ok, Err, Result, refl, sym, ap, subst, ◌∙◌, arith, All, AllPairs}
use Rattle.std.specs.Prelude.{Contains}
use Rattle.std.specs.List.{flat_map}
use Rattle.std.specs.Int.{w32, to_le_bytes}
use Rattle.std.proofs.lemmas.Bool.{cond-true, cond-false}
use Rattle.std.proofs.lemmas.List.Elements.{All-nil, All-cons, All-head, All-tail, All-append, All-contains}
use Rattle.fd_base.proofs.Lists.{all_front, all_back, pairs_tail, pairs_head}
use Rattle.elf_model.specs.declared.table.Site.{Site}
use Rattle.elf_model.specs.declared.filled.FilledSite.{FilledSite}
use Rattle.elf_model.specs.declared.object.Object.{Object}
use Rattle.elf_model.specs.declared.object.Rel.{Rel}
use Rattle.elf_model.specs.Relocations.{got_header}
use Rattle.elf_model.specs.Places.{file_byte, filled_ranges}
use Rattle.elf_model.specs.Sound.{IsSound, RangesApart}
use Rattle.load_model.specs.declared.error.LoadRefusal.{LoadRefusal}
use Rattle.load_model.specs.declared.layout.TheConstants.{RESOLVER}
use Rattle.load_model.specs.declared.meaning.SiteValue.{SiteValue}
use Rattle.load_model.specs.declared.meaning.SiteValue.TheVariants.{Place, Formula, Pair, Stub, Descriptor}
use Rattle.load_model.specs.declared.words.LinkWord.{LinkWord}
use Rattle.load_model.specs.Definition.{Linkage}
use Rattle.load_model.specs.Image.{Placing, place_of, got_of, word_at, pair_at, is_in_word, byte_over, got_words, image_of, value_words, words_for, words_of}
use Rattle.load_model.specs.Unbound.{standing_value}
use Rattle.elf_model.specs.Filled.{sites_of}
use Rattle.load_map.specs.Translation.{placed}
use Rattle.load_image.specs.parts.Laws.{HasWord, IsOffSite}
use Rattle.load_image.proofs.FilledRanges.{InSite, IsWide, range_of, ranges_are, slots_wide, words_in, header_in, site_words, all_site_words, all_words}
use Rattle.load_image.proofs.WrittenWords.{is_in, is_off}

-- ---- words that lie apart

abbrev WordsApart : LinkWord → LinkWord → Type 0
WordsApart w x = (w.addr + 4 ≤ x.addr) ⊎ (x.addr + 4 ≤ w.addr)

abbrev Apart : List LinkWord → Type 0
Apart [] = Unit {0}
Apart (w ∷ ws) = All (WordsApart w) ws × Apart ws

apart_append : (xs ys : List LinkWord) → Apart xs → Apart ys → All (λ x. All (WordsApart x) ys) xs → Apart (xs ++ ys)
apart_append [] ys own rest cross = rest
apart_append (x ∷ xs) ys own rest cross =
    let P : LinkWord → Type 0 = λ w. All (WordsApart w) ys in
    (All-append (WordsApart x) xs ys own.0 (All-head P x xs cross), apart_append xs ys own.1 rest (All-tail P x xs cross))

-- ---- the bytes of words that lie apart

first_word : (a : LinkWord) (rest : List LinkWord) (f : ℕ → ℕ) (j : ℕ) → j < 4 → byte_over (a ∷ rest) f (a.addr + j) ≡ slice_index (to_le_bytes w32 a.value) j
first_word a rest f j lt =
    let place : a.addr + j - a.addr ≡ j = omega arith in
    cond-true (is_in_word a (a.addr + j)) (slice_index (to_le_bytes w32 a.value) (a.addr + j - a.addr)) (byte_over rest f (a.addr + j)) (is_in a (a.addr + j) (omega arith) (omega arith))
    ∙ ap (slice_index (to_le_bytes w32 a.value)) place

past_word : (a : LinkWord) (rest : List LinkWord) (f : ℕ → ℕ) (v : ℕ) → (v < a.addr) ⊎ (a.addr + 4 ≤ v) → byte_over (a ∷ rest) f v ≡ byte_over rest f v
past_word a rest f v off = cond-false (is_in_word a v) (slice_index (to_le_bytes w32 a.value) (v - a.addr)) (byte_over rest f v) (is_off a v off)

stands : (ws : List LinkWord) (f : ℕ → ℕ) → Apart ws → All (HasWord (byte_over ws f)) ws
stands [] f apart = All-nil (HasWord (byte_over [] f))
stands (w ∷ ws) f apart =
    All-cons (HasWord (byte_over (w ∷ ws) f)) w ws (λ i lt. first_word w ws f i lt)
    (λ k d lt. λ i in'.
    let x = get_or ws k d in
    let away : (x.addr + i < w.addr) ⊎ (w.addr + 4 ≤ x.addr + i) = elim (apart.0 k d lt) [ inl h ↦ inr (omega arith) | inr h ↦ inl (omega arith) ] in
    past_word w ws f (x.addr + i) away ∙ stands ws f apart.1 k d lt i in')

untouched : (ws : List LinkWord) (f : ℕ → ℕ) (v : ℕ) → All (λ w. (v < w.addr) ⊎ (w.addr + 4 ≤ v)) ws → byte_over ws f v ≡ f v
untouched [] f v all = refl
untouched (w ∷ ws) f v all =
    let P : LinkWord → Type 0 = λ x. (v < x.addr) ⊎ (x.addr + 4 ≤ v) in
    past_word w ws f v (All-head P w ws all) ∙ untouched ws f v (All-tail P w ws all)

-- ---- all words of a sound object lie apart

one_apart : (w : LinkWord) → Apart (w ∷ [])
one_apart w = (All-nil (WordsApart w), tt)

two_apart : (w x : LinkWord) → w.addr + 4 ≤ x.addr → Apart (w ∷ x ∷ [])
two_apart w x le = (All-cons (WordsApart w) x [] (inl le) (All-nil (WordsApart w)), one_apart x)

header_apart : (p : Placing) (number got : ℕ) → Apart (got_words p number got)
header_apart p number got =
    let first : LinkWord = record { addr = got; value = RESOLVER } in
    let second : LinkWord = record { addr = got + 4; value = number } in
    let third : LinkWord = record { addr = got + 8; value = p.load_maps number } in
    let one : WordsApart first second = inl (omega arith) in
    let two : WordsApart first third = inl (omega arith) in
    (All-cons (WordsApart first) second (third ∷ []) one (All-cons (WordsApart first) third [] two (All-nil (WordsApart first))), two_apart second third (omega arith))

-- whatever their values are
word_apart : (site value : ℕ) → Apart (word_at site value)
word_apart site value = one_apart (record { addr = site; value = value })

pair_apart : (site code got : ℕ) → Apart (pair_at site code got)
pair_apart site code got = two_apart (record { addr = site; value = code }) (record { addr = site + 4; value = got }) (omega arith)

value_apart : (p : Placing) (m : ℕ) (o : Object) (r : Rel) (value : SiteValue) → Apart (value_words p m o r value)
value_apart p m o r (Place f) = word_apart r.site 0
value_apart p m o r (Formula v) = word_apart r.site 0
value_apart p m o r (Pair None) = pair_apart r.site 0 0
value_apart p m o r (Pair (Some f)) = pair_apart r.site (place_of p f) (got_of p f.module)
value_apart p m o r (Stub z) = pair_apart r.site (placed (p.maps m) z) (got_of p m)
value_apart p m o r (Descriptor None) = word_apart r.site 0
value_apart p m o r (Descriptor (Some f)) = word_apart r.site 0

result_apart : (p : Placing) (m : ℕ) (o : Object) (r : Rel) (v : Result SiteValue LoadRefusal) → Apart (words_for p m o r v)
result_apart p m o r (Ok value) = value_apart p m o r value
result_apart p m o r (Err e) = tt

-- a word of one range and one of a range apart from it
apart_in : (s t : Site) (w x : LinkWord) → RangesApart s t → InSite s w → InSite t x → WordsApart w x
apart_in s t w x apart here there = elim apart [ inl h ↦ inl (omega (arith, here.below, there.above)) | inr h ↦ inr (omega (arith, here.above, there.below)) ]

-- words of one range, and those of sites apart from it
cross : (l : Linkage) (p : Placing) (m : ℕ) (o : Object) (unbound : List Bool) (s : Site) (ws : List LinkWord) (ss : List FilledSite) → All IsWide ss → All (InSite s) ws
    → All (RangesApart s) (map range_of ss) → All (λ w. All (WordsApart w) (site_words l p m o unbound ss)) ws
cross l p m o unbound s ws ss wide here apart = λ k d lt.
    all_site_words l p m o unbound (RangesApart s) (WordsApart (get_or ws k d)) (λ t x is at. apart_in s t (get_or ws k d) x is (here k d lt) at) ss wide apart

sites_apart : (l : Linkage) (p : Placing) (m : ℕ) (o : Object) (unbound : List Bool) (ss : List FilledSite) → All IsWide ss → AllPairs RangesApart (map range_of ss)
    → Apart (site_words l p m o unbound ss)
sites_apart l p m o unbound [] wide pairs = tt
sites_apart l p m o unbound (s ∷ ss) wide pairs =
    let here = words_for p m o s.rel (standing_value l m o unbound s) in
    let rest = All-tail IsWide s ss wide in
    apart_append here (site_words l p m o unbound ss)
    (result_apart p m o s.rel (standing_value l m o unbound s))
    (sites_apart l p m o unbound ss rest (pairs_tail RangesApart (range_of s) (map range_of ss) pairs))
    (cross l p m o unbound (range_of s) here ss rest (words_in l p m o unbound s (All-head IsWide s ss wide)) (pairs_head RangesApart (range_of s) (map range_of ss) pairs))

words_apart : (l : Linkage) (p : Placing) (m : ℕ) (o : Object) (unbound : List Bool) → IsSound o → Apart (words_of l p m o unbound)
words_apart l p m o unbound sound =
    let P : List Site → Type 0 = λ ss. AllPairs RangesApart ss in
    let pairs = subst P (sym (ranges_are o)) sound.distinct in
    let ranges = map range_of (sites_of o) in
    let wide = slots_wide o sound in
    apart_append (got_words p m o.got) (site_words l p m o unbound (sites_of o))
    (header_apart p m o.got)
    (sites_apart l p m o unbound (sites_of o) wide (pairs_tail RangesApart (got_header o.got) ranges pairs))
    (cross l p m o unbound (got_header o.got) (got_words p m o.got) (sites_of o) wide (header_in p m o.got) (pairs_head RangesApart (got_header o.got) ranges pairs))

-- ---- the law

all_stand : (l : Linkage) (p : Placing) (m : ℕ) (o : Object) (unbound : List Bool) → IsSound o → All (HasWord (image_of l p m o unbound)) (words_of l p m o unbound)
all_stand l p m o unbound sound = stands (words_of l p m o unbound) (file_byte o.segments) (words_apart l p m o unbound sound)

of_each : (P : LinkWord → Type 0) (g : FilledSite → List LinkWord) (ss : List FilledSite) → All P (flat_map g ss) → All (λ s. All P (g s)) ss
of_each P g [] all = All-nil (λ s. All P (g s))
of_each P g (s ∷ ss) all = All-cons (λ t. All P (g t)) s ss (all_front P (g s) (flat_map g ss) all) (of_each P g ss (all_back P (g s) (flat_map g ss) all))

pub site_stands : (l : Linkage) (p : Placing) (m : ℕ) (o : Object) (unbound : List Bool) (s : FilledSite) (value : SiteValue) → IsSound o → Contains (sites_of o) s
    → standing_value l m o unbound s ≡ Ok value → All (HasWord (image_of l p m o unbound)) (value_words p m o s.rel value)
site_stands l p m o unbound s value sound in' is =
    let P = HasWord (image_of l p m o unbound) in
    let Q : Result SiteValue LoadRefusal → Type 0 = λ v. All P (words_for p m o s.rel v) in
    let g : FilledSite → List LinkWord = λ t. words_for p m o t.rel (standing_value l m o unbound t) in
    let each = of_each P g (sites_of o) (all_back P (got_words p m o.got) (site_words l p m o unbound (sites_of o)) (all_stand l p m o unbound sound)) in
    subst Q is (All-contains (λ t. All P (g t)) (sites_of o) s each in')

pub header_stands : (l : Linkage) (p : Placing) (m : ℕ) (o : Object) (unbound : List Bool) → IsSound o → All (HasWord (image_of l p m o unbound)) (got_words p m o.got)
header_stands l p m o unbound sound =
    all_front (HasWord (image_of l p m o unbound)) (got_words p m o.got) (site_words l p m o unbound (sites_of o)) (all_stand l p m o unbound sound)

pub others_stay : (l : Linkage) (p : Placing) (m : ℕ) (o : Object) (unbound : List Bool) (v : ℕ) → IsSound o → All (IsOffSite v) (filled_ranges o)
    → image_of l p m o unbound v ≡ file_byte o.segments v
others_stay l p m o unbound v sound outside =
    untouched (words_of l p m o unbound) (file_byte o.segments) v
    (all_words l p m o unbound (IsOffSite v) (λ w. (v < w.addr) ⊎ (w.addr + 4 ≤ v)) (λ s w is at. off s w is at) sound outside)
  where
    off : (s : Site) (w : LinkWord) → IsOffSite v s → InSite s w → (v < w.addr) ⊎ (w.addr + 4 ≤ v)
    off s w out at = elim out [ inl h ↦ inl (omega (arith, at.above)) | inr h ↦ inr (omega (arith, at.below)) ]
