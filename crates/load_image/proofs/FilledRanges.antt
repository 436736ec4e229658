-- What a sound object says of the words that loading writes into it.
use Rattle.std.proofs.Common.{◌≡◌, ℕ, zero, suc, ◌+◌, ◌-◌, ◌^◌, ◌<◌, ◌≤◌, ◌⊎◌, inl, inr, true, false, Bool, cond, eqb, leb, ◌&&◌, List, [], ◌∷◌, ◌++◌, length, map, get_or, slice_index, Option, Some, None, Ok, Err, Result, refl, sym, ap, subst, ◌∙◌, arith, All, AllPairs}
use Rattle.std.specs.Prelude.{unwrap_or}
use Rattle.std.specs.Option.{option_map_or}
use Rattle.std.specs.List.{AllZip, flat_map}
use Rattle.std.proofs.lemmas.Bool.{false≢true, cases_Bool, cond-true, cond-false, and_parts, or_cases, leb-true, eqb-true, and_from, and_left, and_right, le-leb, lt-ltb, lt-leb, le-ltb}
use Rattle.std.proofs.lemmas.List.{map-append}
use Rattle.std.proofs.lemmas.List.Elements.{All-nil, All-cons, All-head, All-tail, All-append}
use Rattle.fd_base.proofs.Lists.{pairs_head, pairs_tail}
use Rattle.elf_model.proofs.FilledSites.{all_sites, rels_of_sites}
use Rattle.elf_model.specs.declared.filled.FilledSite.{FilledSite}
use Rattle.elf_model.specs.declared.constants.TheConstants.{R_ARM_RELATIVE, R_ARM_FUNCDESC, R_ARM_FUNCDESC_VALUE, PF_W}
use Rattle.elf_model.specs.declared.table.Site.{Site}
use Rattle.elf_model.specs.declared.object.Segment.{Segment}
use Rattle.elf_model.specs.declared.object.Rel.{Rel}
use Rattle.elf_model.specs.declared.object.Object.{Object}
use Rattle.elf_model.specs.Segments.{has_flag}
use Rattle.elf_model.specs.Relocations.{site_size, word_site, got_header}
use Rattle.elf_model.specs.Places.{spans, is_writable_in, is_held_in, file_byte, site_of_rel, filled_ranges}
use Rattle.elf_model.specs.Sound.{IsSound, IsSized, IsInPlace, IsWhole, SegmentsApart}
use Rattle.load_model.specs.declared.error.LoadRefusal.{LoadRefusal}
use Rattle.load_model.specs.declared.layout.TheConstants.{RESOLVER}
use Rattle.load_model.specs.declared.meaning.SiteValue.{SiteValue}
use Rattle.load_model.specs.declared.meaning.SiteValue.TheVariants.{Place, Formula, Pair, Stub, Descriptor}
use Rattle.load_model.specs.declared.words.LinkWord.{LinkWord}
use Rattle.load_model.specs.Definition.{Linkage}
use Rattle.load_model.specs.Image.{Placing, got_words, value_words, words_for, words_of}
use Rattle.load_model.specs.Sites.{site_value, written, relative_at, function_at, value_at}
use Rattle.load_model.specs.Unbound.{is_set, waits, stub_or, standing_value}
use Rattle.elf_model.specs.Filled.{fixup_at, site_relocations, sites_of}
use Rattle.load_image.specs.parts.Bounds.{IsWordWhole}
use Rattle.load_image.specs.parts.Words.{HasValues, HasRoom, FitSites, words_by, words_with}

-- ---- the filled ranges: the header of the GOT, and the sites

fixup_sites : (addrs : List ℕ) → map site_of_rel (map fixup_at addrs) ≡ map word_site addrs
fixup_sites [] = refl
fixup_sites (a ∷ addrs) = ap (λ ws. word_site a ∷ ws) (fixup_sites addrs)

rel_ranges_are : (o : Object) → got_header o.got ∷ map site_of_rel (site_relocations o) ≡ filled_ranges o
rel_ranges_are o =
    let fixups = map fixup_at (unwrap_or o.fixups []) in
    let last : map site_of_rel fixups ≡ map word_site (unwrap_or o.fixups []) = fixup_sites (unwrap_or o.fixups []) in
    ap (λ ws. got_header o.got ∷ ws)
    (map-append site_of_rel (o.rels ++ o.jmprels) fixups
    ∙ ap (λ ws. ws ++ map site_of_rel fixups) (map-append site_of_rel o.rels o.jmprels)
    ∙ ap (λ ws. (map site_of_rel o.rels ++ map site_of_rel o.jmprels) ++ ws) last)

-- the range of a site
abbrev pub range_of : FilledSite → Site
range_of s = site_of_rel s.rel

mapped_twice : {X : Type 0} (f : Rel → X) (ss : List FilledSite) → map (λ (s : FilledSite). f s.rel) ss ≡ map f (map (λ (s : FilledSite). s.rel) ss)
mapped_twice f [] = refl
mapped_twice f (s ∷ ss) = ap (λ xs. f s.rel ∷ xs) (mapped_twice f ss)

-- what is told of each site's relocation, in order
pub by_rels : {X : Type 0} (f : Rel → X) (o : Object) → map (λ (s : FilledSite). f s.rel) (sites_of o) ≡ map f (site_relocations o)
by_rels f o = mapped_twice f (sites_of o) ∙ ap (map f) (rels_of_sites o)

pub ranges_are : (o : Object) → got_header o.got ∷ map range_of (sites_of o) ≡ filled_ranges o
ranges_are o = ap (λ ws. got_header o.got ∷ ws) (by_rels site_of_rel o) ∙ rel_ranges_are o

-- what holds of all filled ranges holds of the header and of each site
pub of_ranges : (P : Site → Type 0) (o : Object) → All P (filled_ranges o) → All P (got_header o.got ∷ map range_of (sites_of o))
of_ranges P o all = let Q : List Site → Type 0 = λ ws. All P ws in subst Q (sym (ranges_are o)) all

pub of_header : (P : Site → Type 0) (o : Object) → All P (filled_ranges o) → P (got_header o.got)
of_header P o all = All-head P (got_header o.got) (map range_of (sites_of o)) (of_ranges P o all)

pub of_sites : (P : Site → Type 0) (o : Object) → All P (filled_ranges o) → All P (map range_of (sites_of o))
of_sites P o all = All-tail P (got_header o.got) (map range_of (sites_of o)) (of_ranges P o all)

-- ---- ends

-- a site has one word at least
pub size_some : (r : Rel) → 4 ≤ (site_of_rel r).size
size_some r =
    elim (cases_Bool (eqb r.kind R_ARM_FUNCDESC_VALUE)) [
      | inl h ↦ omega (arith, cond-true {A = ℕ} (eqb r.kind R_ARM_FUNCDESC_VALUE) 8 4 h)
      | inr h ↦ omega (arith, cond-false {A = ℕ} (eqb r.kind R_ARM_FUNCDESC_VALUE) 8 4 h)
    ]

pub size_pair : (r : Rel) → r.kind ≡ R_ARM_FUNCDESC_VALUE → (site_of_rel r).size ≡ 8
size_pair r is = ap site_size is

-- what is in the memory of a writable segment ends below 2^32
writable_end : (ss : List Segment) (v n : ℕ) → All IsSized ss → is_writable_in ss v n ≡ true → v + n < 2 ^ 32
writable_end [] v n sized h = absurd cc
writable_end (s ∷ ss) v n sized h =
    elim (or_cases (has_flag s.flags PF_W && spans s v n) (is_writable_in ss v n) h) [
      | inl here ↦
          let parts = and_parts (has_flag s.flags PF_W) (spans s v n) here in
          let ends = and_parts (leb s.vaddr v) (leb (v + n) (s.vaddr + s.memsz)) parts.1 in
          omega (arith, leb-true (v + n) (s.vaddr + s.memsz) ends.1, (All-head IsSized s ss sized).end)
      | inr later ↦ writable_end ss v n (All-tail IsSized s ss sized) later
    ]

sites_end : (ss : List Segment) (sites : List FilledSite) → All IsSized ss → All (IsInPlace ss) (map range_of sites) → All (λ s. s.rel.site + 4 < 2 ^ 32) sites
sites_end ss [] sized in_place = All-nil (λ s. s.rel.site + 4 < 2 ^ 32)
sites_end ss (s ∷ sites) sized in_place =
    let here = All-head (IsInPlace ss) (range_of s) (map range_of sites) in_place in
    let end : s.rel.site + 4 < 2 ^ 32 = omega (arith, writable_end ss s.rel.site (range_of s).size sized here.writable, size_some s.rel) in
    All-cons (λ t. t.rel.site + 4 < 2 ^ 32) s sites end (sites_end ss sites sized (All-tail (IsInPlace ss) (range_of s) (map range_of sites) in_place))

-- the header of the GOT and the first word of each site end below 2^32
pub record HasWords (o : Object) : Type 0 where
  pub got : o.got + 12 < 2 ^ 32
  pub sites : All (λ s. s.rel.site + 4 < 2 ^ 32) (sites_of o)

pub has_words : (o : Object) → IsSound o → HasWords o
has_words o sound = record {
  got = writable_end o.segments o.got 12 sound.sized (of_header (IsInPlace o.segments) o sound.in_place).writable;
  sites = sites_end o.segments (sites_of o) sound.sized (of_sites (IsInPlace o.segments) o sound.in_place);
}

-- ---- the words of a site lie in its bytes

pub record InSite (s : Site) (w : LinkWord) : Type 0 where
  pub above : s.addr ≤ w.addr
  pub below : w.addr + 4 ≤ s.addr + s.size

abbrev IfRoom : Rel → Result SiteValue LoadRefusal → Type 0
IfRoom r (Ok value) = HasRoom r value
IfRoom r (Err refusal) = Unit {0}

branch : (r : Rel) (b : Bool) (x y : Result SiteValue LoadRefusal) → (b ≡ true → IfRoom r x) → IfRoom r y → IfRoom r (cond b x y)
branch r true x y px py = px refl
branch r false x y px py = py

as_written : {X : Type 0} (r : Rel) (value : X → SiteValue) (x : Result X LoadRefusal) → ((v : X) → HasRoom r (value v)) → IfRoom r (written value x)
as_written r value (Ok v) room = room v
as_written r value (Err e) room = tt

site_room : (l : Linkage) (m : ℕ) (o : Object) (r : Rel) → IfRoom r (site_value l m o r)
unfolding site_value
site_room l m o r =
    let pair = written Pair (function_at l m o r) in
    let formula = written Formula (value_at l m o r) in
    let last = cond (eqb r.kind R_ARM_FUNCDESC_VALUE) pair formula in
    let descriptor = written Descriptor (function_at l m o r) in
    let later = cond (eqb r.kind R_ARM_FUNCDESC) descriptor last in
    branch r (eqb r.kind R_ARM_RELATIVE) (written Place (relative_at l m o r)) later (λ _. as_written r Place (relative_at l m o r) (λ v. tt))
    (branch r (eqb r.kind R_ARM_FUNCDESC) descriptor last (λ _. as_written r Descriptor (function_at l m o r) (λ v. tt))
    (branch r (eqb r.kind R_ARM_FUNCDESC_VALUE) pair formula (λ is. as_written r Pair (function_at l m o r) (λ v. eqb-true r.kind R_ARM_FUNCDESC_VALUE is))
    (as_written r Formula (value_at l m o r) (λ v. tt))))

one_in : (r : Rel) (w : LinkWord) → w.addr ≡ r.site → All (InSite (site_of_rel r)) (w ∷ [])
one_in r w is =
    let P = InSite (site_of_rel r) in
    let here : P w = record { above = omega arith; below = omega (arith, size_some r) } in
    All-cons P w [] here (All-nil P)

two_in : (r : Rel) (w x : LinkWord) → (site_of_rel r).size ≡ 8 → w.addr ≡ r.site → x.addr ≡ r.site + 4 → All (InSite (site_of_rel r)) (w ∷ x ∷ [])
two_in r w x size is second =
    let P = InSite (site_of_rel r) in
    let here : P w = record { above = omega arith; below = omega (arith, size) } in
    let there : P x = record { above = omega arith; below = omega (arith, size) } in
    All-cons P w (x ∷ []) here (All-cons P x [] there (All-nil P))

-- so each site has room for its value
pub has_room : (l : Linkage) (m : ℕ) (o : Object) (r : Rel) (value : SiteValue) → site_value l m o r ≡ Ok value → HasRoom r value
has_room l m o r value is = subst (IfRoom r) is (site_room l m o r)

-- a slot has two words
abbrev pub IsWide : FilledSite → Type 0
IsWide s = (k : ℕ) → s.slot ≡ Some k → s.rel.kind ≡ R_ARM_FUNCDESC_VALUE

pub slots_wide : (o : Object) → IsSound o → All IsWide (sites_of o)
slots_wide o sound = all_sites IsWide (λ r. r.kind ≡ R_ARM_FUNCDESC_VALUE) o (λ r k never. absurd cc) (λ n r kind k is. kind) sound.slot_kinds

waits_wide : (unbound : List Bool) (s : FilledSite) → IsWide s → waits unbound s ≡ true → s.rel.kind ≡ R_ARM_FUNCDESC_VALUE
waits_wide unbound s wide set = by s.slot refl
  where
    by : (x : Option ℕ) → s.slot ≡ x → s.rel.kind ≡ R_ARM_FUNCDESC_VALUE
    by None is = absurd (false≢true (sym (ap (λ x. option_map_or (is_set unbound) x false) is) ∙ set))
    by (Some k) is = wide k is

-- and so has room for what stands there while it is unbound
stub_room : (o : Object) (r : Rel) (b : Bool) (value : SiteValue) → (b ≡ true → r.kind ≡ R_ARM_FUNCDESC_VALUE) → HasRoom r value → HasRoom r (stub_or b o r value)
stub_room o r true value wide room = wide refl
stub_room o r false value wide room = room

pub standing_room : (o : Object) (unbound : List Bool) (s : FilledSite) (value : SiteValue) → IsWide s → HasRoom s.rel value
    → HasRoom s.rel (stub_or (waits unbound s) o s.rel value)
standing_room o unbound s value wide room = stub_room o s.rel (waits unbound s) value (waits_wide unbound s wide) room

pub fit_sites : (l : Linkage) (m : ℕ) (o : Object) (values : List SiteValue) → HasValues l m o values → FitSites o values
fit_sites l m o values known = each (site_relocations o) values known
  where
    each : (rs : List Rel) (vs : List SiteValue) → map (site_value l m o) rs ≡ map Ok vs → AllZip HasRoom rs vs
    each [] [] is = tt
    each [] (v ∷ vs) is = absurd cc
    each (r ∷ rs) [] is = absurd cc
    each (r ∷ rs) (v ∷ vs) is =
        let here : site_value l m o r ≡ Ok v = cc in
        let later : map (site_value l m o) rs ≡ map Ok vs = cc in
        (has_room l m o r v here, each rs vs later)

pub value_in : (p : Placing) (m : ℕ) (o : Object) (r : Rel) (value : SiteValue) → HasRoom r value → All (InSite (site_of_rel r)) (value_words p m o r value)
value_in p m o r (Place f) room = one_in r _ refl
value_in p m o r (Formula v) room = one_in r _ refl
value_in p m o r (Pair None) room = two_in r _ _ (size_pair r room) refl refl
value_in p m o r (Pair (Some f)) room = two_in r _ _ (size_pair r room) refl refl
value_in p m o r (Stub z) room = two_in r _ _ (size_pair r room) refl refl
value_in p m o r (Descriptor None) room = one_in r _ refl
value_in p m o r (Descriptor (Some f)) room = one_in r _ refl

pub words_in : (l : Linkage) (p : Placing) (m : ℕ) (o : Object) (unbound : List Bool) (s : FilledSite) → IsWide s
    → All (InSite (range_of s)) (words_for p m o s.rel (standing_value l m o unbound s))
words_in l p m o unbound s wide = by_result (site_value l m o s.rel) refl
  where
    by_result : (v : Result SiteValue LoadRefusal) → site_value l m o s.rel ≡ v → All (InSite (range_of s)) (words_for p m o s.rel (written (stub_or (waits unbound s) o s.rel) v))
    by_result (Ok value) is =
        value_in p m o s.rel (stub_or (waits unbound s) o s.rel value) (standing_room o unbound s value wide (has_room l m o s.rel value is))
    by_result (Err e) is = All-nil (InSite (range_of s))

pub header_in : (p : Placing) (number got : ℕ) → All (InSite (got_header got)) (got_words p number got)
header_in p number got =
    let P = InSite (got_header got) in
    let first : LinkWord = record { addr = got; value = RESOLVER } in
    let second : LinkWord = record { addr = got + 4; value = number } in
    let third : LinkWord = record { addr = got + 8; value = p.load_maps number } in
    let one : P first = record { above = omega arith; below = omega arith } in
    let two : P second = record { above = omega arith; below = omega arith } in
    let three : P third = record { above = omega arith; below = omega arith } in
    All-cons P first (second ∷ third ∷ []) one (All-cons P second (third ∷ []) two (All-cons P third [] three (All-nil P)))

-- ---- what holds of a word wherever it lies in its site

abbrev pub site_words : Linkage → Placing → ℕ → Object → List Bool → List FilledSite → List LinkWord
site_words l p m o unbound ss = flat_map (λ s. words_for p m o s.rel (standing_value l m o unbound s)) ss

in_each : (Q : Site → Type 0) (P : LinkWord → Type 0) → ((s : Site) (w : LinkWord) → Q s → InSite s w → P w) → (s : Site) (ws : List LinkWord) → Q s → All (InSite s) ws → All P ws
in_each Q P step s ws is all = λ k d lt. step s (get_or ws k d) is (all k d lt)

pub all_site_words : (l : Linkage) (p : Placing) (m : ℕ) (o : Object) (unbound : List Bool) (Q : Site → Type 0) (P : LinkWord → Type 0)
    → ((s : Site) (w : LinkWord) → Q s → InSite s w → P w) → (ss : List FilledSite) → All IsWide ss → All Q (map range_of ss) → All P (site_words l p m o unbound ss)
all_site_words l p m o unbound Q P step [] wide all = All-nil P
all_site_words l p m o unbound Q P step (s ∷ ss) wide all =
    All-append P (words_for p m o s.rel (standing_value l m o unbound s)) (site_words l p m o unbound ss)
    (in_each Q P step (range_of s) (words_for p m o s.rel (standing_value l m o unbound s)) (All-head Q (range_of s) (map range_of ss) all)
    (words_in l p m o unbound s (All-head IsWide s ss wide)))
    (all_site_words l p m o unbound Q P step ss (All-tail IsWide s ss wide) (All-tail Q (range_of s) (map range_of ss) all))

pub all_words : (l : Linkage) (p : Placing) (m : ℕ) (o : Object) (unbound : List Bool) (Q : Site → Type 0) (P : LinkWord → Type 0)
    → ((s : Site) (w : LinkWord) → Q s → InSite s w → P w) → IsSound o → All Q (filled_ranges o) → All P (words_of l p m o unbound)
all_words l p m o unbound Q P step sound all =
    All-append P (got_words p m o.got) (site_words l p m o unbound (sites_of o))
    (in_each Q P step (got_header o.got) (got_words p m o.got) (of_header Q o all) (header_in p m o.got))
    (all_site_words l p m o unbound Q P step (sites_of o) (slots_wide o sound) (of_sites Q o all))

-- ---- words are whole

-- a word of a whole range is whole
word_of_whole : (s : Segment) (site : Site) (w : LinkWord) → IsWhole s site → InSite site w → IsWordWhole s.vaddr s.memsz w
word_of_whole s site w whole at =
    elim whole [
      | inl inside ↦ inl (omega (arith, inside.0, at.above), omega (arith, inside.1, at.below))
      | inr outside ↦ elim outside [
        | inl h ↦ inr (inl (omega (arith, at.below)))
        | inr h ↦ inr (inr (omega (arith, at.above)))
      ]
    ]

-- a value for each site, in the order of the sites
fit_by_sites : (ss : List FilledSite) (values : List SiteValue) → AllZip HasRoom (map (λ (s : FilledSite). s.rel) ss) values → AllZip (λ s v. HasRoom s.rel v) ss values
fit_by_sites [] [] room = tt
fit_by_sites [] (v ∷ values) room = absurd room
fit_by_sites (s ∷ ss) [] room = absurd room
fit_by_sites (s ∷ ss) (v ∷ values) room = (room.0, fit_by_sites ss values room.1)

whole_by : (p : Placing) (m : ℕ) (o : Object) (unbound : List Bool) (t : Segment) (ss : List FilledSite) (values : List SiteValue) → All IsWide ss
    → All (IsWhole t) (map range_of ss) → AllZip (λ s v. HasRoom s.rel v) ss values → All (IsWordWhole t.vaddr t.memsz) (words_by p m o unbound ss values)
whole_by p m o unbound t [] values wide whole room = All-nil (IsWordWhole t.vaddr t.memsz)
whole_by p m o unbound t (s ∷ ss) [] wide whole room = All-nil (IsWordWhole t.vaddr t.memsz)
whole_by p m o unbound t (s ∷ ss) (value ∷ values) wide whole room =
    let now : SiteValue = stub_or (waits unbound s) o s.rel value in
    All-append (IsWordWhole t.vaddr t.memsz) (value_words p m o s.rel now) (words_by p m o unbound ss values)
    (in_each (IsWhole t) (IsWordWhole t.vaddr t.memsz) (λ site w is at. word_of_whole t site w is at) (range_of s) (value_words p m o s.rel now)
    (All-head (IsWhole t) (range_of s) (map range_of ss) whole) (value_in p m o s.rel now (standing_room o unbound s value (All-head IsWide s ss wide) room.0)))
    (whole_by p m o unbound t ss values (All-tail IsWide s ss wide) (All-tail (IsWhole t) (range_of s) (map range_of ss) whole) room.1)

whole_words : (p : Placing) (m : ℕ) (o : Object) (unbound : List Bool) (values : List SiteValue) (t : Segment) → IsSound o → All (IsWhole t) (filled_ranges o)
    → FitSites o values → All (IsWordWhole t.vaddr t.memsz) (words_with p m o unbound values)
whole_words p m o unbound values t sound whole room =
    let fit = fit_by_sites (sites_of o) values (subst (λ (rs : List Rel). AllZip HasRoom rs values) (sym (rels_of_sites o)) room) in
    All-append (IsWordWhole t.vaddr t.memsz) (got_words p m o.got) (words_by p m o unbound (sites_of o) values)
    (in_each (IsWhole t) (IsWordWhole t.vaddr t.memsz) (λ site w is at. word_of_whole t site w is at) (got_header o.got) (got_words p m o.got)
    (of_header (IsWhole t) o whole) (header_in p m o.got))
    (whole_by p m o unbound t (sites_of o) values (slots_wide o sound) (of_sites (IsWhole t) o whole) fit)

-- the same of a segment that was read from the list
pub whole_at : (p : Placing) (m : ℕ) (o : Object) (unbound : List Bool) (values : List SiteValue) (words : List LinkWord) (k : ℕ) (t : Segment) → IsSound o
    → FitSites o values → words ≡ words_with p m o unbound values → k < length o.segments → t ≡ get_or o.segments k t → All (IsWordWhole t.vaddr t.memsz) words
whole_at p m o unbound values words k t sound room all lt is =
    let P : Segment → Type 0 = λ u. All (IsWordWhole u.vaddr u.memsz) (words_with p m o unbound values) in
    let Q : List LinkWord → Type 0 = λ ws. All (IsWordWhole t.vaddr t.memsz) ws in
    subst Q (sym all) (subst P (sym is) (whole_words p m o unbound values (get_or o.segments k t) sound (sound.whole k t lt) room))

-- ---- a segment's own bytes

holds_own : (s : Segment) (i : ℕ) → i < s.memsz → is_held_in s (s.vaddr + i) ≡ true
holds_own s i lt = and_from _ _ (le-leb s.vaddr (s.vaddr + i) (omega arith)) (lt-ltb (s.vaddr + i) (s.vaddr + s.memsz) (omega arith))

misses : (s : Segment) (v : ℕ) → (v < s.vaddr) ⊎ (s.vaddr + s.memsz ≤ v) → is_held_in s v ≡ false
misses s v off =
    elim off [
      | inl below ↦ and_left _ _ (lt-leb s.vaddr v below)
      | inr above ↦ and_right _ _ (le-ltb v (s.vaddr + s.memsz) above)
    ]

-- segments apart each hold their own addresses alone
pub own_at : (ss : List Segment) (k i : ℕ) (d : Segment) → AllPairs SegmentsApart ss → k < length ss → i < (get_or ss k d).memsz
    → file_byte ss ((get_or ss k d).vaddr + i) ≡ slice_index (get_or ss k d).filled i
own_at [] k i d apart lt in' = absurd (omega arith)
own_at (s ∷ ss) zero i d apart lt in' =
    let place : s.vaddr + i - s.vaddr ≡ i = omega arith in
    ap (λ b. cond b (slice_index s.filled (s.vaddr + i - s.vaddr)) (file_byte ss (s.vaddr + i))) (holds_own s i in') ∙ ap (slice_index s.filled) place
own_at (s ∷ ss) (suc k) i d apart lt in' =
    let t = get_or ss k d in
    let within : k < length ss = omega arith in
    let away = pairs_head SegmentsApart s ss apart k d within in
    let other : (t.vaddr + i < s.vaddr) ⊎ (s.vaddr + s.memsz ≤ t.vaddr + i) = elim away [ inl h ↦ inr (omega arith) | inr h ↦ inl (omega arith) ] in
    ap (λ b. cond b (slice_index s.filled (t.vaddr + i - s.vaddr)) (file_byte ss (t.vaddr + i))) (misses s (t.vaddr + i) other)
    ∙ own_at ss k i d (pairs_tail SegmentsApart s ss apart) within in'

-- the same of a segment that was read from the list
pub own_bytes_at : (ss : List Segment) (k : ℕ) (s : Segment) → AllPairs SegmentsApart ss → k < length ss → s ≡ get_or ss k s
    → (i : ℕ) → i < s.memsz → file_byte ss (s.vaddr + i) ≡ slice_index s.filled i
own_bytes_at ss k s apart lt is =
    let P : Segment → Type 0 = λ t. (i : ℕ) → i < t.memsz → file_byte ss (t.vaddr + i) ≡ slice_index t.filled i in
    subst P (sym is) (λ i in'. own_at ss k i s apart lt in')
