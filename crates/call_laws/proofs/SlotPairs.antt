-- The pair of a slot where it is placed.
use Rattle.std.proofs.Common.{◌≡◌, ◌≢◌, ℕ, ◌+◌, ◌-◌, ◌%◌, ◌^◌, ◌<◌, ◌≤◌, Bool, true, false, cond, ◌==◌, List, [], ◌∷◌, ◌++◌, map, Option, Some, None, Ok, refl, sym, ap, subst, ◌∙◌, arith, All}
use Rattle.std.specs.Prelude.{Contains, filter, unwrap_or}
use Rattle.std.specs.Option.{option_map_or}
use Rattle.std.proofs.lemmas.List.Elements.{All-head, All-tail, All-contains, Contains-append_left, Contains-append_right}
use Rattle.fd_base.proofs.Members.{filter_in, contains_at, map_in, contains_later}
use Rattle.fd_base.proofs.Lists.{all_at}
use Rattle.elf_model.specs.declared.constants.TheConstants.{R_ARM_FUNCDESC_VALUE}
use Rattle.elf_model.specs.declared.func.Func.{Func}
use Rattle.elf_model.specs.declared.object.Object.{Object}
use Rattle.elf_model.specs.declared.object.Rel.{Rel}
use Rattle.std.proofs.lemmas.Bool.{and_from}
use Rattle.std.proofs.lemmas.Bool.Decides.{Decides-eqb}
use Rattle.elf_model.specs.Places.{file_word, filled_ranges, is_executable_in, site_of_rel, slot_of}
use Rattle.elf_model.specs.Relocations.{got_header, word_site}
use Rattle.elf_model.specs.Sound.{IsSized, IsInPlace}
use Rattle.guest_mem.specs.Accesses.{read32_of}
use Rattle.guest_mem.specs.Memory.{byte_at, kind_at, is_watched}
use Rattle.fd_base.specs.Sums.{plus, minus}
use Rattle.load_image.specs.parts.Laws.{HasWord}
use Rattle.load_image.proofs.StandingWords.{site_stands}
use Rattle.fd_base.proofs.Ranges.{is_inside}
use Rattle.load_model.specs.declared.meaning.SiteValue.TheVariants.{Pair}
use Rattle.load_model.specs.declared.words.LinkWord.{LinkWord}
use Rattle.load_image.proofs.SlotPairWords.{pair_now}
use Rattle.load_model.specs.declared.module.Live.{Live}
use Rattle.load_model.specs.Image.{Placing, image_of, pair_at, place_of, got_of}
use Rattle.load_map.specs.Maps.{map_at}
use Rattle.load_map.specs.Translation.{placed}
use Rattle.load_model.specs.Layout.{kind_of_segment, watched_ranges}
use Rattle.load_model.specs.Linkage.{linkage_of}
use Rattle.load_model.specs.Process.{live_at, object_at}
use Rattle.load_model.specs.Sites.{function_at, is_code, site_value, written}
use Rattle.load_model.specs.Unbound.{is_set, stub_of, stub_or, unbound_of, waits}
use Rattle.elf_model.proofs.FilledSites.{slot_listed as slot_among}
use Rattle.elf_model.specs.Filled.{fixup_at, site_relocations, slot_site as numbered_site}
use Rattle.load_state.specs.Consistent.{IsConsistent, IsStanding}
use Rattle.load_state.specs.Loaded.{Loaded, placing_of}
use Rattle.load_map.specs.Maps.{map_at}
use Rattle.plt_code.specs.Entries.{lazy_place}
use Rattle.plt_code.specs.Standing.{is_near}
use Rattle.plt_code.proofs.Resolved.{lazy_calls_stand}
use Rattle.fd_base.proofs.Options.{from_map}
use Rattle.plt_code.specs.parts.Laws.{HasBoth}
use Rattle.plt_code.proofs.Within.{has_both}
use Rattle.fd_base.proofs.Lists.{all_at}
use Rattle.call_laws.proofs.SlotsLead.{IsTarget, code_target, slot_leads, spans_means, target}
use Rattle.call_laws.proofs.PlacedCode.{kind_there, byte_there, ends_there, aligned_there, apart_there}
use Rattle.call_laws.proofs.ReadWords.{value_stands, read_there}

-- ---- lists

kept_in : {X : Type 0} (p : X → Bool) (x y : X) (xs : List X) → Contains xs y → Contains (cond (p x) (x ∷ xs) xs) y
kept_in p x y xs there = by (p x)
  where
    by : (b : Bool) → Contains (cond b (x ∷ xs) xs) y
    by true = contains_later x y xs there
    by false = there

slot_site : (o : Object) (r : Rel) → Contains o.jmprels r → Contains (site_relocations o) r
slot_site o r there =
    Contains-append_left (o.rels ++ o.jmprels) (map fixup_at (unwrap_or o.fixups [])) r (Contains-append_right o.rels o.jmprels r there)

slot_range : (o : Object) (r : Rel) → Contains o.jmprels r → Contains (filled_ranges o) (site_of_rel r)
slot_range o r there =
    let own = map site_of_rel o.rels in
    let slots = map site_of_rel o.jmprels in
    let fixups = map word_site (unwrap_or o.fixups []) in
    contains_later (got_header o.got) (site_of_rel r) (own ++ slots ++ fixups)
    (Contains-append_left (own ++ slots) fixups (site_of_rel r) (Contains-append_right own slots (site_of_rel r) (map_in site_of_rel o.jmprels r there)))

-- ---- sums of words

-- from one word to another and back
back_again : (a b : ℕ) → a < 2 ^ 32 → b < 2 ^ 32 → plus b (minus a b) ≡ a
back_again a b small below = omega arith

same_offset : (a b x y : ℕ) → a + y ≡ b + x → b < 2 ^ 32 → y < 2 ^ 32 → minus a b ≡ minus x y
same_offset a b x y far small below = let same : a + (2 ^ 32 - b) ≡ x + (2 ^ 32 - y) = omega arith in ap (λ n. n % 2 ^ 32) same

-- ---- the words of a pair

abbrev pub code_of : Placing → Option Func → ℕ
code_of p f = option_map_or (place_of p) f 0

abbrev pub got_for : Placing → Option Func → ℕ
got_for p f = option_map_or (λ (g : Func). got_of p g.module) f 0

-- slot k of live module m
module _ (l : Loaded) (h : IsConsistent l) (small : l.modules.plan.memory < 2 ^ 32) (m k : ℕ) (o : Object) (r : Rel) (live : object_at l.modules.process m ≡ Some o)
    (slot_is : slot_of o k ≡ Some r) (near : is_near o.segments r.site o.got ≡ true) where
  abbrev p : Placing
  p = placing_of l.modules.process l.modules.maps l.modules.addrs

  abbrev u : List Bool
  u = unbound_of l.modules.process m

  abbrev x : ℕ
  x = placed (map_at l.modules.maps m) r.site

  abbrev g : ℕ
  g = placed (map_at l.modules.maps m) o.got

  standing : IsStanding l.modules m o
  standing = h.modules'.standing m o live

  there : Contains o.jmprels r
  there = contains_at o.jmprels k r slot_is

  kind : r.kind ≡ R_ARM_FUNCDESC_VALUE
  kind = All-contains (λ (q : Rel). q.kind ≡ R_ARM_FUNCDESC_VALUE) o.jmprels r standing.sound.slot_kinds there

  -- ---- where it leads

  leads_to : (f : Option Func) × (function_at (linkage_of l.modules.process) m o r ≡ Ok f) × (site_value (linkage_of l.modules.process) m o r ≡ Ok (Pair f))
  leads_to = slot_leads (linkage_of l.modules.process) m o r kind (slot_site o r there) standing.filled

  pub function : Option Func
  function = leads_to.0

  pub function_is : function_at (linkage_of l.modules.process) m o r ≡ Ok function
  unfolding function
  function_is = leads_to.1

  -- where it leads now
  pub now : Option Func
  now = cond (waits u (numbered_site k r)) (Some (stub_of m o r)) function

  pub now_is : now ≡ cond (waits u (numbered_site k r)) (Some (stub_of m o r)) function
  unfolding now
  now_is = refl

  -- an unbound slot has its call of the resolver, which is code
  stub_code : waits u (numbered_site k r) ≡ true → is_code (linkage_of l.modules.process) (stub_of m o r) ≡ true
  stub_code set = by (lazy_place o k) refl
    where
      member : (x : Live) × (live_at l.modules.process m ≡ Some x) × (x.object ≡ o)
      member = from_map (λ (x : Live). x.object) (live_at l.modules.process m) o live

      called : lazy_place o k ≢ None
      called =
          let flag : is_set (member.0).unbound k ≡ true = ap (λ (x : Option Live). is_set (option_map_or (λ y. y.unbound) x []) k) (sym member.1) ∙ set in
          subst (λ (y : Object). lazy_place y k ≢ None) member.2 ((h.valid.members m member.0 member.1).calls k flag)

      by : (x : Option ℕ) → lazy_place o k ≡ x → is_code (linkage_of l.modules.process) (stub_of m o r) ≡ true
      by None none = absurd (called none)
      by (Some z) some =
          let word : file_word o.segments r.site ≡ z = lazy_calls_stand.site o k z r some slot_is in
          let aligned = lazy_calls_stand.aligned o k z some in
          let bytes = lazy_calls_stand.bytes o k z standing.sound some in
          let place : z - 4 + 4 ≡ z = omega (arith, aligned.1) in
          let executable : is_executable_in o.segments z ≡ true = ap (is_executable_in o.segments) (sym place) ∙ bytes.executable 4 (omega arith) in
          let four : (z % 4 == 0) ≡ true = (Decides-eqb (z % 4) 0).1 aligned.0 in
          let there : option_map_or (λ (y : Object). is_executable_in y.segments z) (object_at l.modules.process m) false ≡ true =
          ap (λ (x : Option Object). option_map_or (λ (y : Object). is_executable_in y.segments z) x false) live ∙ executable in
          subst (λ (v : ℕ). is_code (linkage_of l.modules.process) (record { «module» = m; value = v }) ≡ true) (sym word) (and_from _ _ four there)

  goal_of : IsTarget l now
  unfolding now
  goal_of = by (waits u (numbered_site k r)) refl
    where
      by : (b : Bool) → waits u (numbered_site k r) ≡ b → IsTarget l (cond b (Some (stub_of m o r)) function)
      by true set = code_target l h small (stub_of m o r) (stub_code set)
      by false clear = target l h small m o r function function_is

  pub code_aligned : code_of p now % 4 ≡ 0
  code_aligned = goal_of.code_aligned

  -- ---- where it lies

  both : HasBoth o.segments r.site o.got
  both = has_both o.segments r.site o.got near

  site_within : (both.segment.vaddr ≤ r.site) × (r.site + 8 ≤ both.segment.vaddr + both.segment.memsz)
  site_within = spans_means both.segment r.site 8 both.has_site

  got_within : (both.segment.vaddr ≤ o.got) × (o.got + 12 ≤ both.segment.vaddr + both.segment.memsz)
  got_within = spans_means both.segment o.got 12 both.has_got

  pub slot_below : x + 8 < 2 ^ 32
  slot_below = ends_there l h m both.place o both.segment live both.held r.site 8 site_within.0 (omega (arith, site_within.1)) site_within.1 small

  got_below : g + 12 < 2 ^ 32
  got_below = ends_there l h m both.place o both.segment live both.held o.got 12 got_within.0 (omega (arith, got_within.1)) got_within.1 small

  pub offset_is : minus x g ≡ minus r.site o.got
  offset_is =
      let size = all_at IsSized o.segments both.place both.segment standing.sound.sized both.held in
      let far : x + o.got ≡ g + r.site =
      apart_there l h m both.place o both.segment live both.held r.site o.got site_within.0 (omega (arith, site_within.1)) got_within.0 (omega (arith, got_within.1)) in
      same_offset x g r.site o.got far (omega (arith, got_below)) (omega (arith, got_within.1, size.end))

  pub leads_back : plus g (minus x g) ≡ x
  leads_back = back_again x g (omega (arith, slot_below)) (omega (arith, got_below))

  -- ---- what it holds

  slot_kinds_are : (i : ℕ) → i < 8 → kind_at l.memory (x + i) ≡ Some (kind_of_segment both.segment)
  slot_kinds_are i lt = kind_there l h m both.place o both.segment live both.held r.site i site_within.0 (omega (arith, site_within.1))

  pub slot_watched : (i : ℕ) → i < 8 → is_watched l.memory (x + i) ≡ true
  slot_watched i lt =
      let pairs = filter (λ (q : Rel). q.kind == R_ARM_FUNCDESC_VALUE) (site_relocations o) in
      let passes : (r.kind == R_ARM_FUNCDESC_VALUE) ≡ true = rw kind refl in
      let in_pairs = filter_in (λ (q : Rel). q.kind == R_ARM_FUNCDESC_VALUE) (site_relocations o) r (slot_site o r there) passes in
      let range : Rel → ℕ × ℕ = λ q. (placed (map_at l.modules.maps m) q.site, 8) in
      let listed : Contains (watched_ranges (map_at l.modules.maps m) o) (x, 8) = contains_later (g, 12) (x, 8) (map range pairs) (map_in range pairs r in_pairs) in
      h.laid_out.watched m x 8 (x + i) (record { object' = o; live = live; listed = listed }) (is_inside x 8 (x + i) (omega arith) (omega arith))

  slot_byte : (i : ℕ) → i < 8 → byte_at l.memory (x + i) ≡ image_of (linkage_of l.modules.process) p m o u (r.site + i)
  slot_byte i lt = byte_there l h m both.place o both.segment live both.held r.site i site_within.0 (omega (arith, site_within.1)) (slot_watched i lt)

  words : All (HasWord (image_of (linkage_of l.modules.process) p m o u)) (pair_at r.site (code_of p now) (got_for p now))
  unfolding now function
  words =
      let b = waits u (numbered_site k r) in
      subst (All (HasWord (image_of (linkage_of l.modules.process) p m o u))) (pair_now p m o r b function)
      (site_stands (linkage_of l.modules.process) p m o u (numbered_site k r) (stub_or b o r (Pair function)) standing.sound (slot_among o k r slot_is)
      (ap (written (stub_or b o r)) leads_to.2))

  abbrev first : LinkWord
  first = record { addr = r.site; value = code_of p now }

  abbrev second : LinkWord
  second = record { addr = r.site + 4; value = got_for p now }

  first_stands : HasWord (image_of (linkage_of l.modules.process) p m o u) first
  first_stands = All-head (HasWord (image_of (linkage_of l.modules.process) p m o u)) first (second ∷ []) words

  second_stands : HasWord (image_of (linkage_of l.modules.process) p m o u) second
  second_stands =
      let P = HasWord (image_of (linkage_of l.modules.process) p m o u) in
      All-head P second [] (All-tail P first (second ∷ []) words)

  slot_aligned : x % 4 ≡ 0
  slot_aligned =
      let place = All-contains (IsInPlace o.segments) (filled_ranges o) (site_of_rel r) standing.sound.in_place (slot_range o r there) in
      aligned_there l h m both.place o both.segment live both.held r.site site_within.0 (omega (arith, site_within.1)) place.aligned

  pub code_read : read32_of l.memory x ≡ Ok (code_of p now)
  code_read =
      read_there l.memory x (code_of p now) (kind_of_segment both.segment) slot_aligned (λ i lt. slot_kinds_are i (omega arith))
      (value_stands l.memory x (code_of p now) goal_of.code_below (λ i lt. slot_byte i (omega arith) ∙ first_stands i lt))

  pub got_read : read32_of l.memory (x + 4) ≡ Ok (got_for p now)
  got_read =
      let aligned = slot_aligned in
      let next : (i : ℕ) → x + 4 + i ≡ x + (4 + i) = λ i. omega arith in
      let link : (i : ℕ) → r.site + (4 + i) ≡ r.site + 4 + i = λ i. omega arith in
      read_there l.memory (x + 4) (got_for p now) (kind_of_segment both.segment) (omega arith) (λ i lt. ap (kind_at l.memory) (next i) ∙ slot_kinds_are (4 + i) (omega arith))
      (value_stands l.memory (x + 4) (got_for p now) goal_of.got_below
      (λ i lt. ap (byte_at l.memory) (next i) ∙ slot_byte (4 + i) (omega arith) ∙ ap (image_of (linkage_of l.modules.process) p m o u) (link i) ∙ second_stands i lt))
