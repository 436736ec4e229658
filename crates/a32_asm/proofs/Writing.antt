-- What both passes have made can be written.
use Rattle.std.proofs.Common.{◌≡◌, ◌≢◌, ℕ, zero, suc, ◌+◌, ◌%◌, ◌<◌, ◌≤◌, Bool, true, false, not, ◌&&◌, ◌||◌, eqb, List, [], ◌∷◌, ◌++◌, length, get_or, map, Option, Some, None, Result, Ok, Err, refl, sym, ap, subst, inl, inr, ◌∙◌, arith, eqb-true, eq-eqb, ne_eqb, lt-ltb}
use Rattle.std.specs.Prelude.{All, IfSome, is_some, is_none, nat_lt, ◌==◌, if◌then◌else◌, bytes_eq}
use Rattle.std.specs.Option.{option_map_or}
use Rattle.std.specs.List.{list_any, range_with_len, position_or_len, IsDistinct}
use Rattle.std.specs.Cmp.{nat_eq_equiv}
use Rattle.std.proofs.lemmas.Bool.{cases_Bool, cases_lt, and_from, and_left, and_right, or_parts, or_right, not-false, false≢true}
use Rattle.std.proofs.lemmas.List.{length-map, get_or_past}
use Rattle.std.proofs.lemmas.List.Elements.{All-append, All-cons, All-nil, All-filter, All-get_or, All-map, All-weaker, filter_passes}
use Rattle.std.proofs.lemmas.List.Folds.{list_any_at}
use Rattle.fd_base.specs.Lines.{lines_of}
use Rattle.elf_model.specs.Header.{is_one_of}
use Rattle.elf_model.specs.RelSections.{kept_kinds, is_section_align}
use Rattle.elf_model.specs.RelSound.{IsNameText, IsRelSoundIn, filled_size, IsSectionSound, is_place_among, is_definition, IsSymbolSound}
use Rattle.elf_model.specs.Segments.{has_flag}
use Rattle.elf_model.specs.Symbols.{null_symbol}
use Rattle.elf_model.specs.declared.constants.TheConstants.{SHT_NOBITS, SHF_ALLOC, SHF_TLS, STB_LOCAL, STB_GLOBAL, STB_WEAK, STT_FUNC, MAX_ENTRIES}
use Rattle.elf_model.specs.declared.object.Place.TheVariants as at
use Rattle.elf_model.specs.declared.object.Symbol.{Symbol}
use Rattle.elf_model.specs.declared.relocatable.RelObject.{RelObject}
use Rattle.elf_model.specs.declared.relocatable.RelSection.{RelSection}
use Rattle.elf_write.specs.WritableRel.{IsWritableRel}
use Rattle.a32_asm.specs.declared.refusal.AsmRefusal.{AsmRefusal}
use Rattle.a32_asm.specs.declared.said.Place.{Place}
use Rattle.a32_asm.specs.declared.said.Facts.{Facts}
use Rattle.a32_asm.specs.declared.section.TheConstants.{SECTIONS}
use Rattle.a32_asm.specs.Section.{section_name, section_kind, section_flags}
use Rattle.a32_asm.specs.Known.{no_facts, place_of}
use Rattle.a32_asm.specs.Layout.{Layout, start}
use Rattle.a32_asm.specs.FirstPass.{Passed, first_pass}
use Rattle.a32_asm.specs.SecondPass.{RelTo, Contents, nothing_yet, second_pass}
use Rattle.a32_asm.specs.Object.{facts_at, has_label, kept, names_it, locals, others, symbol_place, symbol_of, rel_of, section_of, object_of}
use Rattle.a32_asm.specs.Text.{with_contents, after_first, assembled, IsAssembled}
use Rattle.a32_asm.specs.parts.Made.{IsFact, IsMade}
use Rattle.a32_asm.specs.parts.Reached.{held, IsRelIn, IsReached}
use Rattle.a32_asm.proofs.Lists.{found_at, found_so, any_before, any_behind, any_filter, range_has, range_below, range_apart, filter_apart, parted, few_apart, each_among}
use Rattle.a32_asm.proofs.Taken.{taken}
use Rattle.a32_asm.proofs.Growing.{same, same_bytes, bytes_same}
use Rattle.a32_asm.proofs.Making.{made_saids, made_start}
use Rattle.a32_asm.proofs.Reaching.{reached, reached_start}

-- ---- the symbols are different names of the text

is_local : Layout → Contents → ℕ → Bool
is_local all contents k = is_none (facts_at all k).weak && list_any (names_it (get_or all.known.names k [])) contents.rels

is_other : Layout → ℕ → Bool
is_other all k = is_some (facts_at all k).weak || is_none (facts_at all k).label

either : (weak label named : Bool) → (not weak && named) ≡ true → label ≡ true → (weak || not label) ≡ false
either false true named e is = refl
either false false named e is = absurd (false≢true is)
either true label named e is = absurd (false≢true e)

pub labels_labelled : (all : Layout) → IsMade all → All (λ k. is_some (facts_at all k).label ≡ true) all.labels
labels_labelled all m = each_among (λ k. is_some (facts_at all k).label) all.labels (λ k e. sym (m.labelled k) ∙ e)

pub below : (all : Layout) → IsMade all → (k : ℕ) → is_some (facts_at all k).label ≡ true → k < length all.known.names
below all m k e = elim (cases_lt k (length all.known.facts)) [
  | inl l ↦ (let len = m.facts' in omega arith)
  | inr past ↦ absurd (false≢true (ap (λ (f : Facts). is_some f.label) (sym (get_or_past all.known.facts k no_facts past)) ∙ e))
]

unfoldable pub numbered : Layout → Contents → List ℕ
numbered all contents = locals all contents ++ others all

numbered_apart : (all : Layout) (contents : Contents) → IsMade all → IsDistinct eqb (numbered all contents)
unfolding numbered locals others is_local is_other
numbered_apart all contents m =
    let range = range_with_len 0 (length all.known.names) in
    parted (is_other all) (locals all contents) (others all) (filter_apart (is_local all contents) all.labels m.once) (filter_apart (is_other all) range (range_apart 0 (length all.known.names)))
    (λ i d l. let k = get_or (locals all contents) i d in
    either (is_some (facts_at all k).weak) (is_some (facts_at all k).label) (list_any (names_it (get_or all.known.names k [])) contents.rels)
    (filter_passes (is_local all contents) all.labels i d l) (All-filter (is_local all contents) (λ j. is_some (facts_at all j).label ≡ true) all.labels (labels_labelled all m) i d l))
    (filter_passes (is_other all) range)

pub numbered_below : (all : Layout) (contents : Contents) → IsMade all → All (λ k. k < length all.known.names) (numbered all contents)
unfolding numbered locals others is_local is_other
numbered_below all contents m =
    let n = length all.known.names in
    All-append (λ k. k < n) (locals all contents) (others all)
    (All-filter (is_local all contents) (λ k. k < n) all.labels (λ i d l. below all m (get_or all.labels i d) (labels_labelled all m i d l)))
    (All-filter (is_other all) (λ k. k < n) (range_with_len 0 n) (All-weaker (λ k. k < 0 + n) (λ k. k < n) (λ k l. omega arith) (range_with_len 0 n) (range_below 0 n)))

pub numbered_few : (all : Layout) (contents : Contents) → IsMade all → length (numbered all contents) ≤ length all.known.names
numbered_few all contents m = few_apart (length all.known.names) (numbered all contents) (numbered_apart all contents m) (numbered_below all contents m)

-- ---- whatever a relocation names has a symbol

flipped : (k : ℕ) (xs : List ℕ) → list_any (λ j. j == k) xs ≡ list_any (eqb k) xs
flipped k [] = refl
flipped k (x ∷ xs) = rw (nat_eq_equiv.symm x k) (ap (λ b. eqb k x || b) (flipped k xs))

is_there : (all : Layout) (contents : Contents) → IsMade all → (k : ℕ) → k < length all.known.names → list_any (names_it (get_or all.known.names k [])) contents.rels ≡ true
    → list_any (λ j. j == k) (numbered all contents) ≡ true
unfolding numbered locals others is_local is_other
is_there all contents m k l named = elim (cases_Bool (is_other all k)) [
  | inl other ↦ any_behind (λ j. j == k) (locals all contents) (others all)
      (any_filter (λ j. j == k) (is_other all) (range_with_len 0 (length all.known.names)) (λ j e. subst (λ i. is_other all i ≡ true) (sym (eqb-true j k e)) other)
      (flipped k (range_with_len 0 (length all.known.names)) ∙ range_has k 0 (length all.known.names) (omega arith) (omega arith)))
  | inr not_other ↦ (let parts = or_parts (is_some (facts_at all k).weak) (is_none (facts_at all k).label) not_other in
      let local = and_from (is_none (facts_at all k).weak) (list_any (names_it (get_or all.known.names k [])) contents.rels) (ap not parts.0) named in
      any_before (λ j. j == k) (locals all contents) (others all)
      (any_filter (λ j. j == k) (is_local all contents) all.labels (λ j e. subst (λ i. is_local all contents i ≡ true) (sym (eqb-true j k e)) local)
      (flipped k all.labels ∙ (m.labelled k ∙ not-false (is_some (facts_at all k).label) parts.1))))
]

rel_named : (all : Layout) (contents : Contents) (section i : ℕ) (d : RelTo) → i < length (get_or contents.rels section []) → list_any (bytes_eq (get_or (get_or contents.rels section []) i d).name) all.known.names ≡ true
    → list_any (names_it (get_or all.known.names (place_of (get_or (get_or contents.rels section []) i d).name all.known.names) [])) contents.rels ≡ true
rel_named all contents section i d l there = elim (cases_lt section (length contents.rels)) [
  | inl within ↦ list_any_at (names_it name) contents.rels section [] within (list_any_at (λ (r : RelTo). bytes_eq name r.name) (get_or contents.rels section []) i d l (subst (λ other. bytes_eq other rel.name ≡ true) is (same_bytes rel.name)))
  | inr past ↦ (let none = ap length (get_or_past contents.rels section [] past) in absurd (omega arith))
]
  where
    rel : RelTo
    rel = get_or (get_or contents.rels section []) i d

    name : List ℕ
    name = get_or all.known.names (place_of (get_or (get_or contents.rels section []) i d).name all.known.names) []

    is : rel.name ≡ name
    is = bytes_same rel.name name (found_so (bytes_eq rel.name) all.known.names [] there)

-- ---- sections

pub section_text : (k : ℕ) → k < SECTIONS → IsNameText (section_name k)
unfolding section_name
section_text zero l = refl
section_text (suc zero) l = refl
section_text (suc (suc zero)) l = refl
section_text (suc (suc (suc zero))) l = refl
section_text (suc (suc (suc (suc k)))) l = absurd (omega arith)

section_kept : (k : ℕ) → is_one_of kept_kinds (section_kind k) ≡ true
section_kept zero = refl
section_kept (suc zero) = refl
section_kept (suc (suc zero)) = refl
section_kept (suc (suc (suc k))) = refl

section_memory : (k : ℕ) → has_flag (section_flags k) SHF_ALLOC ≡ true
section_memory zero = refl
section_memory (suc zero) = refl
section_memory (suc (suc zero)) = refl
section_memory (suc (suc (suc k))) = refl

section_plain : (k : ℕ) → has_flag (section_flags k) SHF_TLS ≡ false
section_plain zero = refl
section_plain (suc zero) = refl
section_plain (suc (suc zero)) = refl
section_plain (suc (suc (suc k))) = refl

-- what the file holds of a section
held_size : (sizes : List ℕ) (k : ℕ) → k < SECTIONS → held sizes k ≡ (if section_kind k == SHT_NOBITS then 0 else get_or sizes k 0)
held_size sizes zero l = refl
held_size sizes (suc zero) l = refl
held_size sizes (suc (suc zero)) l = refl
held_size sizes (suc (suc (suc zero))) l = refl
held_size sizes (suc (suc (suc (suc k)))) l = absurd (omega arith)

pub kept_below : (all : Layout) → All (λ k. k < SECTIONS) (kept all)
unfolding kept
kept_below all = All-filter (λ k. nat_lt 0 (get_or all.sizes k 0) || list_any (has_label k) all.known.facts) (λ k. k < SECTIONS) (range_with_len 0 SECTIONS) (range_below 0 4)

symbol_count : (all : Layout) (contents : Contents) → length (null_symbol ∷ map (symbol_of all) (numbered all contents)) ≡ suc (length (numbered all contents))
symbol_count all contents = ap suc (length-map (numbered all contents) (symbol_of all))

rel_sound : (all : Layout) (contents : Contents) (section size i : ℕ) (d : RelTo) → IsMade all → i < length (get_or contents.rels section []) → IsRelIn size all.known.names (get_or (get_or contents.rels section []) i d)
    → IsRelSoundIn size (length (null_symbol ∷ map (symbol_of all) (numbered all contents))) (rel_of all (numbered all contents) (get_or (get_or contents.rels section []) i d))
rel_sound all contents section size i d m l is = record { inside = is.inside; known = or_right (suc_of == 0) (nat_lt suc_of (length (null_symbol ∷ map (symbol_of all) (numbered all contents)))) (lt-ltb suc_of _ short) }
  where
    place : ℕ
    place = place_of (get_or (get_or contents.rels section []) i d).name all.known.names

    suc_of : ℕ
    suc_of = 1 + position_or_len (λ j. j == place) (numbered all contents)

    short : suc_of < length (null_symbol ∷ map (symbol_of all) (numbered all contents))
    short =
        let within = found_at (bytes_eq (get_or (get_or contents.rels section []) i d).name) all.known.names is.known in
        let named = rel_named all contents section i d l is.known in
        let there = found_at (λ j. j == place) (numbered all contents) (is_there all contents m place within named) in
        let count = symbol_count all contents in omega arith

section_sound : (all : Layout) (contents : Contents) (k : ℕ) → IsMade all → IsReached all.known all contents → k < SECTIONS
    → IsSectionSound (length (null_symbol ∷ map (symbol_of all) (numbered all contents))) (section_of all contents (numbered all contents) k)
section_sound all contents k m r l =
    let count = length (null_symbol ∷ map (symbol_of all) (numbered all contents)) in
    let here : k < length all.aligns = rw m.aligns' l in
    let sized : k < length all.sizes = rw m.sizes' l in
    let size = held_size all.sizes k l in
    record {
      named = section_text k l;
      kept = section_kept k;
      has_memory = section_memory k;
      no_tls = section_plain k;
      aligned = All-get_or (λ align. is_section_align align ≡ true) all.aligns k 0 here m.aligned;
      small = All-get_or (λ size. size ≤ 4194304) all.sizes k 0 sized m.small;
      filled' = r.filling k l ∙ size;
      fills = All-map (IsRelSoundIn (filled_size (section_of all contents (numbered all contents) k)) count) (rel_of all (numbered all contents)) (get_or contents.rels k [])
          (subst (λ n. All (λ rel. IsRelSoundIn n count (rel_of all (numbered all contents) rel)) (get_or contents.rels k [])) size
          (λ i d short. rel_sound all contents k (held all.sizes k) i d m short (r.relocating k i d short)));
    }

-- ---- symbols

binding_small : (label : Option Place) (weak : Option Bool) → option_map_or (λ (w : Bool). if w then STB_WEAK else STB_GLOBAL) weak (if is_some label then STB_LOCAL else STB_GLOBAL) ≤ STB_WEAK
binding_small label (Some true) = omega arith
binding_small label (Some false) = omega arith
binding_small (Some place) None = omega arith
binding_small None None = omega arith

kept_there : (all : Layout) (k : ℕ) (place : Place) → k < length all.known.facts → (facts_at all k).label ≡ Some place → place.section < SECTIONS → list_any (λ j. j == place.section) (kept all) ≡ true
unfolding kept
kept_there all k place l e small =
    any_filter (λ j. j == place.section) (λ j. nat_lt 0 (get_or all.sizes j 0) || list_any (has_label j) all.known.facts) (range_with_len 0 SECTIONS)
    (λ j same. subst (λ i. (nat_lt 0 (get_or all.sizes i 0) || list_any (has_label i) all.known.facts) ≡ true) (sym (eqb-true j place.section same))
    (or_right (nat_lt 0 (get_or all.sizes place.section 0)) (list_any (has_label place.section) all.known.facts)
    (list_any_at (has_label place.section) all.known.facts k no_facts l (rw e (eq-eqb place.section place.section refl)))))
    (flipped place.section (range_with_len 0 SECTIONS) ∙ range_has place.section 0 4 (omega arith) (omega arith))

place_sound : (all : Layout) (k sections : ℕ) (label : Option Place) → k < length all.known.facts → (facts_at all k).label ≡ label → IfSome label (λ place. (place.section < SECTIONS) × (place.offset ≤ 4194304)) → sections ≡ length (kept all)
    → is_place_among sections (symbol_place all label) ≡ true
place_sound all k sections None l e small is = refl
place_sound all k sections (Some place) l e small is =
    lt-ltb (position_or_len (λ j. j == place.section) (kept all)) sections (rw is (found_at (λ j. j == place.section) (kept all) (kept_there all k place l e small.0)))

aligned_word : (all : Layout) (kind : ℕ) (label : Option Place) → (kind ≡ STT_FUNC → IfSome label (λ place. place.offset % 4 ≡ 0))
    → (kind == STT_FUNC && (is_definition (symbol_place all label) && option_map_or (λ (place : Place). place.offset) label 0 % 2 == 1)) ≡ false
aligned_word all kind None h = and_right (kind == STT_FUNC) false refl
aligned_word all kind (Some place) h = elim (cases_Bool (kind == STT_FUNC)) [
  | inl function ↦ and_right (kind == STT_FUNC) (place.offset % 2 == 1) (ne_eqb (place.offset % 2) 1 (λ odd. let four = h (eqb-true kind STT_FUNC function) in omega arith))
  | inr other ↦ and_left (kind == STT_FUNC) (place.offset % 2 == 1) other
]

symbol_sound : (all : Layout) (contents : Contents) (k sections : ℕ) → IsMade all → IsReached all.known all contents → k < length all.known.names → sections ≡ length (kept all) → IsSymbolSound sections (symbol_of all k)
symbol_sound all contents k sections m r l is =
    let inside : k < length all.known.facts = rw m.facts' l in
    let fact = All-get_or IsFact all.known.facts k no_facts inside m.plain in
    record {
      named = All-get_or IsNameText all.known.names k [] l m.named;
      nameless = λ e. absurd cc;
      known_binding = binding_small (facts_at all k).label (facts_at all k).weak;
      small_kind = (let small = fact.kind' in omega arith);
      no_tls = (let small = fact.kind' in λ e. absurd (omega arith));
      known_visibility = fact.visibility';
      placed = place_sound all k sections (facts_at all k).label inside refl fact.placed is;
      no_thumb = aligned_word all (facts_at all k).kind (facts_at all k).label (r.words k);
    }

null_sound : (sections : ℕ) → IsSymbolSound sections null_symbol
null_sound sections = record { named = tt; nameless = λ e. refl; known_binding = omega arith; small_kind = omega arith; no_tls = λ e. absurd (omega arith); known_visibility = omega arith; placed = refl; no_thumb = refl }

-- ---- the object

symbol_placed : (all : Layout) (label : Option Place) → symbol_place all label ≢ at.Dropped
symbol_placed all None e = absurd cc
symbol_placed all (Some place) e = absurd cc

pub kept_few : (all : Layout) → length (kept all) ≤ 4
unfolding kept
kept_few all = few_apart 4 (kept all) (filter_apart (λ k. nat_lt 0 (get_or all.sizes k 0) || list_any (has_label k) all.known.facts) (range_with_len 0 SECTIONS) (range_apart 0 4)) (kept_below all)

pub writable : (all : Layout) (contents : Contents) → IsMade all → IsReached all.known all contents → IsWritableRel (object_of all contents)
unfolding object_of numbered
writable all contents m r =
    let symbols = numbered all contents in
    let count = length (null_symbol ∷ map (symbol_of all) symbols) in
    let sections = length (map (section_of all contents symbols) (kept all)) in
    let few = numbered_few all contents m in
    let names = m.few in
    let counted = symbol_count all contents in
    let kept_count = length-map (kept all) (section_of all contents symbols) in
    let kept_few' = kept_few all in
    record {
      sound = record {
        sound_sections = All-map (IsSectionSound count) (section_of all contents symbols) (kept all) (All-weaker (λ k. k < SECTIONS) (λ k. IsSectionSound count (section_of all contents symbols k)) (λ k l. section_sound all contents k m r l) (kept all) (kept_below all));
        sound_symbols = All-cons (IsSymbolSound sections) null_symbol (map (symbol_of all) symbols) (null_sound sections)
            (All-map (IsSymbolSound sections) (symbol_of all) symbols (All-weaker (λ k. k < length all.known.names) (λ k. IsSymbolSound sections (symbol_of all k)) (λ k l. symbol_sound all contents k sections m r l kept_count) symbols (numbered_below all contents m)));
        null_first = All-cons (λ s. s ≡ null_symbol) null_symbol [] refl (All-nil (λ s. s ≡ null_symbol));
        few_symbols = omega arith;
      };
      some_symbol = omega arith;
      placed = All-cons (λ (s : Symbol). s.place ≢ at.Dropped) null_symbol (map (symbol_of all) symbols) (λ e. absurd cc)
          (All-map (λ (s : Symbol). s.place ≢ at.Dropped) (symbol_of all) symbols (All-weaker (λ k. k < length all.known.names) (λ k. (symbol_of all k).place ≢ at.Dropped) (λ k l. symbol_placed all (facts_at all k).label) symbols (numbered_below all contents m)));
      few_sections = omega arith;
      few_rels = All-map (λ (s : RelSection). length s.rels ≤ MAX_ENTRIES) (section_of all contents symbols) (kept all)
          (All-weaker (λ k. k < SECTIONS) (λ k. length (section_of all contents symbols k).rels ≤ MAX_ENTRIES)
          (λ k l. (let is = length-map (get_or contents.rels k []) (rel_of all symbols) in let few = r.few k in omega arith)) (kept all) (kept_below all));
    }

-- ---- the text

same_object : (a b : RelObject) → ◌≡◌ {A = Result RelObject AsmRefusal} (Ok a) (Ok b) → a ≡ b
same_object a b e = cc

-- what the first pass answers, and then the second
pub first_made : (text : List ℕ) (passed : Passed) → first_pass 1 (record { saids = []; layout = start }) (lines_of text) ≡ Ok passed → IsMade passed.layout
first_made text passed is = made_saids passed.saids start passed.layout made_start (taken (lines_of text) passed is)

pub second_reached : (text : List ℕ) (passed : Passed) (contents : Contents) → first_pass 1 (record { saids = []; layout = start }) (lines_of text) ≡ Ok passed
    → second_pass passed.layout.known 1 start nothing_yet passed.saids ≡ Ok contents → IsReached passed.layout.known passed.layout contents
second_reached text passed contents is ends =
    reached passed.saids 1 passed.layout.known start passed.layout nothing_yet contents made_start (taken (lines_of text) passed is) (same passed.layout.known.names) (reached_start passed.layout.known) ends

by_second : (passed : Passed) (object : RelObject) (r : Result Contents AsmRefusal) → second_pass passed.layout.known 1 start nothing_yet passed.saids ≡ r → IsMade passed.layout
    → ((contents : Contents) → second_pass passed.layout.known 1 start nothing_yet passed.saids ≡ Ok contents → IsReached passed.layout.known passed.layout contents)
    → with_contents passed.layout r ≡ Ok object → IsWritableRel object
by_second passed object (Err refusal) is m reaches e = absurd cc
by_second passed object (Ok contents) is m reaches e = subst IsWritableRel (same_object (object_of passed.layout contents) object e) (writable passed.layout contents m (reaches contents is))

by_first : (text : List ℕ) (object : RelObject) (r : Result Passed AsmRefusal) → first_pass 1 (record { saids = []; layout = start }) (lines_of text) ≡ r → after_first r ≡ Ok object → IsWritableRel object
by_first text object (Err refusal) is e = absurd cc
by_first text object (Ok passed) is e =
    by_second passed object (second_pass passed.layout.known 1 start nothing_yet passed.saids) refl (first_made text passed is) (λ contents ends. second_reached text passed contents is ends) e

pub assembled_writable : (text : List ℕ) (object : RelObject) → IsAssembled text object → IsWritableRel object
unfolding assembled
assembled_writable text object e = by_first text object (first_pass 1 (record { saids = []; layout = start }) (lines_of text)) refl e
