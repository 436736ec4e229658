-- What the lines of a first pass make.
use Rattle.std.proofs.Common.{◌≡◌, ℕ, zero, suc, ◌+◌, ◌%◌, ◌<◌, ◌≤◌, Bool, true, false, not, ◌&&◌, ◌||◌, max, eqb, List, [], ◌∷◌, ◌++◌, length, get_or, set, Option, Some, None, refl, sym, ap, subst, inl, inr, ◌∙◌, arith, leb-true, leb-false, le-ltb, eqb-true, eq-eqb, ne_eqb, length-set, get_or-set_same, get_or-set_other}
use Rattle.std.specs.Prelude.{All, IfSome, is_some, nat_le, nat_lt, ◌==◌, if◌then◌else◌, bytes_eq, position, option_map}
use Rattle.std.specs.List.{list_any, list_all, IsDistinct, position_or_len}
use Rattle.std.specs.Cmp.{nat_eq_equiv}
use Rattle.std.specs.Cmp.Lexicographic.{nat_list_eq_equiv}
use lib.Count.{ones}
use Rattle.std.proofs.lemmas.Bool.{cases_eq, cases_lt, cond_both, cond-false, and_parts, or_parts, or_left, false≢true}
use Rattle.std.proofs.lemmas.List.{length_push, get_or_past}
use Rattle.std.proofs.Math.Bool.{or-false}
use Rattle.std.proofs.lemmas.List.Elements.{All-push, All-set, All-get_or, All-nil, All-replicate}
use Rattle.std.proofs.lemmas.List.Folds.{list_any-append}
use Rattle.std.proofs.lemmas.Map.Keys.{IsDistinct-push}
use Rattle.fd_base.specs.declared.name.NameErr.TheVariants.{Empty, TooLong, Zero}
use Rattle.elf_model.specs.RelSections.{is_section_align}
use Rattle.elf_model.specs.RelSound.{IsNameText}
use Rattle.a32_text.specs.Token.{is_word, is_decimal}
use Rattle.a32_text.specs.Word.{is_name}
use Rattle.a32_text.specs.declared.refusal.AsmKind.{AsmKind}
use Rattle.a32_text.specs.declared.refusal.AsmKind.TheVariants.{Range, LabelTwice}
use Rattle.a32_asm.specs.declared.said.Facts.{Facts}
use Rattle.a32_asm.specs.declared.limits.TheConstants.{SECTION_MAX, NAMES_REFUSED}
use Rattle.a32_asm.specs.declared.section.TheConstants.{SECTIONS, BSS}
use Rattle.a32_asm.specs.Said.{Said, Statement, Nothing, Instr, Section, Bind, Show, Kind, Word, WordOf, Byte, Text, Space, Align}
use Rattle.a32_asm.specs.Known.{Names, no_facts, place_of, with_name, facts_of}
use Rattle.a32_asm.specs.Layout.{Layout, start, size_here, size_of, is_word as is_word_statement, name_in, with_named, with_names, labelled_at, with_label, with_told, chosen, align_of, with_statement, with_said, fits_at, is_labelled, place_refusal}
use Rattle.a32_asm.specs.parts.Made.{IsFact, IsMade}
use Rattle.a32_asm.proofs.Lists.{push_default, found_at, any_behind}
use Rattle.a32_asm.proofs.Told.{IsName, IsTold, IsToldBy}
use Rattle.a32_asm.proofs.Taken.{IsTaken, AreTaken}
use Rattle.a32_asm.proofs.Growing.{has, has_label, told_names}

-- ---- names can be written

word_not_zero : (byte : ℕ) → is_word byte ≡ true → (byte == 0) ≡ false
unfolding is_word
word_not_zero byte e = elim (cases_eq byte 0) [ inl z ↦ absurd (false≢true (subst (λ b. is_word b ≡ true) z e)) | inr ne ↦ ne_eqb byte 0 ne ]

no_zero : (bytes : List ℕ) → list_all is_word bytes ≡ true → list_any (λ byte. byte == 0) bytes ≡ false
no_zero [] e = refl
no_zero (byte ∷ bytes) e = let p = and_parts (is_word byte) (list_all is_word bytes) e in rw (word_not_zero byte p.0) (no_zero bytes p.1)

none_found : (p : ℕ → Bool) (xs : List ℕ) → list_any p xs ≡ false → position p xs ≡ None
none_found p xs e = cond-false (nat_lt (position_or_len p xs) (length xs)) _ _ (le-ltb (position_or_len p xs) (length xs) (len_le p xs e))
  where
    len_le : (p : ℕ → Bool) (xs : List ℕ) → list_any p xs ≡ false → length xs ≤ position_or_len p xs
    len_le p [] e = omega arith
    len_le p (x ∷ xs) e = let q = or_parts (p x) (list_any p xs) e in let l = len_le p xs q.1 in rw q.0 (omega arith)

unrefused : (a b : Bool) (o : Option ℕ) → a ≡ false → b ≡ false → o ≡ None → (if a then Some Empty else if b then Some TooLong else option_map Zero o) ≡ None
unrefused a b o e f g = rw (e, f, g) refl

pub name_text : (name : List ℕ) → IsName name → IsNameText name
unfolding is_name
name_text [] e = absurd cc
name_text (first ∷ others) e =
    let name = first ∷ others in
    let p = and_parts (not (is_decimal first)) (nat_le (length name) 255 && list_all is_word name) e in
    let q = and_parts (nat_le (length name) 255) (list_all is_word name) p.1 in
    let short = leb-true (length name) 255 q.0 in
    unrefused (length name == 0) (nat_lt 255 (length name)) (position (λ b. b == 0) name) (ne_eqb (length name) 0 (λ z. absurd (omega arith))) (le-ltb 255 (length name) short) (none_found (λ b. b == 0) name (no_zero name q.1))

-- ---- the tests of a line

pub record IsFree (layout : Layout) (said : Said) : Type 0 where
  pub aligned : is_word_statement said.statement ≡ true → size_here layout % 4 ≡ 0
  pub room : size_here layout + size_of (size_here layout) said.statement ≤ SECTION_MAX
  pub few : length (with_names said layout.known).names < NAMES_REFUSED
  pub fresh : is_labelled said.label (with_names said layout.known) ≡ false

by_tests : (a b c : Bool) → ◌≡◌ {A = Option AsmKind} (if not a then Some Range else if b then Some Range else if c then Some LabelTwice else None) None → (a ≡ true) × (b ≡ false) × (c ≡ false)
by_tests true false false e = (refl, refl, refl)
by_tests true false true e = absurd cc
by_tests true true c e = absurd cc
by_tests false b c e = absurd cc

on_word : (w : Bool) (n : ℕ) → not (w && not (n == 0)) ≡ true → w ≡ true → n ≡ 0
on_word w n e is = eqb-true n 0 (go w (n == 0) e is)
  where
    go : (w b : Bool) → not (w && not b) ≡ true → w ≡ true → b ≡ true
    go true true e is = refl
    go true false e is = e
    go false b e is = absurd (false≢true is)

pub free : (layout : Layout) (said : Said) → place_refusal layout said ≡ None → IsFree layout said
unfolding place_refusal fits_at
free layout said e =
    let here = size_here layout in
    let t = by_tests (fits_at here said.statement) (nat_le NAMES_REFUSED (length (with_names said layout.known).names)) (is_labelled said.label (with_names said layout.known)) e in
    let both = and_parts (not (is_word_statement said.statement && not (here % 4 == 0))) (nat_le (here + size_of here said.statement) SECTION_MAX) t.0 in
    record {
      aligned = on_word (is_word_statement said.statement) (here % 4) both.0;
      room = leb-true (here + size_of here said.statement) SECTION_MAX both.1;
      few = leb-false NAMES_REFUSED (length (with_names said layout.known).names) t.1;
      fresh = t.2;
    }

-- ---- facts

pub set_same : {X Y : Type 0} (g : X → Y) (xs : List X) (i k : ℕ) (x d : X) → g x ≡ g (get_or xs i d) → g (get_or (set xs i x) k d) ≡ g (get_or xs k d)
set_same g [] i k x d e = refl
set_same g (y ∷ xs) zero zero x d e = e
set_same g (y ∷ xs) zero (suc k) x d e = refl
set_same g (y ∷ xs) (suc i) zero x d e = refl
set_same g (y ∷ xs) (suc i) (suc k) x d e = set_same g xs i k x d e

-- names and facts
pub record IsKnown (known : Names) : Type 0 where
  pub named : All IsNameText known.names
  pub different : IsDistinct bytes_eq known.names
  pub facts' : length known.facts ≡ length known.names
  pub plain : All IsFact known.facts

nothing_told : IsFact no_facts
nothing_told = record { placed = tt; kind' = omega arith; visibility' = omega arith }

pub fact_of : (name : List ℕ) (known : Names) → All IsFact known.facts → IsFact (facts_of name known)
fact_of name known h = elim (cases_lt (place_of name known.names) (length known.facts)) [
  | inl l ↦ All-get_or IsFact known.facts (place_of name known.names) no_facts l h
  | inr l ↦ rw (get_or_past known.facts (place_of name known.names) no_facts l) nothing_told
]

known_name : (name : List ℕ) (known : Names) → IsName name → IsKnown known → IsKnown (with_name name known)
known_name name known is h =
    cond_both (has name known.names) known (record { names = known.names ++ name ∷ []; facts = known.facts ++ no_facts ∷ [] }) IsKnown (λ e. h)
    (λ e. record {
      named = All-push IsNameText known.names name h.named (name_text name is);
      different = IsDistinct-push nat_list_eq_equiv known.names name h.different e;
      facts' = length_push known.facts no_facts ∙ (ap (λ n. n + 1) h.facts' ∙ sym (length_push known.names name));
      plain = All-push IsFact known.facts no_facts h.plain nothing_told;
    })

known_named : (name : Option (List ℕ)) (known : Names) → IfSome name IsName → IsKnown known → IsKnown (with_named name known)
known_named None known is h = h
known_named (Some name) known is h = known_name name known is h

told_name : (in_bss : Bool) (statement : Statement) → IsTold in_bss statement → IfSome (name_in statement) IsName
told_name in_bss Nothing h = tt
told_name in_bss (Instr i) h = h.1
told_name in_bss (Section number) h = tt
told_name in_bss (Bind name weak) h = h
told_name in_bss (Show name visibility) h = h.0
told_name in_bss (Kind name kind) h = h.0
told_name in_bss (Word n) h = tt
told_name in_bss (WordOf name kind add) h = h.1
told_name in_bss (Byte n) h = tt
told_name in_bss (Text bytes) h = tt
told_name in_bss (Space n) h = tt
told_name in_bss (Align n) h = tt

known_names : (in_bss : Bool) (said : Said) (known : Names) → IsToldBy in_bss said → IsKnown known → IsKnown (with_names said known)
known_names in_bss said known is h =
    known_named (name_in said.statement) (with_named said.label known) (told_name in_bss said.statement is.1) (known_named said.label known is.0 h)

-- a new name has no facts
stays_name : (name : List ℕ) (known : Names) (k : ℕ) → get_or (with_name name known).facts k no_facts ≡ get_or known.facts k no_facts
stays_name name known k =
    cond_both (has name known.names) known (record { names = known.names ++ name ∷ []; facts = known.facts ++ no_facts ∷ [] }) (λ (n : Names). get_or n.facts k no_facts ≡ get_or known.facts k no_facts)
    (λ e. refl) (λ e. push_default known.facts no_facts k)

stays_named : (name : Option (List ℕ)) (known : Names) (k : ℕ) → get_or (with_named name known).facts k no_facts ≡ get_or known.facts k no_facts
stays_named None known k = refl
stays_named (Some name) known k = stays_name name known k

pub stays : (said : Said) (known : Names) (k : ℕ) → get_or (with_names said known).facts k no_facts ≡ get_or known.facts k no_facts
stays said known k = stays_named (name_in said.statement) (with_named said.label known) k ∙ stays_named said.label known k

-- ---- the names of a line

known_of : (layout : Layout) → IsMade layout → IsKnown layout.known
known_of layout h = record { named = h.named; different = h.different; facts' = h.facts'; plain = h.plain }

made_names : (in_bss : Bool) (said : Said) (layout : Layout) → IsMade layout → IsToldBy in_bss said → length (with_names said layout.known).names < NAMES_REFUSED → IsMade (record layout { known = with_names said layout.known })
made_names in_bss said layout h is few =
    let k = known_names in_bss said layout.known is (known_of layout h) in
    record {
      chosen = h.chosen;
      sizes' = h.sizes';
      aligns' = h.aligns';
      small = h.small;
      aligned = h.aligned;
      named = k.named;
      different = k.different;
      facts' = k.facts';
      few = few;
      plain = k.plain;
      once = h.once;
      labelled = λ j. h.labelled j ∙ ap (λ (f : Facts). is_some f.label) (sym (stays said layout.known j));
    }

-- ---- its label

pub small_here : (layout : Layout) → IsMade layout → size_here layout ≤ SECTION_MAX
small_here layout h = let l : layout.here < length layout.sizes = rw h.sizes' h.chosen in All-get_or (λ n. n ≤ SECTION_MAX) layout.sizes layout.here 0 l h.small

made_label : (label : Option (List ℕ)) (layout : Layout) → IsMade layout → IfSome label (λ name. has name layout.known.names ≡ true) → is_labelled label layout.known ≡ false → IsMade (with_label label layout)
made_label None layout h there fresh = h
made_label (Some name) layout h there fresh =
    let p = place_of name layout.known.names in
    let facts = layout.known.facts in
    let old = facts_of name layout.known in
    let new : Facts = labelled_at (record { section = layout.here; offset = size_here layout }) old in
    let was = fact_of name layout.known h.plain in
    let found : p < length layout.known.names = found_at (bytes_eq name) layout.known.names there in
    let inside : p < length facts = rw h.facts' found in
    record {
      chosen = h.chosen;
      sizes' = h.sizes';
      aligns' = h.aligns';
      small = h.small;
      aligned = h.aligned;
      named = h.named;
      different = h.different;
      facts' = length-set facts p new ∙ h.facts';
      few = h.few;
      plain = All-set IsFact facts p new (record { placed = (h.chosen, small_here layout h); kind' = was.kind'; visibility' = was.visibility' }) h.plain;
      once = IsDistinct-push nat_eq_equiv layout.labels p h.once (h.labelled p ∙ fresh);
      labelled = λ k. elim (cases_eq k p) [
        | inl e ↦ any_behind (eqb k) layout.labels (p ∷ []) (or_left (eqb k p) false (eq-eqb k p e))
            ∙ sym (ap (λ (f : Facts). is_some f.label) (ap (λ j. get_or (set facts p new) j no_facts) e ∙ get_or-set_same facts p new no_facts inside))
        | inr ne ↦ list_any-append (eqb k) layout.labels (p ∷ []) ∙ ap (λ b. list_any (eqb k) layout.labels || (b || false)) (ne_eqb k p ne)
            ∙ or-false (list_any (eqb k) layout.labels) ∙ h.labelled k ∙ sym (ap (λ (f : Facts). is_some f.label) (get_or-set_other facts p k new no_facts ne))
      ];
    }

-- ---- its statement

chosen_below : (in_bss : Bool) (statement : Statement) (here : ℕ) → IsTold in_bss statement → here < SECTIONS → chosen statement here < SECTIONS
chosen_below in_bss (Section number) here is h = is
chosen_below in_bss Nothing here is h = h
chosen_below in_bss (Instr i) here is h = h
chosen_below in_bss (Bind name weak) here is h = h
chosen_below in_bss (Show name visibility) here is h = h
chosen_below in_bss (Kind name kind) here is h = h
chosen_below in_bss (Word n) here is h = h
chosen_below in_bss (WordOf name kind add) here is h = h
chosen_below in_bss (Byte n) here is h = h
chosen_below in_bss (Text bytes) here is h = h
chosen_below in_bss (Space n) here is h = h
chosen_below in_bss (Align n) here is h = h

asked_align : (in_bss : Bool) (statement : Statement) → IsTold in_bss statement → is_section_align (align_of statement) ≡ true
unfolding ones
asked_align in_bss (Align n) is = is
asked_align in_bss Nothing is = refl
asked_align in_bss (Instr i) is = refl
asked_align in_bss (Section number) is = refl
asked_align in_bss (Bind name weak) is = refl
asked_align in_bss (Show name visibility) is = refl
asked_align in_bss (Kind name kind) is = refl
asked_align in_bss (Word n) is = refl
asked_align in_bss (WordOf name kind add) is = refl
asked_align in_bss (Byte n) is = refl
asked_align in_bss (Text bytes) is = refl
asked_align in_bss (Space n) is = refl

larger : (P : ℕ → Type 0) (a b : ℕ) → P a → P b → P (max a b)
larger P a b p q = elim (cases_lt a b) [
  | inl l ↦ (let is : max a b ≡ b = omega arith in subst P (sym is) q)
  | inr l ↦ (let is : max a b ≡ a = omega arith in subst P (sym is) p)
]

told_facts : (statement : Statement) (known : Names) → length (with_told statement known).facts ≡ length known.facts
told_facts (Bind name weak) known = length-set known.facts (place_of name known.names) _
told_facts (Show name visibility) known = length-set known.facts (place_of name known.names) _
told_facts (Kind name kind) known = length-set known.facts (place_of name known.names) _
told_facts Nothing known = refl
told_facts (Instr i) known = refl
told_facts (Section number) known = refl
told_facts (Word n) known = refl
told_facts (WordOf name kind add) known = refl
told_facts (Byte n) known = refl
told_facts (Text bytes) known = refl
told_facts (Space n) known = refl
told_facts (Align n) known = refl

told_plain : (in_bss : Bool) (statement : Statement) (known : Names) → IsTold in_bss statement → All IsFact known.facts → All IsFact (with_told statement known).facts
told_plain in_bss (Bind name weak) known is h =
    let was = fact_of name known h in All-set IsFact known.facts (place_of name known.names) _ (record { placed = was.placed; kind' = was.kind'; visibility' = was.visibility' }) h
told_plain in_bss (Show name visibility) known is h =
    let was = fact_of name known h in All-set IsFact known.facts (place_of name known.names) _ (record { placed = was.placed; kind' = was.kind'; visibility' = is.1 }) h
told_plain in_bss (Kind name kind) known is h =
    let was = fact_of name known h in All-set IsFact known.facts (place_of name known.names) _ (record { placed = was.placed; kind' = is.1; visibility' = was.visibility' }) h
told_plain in_bss Nothing known is h = h
told_plain in_bss (Instr i) known is h = h
told_plain in_bss (Section number) known is h = h
told_plain in_bss (Word n) known is h = h
told_plain in_bss (WordOf name kind add) known is h = h
told_plain in_bss (Byte n) known is h = h
told_plain in_bss (Text bytes) known is h = h
told_plain in_bss (Space n) known is h = h
told_plain in_bss (Align n) known is h = h

told_label : (statement : Statement) (known : Names) (k : ℕ) → (get_or (with_told statement known).facts k no_facts).label ≡ (get_or known.facts k no_facts).label
told_label (Bind name weak) known k = set_same (λ (f : Facts). f.label) known.facts (place_of name known.names) k _ no_facts refl
told_label (Show name visibility) known k = set_same (λ (f : Facts). f.label) known.facts (place_of name known.names) k _ no_facts refl
told_label (Kind name kind) known k = set_same (λ (f : Facts). f.label) known.facts (place_of name known.names) k _ no_facts refl
told_label Nothing known k = refl
told_label (Instr i) known k = refl
told_label (Section number) known k = refl
told_label (Word n) known k = refl
told_label (WordOf name kind add) known k = refl
told_label (Byte n) known k = refl
told_label (Text bytes) known k = refl
told_label (Space n) known k = refl
told_label (Align n) known k = refl

made_statement : (in_bss : Bool) (statement : Statement) (layout : Layout) → IsMade layout → IsTold in_bss statement → size_here layout + size_of (size_here layout) statement ≤ SECTION_MAX → IsMade (with_statement statement layout)
made_statement in_bss statement layout h is room =
    let inside : layout.here < length layout.aligns = rw h.aligns' h.chosen in
    let was = All-get_or (λ n. is_section_align n ≡ true) layout.aligns layout.here 0 inside h.aligned in
    record {
      chosen = chosen_below in_bss statement layout.here is h.chosen;
      sizes' = length-set layout.sizes layout.here _ ∙ h.sizes';
      aligns' = length-set layout.aligns layout.here _ ∙ h.aligns';
      small = All-set (λ n. n ≤ SECTION_MAX) layout.sizes layout.here _ room h.small;
      aligned = All-set (λ n. is_section_align n ≡ true) layout.aligns layout.here _ (larger (λ n. is_section_align n ≡ true) (align_of statement) (get_or layout.aligns layout.here 0) (asked_align in_bss statement is) was) h.aligned;
      named = subst (All IsNameText) (sym (told_names statement layout.known)) h.named;
      different = subst (IsDistinct bytes_eq) (sym (told_names statement layout.known)) h.different;
      facts' = told_facts statement layout.known ∙ (h.facts' ∙ ap length (sym (told_names statement layout.known)));
      few = subst (λ (ns : List (List ℕ)). length ns < NAMES_REFUSED) (sym (told_names statement layout.known)) h.few;
      plain = told_plain in_bss statement layout.known is h.plain;
      once = h.once;
      labelled = λ k. h.labelled k ∙ ap is_some (sym (told_label statement layout.known k));
    }

-- ---- lines

label_size : (label : Option (List ℕ)) (layout : Layout) → size_here (with_label label layout) ≡ size_here layout
label_size None layout = refl
label_size (Some name) layout = refl

label_there : (label : Option (List ℕ)) (said : Said) (known : Names) → said.label ≡ label → IfSome label (λ name. has name (with_names said known).names ≡ true)
label_there None said known e = tt
label_there (Some name) said known e = has_label name said known e

pub made_said : (said : Said) (layout : Layout) → IsMade layout → IsTaken layout said → IsMade (with_said said layout)
unfolding with_said
made_said said layout h t =
    let in_bss = layout.here == BSS in
    let f = free layout said t.free in
    let named : Layout = record layout { known = with_names said layout.known } in
    let made = made_names in_bss said layout h t.told' f.few in
    let labelled = made_label said.label named made (label_there said.label said layout.known refl) f.fresh in
    made_statement in_bss said.statement (with_label said.label named) labelled t.told'.1 (subst (λ n. n + size_of n said.statement ≤ SECTION_MAX) (sym (label_size said.label named)) f.room)

pub made_saids : (saids : List Said) (layout last : Layout) → IsMade layout → AreTaken layout saids last → IsMade last
made_saids [] layout last h a = subst IsMade a h
made_saids (said ∷ saids) layout last h a = made_saids saids (with_said said layout) last (made_said said layout h a.0) a.1

pub made_start : IsMade start
unfolding ones IsDistinct
made_start = record {
  chosen = omega arith;
  sizes' = refl;
  aligns' = refl;
  small = All-replicate (λ n. n ≤ SECTION_MAX) 4 0 (omega arith);
  aligned = All-replicate (λ n. is_section_align n ≡ true) 4 4 refl;
  named = All-nil IsNameText;
  different = tt;
  facts' = refl;
  few = omega arith;
  plain = All-nil IsFact;
  once = tt;
  labelled = λ k. refl;
}
