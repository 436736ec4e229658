-- What the lines of a second pass put.
use Rattle.std.proofs.Common.{◌≡◌, ◌⊎◌, ℕ, zero, suc, ◌+◌, ◌-◌, ◌%◌, ◌<◌, ◌≤◌, Bool, true, false, not, ◌&&◌, List, [], ◌∷◌, ◌++◌, length, get_or, set, Option, Some, None, Result, Ok, Err, refl, sym, ap, subst, inl, inr, ◌∙◌, arith, leb-false, eqb-true, eq-eqb, length-set, length-append, get_or-set_same, get_or-set_other}
use Rattle.std.specs.Prelude.{All, IfSome, IfOk, nat_le, ◌==◌, if◌then◌else◌}
use Rattle.std.proofs.lemmas.Bool.{cases_eq, cases_lt, cond_both, cond-true, cond-false, false≢true}
use Rattle.std.proofs.lemmas.List.{length_push, length-replicate, set_past}
use Rattle.std.proofs.lemmas.List.Elements.{All-push, All-nil, All-weaker}
use Rattle.std.proofs.lemmas.Option.{IfSome_then}
use Rattle.byteorder.specs.Endian.{little_bytes}
use Rattle.elf_model.specs.declared.constants.TheConstants.{STT_FUNC}
use Rattle.a32_text.specs.Statement.{Statement as Instruction}
use Rattle.a32_text.specs.Statement as instruction
use Rattle.a32_text.specs.declared.refusal.AsmKind.{AsmKind}
use Rattle.a32_text.specs.declared.refusal.AsmKind.TheVariants.{Range}
use Rattle.a32_asm.specs.declared.said.Place.{Place}
use Rattle.a32_asm.specs.declared.said.Facts.{Facts}
use Rattle.a32_asm.specs.declared.refusal.AsmRefusal.{AsmRefusal}
use Rattle.a32_asm.specs.declared.limits.TheConstants.{RELS_MAX}
use Rattle.a32_asm.specs.declared.section.TheConstants.{SECTIONS, BSS}
use Rattle.a32_asm.specs.Said.{Said, Statement, Nothing, Instr, Section, Bind, Show, Kind, Word, WordOf, Byte, Text, Space, Align}
use Rattle.a32_asm.specs.Known.{Names, no_facts, place_of, facts_of}
use Rattle.a32_asm.specs.Layout.{Layout, start, size_here, size_of, is_word, name_in, with_named, with_names, with_label, with_told, with_statement, with_said}
use Rattle.a32_asm.specs.FirstPass.{one_more}
use Rattle.a32_asm.specs.SecondPass.{RelTo, Put, Contents, put_bytes, label_here, settled, field_to, branch_word, put_branch, load_word, put_near, put_literal, put_kind, put_instruction, put_of, nothing_yet, with_bytes, with_rel, with_put, second_pass}
use Rattle.a32_asm.specs.parts.Made.{IsMade}
use Rattle.a32_asm.specs.parts.Reached.{held, IsRelIn, IsReached}
use Rattle.a32_asm.proofs.Having.{if_ok, ok_is}
use Rattle.a32_asm.proofs.Told.{IsTold}
use Rattle.a32_asm.proofs.Taken.{IsTaken, AreTaken}
use Rattle.a32_asm.proofs.Growing.{Grows, has, has_named, label_names, said_names, said_grows, then_grows, taken_grows, still_there, still_at}
use Rattle.a32_asm.proofs.Making.{set_same, stays, made_said}

-- ---- what a statement puts: as many bytes as it has, and a relocation only with a word and on its name

abbrev IsPutOf : ℕ → Statement → Put → Type 0
IsPutOf offset statement put = (length put.bytes ≡ size_of offset statement) × IfSome put.rel (λ rel. (is_word statement ≡ true) × (name_in statement ≡ Some rel.1))

branch_put : (cond' : ℕ) (link : Bool) (offset : ℕ) (name : List ℕ) (to : Option ℕ) → IfOk (put_branch cond' link offset name to) (IsPutOf offset (Instr (instruction.Branch cond' link name)))
branch_put cond' link offset name (Some to) = if_ok (IsPutOf offset (Instr (instruction.Branch cond' link name))) (to % 4 == 0) (put_bytes (little_bytes 4 (branch_word cond' link (field_to offset to)))) (Err Range) (λ e. (refl, tt)) (λ e. tt)
branch_put cond' link offset name None = (refl, (refl, refl))

near_put : (cond' d : ℕ) (up : Bool) (by offset : ℕ) (name : List ℕ) → IfOk (put_near cond' d up by) (IsPutOf offset (Instr (instruction.Literal cond' d name)))
near_put cond' d up by offset name =
    if_ok (IsPutOf offset (Instr (instruction.Literal cond' d name))) (nat_le by 4095) (put_bytes (little_bytes 4 (load_word cond' d up by))) (Err Range) (λ e. (refl, tt)) (λ e. tt)

literal_put : (cond' d offset : ℕ) (name : List ℕ) (to : Option ℕ) → IfOk (put_literal cond' d offset to) (IsPutOf offset (Instr (instruction.Literal cond' d name)))
literal_put cond' d offset name None = tt
literal_put cond' d offset name (Some to) =
    if_ok (IsPutOf offset (Instr (instruction.Literal cond' d name))) (nat_le (offset + 8) to) (put_near cond' d true (to - (offset + 8))) (put_near cond' d false (offset + 8 - to))
    (λ e. near_put cond' d true (to - (offset + 8)) offset name) (λ e. near_put cond' d false (offset + 8 - to) offset name)

instruction_put : (all : Names) (section offset : ℕ) (i : Instruction) → IfOk (put_instruction all section offset i) (IsPutOf offset (Instr i))
instruction_put all section offset (instruction.Whole i) = (refl, tt)
instruction_put all section offset (instruction.Branch cond' link name) = branch_put cond' link offset name (settled all section name)
instruction_put all section offset (instruction.Literal cond' d name) = literal_put cond' d offset name (label_here section (facts_of name all).label)

kind_put : (name : List ℕ) (kind offset : ℕ) (label : Option Place) → IfOk (put_kind kind label) (IsPutOf offset (Kind name kind))
kind_put name kind offset None = (refl, tt)
kind_put name kind offset (Some place) = if_ok (IsPutOf offset (Kind name kind)) ((kind == STT_FUNC) && not (place.offset % 4 == 0)) (Err Range) (put_bytes []) (λ e. tt) (λ e. (refl, tt))

statement_put : (all : Names) (section offset : ℕ) (statement : Statement) → IfOk (put_of all section offset statement) (IsPutOf offset statement)
unfolding put_of
statement_put all section offset (Instr i) = instruction_put all section offset i
statement_put all section offset (Kind name kind) = kind_put name kind offset (facts_of name all).label
statement_put all section offset (Word n) = (refl, tt)
statement_put all section offset (WordOf name kind add) = (refl, (refl, refl))
statement_put all section offset (Byte n) = (refl, tt)
statement_put all section offset (Text bytes) = (length_push bytes 0, tt)
statement_put all section offset (Space n) = (length-replicate n 0, tt)
statement_put all section offset (Align n) = (length-replicate (size_of offset (Align n)) 0, tt)
statement_put all section offset Nothing = (refl, tt)
statement_put all section offset (Section number) = (refl, tt)
statement_put all section offset (Bind name weak) = (refl, tt)
statement_put all section offset (Show name visibility) = (refl, tt)

-- a function stands at a multiple of 4
both_tests : (a b : Bool) → (a && not b) ≡ false → a ≡ true → b ≡ true
both_tests true true e is = refl
both_tests true false e is = absurd (false≢true (sym e))
both_tests false b e is = absurd (false≢true is)

function_put : (kind : ℕ) (label : Option Place) → IfOk (put_kind kind label) (λ put. kind ≡ STT_FUNC → IfSome label (λ place. place.offset % 4 ≡ 0))
function_put kind None = λ e. tt
function_put kind (Some place) =
    if_ok (λ put. kind ≡ STT_FUNC → place.offset % 4 ≡ 0) ((kind == STT_FUNC) && not (place.offset % 4 == 0)) (Err Range) (put_bytes []) (λ e. tt)
    (λ e is. eqb-true (place.offset % 4) 0 (both_tests (kind == STT_FUNC) (place.offset % 4 == 0) e (eq-eqb kind STT_FUNC is)))

word_size : (offset : ℕ) (statement : Statement) → is_word statement ≡ true → size_of offset statement ≡ 4
word_size offset (Instr i) e = refl
word_size offset (Word n) e = refl
word_size offset (WordOf name kind add) e = refl
word_size offset Nothing e = absurd (false≢true e)
word_size offset (Section number) e = absurd (false≢true e)
word_size offset (Bind name weak) e = absurd (false≢true e)
word_size offset (Show name visibility) e = absurd (false≢true e)
word_size offset (Kind name kind) e = absurd (false≢true e)
word_size offset (Byte n) e = absurd (false≢true e)
word_size offset (Text bytes) e = absurd (false≢true e)
word_size offset (Space n) e = absurd (false≢true e)
word_size offset (Align n) e = absurd (false≢true e)

word_apart : (in_bss : Bool) (statement : Statement) → IsTold in_bss statement → is_word statement ≡ true → in_bss ≡ false
word_apart in_bss (Instr i) h e = h.0
word_apart in_bss (Word n) h e = h
word_apart in_bss (WordOf name kind add) h e = h.0
word_apart in_bss Nothing h e = absurd (false≢true e)
word_apart in_bss (Section number) h e = absurd (false≢true e)
word_apart in_bss (Bind name weak) h e = absurd (false≢true e)
word_apart in_bss (Show name visibility) h e = absurd (false≢true e)
word_apart in_bss (Kind name kind) h e = absurd (false≢true e)
word_apart in_bss (Byte n) h e = absurd (false≢true e)
word_apart in_bss (Text bytes) h e = absurd (false≢true e)
word_apart in_bss (Space n) h e = absurd (false≢true e)
word_apart in_bss (Align n) h e = absurd (false≢true e)

-- ---- the sizes behind a line

-- what holds at each place of a list still does where one was set
at_set : {X : Type 0} (P : ℕ → X → Type 0) (xs : List X) (i : ℕ) (y d : X) → i < length xs → ((k : ℕ) → (k ≡ i → ⊥) → P k (get_or xs k d)) → P i y → (k : ℕ) → P k (get_or (set xs i y) k d)
at_set P xs i y d l h new k = elim (cases_eq k i) [
  | inl e ↦ subst (λ j. P j (get_or (set xs i y) j d)) (sym e) (subst (P i) (sym (get_or-set_same xs i y d l)) new)
  | inr ne ↦ subst (P k) (sym (get_or-set_other xs i k y d ne)) (h k ne)
]

held_other : (sizes : List ℕ) (here n k : ℕ) → (k ≡ here → ⊥) → held (set sizes here n) k ≡ held sizes k
held_other sizes here n k ne = ap (λ m. if k == BSS then 0 else m) (get_or-set_other sizes here k n 0 ne)

held_here : (sizes : List ℕ) (here n : ℕ) → (here == BSS) ≡ false → here < length sizes → held (set sizes here n) here ≡ n
held_here sizes here n e l = cond-false (here == BSS) 0 (get_or (set sizes here n) here 0) e ∙ get_or-set_same sizes here n 0 l

held_was : (sizes : List ℕ) (here : ℕ) → (here == BSS) ≡ false → held sizes here ≡ get_or sizes here 0
held_was sizes here e = cond-false (here == BSS) 0 (get_or sizes here 0) e

held_bss : (sizes : List ℕ) (here : ℕ) → (here == BSS) ≡ true → held sizes here ≡ 0
held_bss sizes here e = cond-true (here == BSS) 0 (get_or sizes here 0) e

held_grows : (sizes : List ℕ) (here n k : ℕ) → here < length sizes → get_or sizes here 0 ≤ n → held sizes k ≤ held (set sizes here n) k
held_grows sizes here n k l more = elim (cases_eq k here) [
  | inl e ↦ subst (λ j. held sizes j ≤ held (set sizes here n) j) (sym e) (by_bss (here == BSS) (get_or-set_same sizes here n 0 l))
  | inr ne ↦ (let is = held_other sizes here n k ne in omega arith)
]
  where
    by_bss : (b : Bool) → get_or (set sizes here n) here 0 ≡ n → (if b then 0 else get_or sizes here 0) ≤ (if b then 0 else get_or (set sizes here n) here 0)
    by_bss true is = omega arith
    by_bss false is = omega arith

by_label : (statement : Statement) (label : Option (List ℕ)) (layout : Layout) → (with_statement statement (with_label label layout)).sizes ≡ set layout.sizes layout.here (size_here layout + size_of (size_here layout) statement)
by_label statement None layout = refl
by_label statement (Some name) layout = refl

said_sizes : (said : Said) (layout : Layout) → (with_said said layout).sizes ≡ set layout.sizes layout.here (size_here layout + size_of (size_here layout) said.statement)
unfolding with_said
said_sizes said layout = by_label said.statement said.label (record layout { known = with_names said layout.known })

-- ---- the types behind a line

-- this statement makes the name of this place a function
abbrev MakesFunction : Statement → List (List ℕ) → ℕ → Type 0
MakesFunction (Kind name kind) names k = (kind ≡ STT_FUNC) × (k ≡ place_of name names)
MakesFunction Nothing names k = ⊥
MakesFunction (Instr i) names k = ⊥
MakesFunction (Section number) names k = ⊥
MakesFunction (Bind name weak) names k = ⊥
MakesFunction (Show name visibility) names k = ⊥
MakesFunction (Word n) names k = ⊥
MakesFunction (WordOf name kind add) names k = ⊥
MakesFunction (Byte n) names k = ⊥
MakesFunction (Text bytes) names k = ⊥
MakesFunction (Space n) names k = ⊥
MakesFunction (Align n) names k = ⊥

abbrev kind_at : List Facts → ℕ → ℕ
kind_at facts k = (get_or facts k no_facts).kind

set_kind : (facts : List Facts) (p k kind : ℕ) (new : Facts) → new.kind ≡ kind → kind_at (set facts p new) k ≡ STT_FUNC → (kind_at facts k ≡ STT_FUNC) ⊎ ((kind ≡ STT_FUNC) × (k ≡ p))
set_kind facts p k kind new is e = elim (cases_eq k p) [
  | inl at ↦ elim (cases_lt p (length facts)) [
    | inl l ↦ inr (sym is ∙ (sym (ap (λ (f : Facts). f.kind) (get_or-set_same facts p new no_facts l)) ∙ (ap (kind_at (set facts p new)) (sym at) ∙ e)), at)
    | inr l ↦ inl (ap (λ (fs : List Facts). kind_at fs k) (sym (set_past facts p new l)) ∙ e)
  ]
  | inr ne ↦ inl (ap (λ (f : Facts). f.kind) (sym (get_or-set_other facts p k new no_facts ne)) ∙ e)
]

told_kind : (statement : Statement) (known : Names) (k : ℕ) → kind_at (with_told statement known).facts k ≡ STT_FUNC → (kind_at known.facts k ≡ STT_FUNC) ⊎ MakesFunction statement known.names k
told_kind (Kind name kind) known k e = set_kind known.facts (place_of name known.names) k kind _ refl e
told_kind (Bind name weak) known k e = inl (sym (set_same (λ (f : Facts). f.kind) known.facts (place_of name known.names) k _ no_facts refl) ∙ e)
told_kind (Show name visibility) known k e = inl (sym (set_same (λ (f : Facts). f.kind) known.facts (place_of name known.names) k _ no_facts refl) ∙ e)
told_kind Nothing known k e = inl e
told_kind (Instr i) known k e = inl e
told_kind (Section number) known k e = inl e
told_kind (Word n) known k e = inl e
told_kind (WordOf name kind add) known k e = inl e
told_kind (Byte n) known k e = inl e
told_kind (Text bytes) known k e = inl e
told_kind (Space n) known k e = inl e
told_kind (Align n) known k e = inl e

label_kind : (label : Option (List ℕ)) (layout : Layout) (k : ℕ) → kind_at (with_label label layout).known.facts k ≡ kind_at layout.known.facts k
label_kind None layout k = refl
label_kind (Some name) layout k = set_same (λ (f : Facts). f.kind) layout.known.facts (place_of name layout.known.names) k _ no_facts refl

said_kind : (said : Said) (layout : Layout) (k : ℕ) → kind_at (with_said said layout).known.facts k ≡ STT_FUNC
    → (kind_at layout.known.facts k ≡ STT_FUNC) ⊎ MakesFunction said.statement (with_names said layout.known).names k
unfolding with_said
said_kind said layout k e =
    let before : Layout = record layout { known = with_names said layout.known } in
    elim (told_kind said.statement (with_label said.label before).known k e) [
      | inl was ↦ inl (ap (λ (f : Facts). f.kind) (sym (stays said layout.known k)) ∙ (sym (label_kind said.label before k) ∙ was))
      | inr makes ↦ inr (subst (λ ns. MakesFunction said.statement ns k) (label_names said.label before) makes)
    ]

function_aligned : (all : Names) (section offset : ℕ) (statement : Statement) (put : Put) (names : List (List ℕ)) (k : ℕ) → put_of all section offset statement ≡ Ok put → MakesFunction statement names k
    → ((name : List ℕ) → name_in statement ≡ Some name → has name names ≡ true) → Grows names all.names → IfSome (get_or all.facts k no_facts).label (λ place. place.offset % 4 ≡ 0)
unfolding put_of
function_aligned all section offset (Kind name kind) put names k e makes there g =
    let label = (facts_of name all).label in
    let aligned = ok_is (λ put. kind ≡ STT_FUNC → IfSome label (λ place. place.offset % 4 ≡ 0)) (put_kind kind label) put (function_put kind label) e makes.0 in
    subst (λ j. IfSome (get_or all.facts j no_facts).label (λ place. place.offset % 4 ≡ 0)) (still_at name names all.names g (there name refl) ∙ sym makes.1) aligned
function_aligned all section offset Nothing put names k e makes there g = absurd makes
function_aligned all section offset (Instr i) put names k e makes there g = absurd makes
function_aligned all section offset (Section number) put names k e makes there g = absurd makes
function_aligned all section offset (Bind name weak) put names k e makes there g = absurd makes
function_aligned all section offset (Show name visibility) put names k e makes there g = absurd makes
function_aligned all section offset (Word n) put names k e makes there g = absurd makes
function_aligned all section offset (WordOf name kind add) put names k e makes there g = absurd makes
function_aligned all section offset (Byte n) put names k e makes there g = absurd makes
function_aligned all section offset (Text bytes) put names k e makes there g = absurd makes
function_aligned all section offset (Space n) put names k e makes there g = absurd makes
function_aligned all section offset (Align n) put names k e makes there g = absurd makes

-- ---- bytes and relocations behind a line

abbrev IsFilled : List ℕ → List (List ℕ) → Type 0
IsFilled sizes filled = (length filled ≡ SECTIONS) × ((k : ℕ) → k < SECTIONS → length (get_or filled k []) ≡ held sizes k)

held_same : (sizes : List ℕ) (here n k : ℕ) → (here == BSS) ≡ true → held (set sizes here n) k ≡ held sizes k
held_same sizes here n k e = elim (cases_eq k here) [
  | inl at ↦ subst (λ j. held (set sizes here n) j ≡ held sizes j) (sym at) (held_bss (set sizes here n) here e ∙ sym (held_bss sizes here e))
  | inr ne ↦ held_other sizes here n k ne
]

bytes_put : (sizes : List ℕ) (here n : ℕ) (bytes : List ℕ) (contents : Contents) → here < SECTIONS → length sizes ≡ SECTIONS → n ≡ get_or sizes here 0 + length bytes
    → IsFilled sizes contents.filled → IsFilled (set sizes here n) (with_bytes here bytes contents).filled
bytes_put sizes here n bytes contents l len is f = by_bss (here == BSS) refl
  where
    by_bss : (b : Bool) → (here == BSS) ≡ b → IsFilled (set sizes here n) (if b then contents else record contents { filled = set contents.filled here (get_or contents.filled here [] ++ bytes) }).filled
    by_bss true e = (f.0, λ k m. f.1 k m ∙ sym (held_same sizes here n k e))
    by_bss false e =
        let old = get_or contents.filled here [] in
        let within : here < length contents.filled = rw f.0 l in
        let inside : here < length sizes = rw len l in (
          length-set contents.filled here (old ++ bytes) ∙ f.0,
          at_set (λ k bs. k < SECTIONS → length bs ≡ held (set sizes here n) k) contents.filled here (old ++ bytes) [] within
              (λ k ne m. f.1 k m ∙ sym (held_other sizes here n k ne))
              (λ m. length-append old bytes ∙ (ap (λ size. size + length bytes) (f.1 here m ∙ held_was sizes here e) ∙ (sym is ∙ sym (held_here sizes here n e inside)))),
        )

rels_stay : (here : ℕ) (bytes : List ℕ) (contents : Contents) → (with_bytes here bytes contents).rels ≡ contents.rels
rels_stay here bytes contents = cond_both (here == BSS) contents _ (λ (c : Contents). c.rels ≡ contents.rels) (λ e. refl) (λ e. refl)

abbrev AreRels : List ℕ → List (List ℕ) → List (List RelTo) → Type 0
AreRels sizes names rels = (length rels ≡ SECTIONS) × ((k : ℕ) → All (IsRelIn (held sizes k) names) (get_or rels k [])) × ((k : ℕ) → length (get_or rels k []) ≤ RELS_MAX)

rels_grow : (sizes : List ℕ) (here n : ℕ) (names more : List (List ℕ)) (rels : List (List RelTo)) → here < length sizes → get_or sizes here 0 ≤ n → Grows names more → AreRels sizes names rels → AreRels (set sizes here n) more rels
rels_grow sizes here n names more rels l larger g h = (
  h.0,
  (λ k. let grown = held_grows sizes here n k l larger in
      All-weaker (IsRelIn (held sizes k) names) (IsRelIn (held (set sizes here n) k) more)
      (λ rel is. record { inside = (let was = is.inside in omega arith); known = still_there rel.name names more g is.known }) (get_or rels k []) (h.1 k)),
  h.2,
)

rel_more : (sizes : List ℕ) (names : List (List ℕ)) (rels : List (List RelTo)) (here : ℕ) (rel : RelTo) → here < SECTIONS → IsRelIn (held sizes here) names rel → length (get_or rels here []) < RELS_MAX
    → AreRels sizes names rels → AreRels sizes names (set rels here (get_or rels here [] ++ rel ∷ []))
rel_more sizes names rels here rel l is room h =
    let old = get_or rels here [] in
    let within : here < length rels = rw h.0 l in (
      length-set rels here (old ++ rel ∷ []) ∙ h.0,
      at_set (λ k rs. All (IsRelIn (held sizes k) names) rs) rels here (old ++ rel ∷ []) [] within (λ k ne. h.1 k) (All-push (IsRelIn (held sizes here) names) old rel (h.1 here) is),
      at_set (λ k rs. length rs ≤ RELS_MAX) rels here (old ++ rel ∷ []) [] within (λ k ne. h.2 k) (let len = length_push old rel in omega arith),
    )

same_contents : (a b : Contents) → ◌≡◌ {A = Result Contents AsmKind} (Ok a) (Ok b) → a ≡ b
same_contents a b e = cc

abbrev with_one : ℕ → RelTo → Contents → Contents
with_one here rel contents = record contents { rels = set contents.rels here (get_or contents.rels here [] ++ rel ∷ []) }

rel_put : (sizes : List ℕ) (names : List (List ℕ)) (here offset : ℕ) (rel : Option (ℕ × List ℕ)) (contents next : Contents) → here < SECTIONS
    → IfSome rel (λ rel. IsRelIn (held sizes here) names (record { site = offset; kind = rel.0; name = rel.1 }))
    → AreRels sizes names contents.rels → with_rel here offset rel contents ≡ Ok next → AreRels sizes names next.rels × (contents.filled ≡ next.filled)
rel_put sizes names here offset None contents next l is h e = let same = same_contents contents next e in (subst (λ (c : Contents). AreRels sizes names c.rels) same h, ap (λ (c : Contents). c.filled) same)
rel_put sizes names here offset (Some rel) contents next l is h e = by_room (nat_le RELS_MAX (length (get_or contents.rels here []))) refl e
  where
    by_room : (b : Bool) → nat_le RELS_MAX (length (get_or contents.rels here [])) ≡ b → ◌≡◌ {A = Result Contents AsmKind} (if b then Err Range else Ok (with_one here (record { site = offset; kind = rel.0; name = rel.1 }) contents)) (Ok next) → AreRels sizes names next.rels × (contents.filled ≡ next.filled)
    by_room true full e = absurd cc
    by_room false room e =
        let same = same_contents (with_one here (record { site = offset; kind = rel.0; name = rel.1 }) contents) next e in (
          subst (λ (c : Contents). AreRels sizes names c.rels) same (rel_more sizes names contents.rels here (record { site = offset; kind = rel.0; name = rel.1 }) l is (leb-false RELS_MAX (length (get_or contents.rels here [])) room) h),
          ap (λ (c : Contents). c.filled) same,
        )

-- ---- lines

line_put : (all : Names) (said : Said) (layout : Layout) (contents next : Contents) (r : Result Put AsmKind) → put_of all layout.here (size_here layout) said.statement ≡ r
    → IsMade layout → IsTaken layout said → Grows (with_said said layout).known.names all.names → IsReached all layout contents
    → with_put layout.here (size_here layout) contents r ≡ Ok next → IsReached all (with_said said layout) next
line_put all said layout contents next (Err kind) is made taken g h e = absurd cc
line_put all said layout contents next (Ok put) is made taken g h e =
    let here = layout.here in
    let offset = size_here layout in
    let size = size_of offset said.statement in
    let names = (with_said said layout).known.names in
    let p = ok_is (IsPutOf offset said.statement) (put_of all here offset said.statement) put (statement_put all here offset said.statement) is in
    let inside : here < length layout.sizes = rw made.sizes' made.chosen in
    let larger : offset ≤ offset + size = omega arith in
    let filled = bytes_put layout.sizes here (offset + size) put.bytes contents made.chosen made.sizes' (ap (λ n. offset + n) (sym p.0)) (h.filled', h.filling) in
    let before = rels_grow layout.sizes here (offset + size) layout.known.names names contents.rels inside larger (said_grows said layout) (h.rels', h.relocating, h.few) in
    let added = IfSome_then put.rel p.1 (λ rel q. record {
      inside = (let at = held_here layout.sizes here (offset + size) (word_apart (here == BSS) said.statement taken.told'.1 q.0) inside in let four = word_size offset said.statement q.0 in omega arith);
      known = rw said_names (has_named rel.1 said.statement (with_named said.label layout.known) q.1);
    }) in
    let r = rel_put (set layout.sizes here (offset + size)) names here offset put.rel (with_bytes here put.bytes contents) next made.chosen added
    (subst (AreRels (set layout.sizes here (offset + size)) names) (sym (rels_stay here put.bytes contents)) before) e in
    let sizes = sym (said_sizes said layout) in
    let all_filled = subst (λ ss. IsFilled ss next.filled) sizes (subst (IsFilled (set layout.sizes here (offset + size))) r.1 filled) in
    let all_rels = subst (λ ss. AreRels ss names next.rels) sizes r.0 in
    record {
      filled' = all_filled.0;
      rels' = all_rels.0;
      filling = all_filled.1;
      relocating = all_rels.1;
      few = all_rels.2;
      words = λ k kind. elim (said_kind said layout k kind) [
        | inl was ↦ h.words k was
        | inr makes ↦ function_aligned all here offset said.statement put (with_names said layout.known).names k is makes
            (λ name in_it. has_named name said.statement (with_named said.label layout.known) in_it) (subst (λ ns. Grows ns all.names) (said_names said layout) g)
      ];
    }

by_answer : (all : Names) (number : ℕ) (said : Said) (saids : List Said) (layout last : Layout) (contents final : Contents) (r : Result Contents AsmKind)
    → with_put layout.here (size_here layout) contents (put_of all layout.here (size_here layout) said.statement) ≡ r
    → IsMade layout → IsTaken layout said → Grows (with_said said layout).known.names all.names → IsReached all layout contents
    → ((next : Contents) → IsReached all (with_said said layout) next → second_pass all (number + 1) (with_said said layout) next saids ≡ Ok final → IsReached all last final)
    → one_more number r (λ next. second_pass all (number + 1) (with_said said layout) next saids) ≡ Ok final → IsReached all last final
by_answer all number said saids layout last contents final (Err kind) is made taken g h rest e = absurd cc
by_answer all number said saids layout last contents final (Ok next) is made taken g h rest e =
    rest next (line_put all said layout contents next (put_of all layout.here (size_here layout) said.statement) refl made taken g h is) e

same_answer : (a b : Contents) → ◌≡◌ {A = Result Contents AsmRefusal} (Ok a) (Ok b) → a ≡ b
same_answer a b e = cc

pub reached : (saids : List Said) (number : ℕ) (all : Names) (layout last : Layout) (contents final : Contents) → IsMade layout → AreTaken layout saids last → Grows last.known.names all.names
    → IsReached all layout contents → second_pass all number layout contents saids ≡ Ok final → IsReached all last final
reached [] number all layout last contents final made a g h e = subst (λ l. IsReached all l final) a (subst (IsReached all layout) (same_answer contents final e) h)
reached (said ∷ saids) number all layout last contents final made a g h e =
    let grown = then_grows (with_said said layout).known.names last.known.names all.names (taken_grows saids (with_said said layout) last a.1) g in
    by_answer all number said saids layout last contents final (with_put layout.here (size_here layout) contents (put_of all layout.here (size_here layout) said.statement)) refl made a.0 grown h
    (λ next reaches. reached saids (number + 1) all (with_said said layout) last next final (made_said said layout made a.0) a.1 g reaches) e

nothing_at : {X : Type 0} (k : ℕ) → get_or {A = List X} ([] ∷ [] ∷ [] ∷ [] ∷ []) k [] ≡ []
nothing_at zero = refl
nothing_at (suc zero) = refl
nothing_at (suc (suc zero)) = refl
nothing_at (suc (suc (suc zero))) = refl
nothing_at (suc (suc (suc (suc k)))) = refl

no_bytes : (k : ℕ) → held (0 ∷ 0 ∷ 0 ∷ 0 ∷ []) k ≡ 0
no_bytes zero = refl
no_bytes (suc zero) = refl
no_bytes (suc (suc zero)) = refl
no_bytes (suc (suc (suc zero))) = refl
no_bytes (suc (suc (suc (suc k)))) = cond_both (suc (suc (suc (suc k))) == BSS) 0 0 (λ n. n ≡ 0) (λ e. refl) (λ e. refl)

pub reached_start : (all : Names) → IsReached all start nothing_yet
reached_start all = record {
  filled' = refl;
  rels' = refl;
  filling = λ k l. ap length (nothing_at k) ∙ sym (no_bytes k);
  relocating = λ k. rw nothing_at (All-nil _);
  few = λ k. rw nothing_at (omega arith);
  words = λ k e. absurd cc;
}
