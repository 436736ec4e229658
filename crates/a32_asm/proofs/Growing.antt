-- Names are added and stay where they are.
use Rattle.std.proofs.Common.{◌≡◌, ℕ, Bool, true, false, List, [], ◌∷◌, ◌++◌, Option, Some, None, refl, sym, ap, ◌∙◌, append_assoc, append-nil, eq-eqb}
use Rattle.std.specs.Prelude.{bytes_eq, eqb}
use Rattle.std.specs.List.{list_any}
use Rattle.std.proofs.lemmas.Bool.{cond_both, and_from, or_left}
use Rattle.std.proofs.lemmas.Slice.Eq.{bytes_eq-Decides}
use Rattle.a32_asm.specs.Said.{Said, Statement, Nothing, Instr, Section, Bind, Show, Kind, Word, WordOf, Byte, Text, Space, Align}
use Rattle.a32_asm.specs.Known.{Names, place_of, with_name}
use Rattle.a32_asm.specs.Layout.{Layout, name_in, with_named, with_names, with_label, with_told, with_said}
use Rattle.a32_asm.proofs.Lists.{any_before, any_behind, place_stays}
use Rattle.a32_asm.proofs.Taken.{AreTaken}

pub same_bytes : (xs : List ℕ) → bytes_eq xs xs ≡ true
same_bytes [] = refl
same_bytes (x ∷ xs) = and_from (eqb x x) (bytes_eq xs xs) (eq-eqb x x refl) (same_bytes xs)

pub bytes_same : (xs ys : List ℕ) → bytes_eq xs ys ≡ true → xs ≡ ys
bytes_same xs ys e = (bytes_eq-Decides xs ys).0 e

-- these names stand in front of those
abbrev pub Grows : List (List ℕ) → List (List ℕ) → Type 0
Grows xs ys = (more : List (List ℕ)) × (ys ≡ xs ++ more)

pub same : (xs : List (List ℕ)) → Grows xs xs
same xs = ([], sym (append-nil xs))

pub then_grows : (xs ys zs : List (List ℕ)) → Grows xs ys → Grows ys zs → Grows xs zs
then_grows xs ys zs g h = (g.0 ++ h.0, h.1 ∙ ap (λ ns. ns ++ h.0) g.1 ∙ append_assoc xs g.0 h.0)

-- whether a name is among them
abbrev pub has : List ℕ → List (List ℕ) → Bool
has name names = list_any (bytes_eq name) names

pub still_there : (name : List ℕ) (xs ys : List (List ℕ)) → Grows xs ys → has name xs ≡ true → has name ys ≡ true
still_there name xs ys g e = rw g.1 (any_before (bytes_eq name) xs g.0 e)

pub still_at : (name : List ℕ) (xs ys : List (List ℕ)) → Grows xs ys → has name xs ≡ true → place_of name ys ≡ place_of name xs
still_at name xs ys g e = rw g.1 (place_stays (bytes_eq name) xs g.0 e)

-- ---- one line

name_grows : (name : List ℕ) (known : Names) → Grows known.names (with_name name known).names
name_grows name known = cond_both (has name known.names) known _ (λ (k : Names). Grows known.names k.names) (λ e. same known.names) (λ e. (name ∷ [], refl))

pub has_name : (name : List ℕ) (known : Names) → has name (with_name name known).names ≡ true
has_name name known =
    cond_both (has name known.names) known _ (λ (k : Names). has name k.names ≡ true) (λ e. e)
    (λ e. any_behind (bytes_eq name) known.names (name ∷ []) (or_left (bytes_eq name name) false (same_bytes name)))

named_grows : (name : Option (List ℕ)) (known : Names) → Grows known.names (with_named name known).names
named_grows None known = same known.names
named_grows (Some name) known = name_grows name known

pub names_grow : (said : Said) (known : Names) → Grows known.names (with_names said known).names
names_grow said known =
    then_grows known.names (with_named said.label known).names (with_names said known).names (named_grows said.label known) (named_grows (name_in said.statement) (with_named said.label known))

pub has_named : (name : List ℕ) (statement : Statement) (known : Names) → name_in statement ≡ Some name → has name (with_named (name_in statement) known).names ≡ true
has_named name statement known e = rw e (has_name name known)

pub has_label : (name : List ℕ) (said : Said) (known : Names) → said.label ≡ Some name → has name (with_names said known).names ≡ true
has_label name said known e =
    still_there name (with_named said.label known).names (with_names said known).names (named_grows (name_in said.statement) (with_named said.label known)) (rw e (has_name name known))

pub told_names : (statement : Statement) (known : Names) → (with_told statement known).names ≡ known.names
told_names Nothing known = refl
told_names (Instr i) known = refl
told_names (Section number) known = refl
told_names (Bind name weak) known = refl
told_names (Show name visibility) known = refl
told_names (Kind name kind) known = refl
told_names (Word n) known = refl
told_names (WordOf name kind add) known = refl
told_names (Byte n) known = refl
told_names (Text bytes) known = refl
told_names (Space n) known = refl
told_names (Align n) known = refl

pub label_names : (label : Option (List ℕ)) (layout : Layout) → (with_label label layout).known.names ≡ layout.known.names
label_names None layout = refl
label_names (Some name) layout = refl

pub said_names : (said : Said) (layout : Layout) → (with_said said layout).known.names ≡ (with_names said layout.known).names
unfolding with_said
said_names said layout =
    let before : Layout = record layout { known = with_names said layout.known } in
    told_names said.statement (with_label said.label before).known ∙ label_names said.label before

pub said_grows : (said : Said) (layout : Layout) → Grows layout.known.names (with_said said layout).known.names
said_grows said layout = rw said_names (names_grow said layout.known)

pub taken_grows : (saids : List Said) (layout last : Layout) → AreTaken layout saids last → Grows layout.known.names last.known.names
taken_grows [] layout last a = rw a (same last.known.names)
taken_grows (said ∷ saids) layout last a =
    then_grows layout.known.names (with_said said layout).known.names last.known.names (said_grows said layout) (taken_grows saids (with_said said layout) last a.1)
