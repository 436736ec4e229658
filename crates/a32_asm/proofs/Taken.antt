-- Lines that the first pass takes, one behind the other.
use Rattle.std.proofs.Common.{◌≡◌, ℕ, ◌+◌, List, [], ◌∷◌, ◌++◌, Option, Some, None, Result, Ok, Err, refl, sym, ap, subst}
use Rattle.std.specs.Prelude.{◌==◌}
use Rattle.std.specs.Option.{option_map_or}
use Rattle.a32_text.specs.declared.refusal.AsmKind.{AsmKind}
use Rattle.a32_asm.specs.declared.refusal.AsmRefusal.{AsmRefusal}
use Rattle.a32_asm.specs.declared.section.TheConstants.{BSS}
use Rattle.a32_asm.specs.Said.{Said}
use Rattle.a32_asm.specs.Line.{said_of}
use Rattle.a32_asm.specs.Layout.{Layout, start, with_said, place_refusal}
use Rattle.a32_asm.specs.FirstPass.{Passed, with_line, one_more, first_pass}
use Rattle.a32_asm.proofs.Having.{ok_is}
use Rattle.a32_asm.proofs.Told.{IsToldBy, told}

-- a line that may stand behind others
pub record IsTaken (layout : Layout) (said : Said) : Type 0 where
  pub told' : IsToldBy (layout.here == BSS) said
  pub free : place_refusal layout said ≡ None

-- lines that lead from a layout to another
abbrev pub AreTaken : Layout → List Said → Layout → Type 0
AreTaken layout [] last = layout ≡ last
AreTaken layout (said ∷ saids) last = IsTaken layout said × AreTaken (with_said said layout) saids last

push : (layout : Layout) (saids : List Said) (mid : Layout) (said : Said) → AreTaken layout saids mid → IsTaken mid said → AreTaken layout (saids ++ said ∷ []) (with_said said mid)
push layout [] mid said e h = (subst (λ l. IsTaken l said) (sym e) h, ap (with_said said) e)
push layout (first ∷ saids) mid said a h = (a.0, push (with_said first layout) saids mid said a.1 h)

Passing : ℕ → List (List ℕ) → Passed → Type 0
Passing number lines last = (passed : Passed) → first_pass number passed lines ≡ Ok last → AreTaken start passed.saids passed.layout → AreTaken start last.saids last.layout

unless_refused : (number : ℕ) (lines : List (List ℕ)) (passed last : Passed) (said : Said) (refusal : Option AsmKind) → Passing (number + 1) lines last
    → IsToldBy (passed.layout.here == BSS) said → place_refusal passed.layout said ≡ refusal
    → one_more number (option_map_or Err refusal (Ok (record { saids = passed.saids ++ said ∷ []; layout = with_said said passed.layout }))) (λ next. first_pass (number + 1) next lines) ≡ Ok last
    → AreTaken start passed.saids passed.layout → AreTaken start last.saids last.layout
unfolding Passing
unless_refused number lines passed last said (Some kind) rest is free e a = absurd cc
unless_refused number lines passed last said None rest is free e a =
    rest (record { saids = passed.saids ++ said ∷ []; layout = with_said said passed.layout }) e (push start passed.saids passed.layout said a (record { told' = is; free = free }))

by_line : (number : ℕ) (line : List ℕ) (lines : List (List ℕ)) (passed last : Passed) (r : Result Said AsmKind) → Passing (number + 1) lines last → said_of (passed.layout.here == BSS) line ≡ r
    → one_more number (with_line passed r) (λ next. first_pass (number + 1) next lines) ≡ Ok last
    → AreTaken start passed.saids passed.layout → AreTaken start last.saids last.layout
by_line number line lines passed last (Err kind) rest is e a = absurd cc
by_line number line lines passed last (Ok said) rest is e a =
    let b = passed.layout.here == BSS in
    unless_refused number lines passed last said (place_refusal passed.layout said) rest (ok_is (IsToldBy b) (said_of b line) said (told b line) is) refl e a

same_ok : (a b : Passed) → ◌≡◌ {A = Result Passed AsmRefusal} (Ok a) (Ok b) → a ≡ b
same_ok a b e = cc

passes : (lines : List (List ℕ)) (number : ℕ) (last : Passed) → Passing number lines last
unfolding Passing
passes [] number last = λ passed e a. subst (λ p. AreTaken start p.saids p.layout) (same_ok passed last e) a
passes (line ∷ lines) number last =
    λ passed e a. by_line number line lines passed last (said_of (passed.layout.here == BSS) line) (passes lines (number + 1) last) refl e a

-- the lines that it took lead from the start to what it answers
pub taken : (lines : List (List ℕ)) (last : Passed) → first_pass 1 (record { saids = []; layout = start }) lines ≡ Ok last → AreTaken start last.saids last.layout
unfolding Passing
taken lines last e = passes lines 1 last (record { saids = []; layout = start }) e refl
