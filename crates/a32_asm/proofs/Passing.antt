-- One line more of the second pass.
use Rattle.std.proofs.Common.{◌≡◌, ℕ, ◌+◌, ◌%◌, ◌<◌, ◌≤◌, true, List, ◌∷◌, length, map, drop, get_or, slice_set, Option, Some, None, refl, sym, ap, ◌∙◌, subst, Result, Ok}
use Rattle.std.specs.Prelude.{All}
use Rattle.std.proofs.lemmas.List.{drop_more}
use Rattle.std.proofs.lemmas.List.Elements.{All-head, All-tail}
use Rattle.std.proofs.lemmas.Option.{IfSome_then}
use Rattle.a32_text.specs.declared.refusal.AsmKind.{AsmKind}
use Rattle.a32_asm.specs.declared.said.Said.{Said as SaidRead}
use Rattle.a32_asm.specs.declared.said.Statement.TheVariants.{Nothing}
use Rattle.a32_asm.specs.declared.refusal.AsmRefusal.{AsmRefusal}
use Rattle.a32_asm.specs.declared.limits.TheConstants.{SECTION_MAX}
use Rattle.a32_asm.specs.declared.section.TheConstants.{SECTIONS}
use Rattle.a32_asm.specs.declared.spot.Spot.{Spot}
use Rattle.a32_asm.specs.Said.{Said, Statement}
use Rattle.a32_asm.specs.Known.{Names, facts_of}
use Rattle.a32_asm.specs.Layout.{Layout, start, size_here, size_of, is_word, with_label, chosen, with_names, with_said}
use Rattle.a32_asm.specs.FirstPass.{Passed, one_more}
use Rattle.a32_asm.specs.SecondPass.{Contents, nothing_yet, put_of, with_put, second_pass}
use Rattle.a32_asm.specs.Shown.{shown_said}
use Rattle.a32_asm.specs.parts.Fits.{IsSaid, IsStatement, AreInside}
use Rattle.a32_asm.specs.parts.Made.{IsMade}
use Rattle.a32_asm.specs.parts.Standing.{HavePassed}
use Rattle.a32_asm.proofs.Taken.{AreTaken, taken}
use Rattle.a32_asm.proofs.Making.{free, fact_of, small_here, made_said, made_saids, made_start}

-- ---- what a line does to sections

here_behind : (said : Said) (layout : Layout) → (with_said said layout).here ≡ chosen said.statement layout.here
unfolding with_said
here_behind said layout = by_label said.label
  where
    by_label : (label : Option (List ℕ)) → chosen said.statement (with_label label (record layout { known = with_names said layout.known })).here ≡ chosen said.statement layout.here
    by_label None = refl
    by_label (Some name) = refl

abbrev sizes_with : Statement → Layout → List ℕ
sizes_with statement layout = slice_set layout.sizes layout.here (size_here layout + size_of (size_here layout) statement)

sizes_behind : (said : Said) (layout : Layout) → (with_said said layout).sizes ≡ sizes_with said.statement layout
unfolding with_said
sizes_behind said layout = by_label said.label
  where
    by_label : (label : Option (List ℕ)) → sizes_with said.statement (with_label label (record layout { known = with_names said layout.known })) ≡ sizes_with said.statement layout
    by_label None = refl
    by_label (Some name) = refl

-- ---- all labels are known

pub all_made : (passed : Passed) → HavePassed passed → IsMade passed.layout
all_made passed have = made_saids passed.saids start passed.layout made_start (taken have.lines passed have.pass)

pub are_inside : (passed : Passed) → HavePassed passed → AreInside passed.layout.known
are_inside passed have = λ name. IfSome_then (facts_of name passed.layout.known).label (fact_of name passed.layout.known (all_made passed have).plain).placed (λ place is. is.1)

-- ---- one line more

-- the next statement stands there
pub record IsSpot (spot : Spot) (layout : Layout) : Type 0 where
  pub here' : spot.here ≡ layout.here
  pub sizes' : spot.sizes ≡ layout.sizes

-- what is left of the pass, from the place of the next line on
pub record Left (all : Names) (spot : Spot) (number : ℕ) (contents : Contents) (saids : List Said) (whole : Result Contents AsmRefusal) (layout : Layout) : Type 0 where
  pub stands : IsSpot spot layout
  pub made : IsMade layout
  pub last : Layout
  pub taken' : AreTaken layout saids last
  pub fit : All IsSaid saids
  pub rest : whole ≡ second_pass all number layout contents saids

abbrev pub offset_of : Spot → ℕ
offset_of spot = get_or spot.sizes spot.here 0

-- what a line has where it stands
pub record Place (spot : Spot) (said : Said) : Type 0 where
  pub below : spot.here < SECTIONS
  pub fit : IsStatement said.statement
  pub within : offset_of spot ≤ SECTION_MAX
  pub aligned : is_word said.statement ≡ true → offset_of spot % 4 ≡ 0
  pub room : offset_of spot + size_of (offset_of spot) said.statement ≤ SECTION_MAX

module _ (all : Names) (spot : Spot) (number : ℕ) (contents : Contents) (said : Said) (saids : List Said) (whole : Result Contents AsmRefusal) (layout : Layout) (left : Left all spot number contents (said ∷ saids) whole layout) where
  offset_is : offset_of spot ≡ size_here layout
  offset_is = ap (λ (k : ℕ). get_or spot.sizes k 0) left.stands.here' ∙ ap (λ (sizes : List ℕ). get_or sizes layout.here 0) left.stands.sizes'

  place : Place spot said
  place =
      let fits = free layout said left.taken'.0.free in
      record {
        below = subst (λ (n : ℕ). n < SECTIONS) (sym left.stands.here') left.made.chosen;
        fit = (All-head IsSaid said saids left.fit).1;
        within = subst (λ (n : ℕ). n ≤ SECTION_MAX) (sym offset_is) (small_here layout left.made);
        aligned = λ word. ap (λ (n : ℕ). n % 4) offset_is ∙ fits.aligned word;
        room = subst (λ (n : ℕ). n + size_of n said.statement ≤ SECTION_MAX) (sym offset_is) fits.room;
      }

  abbrev put : ℕ → ℕ → Result Contents AsmKind
  put here offset = with_put here offset contents (put_of all here offset said.statement)

  put_is : put spot.here (offset_of spot) ≡ put layout.here (size_here layout)
  put_is = ap (λ (here : ℕ). put here (offset_of spot)) left.stands.here' ∙ ap (put layout.here) offset_is

  abbrev behind : Contents → Result Contents AsmRefusal
  behind next = second_pass all (number + 1) (with_said said layout) next saids

  more : (next : Contents) (spot' : Spot) → put spot.here (offset_of spot) ≡ Ok next → spot'.here ≡ chosen said.statement spot.here
      → spot'.sizes ≡ slice_set spot.sizes spot.here (offset_of spot + size_of (offset_of spot) said.statement)
      → Left all spot' (number + 1) next saids whole (with_said said layout)
  more next spot' is here sizes = record {
    stands = record {
      here' = here ∙ ap (chosen said.statement) left.stands.here' ∙ sym (here_behind said layout);
      sizes' = sizes
          ∙ ap (λ (n : ℕ). slice_set spot.sizes spot.here (n + size_of n said.statement)) offset_is
          ∙ ap (λ (k : ℕ). slice_set spot.sizes k (size_here layout + size_of (size_here layout) said.statement)) left.stands.here'
          ∙ ap (λ (ns : List ℕ). slice_set ns layout.here (size_here layout + size_of (size_here layout) said.statement)) left.stands.sizes'
          ∙ sym (sizes_behind said layout);
    };
    made = made_said said layout left.made left.taken'.0;
    last = left.last;
    taken' = left.taken'.1;
    fit = All-tail IsSaid said saids left.fit;
    rest = left.rest ∙ ap (λ (r : Result Contents AsmKind). one_more number r behind) (sym put_is ∙ is);
  }

-- ---- the lines as they are read

abbrev pub none : SaidRead
none = record { label = None; statement = Nothing }

abbrev pub LeftFrom : Names → Spot → ℕ → Contents → List SaidRead → Result Contents AsmRefusal → Type 0
LeftFrom all spot number contents saids whole = (layout : Layout) × Left all spot number contents (map shown_said saids) whole layout

pub at_first : (passed : Passed) (all : Names) (spot : Spot) (contents : Contents) (saids : List SaidRead) → HavePassed passed → map shown_said saids ≡ passed.saids → spot.here ≡ start.here → spot.sizes ≡ start.sizes → contents ≡ nothing_yet
    → LeftFrom all spot 1 contents saids (second_pass all 1 start nothing_yet (map shown_said saids))
at_first passed all spot contents saids have are here sizes nothing = (
  start,
  record {
    stands = record { here' = here; sizes' = sizes };
    made = made_start;
    last = passed.layout;
    taken' = subst (λ (lines : List Said). AreTaken start lines passed.layout) (sym are) (taken have.lines passed have.pass);
    fit = subst (All IsSaid) (sym are) have.fit;
    rest = ap (λ (c : Contents). second_pass all 1 start c (map shown_said saids)) (sym nothing);
  },
)

module _ (all : Names) (spot : Spot) (number : ℕ) (contents : Contents) (saids : List SaidRead) (i : ℕ) (whole : Result Contents AsmRefusal) (there : i < length saids) (left : LeftFrom all spot number contents (drop i saids) whole) where
  abbrev next_said : Said
  next_said = shown_said (get_or saids i none)

  abbrev behind_it : List Said
  behind_it = map shown_said (drop (i + 1) saids)

  now : Left all spot number contents (next_said ∷ behind_it) whole left.0
  now = subst (λ (lines : List Said). Left all spot number contents lines whole left.0) (ap (map shown_said) (drop_more saids i none there)) left.1

  pub place_at : Place spot next_said
  place_at = place all spot number contents next_said behind_it whole left.0 now

  pub more_at : (next : Contents) (spot' : Spot) → with_put spot.here (offset_of spot) contents (put_of all spot.here (offset_of spot) next_said.statement) ≡ Ok next
      → spot'.here ≡ chosen next_said.statement spot.here → spot'.sizes ≡ slice_set spot.sizes spot.here (offset_of spot + size_of (offset_of spot) next_said.statement)
      → LeftFrom all spot' (number + 1) next (drop (i + 1) saids) whole
  more_at next spot' put here sizes = (with_said next_said left.0, more all spot number contents next_said behind_it whole left.0 now next spot' put here sizes)
