-- Which segment has the bytes of a range.
use Rattle.std.proofs.Common.{◌≡◌, ℕ, ◌+◌, ◌<◌, ◌≤◌, Bool, true, ◌&&◌, List, length, Some, AllPairs, sym, ap, ◌∙◌, subst, inl, inr, arith}
use Rattle.std.specs.Prelude.{slice_get, nat_le}
use Rattle.std.specs.List.{list_any}
use Rattle.std.proofs.lemmas.Bool.{and_from, and_parts, leb-true, cases_lt}
use Rattle.std.proofs.lemmas.Bool.Decides.{nat_tests}
use Rattle.std.proofs.lemmas.List.Folds.{list_any_at}
use Rattle.std.proofs.lemmas.Option.{slice_get_within, get_or_from_slice_get}
use Rattle.fd_base.proofs.Finding.{any_at}
use Rattle.fd_base.proofs.Lists.{all_at, pairs_at}
use Rattle.elf_model.specs.declared.constants.TheConstants.{PF_X}
use Rattle.elf_model.specs.declared.object.Object.{Object}
use Rattle.elf_model.specs.declared.object.Segment.{Segment}
use Rattle.elf_model.specs.Segments.{has_flag}
use Rattle.elf_model.specs.Places.{spans, is_held_in}
use Rattle.elf_model.specs.Sound.{IsSound, IsSized, SegmentsApart}
use Rattle.plt_code.specs.Standing.{is_filled, is_code_in, is_near}
use Rattle.plt_code.specs.parts.Scanned.{IsExecutable}
use Rattle.plt_code.specs.parts.Laws.{HasFileBytes, HasBoth}

-- what passes at a place passes somewhere
pub any_of : (p : Segment → Bool) (ss : List Segment) (k : ℕ) (s : Segment) → slice_get ss k ≡ Some s → p s ≡ true → list_any p ss ≡ true
any_of p ss k s held h =
    list_any_at p ss k s (slice_get_within ss k s held) (subst (λ t. p t ≡ true) (sym (get_or_from_slice_get ss k s s held)) h)

-- two segments that have one address are one
pub one_segment : (ss : List Segment) (i j v : ℕ) (s t : Segment) → AllPairs SegmentsApart ss → slice_get ss i ≡ Some s → slice_get ss j ≡ Some t
    → s.vaddr ≤ v → v < s.vaddr + s.memsz → t.vaddr ≤ v → v < t.vaddr + t.memsz → s ≡ t
one_segment ss i j v s t all p q a b x y =
    elim (cases_lt i j) [
      | inl lt ↦ absurd (meets s t (pairs_at SegmentsApart ss i j s t all lt p q) a b x y)
      | inr le ↦ elim (cases_lt j i) [
        | inl lt ↦ absurd (meets t s (pairs_at SegmentsApart ss j i t s all lt q p) x y a b)
        | inr ge ↦ let same : i ≡ j = omega arith in let both : Some s ≡ Some t = sym p ∙ ap (slice_get ss) same ∙ q in cc
      ]
    ]
  where
    meets : (s t : Segment) → SegmentsApart s t → s.vaddr ≤ v → v < s.vaddr + s.memsz → t.vaddr ≤ v → v < t.vaddr + t.memsz → ⊥
    meets s t (inl h) a b x y = omega arith
    meets s t (inr h) a b x y = omega arith

-- ---- code

-- an executable segment with the file's bytes of a range
pub record InCode (ss : List Segment) (v n : ℕ) : Type 0 where
  pub place : ℕ
  pub segment : Segment
  pub held : slice_get ss place ≡ Some segment
  pub executable : IsExecutable segment
  pub begin : segment.vaddr ≤ v
  pub end : v + n ≤ segment.vaddr + length segment.filled

pub in_code : (ss : List Segment) (v n : ℕ) → is_code_in ss v n ≡ true → InCode ss v n
in_code ss v n h =
    let one = any_at (λ s. has_flag s.flags PF_X && is_filled s v n) ss h in
    let parts = and_parts (has_flag (one.1).flags PF_X) (is_filled one.1 v n) one.2.1 in
    let ends = and_parts (nat_le (one.1).vaddr v) (nat_le (v + n) ((one.1).vaddr + length (one.1).filled)) parts.1 in
    record {
      place = one.0;
      segment = one.1;
      held = one.2.0;
      executable = parts.0;
      begin = leb-true (one.1).vaddr v ends.0;
      end = leb-true (v + n) ((one.1).vaddr + length (one.1).filled) ends.1;
    }

pub code_of : (ss : List Segment) (k v n : ℕ) (s : Segment) → slice_get ss k ≡ Some s → IsExecutable s → s.vaddr ≤ v → v + n ≤ s.vaddr + length s.filled → is_code_in ss v n ≡ true
code_of ss k v n s held x a b =
    any_of (λ t. has_flag t.flags PF_X && is_filled t v n) ss k s held (and_from (has_flag s.flags PF_X) (is_filled s v n) x (filled s v n a b))
  where
    filled : (s : Segment) (v n : ℕ) → s.vaddr ≤ v → v + n ≤ s.vaddr + length s.filled → is_filled s v n ≡ true
    filled s v n a b = grind (arith, nat_tests)

held_in : (s : Segment) (v : ℕ) → s.vaddr ≤ v → v < s.vaddr + s.memsz → is_held_in s v ≡ true
held_in s v a b = grind (arith, nat_tests)

pub has_bytes : (o : Object) (v n : ℕ) → IsSound o → is_code_in o.segments v n ≡ true → HasFileBytes o.segments v n
has_bytes o v n sound h =
    let c = in_code o.segments v n h in
    let size = all_at IsSized o.segments c.place c.segment sound.sized c.held in
    record {
      place = c.place;
      segment = c.segment;
      held = c.held;
      begin = c.begin;
      end = c.end;
      small = omega (arith, c.end, size.filled, size.end);
      executable = λ i lt. any_of (λ s. has_flag s.flags PF_X && is_held_in s (v + i)) o.segments c.place c.segment c.held
          (and_from (has_flag (c.segment).flags PF_X) (is_held_in c.segment (v + i)) c.executable
          (held_in c.segment (v + i) (omega (arith, c.begin)) (omega (arith, c.end, size.filled))));
    }

pub has_both : (ss : List Segment) (site got : ℕ) → is_near ss site got ≡ true → HasBoth ss site got
has_both ss site got h =
    let one = any_at (λ s. spans s site 8 && spans s got 12) ss h in
    let parts = and_parts (spans one.1 site 8) (spans one.1 got 12) one.2.1 in
    record { place = one.0; segment = one.1; held = one.2.0; has_site = parts.0; has_got = parts.1 }
