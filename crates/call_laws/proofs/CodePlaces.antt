-- The link address of code at an address is placed there.
use Rattle.std.proofs.Common.{◌≡◌, ℕ, zero, suc, ◌+◌, ◌-◌, ◌<◌, ◌≤◌, Bool, true, inl, inr, List, [], ◌∷◌, Option, Some, None, slice_get, refl, sym, ap, subst, ◌∙◌, arith}
use Rattle.std.specs.Prelude.{find, option_and_then, option_map}
use Rattle.std.specs.List.{zip}
use Rattle.std.specs.Option.{option_or}
use Rattle.std.proofs.lemmas.Bool.{and_parts, cases_Bool}
use Rattle.load_map.specs.declared.entry.MapEntry.{MapEntry}
use Rattle.elf_model.specs.declared.constants.TheConstants.{PF_X}
use Rattle.elf_model.specs.declared.func.Func.{Func}
use Rattle.elf_model.specs.declared.object.Object.{Object}
use Rattle.elf_model.specs.declared.object.Segment.{Segment}
use Rattle.elf_model.specs.Segments.{has_flag}
use Rattle.load_model.specs.declared.module.Live.{Live}
use Rattle.load_map.specs.Maps.{map_at}
use Rattle.load_map.specs.Translation.{placed}
use Rattle.fd_base.specs.Ranges.{is_in}
use Rattle.load_model.specs.Process.{object_at}
use Rattle.load_state.specs.Consistent.{IsConsistent}
use Rattle.load_state.specs.Loaded.{Loaded}
use Rattle.load_map.specs.Maps.{map_at}
use Rattle.fd_base.proofs.Options.{from_map}
use Rattle.fd_base.proofs.Ranges.{inside}
use Rattle.placed_code.specs.Places.{code_among, code_at, code_in, is_code_of, link_of}
use Rattle.call_laws.proofs.PlacedCode.{placed_back}

-- ---- lists

pub record IsPaired {A B : Type 0} (xs : List A) (ys : List B) (x : A) (y : B) : Type 0 where
  pub index : ℕ
  pub left : slice_get xs index ≡ Some x
  pub right : slice_get ys index ≡ Some y

paired_later : {A B : Type 0} (a : A) (b : B) (xs : List A) (ys : List B) (x : A) (y : B) → IsPaired xs ys x y → IsPaired (a ∷ xs) (b ∷ ys) x y
paired_later a b xs ys x y h = record { index = suc h.index; left = h.left; right = h.right }

-- what is found in two lists that go together
pub found_pair : {A B : Type 0} (p : A × B → Bool) (xs : List A) (ys : List B) (s : A × B) → find p (zip xs ys) ≡ Some s → IsPaired xs ys s.0 s.1 × (p s ≡ true)
found_pair p [] ys s is = absurd cc
found_pair p (x ∷ xs) [] s is = absurd cc
found_pair {A} {B} p (x ∷ xs) (y ∷ ys) s is =
    elim (cases_Bool (p (x, y))) [
      | inl passes ↦
          let found : Some (x, y) ≡ Some s = rw passes at is in
          let same : (x, y) ≡ s = cc in (
            record { index = zero; left = ap (λ (t : A × B). Some t.0) same; right = ap (λ (t : A × B). Some t.1) same },
            ap p (sym same) ∙ passes,
          )
      | inr fails ↦
          let rest = found_pair p xs ys s (rw fails at is) in
          (paired_later x y xs ys s.0 s.1 rest.0, rest.1)
    ]

-- ---- code

-- a placed segment of a live module in which an address lies
pub record IsCodedBy (l : Loaded) (a : ℕ) (f : Func) : Type 0 where
  pub object' : Object
  pub live : object_at l.modules.process f.module ≡ Some object'
  pub segment : Segment
  pub entry : MapEntry
  pub pair : IsPaired object'.segments (map_at l.modules.maps f.module) segment entry
  pub executable : has_flag segment.flags PF_X ≡ true
  pub above : entry.addr ≤ a
  pub below : a < entry.addr + entry.memsz
  pub value' : f.value ≡ entry.vaddr + (a - entry.addr)

-- the first module with code there
pub record IsAmong (maps : List (List MapEntry)) (a m : ℕ) (places : List (Option Live)) (f : Func) : Type 0 where
  pub index : ℕ
  pub live : Live
  pub there : slice_get places index ≡ Some (Some live)
  pub coded : code_in a (m + index) live.object (map_at maps (m + index)) ≡ Some f

among_later : (maps : List (List MapEntry)) (a m : ℕ) (place : Option Live) (places : List (Option Live)) (f : Func) → IsAmong maps a (suc m) places f
    → IsAmong maps a m (place ∷ places) f
among_later maps a m place places f h =
    let next : suc m + h.index ≡ m + suc h.index = omega arith in
    record { index = suc h.index; live = h.live; there = h.there; coded = subst (λ (n : ℕ). code_in a n h.live.object (map_at maps n) ≡ Some f) next h.coded }

first_or_later : (maps : List (List MapEntry)) (a m : ℕ) (live : Live) (places : List (Option Live)) (f : Func) (x : Option Func)
    → code_in a m live.object (map_at maps m) ≡ x → option_or x (code_among maps a (suc m) places) ≡ Some f
    → (code_among maps a (suc m) places ≡ Some f → IsAmong maps a (suc m) places f) → IsAmong maps a m (Some live ∷ places) f
first_or_later maps a m live places f None e is later = among_later maps a m (Some live) places f (later is)
first_or_later maps a m live places f (Some g) e is later =
    let here : m ≡ m + 0 = omega arith in
    record { index = zero; live = live; there = refl; coded = subst (λ (n : ℕ). code_in a n live.object (map_at maps n) ≡ Some f) here (e ∙ is) }

among : (maps : List (List MapEntry)) (a m : ℕ) (places : List (Option Live)) (f : Func) → code_among maps a m places ≡ Some f → IsAmong maps a m places f
among maps a m [] f is = absurd cc
among maps a m (None ∷ places) f is = among_later maps a m None places f (among maps a (suc m) places f is)
among maps a m (Some live ∷ places) f is =
    first_or_later maps a m live places f (code_in a m live.object (map_at maps m)) refl is (λ rest. among maps a (suc m) places f rest)

in_module : (l : Loaded) (a m : ℕ) (f : Func) (o : Object) → object_at l.modules.process m ≡ Some o → code_in a m o (map_at l.modules.maps m) ≡ Some f → IsCodedBy l a f
in_module l a m f o live is =
    let s = from_map (link_of a m) (find (is_code_of a) (zip o.segments (map_at l.modules.maps m))) f is in
    let both = found_pair (is_code_of a) o.segments (map_at l.modules.maps m) s.0 s.1 in
    let parts = and_parts (has_flag (s.0).0.flags PF_X) (is_in (s.0).1.addr (s.0).1.memsz a) both.1 in
    let range = inside (s.0).1.addr (s.0).1.memsz a parts.1 in
    subst (IsCodedBy l a) s.2 (record {
      object' = o;
      live = live;
      segment = (s.0).0;
      entry = (s.0).1;
      pair = both.0;
      executable = parts.0;
      above = range.0;
      below = range.1;
      value' = refl;
    })

pub coded_by : (l : Loaded) (a : ℕ) (f : Func) → code_at l.modules.process l.modules.maps a ≡ Some f → IsCodedBy l a f
coded_by l a f is =
    let at = among l.modules.maps a 0 l.modules.process.modules f is in
    let zero' : 0 + at.index ≡ at.index = omega arith in
    let live : object_at l.modules.process at.index ≡ Some at.live.object =
    ap (λ (x : Option (Option Live)). option_map (λ (y : Live). y.object) (option_and_then (λ (place : Option Live). place) x)) at.there in
    in_module l a at.index f at.live.object live (subst (λ (n : ℕ). code_in a n at.live.object (map_at l.modules.maps n) ≡ Some f) zero' at.coded)

pub placed_at_code : (l : Loaded) (h : IsConsistent l) (a : ℕ) (f : Func) → IsCodedBy l a f → placed (map_at l.modules.maps f.module) f.value ≡ a
placed_at_code l h a f by =
    ap (placed (map_at l.modules.maps f.module)) by.value'
    ∙ placed_back l h f.module by.pair.index by.object' by.segment by.entry by.live by.pair.left by.pair.right a by.above by.below
