-- Ranges that are watched, one after another.
use Rattle.std.proofs.Common.{◌≡◌, ◌⊎◌, inl, inr, ℕ, zero, suc, ◌+◌, ◌<◌, ◌≤◌, true, false, List, [], ◌∷◌, ◌++◌, Option, Some, None, length, get_or, refl, ap, sym, subst, ◌∙◌, arith}
use Rattle.std.specs.Prelude.{◌==◌, Contains, map, filter, unwrap_or}
use Rattle.std.proofs.lemmas.List.{map-append, append-nil}
use Rattle.std.proofs.lemmas.List.Elements.{Contains-append_left, Contains-append_right, Contains-append_cases, filter-append}
use Rattle.load_map.specs.declared.entry.MapEntry.{MapEntry}
use Rattle.elf_model.specs.declared.constants.TheConstants.{R_ARM_FUNCDESC_VALUE}
use Rattle.elf_model.specs.declared.object.Object.{Object}
use Rattle.elf_model.specs.declared.object.Rel.{Rel}
use Rattle.guest_mem.specs.declared.kind.MemKind.{MemKind}
use Rattle.guest_mem.specs.declared.kind.MemKind.TheVariants.{Data}
use Rattle.guest_mem.specs.Memory.{GuestMemory, IsMemory, HaveKind, is_marked, is_watched}
use Rattle.guest_mem.specs.Ranges.{with_marks}
use Rattle.guest_mem.proofs.Pasted.{get_or-filled_other}
use Rattle.fd_base.proofs.Ranges.{in_or_out, outside, inside as is_in-means}
use Rattle.guest_mem.proofs.Ranged.{is_watched-with_marks_there, is_watched-with_marks_other}
use Rattle.load_map.specs.Translation.{placed}
use Rattle.load_model.specs.Layout.{watched_ranges}
use Rattle.fd_base.specs.Ranges.{is_in}
use Rattle.elf_model.specs.Filled.{fixup_at}
use Rattle.load_memory.specs.parts.WatchedRanges.{AreWatched, pair_ranges}

contains_one : {X : Type 0} (x y : X) → Contains (x ∷ []) y → x ≡ y
contains_one x y (zero, l, e) = e
contains_one x y (suc k, l, e) = absurd (omega arith)

pub AreWatched-append : (xs ys : List (ℕ × ℕ)) (a b c : GuestMemory) → AreWatched xs a b → AreWatched ys b c → AreWatched (xs ++ ys) a c
AreWatched-append xs ys a b c first second = record {
  bytes = second.bytes ∙ first.bytes;
  kinds = second.kinds ∙ first.kinds;
  watched = λ start len k listed h. elim (Contains-append_cases xs ys (start, len) listed) [
    | inl left ↦ second.kept k (first.watched start len k left h)
    | inr right ↦ second.watched start len k right h
  ];
  kept = λ k h. second.kept k (first.kept k h);
  others = λ k out.
      second.others k (λ start len listed. out start len (Contains-append_right xs ys (start, len) listed))
      ∙ first.others k (λ start len listed. out start len (Contains-append_left xs ys (start, len) listed));
  unmarked = λ k other. second.unmarked k (λ data'. other (sym (ap (λ (kinds : List (Option MemKind)). get_or kinds k None) first.kinds) ∙ data')) ∙ first.unmarked k other;
}

-- one range of Data
module _ (m n : GuestMemory) (start len : ℕ) (inside : start + len ≤ length m.bytes) (whole : IsMemory m) (data' : HaveKind m start len (Some Data)) (put : n ≡ with_marks m start len) where
  room : start + len ≤ length m.marks
  room = let marks : length m.marks ≡ length m.bytes = whole.marks in omega arith

  there : (a : ℕ) → is_in start len a ≡ true → is_watched n a ≡ true
  there a h = let p = is_in-means start len a h in ap (λ (x : GuestMemory). is_watched x a) put ∙ is_watched-with_marks_there m start len a room data' p.0 p.1

  other : (a : ℕ) → (a < start) ⊎ (start + len ≤ a) → is_watched n a ≡ is_watched m a
  other a out = ap (λ (x : GuestMemory). is_watched x a) put ∙ is_watched-with_marks_other m start len a out

  pub AreWatched-one : AreWatched ((start, len) ∷ []) m n
  AreWatched-one = record {
    bytes = ap (λ (x : GuestMemory). x.bytes) put;
    kinds = ap (λ (x : GuestMemory). x.kinds) put;
    watched = λ s l a listed h. there a (subst (λ (r : ℕ × ℕ). is_in r.0 r.1 a ≡ true) (sym (contains_one (start, len) (s, l) listed)) h);
    kept = λ a h. elim (in_or_out start len a) [
      | inl p ↦ is_there a p.0 p.1
      | inr out ↦ other a out ∙ h
    ];
    others = λ a out. other a (outside start len a (out start len (zero, (omega arith), refl)));
    unmarked = λ a not_data. elim (in_or_out start len a) [
      | inl p ↦ absurd (not_data (data' a p.0 p.1))
      | inr out ↦ ap (λ (x : GuestMemory). is_marked x a) put ∙ get_or-filled_other m.marks start len a true false out
    ];
  }
    where
      is_there : (a : ℕ) → start ≤ a → a < start + len → is_watched n a ≡ true
      is_there a l l' = ap (λ (x : GuestMemory). is_watched x a) put ∙ is_watched-with_marks_there m start len a room data' l l'

-- ---- the ranges of a module

pub pair_ranges-append : (load_map : List MapEntry) (xs ys : List Rel) → pair_ranges load_map (xs ++ ys) ≡ pair_ranges load_map xs ++ pair_ranges load_map ys
pair_ranges-append load_map xs ys =
    ap (map (λ (r : Rel). (placed load_map r.site, 8))) (filter-append (λ (r : Rel). r.kind == R_ARM_FUNCDESC_VALUE) xs ys)
    ∙ map-append (λ (r : Rel). (placed load_map r.site, 8)) (filter (λ (r : Rel). r.kind == R_ARM_FUNCDESC_VALUE) xs) (filter (λ (r : Rel). r.kind == R_ARM_FUNCDESC_VALUE) ys)

-- fixups fill no descriptor
pair_ranges-fixups : (load_map : List MapEntry) (sites : List ℕ) → pair_ranges load_map (map fixup_at sites) ≡ []
pair_ranges-fixups load_map [] = refl
pair_ranges-fixups load_map (s ∷ sites) = pair_ranges-fixups load_map sites

pub watched_ranges-parts : (load_map : List MapEntry) (o : Object) → watched_ranges load_map o ≡ ((placed load_map o.got, 12) ∷ []) ++ pair_ranges load_map o.rels ++ pair_ranges load_map o.jmprels
watched_ranges-parts load_map o =
    ap (λ (xs : List (ℕ × ℕ)). (placed load_map o.got, 12) ∷ xs)
    (pair_ranges-append load_map (o.rels ++ o.jmprels) (map fixup_at (unwrap_or o.fixups []))
    ∙ ap (λ xs. pair_ranges load_map (o.rels ++ o.jmprels) ++ xs) (pair_ranges-fixups load_map (unwrap_or o.fixups []))
    ∙ append-nil (pair_ranges load_map (o.rels ++ o.jmprels))
    ∙ pair_ranges-append load_map o.rels o.jmprels)
