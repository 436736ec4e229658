-- What is known of a site in its place, and of sites that are taken one after the other.
use Rattle.std.proofs.Common.{◌≡◌, ℕ, suc, ◌+◌, ◌%◌, ◌^◌, ◌<◌, ◌≤◌, Bool, true, false, ◌&&◌, ◌||◌, List, [], ◌∷◌, ◌++◌, All, refl, sym, ap, ◌∙◌, arith}
use Rattle.std.specs.Prelude.{not}
use Rattle.std.specs.List.{list_any}
use Rattle.std.specs.BTreeSet as set
use Rattle.std.specs.Ordering.{nat_cmp}
use Rattle.std.proofs.lemmas.Bool.{eqb-true, and_parts}
use Rattle.std.proofs.lemmas.Bool.Decides.{nat_tests}
use Rattle.elf_model.specs.declared.constants.TheConstants.{PF_W}
use Rattle.elf_model.specs.declared.table.ProgramHeader.{ProgramHeader}
use Rattle.elf_model.specs.declared.table.Site.{Site}
use Rattle.elf_model.specs.Segments.{is_writable_at, is_in_memory, has_flag}
use Rattle.elf_model.specs.Relocations.{is_in_place}
use Rattle.elf_read.specs.declared.sites.Taken.{Taken}
use Rattle.elf_read.specs.parts.Taken.{covers, IsWhole, IsAligned, AreAligned, Has}

-- some element passes, and what holds of each holds of it
any_gives : {X : Type 0} (p : X → Bool) (P : X → Type 0) (xs : List X) → list_any p xs ≡ true → All P xs → (x : X) × (p x ≡ true) × P x
any_gives p P [] e all = absurd cc
any_gives {X} p P (y ∷ ys) e all = one (p y) refl (λ k. any_gives p P ys k (λ i d lt. all (suc i) d (omega arith))) e
  where
    one : (b : Bool) → p y ≡ b → (list_any p ys ≡ true → (x : X) × (p x ≡ true) × P x) → b || list_any p ys ≡ true → (x : X) × (p x ≡ true) × P x
    one true h rest k = (y, h, all 0 y (omega arith))
    one false h rest k = rest k

in_memory_ends : (h : ProgramHeader) (addr n : ℕ) → is_in_memory h addr n ≡ true → addr + n ≤ h.vaddr + h.memsz
in_memory_ends h addr n e = grind (arith, nat_tests)

abbrev IsBelow : ProgramHeader → Type 0
IsBelow h = h.vaddr + h.memsz < 2 ^ 32

pub place_tells : (loads : List ProgramHeader) (s : Site) → All (λ h. h.vaddr + h.memsz < 2 ^ 32) loads → is_in_place loads s ≡ true → (s.addr % 4 ≡ 0) × (s.addr + s.size < 2 ^ 32)
unfolding is_in_place is_writable_at
place_tells loads s below e =
    let parts = and_parts _ _ e in
    let found = any_gives (λ h. has_flag h.flags PF_W && is_in_memory h s.addr s.size) IsBelow loads parts.1 below in
    (eqb-true _ _ parts.0, omega (arith, in_memory_ends found.0 s.addr s.size (and_parts _ _ found.1).1, found.2))

pub aligned : (loads : List ProgramHeader) (s : Site) → IsWhole s → All (λ h. h.vaddr + h.memsz < 2 ^ 32) loads → is_in_place loads s ≡ true → IsAligned s
aligned loads s whole below e = record { addr = (place_tells loads s below e).0; size = whole.size; some = whole.some }

any_push : {X : Type 0} (p : X → Bool) (xs : List X) (y : X) → list_any p (xs ++ y ∷ []) ≡ p y || list_any p xs
any_push p [] y = or_none (p y)
  where
    or_none : (b : Bool) → b || false ≡ b || false
    or_none b = refl
any_push p (x ∷ xs) y = turn (p x) (p y) (list_any p xs) (list_any p (xs ++ y ∷ [])) (any_push p xs y)
  where
    turn : (a b d e : Bool) → e ≡ b || d → a || e ≡ b || (a || d)
    turn true true d e h = refl
    turn true false d e h = refl
    turn false b d e h = h

aligned_more : (sites : List Site) (s : Site) → AreAligned sites → IsAligned s → AreAligned (sites ++ s ∷ [])
aligned_more [] s all here = (here, tt)
aligned_more (x ∷ xs) s all here = (all.0, aligned_more xs s all.1 here)

-- one more site is taken
pub has_more : (old new : Taken) (sites : List Site) (s : Site) → IsAligned s → ((w : ℕ) → set.contains nat_cmp new.words w ≡ (covers s w || set.contains nat_cmp old.words w)) → Has old sites → Has new (sites ++ s ∷ [])
has_more old new sites s is takes has = record {
  aligned = aligned_more sites s has.aligned is;
  words = λ w. takes w ∙ ap (λ b. covers s w || b) (has.words w) ∙ sym (any_push (λ s. covers s w) sites s);
}

pub passed_not : (a b : Bool) → a ≡ b → not a ≡ false → b ≡ true
passed_not true b e h = sym e
passed_not false b e h = absurd cc
