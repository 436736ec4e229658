-- The sites that loading fills, in three parts.
use Rattle.std.proofs.Common.{◌≡◌, ℕ, zero, suc, ◌+◌, ◌<◌, ◌≤◌, List, [], ◌∷◌, ◌++◌, length, get_or, drop, map, slice_get, Some, refl, sym, ap, subst, ◌∙◌, arith, append_assoc, append-nil, add-one, All}
use Rattle.std.specs.Prelude.{Contains, option_map, unwrap_or}
use Rattle.std.proofs.lemmas.List.{drop_more, drop_all, map-append}
use Rattle.std.proofs.lemmas.List.Elements.{All-nil, All-cons, All-head, All-tail, All-append, Contains-append_left, Contains-append_right}
use Rattle.fd_base.proofs.Members.{contains_at, map_in}
use Rattle.elf_model.specs.declared.filled.FilledSite.{FilledSite}
use Rattle.elf_model.specs.declared.object.Object.{Object}
use Rattle.elf_model.specs.declared.object.Rel.{Rel}
use Rattle.elf_model.specs.Filled.{fixup_at, site_relocations, plain_site, slot_site, slot_sites, sites_of}

-- ---- one slot more

pub slots_more : (slots : List Rel) (k : ℕ) (d : Rel) (now after all : List FilledSite) → k < length slots
    → after ≡ now ++ slot_site k (get_or slots k d) ∷ [] → now ++ slot_sites k (drop k slots) ≡ all → after ++ slot_sites (k + 1) (drop (k + 1) slots) ≡ all
slots_more slots k d now after all lt pushed before =
    let r = get_or slots k d in
    ap (λ ss. ss ++ slot_sites (k + 1) (drop (k + 1) slots)) pushed
    ∙ append_assoc now (slot_site k r ∷ []) (slot_sites (k + 1) (drop (k + 1) slots))
    ∙ ap (λ n. now ++ slot_site k r ∷ slot_sites n (drop (k + 1) slots)) (add-one k)
    ∙ sym (ap (λ rest. now ++ slot_sites k rest) (drop_more slots k d lt))
    ∙ before

pub slots_all : (slots : List Rel) (k : ℕ) (now all : List FilledSite) → length slots ≤ k → now ++ slot_sites k (drop k slots) ≡ all → now ≡ all
slots_all slots k now all end is =
    sym (append-nil now) ∙ sym (ap (λ rest. now ++ slot_sites k rest) (drop_all k slots end)) ∙ is

-- ---- the relocations of sites

pub rels_of_plain : (rs : List Rel) → map (λ (s : FilledSite). s.rel) (map plain_site rs) ≡ rs
rels_of_plain [] = refl
rels_of_plain (r ∷ rs) = ap (λ qs. r ∷ qs) (rels_of_plain rs)

pub rels_of_slots : (k : ℕ) (rs : List Rel) → map (λ (s : FilledSite). s.rel) (slot_sites k rs) ≡ rs
rels_of_slots k [] = refl
rels_of_slots k (r ∷ rs) = ap (λ qs. r ∷ qs) (rels_of_slots (suc k) rs)

pub rels_of_sites : (o : Object) → map (λ (s : FilledSite). s.rel) (sites_of o) ≡ site_relocations o
rels_of_sites o =
    let rel : FilledSite → Rel = λ s. s.rel in
    let fixups : List Rel = map fixup_at (unwrap_or o.fixups []) in
    map-append rel (map plain_site o.rels ++ slot_sites 0 o.jmprels) (map plain_site fixups)
    ∙ ap (λ rs. rs ++ map rel (map plain_site fixups)) (map-append rel (map plain_site o.rels) (slot_sites 0 o.jmprels))
    ∙ ap (λ rs. (rs ++ map rel (slot_sites 0 o.jmprels)) ++ map rel (map plain_site fixups)) (rels_of_plain o.rels)
    ∙ ap (λ rs. (o.rels ++ rs) ++ map rel (map plain_site fixups)) (rels_of_slots 0 o.jmprels)
    ∙ ap (λ rs. (o.rels ++ o.jmprels) ++ rs) (rels_of_plain fixups)

-- ---- slots by number

pub slots_count : (k : ℕ) (rs : List Rel) → length (slot_sites k rs) ≡ length rs
slots_count k [] = refl
slots_count k (r ∷ rs) = ap suc (slots_count (suc k) rs)

pub slot_at : (n k : ℕ) (rs : List Rel) → slice_get (slot_sites n rs) k ≡ option_map (slot_site (n + k)) (slice_get rs k)
slot_at n k [] = refl
slot_at n zero (r ∷ rs) = let same : n ≡ n + 0 = omega arith in ap (λ i. Some (slot_site i r)) same
slot_at n (suc k) (r ∷ rs) =
    let same : suc n + k ≡ n + suc k = omega arith in
    slot_at (suc n) k rs ∙ ap (λ i. option_map (slot_site i) (slice_get rs k)) same

-- the same from 0 on
pub slots_numbered : (rs : List Rel) (k : ℕ) → slice_get (slot_sites 0 rs) k ≡ option_map (slot_site k) (slice_get rs k)
slots_numbered rs k =
    let same : 0 + k ≡ k = omega arith in
    slot_at 0 k rs ∙ ap (λ i. option_map (slot_site i) (slice_get rs k)) same

-- slot k, counted from 0
pub numbered_slot : (rs : List Rel) (k : ℕ) (r : Rel) → slice_get rs k ≡ Some r → slice_get (slot_sites 0 rs) k ≡ Some (slot_site k r)
numbered_slot rs k r at = slots_numbered rs k ∙ ap (option_map (slot_site k)) at

pub slot_listed : (o : Object) (k : ℕ) (r : Rel) → slice_get o.jmprels k ≡ Some r → Contains (sites_of o) (slot_site k r)
slot_listed o k r at =
    Contains-append_left (map plain_site o.rels ++ slot_sites 0 o.jmprels) _ (slot_site k r)
    (Contains-append_right (map plain_site o.rels) (slot_sites 0 o.jmprels) (slot_site k r)
    (contains_at (slot_sites 0 o.jmprels) k (slot_site k r) (numbered_slot o.jmprels k r at)))

-- the relocation of a site is one of the object's
pub rel_listed : (o : Object) (s : FilledSite) → Contains (sites_of o) s → Contains (site_relocations o) s.rel
rel_listed o s there = subst (λ rs. Contains rs s.rel) (rels_of_sites o) (map_in (λ (t : FilledSite). t.rel) (sites_of o) s there)

-- ---- what holds of all sites

pub all_plain : (P : FilledSite → Type 0) (rs : List Rel) → ((r : Rel) → P (plain_site r)) → All P (map plain_site rs)
all_plain P [] each = All-nil P
all_plain P (r ∷ rs) each = All-cons P (plain_site r) (map plain_site rs) (each r) (all_plain P rs each)

pub all_slots : (P : FilledSite → Type 0) (Q : Rel → Type 0) (k : ℕ) (rs : List Rel) → ((n : ℕ) (r : Rel) → Q r → P (slot_site n r)) → All Q rs → All P (slot_sites k rs)
all_slots P Q k [] each all = All-nil P
all_slots P Q k (r ∷ rs) each all =
    All-cons P (slot_site k r) (slot_sites (suc k) rs) (each k r (All-head Q r rs all)) (all_slots P Q (suc k) rs each (All-tail Q r rs all))

-- of relocations and fixups alike, and of slots by their relocations
pub all_sites : (P : FilledSite → Type 0) (Q : Rel → Type 0) (o : Object) → ((r : Rel) → P (plain_site r)) → ((n : ℕ) (r : Rel) → Q r → P (slot_site n r)) → All Q o.jmprels
    → All P (sites_of o)
all_sites P Q o plain slots all =
    All-append P (map plain_site o.rels ++ slot_sites 0 o.jmprels) (map plain_site (map fixup_at (unwrap_or o.fixups [])))
    (All-append P (map plain_site o.rels) (slot_sites 0 o.jmprels) (all_plain P o.rels plain) (all_slots P Q 0 o.jmprels slots all))
    (all_plain P (map fixup_at (unwrap_or o.fixups [])) plain)
