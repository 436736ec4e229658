-- Calls through the PLT, and fixups.
use Rattle.std.proofs.Common.{◌≡◌, ℕ, ◌+◌, ◌-◌, ◌≤◌, inl, inr, List, [], ◌++◌, map, get_or, Bool, true, false, Some, Result, Ok, Err, refl, ap, sym, ◌∙◌, arith, All, append-nil}
use Rattle.std.specs.Prelude.{pos, ◌-ℤ◌, unwrap_or}
use Rattle.std.specs.List.{flat_map}
use Rattle.elf_model.specs.declared.object.Object.{Object}
use Rattle.elf_model.specs.declared.object.Rel.{Rel}
use Rattle.elf_model.specs.declared.table.Site.{Site}
use Rattle.elf_model.specs.Places.{filled_ranges, file_byte}
use Rattle.elf_model.specs.Sound.{RangesApart}
use Rattle.arm_relocs.specs.Branch.{branch_addend}
use Rattle.plt_code.specs.Entries.{IsPltEntry, IsClear}
use Rattle.plt_code.specs.parts.Laws.{IsWholeEntry}
use Rattle.plt_code.proofs.Whole.{whole_entries_are_found}
use Rattle.load_model.specs.Definition.{Linkage}
use Rattle.load_model.specs.Image.{Placing, byte_over, got_words, words_for}
use Rattle.elf_model.specs.Filled.{fixup_at, plain_site, slot_sites, sites_of}
use Rattle.load_model.specs.Sites.{site_value, written}
use Rattle.load_model.specs.Unbound.{standing_value, stub_or, waits}
use Rattle.load_model.specs.declared.error.LoadRefusal.{LoadRefusal}
use Rattle.load_model.specs.declared.meaning.SiteValue.{SiteValue}
use Rattle.load_model.specs.declared.meaning.SiteValue.TheVariants.{Place, Formula, Pair, Stub, Descriptor}
use Rattle.load_model.specs.declared.words.LinkWord.{LinkWord}
use Rattle.elf_model.specs.declared.filled.FilledSite.{FilledSite}
use Rattle.std.proofs.Math.Path.{fun_ext}
use Rattle.std.proofs.lemmas.List.{map-append}
use Rattle.link_sites.specs.Loaded.{IsModule}
use Rattle.link_sites.specs.parts.Linked.{IsPlain, ShareSegment}
use Rattle.link_sites.specs.parts.Laws.{FixupsMeanRelative, WHOLE_ENTRY_SIZE, with_relatives}
use Rattle.link_sites.specs.Meaning.{BranchesTo}
use Rattle.link_sites.proofs.Sites.{branch}

part_apart : (at a size n : ℕ) (s : Site) → at ≤ a → a + size ≤ at + n → RangesApart (record { addr = at; size = n }) s → RangesApart (record { addr = a; size = size }) s
part_apart at a size n s from to apart = elim apart [ inl h ↦ inl (omega arith) | inr h ↦ inr (omega arith) ]

pub clear : (o : Object) (at slot : ℕ) → IsWholeEntry o at slot → All (RangesApart (record { addr = at; size = WHOLE_ENTRY_SIZE })) (filled_ranges o) → IsClear o at slot
clear o at slot whole apart = record {
  entry = λ k d lt. part_apart at at 20 40 (get_or (filled_ranges o) k d) (omega arith) (omega arith) (apart k d lt);
  lazy = λ z is.
      let two : Some z ≡ Some (at + 24) = sym is ∙ whole_entries_are_found.lazy o at slot whole in
      let place : z ≡ at + 24 = cc in
      λ k d lt. part_apart at (z - 4) 20 40 (get_or (filled_ranges o) k d) (omega arith) (omega arith) (apart k d lt);
}

pub plt : (l : Linkage) (p : Placing) (m : ℕ) (o : Object) (v at slot w : ℕ) → IsModule l p m o → IsPlain o v w → ShareSegment o v at
    → branch_addend w ≡ pos at -ℤ pos (v + 8) → IsWholeEntry o at slot → All (RangesApart (record { addr = at; size = WHOLE_ENTRY_SIZE })) (filled_ranges o)
    → BranchesTo l p m o v at × (IsPltEntry o at slot × IsClear o at slot)
plt l p m o v at slot w is h shares field whole apart =
    (branch l p m o v at w is h shares field, (whole_entries_are_found.entry o at slot whole, clear o at slot whole apart))

-- the sites are the same, in the same order
same_sites : (o : Object) → o.jmprels ≡ [] → sites_of (with_relatives o) ≡ sites_of o
same_sites o none =
    let fixups = map fixup_at (unwrap_or o.fixups []) in
    let rels = map plain_site o.rels in
    let front : sites_of (with_relatives o) ≡ rels ++ map plain_site fixups =
    ap (λ js. (map plain_site (o.rels ++ fixups) ++ slot_sites 0 js) ++ []) none
    ∙ append-nil (map plain_site (o.rels ++ fixups) ++ []) ∙ append-nil (map plain_site (o.rels ++ fixups)) ∙ map-append plain_site o.rels fixups in
    let back : sites_of o ≡ rels ++ map plain_site fixups =
    ap (λ js. (rels ++ slot_sites 0 js) ++ map plain_site fixups) none ∙ ap (λ ss. ss ++ map plain_site fixups) (append-nil rels) in
    front ∙ sym back

-- and so are their words
same_words : (p : Placing) (m : ℕ) (o : Object) (r : Rel) (b : Bool) (x : Result SiteValue LoadRefusal)
    → words_for p m o r (written (stub_or b o r) x) ≡ words_for p m (with_relatives o) r (written (stub_or b (with_relatives o) r) x)
same_words p m o r true (Ok value) = refl
same_words p m o r false (Ok (Place f)) = refl
same_words p m o r false (Ok (Formula v)) = refl
same_words p m o r false (Ok (Pair f)) = refl
same_words p m o r false (Ok (Stub z)) = refl
same_words p m o r false (Ok (Descriptor f)) = refl
same_words p m o r b (Err e) = refl

standing_words : (l : Linkage) (p : Placing) (m : ℕ) (o : Object) (unbound : List Bool) (s : FilledSite)
    → words_for p m o s.rel (standing_value l m o unbound s) ≡ words_for p m (with_relatives o) s.rel (standing_value l m (with_relatives o) unbound s)
unfolding site_value
standing_words l p m o unbound s = same_words p m o s.rel (waits unbound s) (site_value l m o s.rel)

pub fixups_mean_relative : FixupsMeanRelative
fixups_mean_relative l p m o unbound none v =
    ap (λ (g : FilledSite → List LinkWord). byte_over (got_words p m o.got ++ flat_map g (sites_of o)) (file_byte o.segments) v) (fun_ext (standing_words l p m o unbound))
    ∙ ap (λ ss. byte_over (got_words p m o.got ++ flat_map (λ s. words_for p m (with_relatives o) s.rel (standing_value l m (with_relatives o) unbound s)) ss) (file_byte o.segments) v)
    (sym (same_sites o none))
