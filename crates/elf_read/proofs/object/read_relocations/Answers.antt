use Rattle.std.proofs.Common.{◌≡◌, List, ◌++◌, ◌∷◌, refl, ap, ◌∙◌}
use Rattle.elf_model.specs.declared.table.RelEntry.{RelEntry}
use Rattle.elf_model.specs.Relocations as rel
use Rattle.elf_model.specs.Fields as field
use Rattle.elf_read.proofs.Listed.{relocations_hold, own_are, slots_are, fixups_are}
use Rattle.elf_read.proofs.object.read_relocations.Goals as goal

pub returns : goal.returns
returns c =
    let bytes = c.args.bytes.now in
    let loads = c.args.loads.now in
    let entries = c.deref.result.now in
    let own = c.in_ok-tables.tables.own.items in
    let slots = c.in_ok-tables.tables.slots.items in
    let all = c.deref-5.result.now in
    let got = c.args.dynamic.now.got in
    let list = c.args.dynamic.now.list in
    let tables = c.in_ok-tables.ensures in
    let e_entries : entries ≡ field.entries bytes = c.deref.ensures.value ∙ c.requires.are_entries in
    let e_own : own ≡ rel.rel_entries bytes loads entries = ap (λ (p : List RelEntry × List RelEntry). p.0) tables.1 in
    let e_slots : slots ≡ rel.jmprel_entries bytes loads entries = ap (λ (p : List RelEntry × List RelEntry). p.1) tables.1 in
    let e_all : all ≡ own ++ slots = c.deref-5.ensures.value ∙ c.in_ok-extend_from_slice.ensures.items ∙ ap (λ (es : List RelEntry). own ++ es) c.deref-4.ensures.value in
    let rels = c.in_ok-taken.ensures in
    let fixups = c.in_ok-fixups.ensures (rel.got_header got ∷ rel.sites_of all) rels.1 in
    let is_rels : c.in_ok-rels.rels ≡ rel.rels_of (field.rel_entries bytes) =
    c.in_ok-rels.ensures ∙ ap rel.rels_of (c.deref-2.ensures.value ∙ own_are bytes loads entries own c.requires.are_loads e_entries e_own) in
    let is_jmprels : c.in_ok-jmprels.jmprels ≡ rel.rels_of (field.jmprel_entries bytes) =
    c.in_ok-jmprels.ensures ∙ ap rel.rels_of (c.deref-3.ensures.value ∙ slots_are bytes loads entries slots c.requires.are_loads e_entries e_slots) in
    let is_fixups : c.in_ok-fixups.fixups ≡ field.fixups bytes = fixups_are bytes list c.in_ok-fixups.fixups c.requires.is_list fixups.1 in (
      relocations_hold bytes loads entries list got c.args.symbol_count own slots all c.requires.are_loads e_entries c.requires.is_list c.requires.is_got c.requires.is_count e_own e_slots e_all tables.0 rels.0 fixups.0,
      rw (is_rels, is_jmprels, is_fixups) refl,
    )
