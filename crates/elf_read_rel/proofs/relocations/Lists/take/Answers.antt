use Rattle.std.proofs.Common.{◌≡◌, ◌≢◌, ◌<◌, ◌++◌, [], true, false, length, set, get_or, refl, sym, ap, subst, ◌∙◌, arith}
use Rattle.std.proofs.lemmas.List.{get_or_read}
use Rattle.std.proofs.lemmas.Result.{on_ok_weaker}
use Rattle.elf_model.specs.declared.table.SectionHeader.{SectionHeader}
use Rattle.elf_model.specs.declared.constants.TheConstants.{SHT_RELA}
use Rattle.elf_model.specs.Header.{e_shnum}
use Rattle.elf_model.specs.Sections.{section_header}
use Rattle.elf_model.specs.RelEntries.{relocates, rels_in}
use Rattle.elf_read_rel.proofs.Listing.{skipped, taken, relocated_there}
use Rattle.elf_read_rel.proofs.relocations.Lists.take.Goals as goal

pub returns-then-not-relocates-clause-lists : goal.returns-then-not-relocates-clause-lists
returns-then-not-relocates-clause-lists c =
    let bytes = c.args.bytes.now in
    let out : relocates bytes (section_header bytes c.args.i) ≡ false =
    ap (relocates bytes) (sym c.section_header-h.ensures) ∙ sym (c.if-not-relocates.ensures bytes c.requires.are_numbers) in
    skipped bytes c.args.i c.args.self.now out c.requires.so_far

pub overflow_cast-h : goal.overflow_cast-h
overflow_cast-h c =
    let there = relocated_there c.args.bytes.now c.section_header-h.result (sym (c.if-not-relocates.ensures c.args.bytes.now c.requires.are_numbers)) in
    omega (arith, there.0, c.requires.headers.few)

pub section_header-relocated-requires-clause-inside : goal.section_header-relocated-requires-clause-inside
section_header-relocated-requires-clause-inside c =
    let there = relocated_there c.args.bytes.now c.section_header-h.result (sym (c.if-not-relocates.ensures c.args.bytes.now c.requires.are_numbers)) in
    omega (arith, there.0, c.requires.headers.inside)

pub index_mut-requires : goal.index_mut-requires
index_mut-requires c =
    let there = relocated_there c.args.bytes.now c.section_header-h.result (sym (c.if-not-relocates.ensures c.args.bytes.now c.requires.are_numbers)) in
    omega (arith, there.0, c.requires.so_far.whole, c.args.self.now.rels.ok)

pub returns-clause-lists : goal.returns-clause-lists
returns-clause-lists c =
    let bytes = c.args.bytes.now in
    let h : c.section_header-h.result ≡ section_header bytes c.args.i = c.section_header-h.ensures in
    let does : relocates bytes c.section_header-h.result ≡ true = sym (c.if-not-relocates.ensures bytes c.requires.are_numbers) in
    let does' : relocates bytes (section_header bytes c.args.i) ≡ true = subst (λ (x : SectionHeader). relocates bytes x ≡ true) h does in
    let other : (section_header bytes c.args.i).kind ≢ SHT_RELA = subst (λ (x : SectionHeader). x.kind ≢ SHT_RELA) h c.in_ok-self.ensures.is_rel in
    let there = relocated_there bytes c.section_header-h.result does in
    let lt : c.section_header-h.result.info < length c.args.self.now.rels.items = omega (arith, there.0, c.requires.so_far.whole) in
    let old : c.index_mut.result.now ≡ get_or c.args.self.now.rels.items c.section_header-h.result.info [] =
    get_or_read c.args.self.now.rels.items c.section_header-h.result.info c.index_mut.result.now lt c.index_mut.ensures.value [] in
    on_ok_weaker c.read_entries.result (λ put.
    let more : c.read_entries.new.rels ≡ get_or c.args.self.now.rels.items (section_header bytes c.args.i).info [] ++ rels_in bytes (section_header bytes c.args.i) =
    put ∙ ap (λ rs. rs ++ rels_in bytes c.section_header-h.result) old
    ∙ ap (λ (x : SectionHeader). get_or c.args.self.now.rels.items x.info [] ++ rels_in bytes x) h in
    taken bytes c.args.i c.args.self.now _ c.read_entries.new.rels c.requires.so_far does' other more (ap (λ (x : SectionHeader). set c.args.self.now.rels.items x.info c.read_entries.new.rels) h) c.in_ok-self.ensures.tests.1.0 c.in_ok-self.ensures.tests.1.1)
    c.read_entries.ensures.rels
