use Rattle.std.proofs.Common.{◌≡◌, ◌+◌, ◌-◌, ◌++◌, ap, ◌∙◌, arith}
use Rattle.std.proofs.lemmas.Result.{on_ok_weaker}
use Rattle.fd_base.specs.Words.{word_bytes}
use Rattle.elf_write.specs.Words.{zeros, section_row}
use Rattle.elf_write.specs.ObjectFile.{names_end, sections_offset}
use Rattle.elf_write.proofs.FileJoined.{all_sections}
use Rattle.elf_write.proofs.FilePlaced.{reached, fixups_below, rofixup_place_is, names_place_is}
use Rattle.elf_write.proofs.object_file.put_section_list.Goals as goal

pub rofixup_header-requires : goal.rofixup_header-requires
rofixup_header-requires c =
    let t = c.args.tables.now in
    let p = c.requires.placed in
    let r = reached c.args.object.now t c.args.layout.now p in
    let last = fixups_below c.args.object.now t c.args.fixups.now p.layout c.requires.listed in
    record {
      order = r.hash_first;
      fits = omega (arith, r.dynamic_last, r.dynamic_within, r.sections_from, r.sections_near);
      below = omega (arith, last, r.dynamic_near);
    }

pub returns : goal.returns
returns c =
    let o = c.args.object.now in
    let l = c.args.layout.now in
    let p = c.requires.placed in
    let a = c.extend_from_slice.new.self in
    let b = c.put_zeros.new.out in
    let d = c.put_section_header.new.out in
    let e = c.put_section_header-2.new.out in
    let gap : l.sections - (l.names + 20) ≡ sections_offset o - names_end o = ap (λ n. n - (l.names + 20)) p.sections' ∙ ap (λ n. sections_offset o - (n + 20)) p.names' in
    on_ok_weaker c.put_section_header-3.result (λ put.
    all_sections o c.args.fixups.now c.args.out.now a b d e c.put_section_header-3.new.out c.in_ok-extend_from_slice.ensures
    (c.in_ok-put_zeros.ensures ∙ ap (λ n. a ++ zeros n) gap)
    (c.in_ok-put_section_header.ensures ∙ ap (λ h. b ++ word_bytes (section_row h)) c.no_header.ensures)
    (c.in_ok-put_section_header-2.ensures ∙ ap (λ h. d ++ word_bytes (section_row h)) (c.rofixup_header.ensures ∙ rofixup_place_is o c.args.tables.now l p c.args.fixups.now))
    (put ∙ ap (λ h. e ++ word_bytes (section_row h)) (c.names_header.ensures ∙ names_place_is o c.args.tables.now l p))) c.put_section_header-3.ensures
