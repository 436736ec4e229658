use Rattle.std.proofs.Common.{◌≡◌, ◌+◌, ◌*◌, length, sym, ap, ◌∙◌, arith}
use Rattle.elf_model.specs.declared.constants.TheConstants.{SYM_SIZE, REL_SIZE}
use Rattle.elf_write.specs.Words.{aligned}
use Rattle.elf_write.specs.HashTable.{hash_words, bucket_count}
use Rattle.elf_write.specs.TableSegment.{name_strings}
use Rattle.elf_write.proofs.TableSizes.{hash_length, padded_length, placed}
use Rattle.elf_write.proofs.table_layout.layout_of.Goals as goal

pub returns-clause-layout : goal.returns-clause-layout
returns-clause-layout c =
    let o = c.args.object.now in
    let buckets : c.from-buckets.result ≡ bucket_count o.symbols = c.from-buckets.ensures ∙ c.bucket_count.ensures.count ∙ ap bucket_count c.as_slice.ensures in
    let count : c.len-symbols.result ≡ length o.symbols = c.len-symbols.ensures in
    let long = hash_length o.symbols in
    let words : 4 * (2 + c.from-buckets.result + c.len-symbols.result) ≡ 4 * length (hash_words o.symbols) = omega (arith, buckets, count, long) in
    placed o c.tables_vaddr-hash_at.result _ _ _ _ _ _ c.tables_vaddr-hash_at.ensures.vaddr words
    (ap (λ n. n * c.len-symbols.result) c.from.ensures ∙ ap (λ n. SYM_SIZE * n) count)
    (c.aligned.ensures.aligned ∙ ap (aligned 4) (c.from-2.ensures ∙ c.strings_size.ensures.size) ∙ sym (padded_length (name_strings o)))
    (ap (λ n. n * c.len.result) c.from-3.ensures ∙ ap (λ n. REL_SIZE * n) c.len.ensures)
    (ap (λ n. n * c.len-2.result) c.from-4.ensures ∙ ap (λ n. REL_SIZE * n) c.len-2.ensures)
    (ap (λ n. 4 * n) c.fixup_word_count.ensures.count)
