use Rattle.std.proofs.Common.{◌≡◌, ◌++◌, ◌∷◌, [], map, length, get_or, sym, ap, ◌∙◌, arith}
use Rattle.std.specs.List.{range_with_len}
use Rattle.elf_write.specs.HashTable.{newest, buckets, bucket_of}
use Rattle.elf_write.proofs.HashBuilt.{no_heads, heads_more, chains_more, bucket_at}
use Rattle.elf_write.proofs.hash_table.hash_table.Goals as goal

pub loop-k-init : goal.loop-k-init
loop-k-init c = record {
  heads = c.in_ok-heads.ensures.items_if_clones_equal (λ y h. h) ∙ no_heads (buckets c.args.symbols.now) c.bucket_count-count.result;
  chains = c.new-chains.ensures.items;
}

pub loop-k-preserved : goal.loop-k-preserved
loop-k-preserved c =
    let symbols = c.args.symbols.now in
    let count = c.bucket_count-count.result in
    let k = c.loop-k.k in
    let item = c.index-symbols-k.result in
    let bucket = c.bucket_of-bucket.result in
    let is : get_or (buckets symbols) k 0 ≡ bucket =
    bucket_at symbols k item c.loop-k-test.true c.index-symbols-k.is ∙ ap (λ n. bucket_of n item) (sym c.bucket_count-count.ensures.count) ∙ sym c.bucket_of-bucket.ensures.bucket in
    record {
      heads = heads_more (buckets symbols) count k bucket c.loop-k.heads.items c.bucket_of-bucket.ensures.below is c.loop-k.invariant.heads;
      chains = c.in_ok-push.ensures.items ∙ ap (λ n. c.loop-k.chains.items ++ n ∷ []) c.index.ensures
          ∙ chains_more (buckets symbols) count k bucket c.loop-k.heads.items c.loop-k.chains.items _ c.bucket_of-bucket.ensures.below is c.loop-k.invariant.heads c.loop-k.invariant.chains;
    }

pub returns : goal.returns
returns c =
    let bs = buckets c.args.symbols.now in
    let n = length c.args.symbols.now in
    let end : c.loop-k.k ≡ n = omega (arith, c.loop-k-test.false, c.loop-k.auto.k-end) in
    record {
      heads = c.loop-k.invariant.heads ∙ ap (λ i. map (λ b. newest bs b i) (range_with_len 0 c.bucket_count-count.result)) end
          ∙ ap (λ count. map (λ b. newest bs b n) (range_with_len 0 count)) c.bucket_count-count.ensures.count;
      chains = c.loop-k.invariant.chains ∙ ap (λ i. map (λ k. newest bs (get_or bs k 0) k) (range_with_len 0 i)) end;
    }
