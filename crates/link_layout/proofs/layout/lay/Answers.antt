use Rattle.std.proofs.Common.{◌≡◌, ℕ, ◌+◌, ◌<◌, ◌∙◌, ap, sym, arith, take, ◌++◌, ◌∷◌, [], List, length, get_or}
use Rattle.link_layout.specs.declared.layout.Piece.{Piece}
use Rattle.link_layout.specs.Layout as spec
use Rattle.link_layout.proofs.Lying.{places_more, end_more}
use Rattle.link_layout.proofs.layout.lay.Goals as goal

more_places : (at i place end : ℕ) (ps : List Piece) (d : Piece) (old new : List ℕ) → i < length ps → old ≡ spec.places at (take i ps) → end ≡ spec.end_of at (take i ps)
    → place ≡ spec.aligned (get_or ps i d).align end → new ≡ old ++ place ∷ [] → new ≡ spec.places at (take (i + 1) ps)
more_places at i place end ps d old new lt is ends at' pushed =
    pushed ∙ ap (λ xs. xs ++ place ∷ []) is ∙ ap (λ n. spec.places at (take i ps) ++ n ∷ []) (at' ∙ ap (spec.aligned (get_or ps i d).align) ends) ∙ sym (places_more at i ps d lt)

more_end : (at i place end size : ℕ) (ps : List Piece) (d : Piece) → i < length ps → end ≡ spec.end_of at (take i ps)
    → place ≡ spec.aligned (get_or ps i d).align end → size ≡ (get_or ps i d).size → place + size ≡ spec.end_of at (take (i + 1) ps)
more_end at i place end size ps d lt ends at' is =
    ap (λ n. place + n) is ∙ ap (λ n. n + (get_or ps i d).size) (at' ∙ ap (spec.aligned (get_or ps i d).align) ends) ∙ sym (end_more at i ps d lt)

pub loop-piece-preserved : goal.loop-piece-preserved
loop-piece-preserved c =
    let d : Piece = record { align = 0; size = 0 } in
    let inv = c.loop-piece.invariant in (
      more_places c.args.from c.loop-piece.piece-index c.aligned-place.result c.loop-piece.end c.args.pieces.now d c.loop-piece.places c.push.new.self c.loop-piece-test.true inv.0 inv.1 c.aligned-place.ensures.value c.in_ok-push.ensures,
      more_end c.args.from c.loop-piece.piece-index c.aligned-place.result c.loop-piece.end c.from.result c.args.pieces.now d c.loop-piece-test.true inv.1 c.aligned-place.ensures.value c.from.ensures,
      omega arith,
    )
