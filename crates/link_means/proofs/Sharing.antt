-- Two link addresses of one segment of a linked object, the second of which may be its end.
use Rattle.std.proofs.Common.{◌≡◌, ◌≢◌, ℕ, ◌^◌, ◌<◌, ◌≤◌, inl, inr, Bool, true, false, cond, List, [], ◌∷◌, ◌++◌, Some, refl, sym, ap, subst, ◌∙◌, arith, All}
use Rattle.std.specs.Prelude.{◌==◌, slice_get}
use Rattle.std.proofs.lemmas.Bool.{cases_lt}
use Rattle.std.proofs.lemmas.List.Elements.{All-append, All-cons, All-nil}
use Rattle.fd_base.proofs.Lists.{all_at}
use Rattle.elf_model.specs.declared.object.Object.{Object}
use Rattle.elf_model.specs.declared.object.Segment.{Segment}
use Rattle.elf_model.specs.declared.relocatable.RelObject.{RelObject}
use Rattle.elf_model.specs.Sound.{IsSized, IsSound}
use Rattle.link_model.specs.declared.input.Mode.{Mode}
use Rattle.link_model.specs.Places.{data_end, data_place, text_end}
use Rattle.link_model.specs.Segments.{data_segment, segments_of, text_segment}
use Rattle.link_model.proofs.Placed.{data_above}
use Rattle.link_sites.specs.parts.Linked.{ShareSegment}
use Rattle.link_means.specs.parts.Laws.{IsOutput}
use Rattle.link_means.proofs.Held.{data_begins}
use Rattle.link_means.proofs.Texts.{text_first, text_small}

module _ (mode : Mode) (inputs : List RelObject) (o : Object) (out : IsOutput mode inputs o) where
  -- no segment begins at a place that is none of the begins
  none_begins : (u : ℕ) → u ≢ 0 → u ≢ data_place mode inputs → u ≤ data_end mode inputs → All (λ (s : Segment). s.vaddr ≢ u) o.segments
  none_begins u some other below =
      let P : Segment → Type 0 = λ s. s.vaddr ≢ u in
      let behind : All P out.others = λ k d lt e. let above = out.above k d lt in absurd (omega (arith, above, below, e)) in
      subst (All P) (sym out.segments') (All-append P (segments_of mode inputs) out.others (own (text_end mode inputs == 0)) behind)
    where
      own : (b : Bool) → All (λ (s : Segment). s.vaddr ≢ u) (cond b (data_segment mode inputs ∷ []) (text_segment mode inputs ∷ data_segment mode inputs ∷ []))
      own true = All-cons (λ (s : Segment). s.vaddr ≢ u) (data_segment mode inputs) [] (λ e. other (sym e)) (All-nil (λ (s : Segment). s.vaddr ≢ u))
      own false =
          All-cons (λ (s : Segment). s.vaddr ≢ u) (text_segment mode inputs) (data_segment mode inputs ∷ []) (λ e. some (sym e))
          (All-cons (λ (s : Segment). s.vaddr ≢ u) (data_segment mode inputs) [] (λ e. other (sym e)) (All-nil (λ (s : Segment). s.vaddr ≢ u)))

  pub shares_in_text : (v u : ℕ) → v < text_end mode inputs → u ≤ text_end mode inputs → data_place mode inputs ≤ data_end mode inputs → ShareSegment o v u
  shares_in_text v u lt le data' = record {
    segment = text_segment mode inputs;
    place = 0;
    held = text_first mode inputs o out (omega (arith, lt));
    from = omega arith;
    below = omega (arith, lt);
    from' = omega arith;
    below' = omega (arith, le);
    ends = λ end k s at.
        let above = data_above mode inputs in
        all_at (λ (t : Segment). t.vaddr ≢ u) o.segments k s
        (none_begins u (λ e. absurd (omega (arith, e, end, lt))) (λ e. absurd (omega (arith, e, le, above))) (omega (arith, le, above, data'))) at;
  }

  -- the data is a segment
  pub data_held : (k : ℕ) × (slice_get o.segments k ≡ Some (data_segment mode inputs))
  data_held = by (text_end mode inputs == 0) refl
    where
      all : Bool → List Segment
      all b = cond b (data_segment mode inputs ∷ []) (text_segment mode inputs ∷ data_segment mode inputs ∷ []) ++ out.others

      by : (b : Bool) → (text_end mode inputs == 0) ≡ b → (k : ℕ) × (slice_get o.segments k ≡ Some (data_segment mode inputs))
      by true is = (0, ap (λ ss. slice_get ss 0) (out.segments' ∙ ap all is))
      by false is = (1, ap (λ ss. slice_get ss 1) (out.segments' ∙ ap all is))

  pub shares_in_data : (v u : ℕ) → data_place mode inputs ≤ v → v < data_end mode inputs → data_place mode inputs < u → u ≤ data_end mode inputs → ShareSegment o v u
  shares_in_data v u from lt above le = record {
    segment = data_segment mode inputs;
    place = data_held.0;
    held = data_held.1;
    from = from;
    below = omega (arith, from, lt);
    from' = omega (arith, above);
    below' = omega (arith, above, le);
    ends = λ end j s at.
        all_at (λ (t : Segment). t.vaddr ≢ u) o.segments j s (none_begins u (λ e. absurd (omega (arith, e, above))) (λ e. absurd (omega (arith, e, above))) le) at;
  }

  -- link addresses in the data are words
  pub data_small : IsSound o → data_end mode inputs < 2 ^ 32
  data_small sound =
      let end = (all_at IsSized o.segments data_held.0 (data_segment mode inputs) sound.sized data_held.1).end in
      omega (arith, end, data_begins mode inputs)

  pub text_address_small : (u : ℕ) → IsSound o → u ≤ text_end mode inputs → u < 2 ^ 32
  text_address_small u sound le = elim (cases_lt 0 (text_end mode inputs)) [
    | inl some ↦ let small = text_small mode inputs o out sound some in omega (arith, le, small)
    | inr none ↦ omega (arith, le, none)
  ]
