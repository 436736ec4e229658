use Rattle.std.proofs.Common.{◌≡◌, ◌+◌, cond, ap, ◌∙◌}
use Rattle.std.specs.Prelude.{option_and_then, slice_get, unwrap_or}
use Rattle.std.specs.Option.{option_copied}
use Rattle.fd_base.specs.Words.{word_in}
use Rattle.elf_model.specs.declared.object.Rel.{Rel}
use Rattle.elf_model.specs.declared.object.Symbol.{Symbol}
use Rattle.elf_model.specs.declared.relocatable.RelObject.{RelObject}
use Rattle.elf_model.specs.Symbols.{null_symbol}
use Rattle.link_model.specs.declared.target.Target.{Target}
use Rattle.link_model.specs.DynamicSymbols.{symbol_index}
use Rattle.link_model.specs.Needs.{is_dropped, is_own_undefined, symbol_at, target_at}
use Rattle.link_model.specs.Places.{address_of, is_in_data, plt_entry_of, section_place}
use Rattle.link_model.specs.Sections.{is_function, is_in_text}
use Rattle.link_model.specs.Sites.{input_word, site_address}
use Rattle.link_model.specs.Targets.{is_dynamic, target_of}
use Rattle.link_places.specs.declared.heads.SectionHead.{SectionHead}
use Rattle.link_places.specs.parts.Heads as heads
use Rattle.link_checks.specs.parts.Found.{offset_at}
use Rattle.link_checks.proofs.linking.Linking.facts.Goals as goal

pub returns-clause-facts : goal.returns-clause-facts
unfolding input_word site_address target_at
returns-clause-facts c x is meets =
    let l = c.args.self.now in
    let mode = l.joined.mode in
    let inputs = l.joined.inputs in
    let head = (is.at').head' in
    let input = ap (λ (h : SectionHead). h.input) head in
    let rel = is.rel' in
    let number = ap (λ (r : Rel). r.symbol) rel in
    let symbol : unwrap_or (option_copied c.symbol_of-symbol.result) null_symbol ≡ symbol_at inputs x =
    ap (λ o. unwrap_or o null_symbol) (c.symbol_of-symbol.ensures
    ∙ (λ i. option_and_then (λ (o : RelObject). slice_get o.symbols (number i)) (slice_get (c.inputs.ensures i) (input i)))) in
    let target : c.target-target.result ≡ target_at mode inputs x = c.target-target.ensures ∙ (λ i. target_of mode inputs (input i) (number i)) in
    record {
      kind' = ap (λ (r : Rel). r.kind) rel;
      word' = c.word_in.ensures ∙ ap (λ bs. word_in bs c.args.rel.now.site) c.as_slice.ensures ∙ (λ i. word_in ((is.at').section' i).filled (rel i).site);
      place' =
          (λ i. (c.section_place.ensures.place ∙ (λ j. section_place (l.one_mode j) (l.one_inputs j) (head j).index)) i
          + (c.from.ensures ∙ ap (λ (r : Rel). r.site) rel) i);
      is_writable' = c.is_writable.ensures ∙ ap heads.is_writable head;
      meets_earlier' = meets;
      is_dropped' = c.is_in_dropped.ensures ∙ ap (λ (s : Symbol). is_dropped s.place) symbol;
      is_own_undefined' = c.is_nowhere.ensures ∙ ap is_own_undefined symbol;
      target' = target;
      address' = c.address_of.ensures.address ∙ (λ i. address_of (l.one_mode i) (l.one_inputs i) (target i).spot);
      in_text' = c.is_in_text.ensures ∙ (λ i. is_in_text (l.one_inputs i) (target i).spot);
      in_data' = c.is_in_data.ensures ∙ (λ i. is_in_data (l.one_inputs i) (target i).spot);
      is_function' = c.is_function.ensures ∙ (λ i. is_function (l.one_inputs i) (target i).spot);
      bounds' = c.bounds.ensures.bounds;
      entry' = c.entry.ensures.entry ∙ ap (λ (t : Target). cond (is_dynamic t.reach) (plt_entry_of mode inputs t.key) 0) target;
      offset' = c.offset.ensures ∙ (λ i. offset_at mode inputs (rel i).kind (target i));
      symbol' = c.number.ensures ∙ ap (λ (t : Target). cond (is_dynamic t.reach) (symbol_index mode inputs t.key) 0) target;
    }
