use Rattle.std.proofs.Common.{◌≡◌, ap, sym, ◌∙◌}
use Rattle.std.specs.Map.{lookup, values_of}
use Rattle.std.specs.Option.{is_some}
use Rattle.symbol_scope.specs.Closure.{with_one}
use Rattle.indexmap.specs.IndexMap.{insert_entry}
use Rattle.link_model.specs.Needs.{is_same_need}
use Rattle.link_places.specs.parts.NeedList.{entries_of}
use Rattle.link_places.specs.parts.NeedTable.{needs_in}
use Rattle.link_places.proofs.Coded.{same_code, put-new, stays, of-entries, coded-again, either}
use Rattle.link_places.proofs.needs.NeedSet.add.Goals as goal

pub returns-then-contains_key : goal.returns-then-contains_key
returns-then-contains_key c =
    let s = c.args.self.now in
    let es = s.map.entries in
    let there = ap (λ k. is_some (lookup (same_code k) es)) (sym c.code-code.ensures) ∙ sym c.contains_key.ensures ∙ c.if-contains_key.true in
    of-entries es (with_one is_same_need (needs_in s) c.args.need) (stays c.args.need (needs_in s) es there s.coded)

pub invariant_of-self : goal.invariant_of-self
invariant_of-self c =
    let s = c.args.self.now in
    let n = c.args.need in
    let es = s.map.entries in
    let none = ap (λ k. is_some (lookup (same_code k) es)) (sym c.code-code.ensures) ∙ sym c.contains_key.ensures ∙ c.if-contains_key.false in
    record {
      coded = either c.insert.result _ _ (c.insert.new.self.entries ≡ entries_of (values_of c.insert.new.self.entries)) c.insert.ensures.entries c.insert.ensures.err
          (λ put. coded-again c.insert.new.self.entries (with_one is_same_need (needs_in s) n)
          (put-new n (needs_in s) es c.insert.new.self.entries none s.coded (put ∙ ap (λ k. insert_entry same_code es k n) c.code-code.ensures)))
          (λ same. coded-again c.insert.new.self.entries (needs_in s) (same ∙ s.coded));
    }

pub returns : goal.returns
returns c =
    let s = c.args.self.now in
    let n = c.args.need in
    let es = s.map.entries in
    let none = ap (λ k. is_some (lookup (same_code k) es)) (sym c.code-code.ensures) ∙ sym c.contains_key.ensures ∙ c.if-contains_key.false in
    of-entries c.insert.new.self.entries (with_one is_same_need (needs_in s) n)
    (put-new n (needs_in s) es c.insert.new.self.entries none s.coded (c.in_ok-insert.ensures.entries ∙ ap (λ k. insert_entry same_code es k n) c.code-code.ensures))
