use Rattle.std.proofs.Common.{◌<◌, ◌^◌, List, All, sym, subst, arith}
use Rattle.std.proofs.lemmas.Grind.{common_steps}
use Rattle.std.proofs.lemmas.List.Elements.{All-push}
use Rattle.elf_model.specs.declared.object.Symbol.{Symbol}
use Rattle.link_object.proofs.symbols.shown_symbols.Goals as goal

pub loop-target-preserved : goal.loop-target-preserved
loop-target-preserved c =
    let P : Symbol → Type 0 = λ s. s.size < 2 ^ 32 in
    let Q : List Symbol → Type 0 = All P in
    record {
      listed = grind (arith, common_steps);
      sizes = subst Q (sym c.in_ok-push-2.ensures) (All-push P c.loop-target.symbols c.in_ok-dynamic_symbol.field-0 c.loop-target.invariant.sizes c.in_ok-dynamic_symbol.ensures.size);
    }
