use Rattle.std.proofs.Common.{◌≡◌, ℕ, ◌++◌, ◌∙◌, ap, sym, append_assoc, List, arith}
use Rattle.std.proofs.lemmas.Result.{on_ok_weaker}
use Rattle.std.specs.Prelude.{codes}
use Rattle.a32_isa.specs.Names.{register_name}
use Rattle.a32_isa.specs.Text.{parted, list_operand}
use Rattle.a32_isa.proofs.Parts.{more_put, is_empty, is_empty-more, names_below, names_listed, names_unlisted}
use Rattle.a32_isa.proofs.operands.put_list.Goals as goal
use Rattle.a32_isa.proofs.operands.put_list.Goals.{then-is_listed+in_ok-put_item, else-is_listed}

pub loop-register-preserved : goal.loop-register-preserved
loop-register-preserved c =
    let list : ℕ = c.args.list in
    let n : ℕ = c.loop-register.register in
    elim c.if-is_listed.branch [
      | then-is_listed+in_ok-put_item w ↦
          let named = names_listed list n cc in record {
            so_far = w.out-is ∙ more_put c.args.out.now (codes "{") (names_below list n) (register_name n) c.loop-register.out w.put_item.new.out c.loop-register.first
                c.loop-register.invariant.so_far c.loop-register.invariant.none_yet (let put = w.in_ok-put_item.ensures in let name = w.register_name.ensures in cc)
                ∙ ap (λ names. c.args.out.now ++ (codes "{" ++ parted names)) (sym named);
            none_yet = w.first-is ∙ sym (ap is_empty named ∙ is_empty-more (names_below list n) (register_name n));
          }
      | else-is_listed w ↦
          let named = names_unlisted list n cc in record {
            so_far = w.out-is ∙ c.loop-register.invariant.so_far ∙ ap (λ names. c.args.out.now ++ (codes "{" ++ parted names)) (sym named);
            none_yet = w.first-is ∙ c.loop-register.invariant.none_yet ∙ ap is_empty (sym named);
          }
    ]

pub returns : goal.returns
unfolding list_operand
returns c =
    let start : List ℕ = c.args.out.now in
    let named : List ℕ = parted (names_below c.args.list c.loop-register.register) in
    let all : c.loop-register.register ≡ 16 = omega arith in
    on_ok_weaker c.put_text-2.result (λ (put : c.put_text-2.new.out ≡ c.loop-register.out ++ codes "}").
    put ∙ ap (λ stands. stands ++ codes "}") c.loop-register.invariant.so_far ∙ append_assoc start (codes "{" ++ named) (codes "}")
    ∙ ap (λ n. start ++ (codes "{" ++ (parted (names_below c.args.list n) ++ codes "}"))) all) c.put_text-2.ensures
