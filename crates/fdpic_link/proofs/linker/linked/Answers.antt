use Rattle.std.proofs.Common.{◌≡◌, ◌^◌, ◌<◌, ◌++◌, All, List, None, ap, sym, subst, ◌∙◌, arith}
use Rattle.std.proofs.lemmas.Result.{err_from_is_err_and}
use Rattle.elf_model.specs.declared.object.Object.{Object}
use Rattle.elf_model.specs.declared.relocatable.RelObject.{RelObject}
use Rattle.elf_model.specs.Test.{first_failing}
use Rattle.elf_write.specs.ObjectFile.{object_file}
use Rattle.elf_write.specs.WritableObject.{IsWritableObject}
use Rattle.link_model.specs.declared.input.Mode.{Mode}
use Rattle.link_model.specs.Object.{object_of}
use Rattle.link_model.specs.Places.{data_end}
use Rattle.link_model.specs.Refusals.{size_tests}
use Rattle.link_model.specs.parts.Passes.{Gives, IsRefusal}
use Rattle.link_writes.specs.Linked.{written_sizes}
use Rattle.fdpic_link.specs.parts.Large.{AreNamed, table_tests, file_tests}
use Rattle.fdpic_link.proofs.Linking.{begins_low, fits_of}
use Rattle.fdpic_link.proofs.Objects.{are_named, is_writable}
use Rattle.fdpic_link.proofs.Stages.{early_refused, needed_refused, size_refused, written}
use Rattle.fdpic_link.proofs.linker.linked.Goals as goal

pub returns-in_err-tested-clause-links : goal.returns-in_err-tested-clause-links
returns-in_err-tested-clause-links c =
    let p = err_from_is_err_and c.from_residual.result c.from_residual.ensures.1 in
    rw (p.1, p.2) (early_refused c.args.mode c.args.soname.now c.args.inputs.now c.args.libs.now c.in_err-tested.field-0.0 c.in_err-tested.ensures)

pub returns-in_err-check_needed-clause-links : goal.returns-in_err-check_needed-clause-links
returns-in_err-check_needed-clause-links c =
    let p = err_from_is_err_and c.from_residual-in_err-check_needed.result c.from_residual-in_err-check_needed.ensures.1 in
    rw (p.1, p.2) (needed_refused c.args.mode c.args.soname.now c.args.inputs.now c.args.libs.now c.in_ok-tested.ensures.0 c.in_err-check_needed.field-0.0 c.in_err-check_needed.ensures)

pub returns-in_err-check_memory-clause-links : goal.returns-in_err-check_memory-clause-links
returns-in_err-check_memory-clause-links c =
    let p = err_from_is_err_and c.from_residual-in_err-check_memory.result c.from_residual-in_err-check_memory.ensures.1 in
    let l = c.in_ok-tested.tested.linking.layout in
    let is = c.in_ok-tested.ensures.1 in
    let mode = c.args.mode in
    let soname = c.args.soname.now in
    let libs = c.args.libs.now in
    let e = c.in_err-check_memory.field-0.0 in
    let M : Mode → Type 0 = λ m. IsRefusal e (size_tests written_sizes m (object_of m soname l.text.inputs.now libs) libs) in
    let I : List RelObject → Type 0 = λ os. IsRefusal e (size_tests written_sizes mode (object_of mode soname os libs) libs) in
    rw (p.1, p.2) (size_refused mode soname c.args.inputs.now libs c.in_ok-tested.ensures.0 e (subst I is.inputs' (subst M is.mode' (c.in_err-check_memory.ensures soname libs))))

pub overflow_cast-entry : goal.overflow_cast-entry
overflow_cast-entry c =
    let l = c.in_ok-tested.tested.linking.layout in
    let is = c.in_ok-tested.ensures.1 in
    let M : Mode → Type 0 = λ m. data_end m l.text.inputs.now < 2 ^ 32 in
    let I : List RelObject → Type 0 = λ os. data_end c.args.mode os < 2 ^ 32 in
    let below = subst I is.inputs' (subst M is.mode' c.in_ok-check_memory.ensures) in
    let low = begins_low c.args.mode c.args.inputs.now below c.in_ok-tested.ensures.0 in
    omega (arith, is.begins, low)

pub file_of-requires-clause-named : goal.file_of-requires-clause-named
file_of-requires-clause-named c =
    let l = c.in_ok-tested.tested.linking.layout in
    let is = c.in_ok-tested.ensures.1 in
    let mode = c.args.mode in
    let soname = c.args.soname.now in
    let inputs = c.args.inputs.now in
    let libs = c.args.libs.now in
    let M : Mode → Type 0 = λ m. data_end m l.text.inputs.now < 2 ^ 32 in
    let I : List RelObject → Type 0 = λ os. data_end mode os < 2 ^ 32 in
    let below = subst I is.inputs' (subst M is.mode' c.in_ok-check_memory.ensures) in
    let object = c.in_ok-object.ensures.object ∙ ap (λ m. object_of m soname l.text.inputs.now libs) is.mode' ∙ ap (λ os. object_of mode soname os libs) is.inputs' in
    subst AreNamed (sym object) (are_named mode soname inputs libs c.requires c.in_ok-check_needed.ensures below)

pub file_of-requires-clause-writable : goal.file_of-requires-clause-writable
file_of-requires-clause-writable c tables =
    let l = c.in_ok-tested.tested.linking.layout in
    let is = c.in_ok-tested.ensures.1 in
    let mode = c.args.mode in
    let soname = c.args.soname.now in
    let inputs = c.args.inputs.now in
    let libs = c.args.libs.now in
    let object = c.in_ok-object.ensures.object ∙ ap (λ m. object_of m soname l.text.inputs.now libs) is.mode' ∙ ap (λ os. object_of mode soname os libs) is.inputs' in
    let T : Object → Type 0 = λ o. first_failing (table_tests o) ≡ None in
    subst IsWritableObject (sym object) (is_writable mode soname inputs libs c.requires c.in_ok-check_needed.ensures c.in_ok-tested.ensures.0 (subst T object tables))

pub returns-clause-links : goal.returns-clause-links
returns-clause-links c =
    let l = c.in_ok-tested.tested.linking.layout in
    let is = c.in_ok-tested.ensures.1 in
    let mode = c.args.mode in
    let soname = c.args.soname.now in
    let inputs = c.args.inputs.now in
    let libs = c.args.libs.now in
    let object = c.in_ok-object.ensures.object ∙ ap (λ m. object_of m soname l.text.inputs.now libs) is.mode' ∙ ap (λ os. object_of mode soname os libs) is.inputs' in
    let G : Object → Type 0 = λ o. Gives c.file_of.result (table_tests o ++ file_tests o) (λ bytes. bytes ≡ object_file o) in
    written mode soname inputs libs c.in_ok-tested.ensures.0 c.in_ok-check_needed.ensures c.file_of.result (subst G object c.file_of.ensures)

pub returns-clause-fits : goal.returns-clause-fits
returns-clause-fits c =
    let l = c.in_ok-tested.tested.linking.layout in
    let is = c.in_ok-tested.ensures.1 in
    let mode = c.args.mode in
    let soname = c.args.soname.now in
    let inputs = c.args.inputs.now in
    let libs = c.args.libs.now in
    let M : Mode → Type 0 = λ m. data_end m l.text.inputs.now < 2 ^ 32 in
    let I : List RelObject → Type 0 = λ os. data_end mode os < 2 ^ 32 in
    let below = subst I is.inputs' (subst M is.mode' c.in_ok-check_memory.ensures) in
    let object = c.in_ok-object.ensures.object ∙ ap (λ m. object_of m soname l.text.inputs.now libs) is.mode' ∙ ap (λ os. object_of mode soname os libs) is.inputs' in
    let G : Object → Type 0 = λ o. Gives c.file_of.result (table_tests o ++ file_tests o) (λ bytes. bytes ≡ object_file o) in
    let S : Object → Type 0 = λ o. All (λ s. s.size < 2 ^ 32) o.symbols in
    let links = written mode soname inputs libs c.in_ok-tested.ensures.0 c.in_ok-check_needed.ensures c.file_of.result (subst G object c.file_of.ensures) in
    fits_of mode inputs soname libs c.file_of.result c.requires below (subst S object c.in_ok-object.ensures.sizes) links
