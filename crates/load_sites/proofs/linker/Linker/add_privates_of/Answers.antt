use Rattle.std.proofs.Common.{◌≡◌, ◌++◌, OnOk, List, subst}
use Rattle.load_model.specs.declared.meaning.SiteValue.{SiteValue}
use Rattle.load_sites.specs.parts.Descriptors.{privates_by}
use Rattle.load_sites.specs.parts.Linker.{linkage}
use Rattle.load_sites.proofs.DescriptorValues.{enough_values, privates_same}
use Rattle.load_sites.proofs.linker.Linker.add_privates_of.Goals as goal

pub add_privates-requires : goal.add_privates-requires
add_privates-requires c =
    let enough = enough_values (linkage c.args.self.now) (c.args.new.now.number, c.args.new.now.object) c.args.values.now c.requires in
    rw c.as_slice.ensures enough

pub returns : goal.returns
returns c =
    let same = privates_same (linkage c.args.self.now) (c.args.new.now.number, c.args.new.now.object) c.args.values.now c.requires in
    let done = subst (λ (values : List SiteValue). OnOk c.add_privates.result (c.add_privates.new.found ≡ c.args.found.now ++ privates_by c.args.new.now.object values)) c.as_slice.ensures c.add_privates.ensures in
    rw (← same) done
