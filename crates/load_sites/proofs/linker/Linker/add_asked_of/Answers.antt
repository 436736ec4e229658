use Rattle.std.proofs.Common.{◌≡◌, ◌++◌, OnOk, List, subst}
use Rattle.load_model.specs.declared.meaning.SiteValue.{SiteValue}
use Rattle.load_sites.specs.parts.Descriptors.{all_asked_by}
use Rattle.load_sites.specs.parts.Linker.{linkage}
use Rattle.load_sites.proofs.DescriptorValues.{enough_values, asked_same}
use Rattle.load_sites.proofs.linker.Linker.add_asked_of.Goals as goal

pub add_asked_in-requires : goal.add_asked_in-requires
add_asked_in-requires c =
    let enough = enough_values (linkage c.args.self.now) (c.args.new.now.number, c.args.new.now.object) c.args.values.now c.requires in
    rw c.as_slice.ensures enough

pub returns : goal.returns
returns c =
    let same = asked_same (linkage c.args.self.now) (c.args.new.now.number, c.args.new.now.object) c.args.values.now c.requires in
    let done = subst (λ (values : List SiteValue). OnOk c.add_asked_in.result (c.add_asked_in.new.asked ≡ c.args.asked.now ++ all_asked_by c.args.new.now.object values)) c.as_slice.ensures c.add_asked_in.ensures in
    rw (← same) done
