use Rattle.std.proofs.Common.{arith}
use Rattle.load_sites.specs.parts.Linker.{linkage}
use Rattle.load_sites.proofs.DescriptorValues.{module_values, module_count}
use Rattle.load_sites.proofs.linker.Linker.asked.Goals as goal

pub bounds-values-i : goal.bounds-values-i
bounds-values-i c = omega (arith, module_count (linkage c.args.self.now) c.args.self.now.joining.now c.args.values.now c.requires)

pub add_asked_of-requires : goal.add_asked_of-requires
add_asked_of-requires c =
    module_values (linkage c.args.self.now) c.args.self.now.joining.now c.args.values.now c.loop-i.i c.new-item.result c.index-values-i.result c.requires c.loop-i-test.true c.new-item.is c.index-values-i.is
