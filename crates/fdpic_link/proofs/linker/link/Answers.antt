use Rattle.fdpic_link.proofs.Linking.{reads_of}
use Rattle.fdpic_link.proofs.linker.link.Goals as goal

pub returns-clause-reads : goal.returns-clause-reads
returns-clause-reads c = reads_of c.args.mode c.args.inputs.now c.args.soname.now c.args.libs.now c.linked.result c.requires c.linked.ensures.links c.linked.ensures.fits
