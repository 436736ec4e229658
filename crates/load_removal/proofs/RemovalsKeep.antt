-- A consistent loader stays so when modules are taken out.
use Rattle.std.proofs.Common.{sym, subst}
use Rattle.load_model.specs.Plan.{Fits}
use Rattle.load_model.specs.Validity.{IsValid}
use Rattle.load_removal.specs.parts.Laws.{RemovalsKeepConsistent}
use Rattle.load_removal.proofs.DescriptorsLeft.{descriptors_left}
use Rattle.load_removal.proofs.ImagesLeft.{images_left}
use Rattle.load_removal.proofs.ModulesLeft.{modules_left}
use Rattle.load_removal.proofs.OthersValid.{others_valid_lem}
use Rattle.load_removal.proofs.RangesLeft.{ranges_left}
use Rattle.load_removal.proofs.TablesLeft.{tables_left}

pub removals_keep_lem : RemovalsKeepConsistent
removals_keep_lem l new gone consistent may taken = record {
  fits = subst Fits (sym taken.plan') consistent.fits;
  valid = subst IsValid (sym taken.process') (others_valid_lem l.modules.process gone consistent.valid may);
  modules' = modules_left l new gone may taken consistent.modules';
  ranges = ranges_left l new gone taken consistent.ranges;
  descriptors = descriptors_left l new gone may taken consistent.descriptors;
  laid_out = taken.laid_out;
  images = images_left l new gone consistent may taken;
  tables = tables_left l new gone consistent may taken;
}
