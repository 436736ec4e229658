use Rattle.std.proofs.Common.{length}
use Rattle.known_objects.proofs.sites.+tables_of.Given as goal

abbrev pub decreases-tables_of : goal.decreases-tables_of
decreases-tables_of g l = length l.joining.now
